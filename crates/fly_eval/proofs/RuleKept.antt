-- What is told of nodes is kept, unless they wait or are pending: by the same number of steps of the rule on both sides.
use Rattle.std.proofs.Common.{◌≡◌, ◌⊎◌, ℕ, zero, suc, ◌+◌, ◌*◌, ◌/◌, ◌%◌, ◌==◌, Bool, true, false, cond, List, [], ◌∷◌, ◌++◌, map, filter_map, find, length, Contains, Option, Some, None, option_map, refl, sym, ◌∙◌, ap, subst, arith, inl, inr, ⊎_elim}
use Rattle.std.proofs.lemmas.Bool.{ne_eqb, cases_eq}
use Rattle.std.proofs.lemmas.List.Elements.{Contains-append_cases}
use Rattle.fly_types.specs.declared.literals.LiteralMap.{LiteralMap}
use Rattle.fly_docs.specs.declared.node.Node.{Node}
use Rattle.fly_docs.specs.Plans.{PlanNode}
use Rattle.fly_rules.specs.Rules.{values_at, value_within, solution_of}
use Rattle.fly_graph.proofs.Members.{Contains-cons_cases}
use Rattle.fly_state.specs.Plans.{RunPlan, node_numbered, number_in, instance_of, nodes_in, case_nodes}
use Rattle.fly_state.proofs.Lists.{first_in, later_in, of_map}
use Rattle.fly_eval.specs.declared.verdict.Verdict.{Verdict}
use Rattle.fly_eval.specs.declared.verdict.Verdict.TheVariants as verdict
use Rattle.fly_eval.specs.declared.results.Results.{Results}
use Rattle.fly_eval.specs.declared.results.Hits.{Hits}
use Rattle.fly_eval.specs.Evaluation.{Entering, Told, entered, judged, Sight, entering_point, verdict_point, awaited, told_of, entering_in, sight_in, entering_of, verdict_of, looks_judged, looks_of_point, told_at_point, evaluation_rule, told, whole_sight}
use Rattle.fly_eval.specs.Laws.{HasResultsOf, HasHitsOf, IsKeptVerdict}
use Rattle.fly_eval.proofs.Kept.{IsKeptEntering, IsKeptTold, IsKeptSight, entering-itself, pending-kept, none-kept}
use Rattle.fly_eval.proofs.EnteringKept.{entering-kept}
use Rattle.fly_eval.proofs.VerdictKept.{verdict_of-kept}

entered-kept : (e later : Entering) → IsKeptEntering e later → IsKeptTold (Some (entered e)) (Some (entered later))
entered-kept e later kept = record { entering = kept; verdict = pending-kept verdict.Pending }

judged-kept : (v w : Verdict) → IsKeptVerdict v w → IsKeptTold (Some (judged v)) (Some (judged w))
judged-kept v w kept = record { entering = entering-itself awaited; verdict = kept }

both-told : (a b c d : Told) → a ≡ b → c ≡ d → IsKeptTold (Some b) (Some d) → IsKeptTold (Some a) (Some c)
both-told a b c d e f kept = subst (λ x. IsKeptTold (Some x) (Some c)) (sym e) (subst (λ y. IsKeptTold (Some b) (Some y)) (sym f) kept)

-- ---- what is seen of numbers

abbrev value_of : Option (ℕ × Told) → Option Told
value_of o = option_map (λ (t : ℕ × Told). t.1) o

first-kept : (b : Bool) (u : ℕ) (x y : Told) (o p : Option (ℕ × Told)) → IsKeptTold (Some x) (Some y) → IsKeptTold (value_of o) (value_of p)
    → IsKeptTold (value_of (cond b (Some (u, x)) o)) (value_of (cond b (Some (u, y)) p))
first-kept true u x y o p here there = here
first-kept false u x y o p here there = there

module _ (f g : ℕ → Told) where
  told_of-kept : ((u : ℕ) → IsKeptTold (Some (f u)) (Some (g u))) → (numbers : List ℕ) (point : ℕ)
      → IsKeptTold (told_of (values_at f numbers) point) (told_of (values_at g numbers) point)
  told_of-kept each [] point = none-kept
  told_of-kept each (u ∷ numbers) point =
      first-kept (u == point) u (f u) (g u) (find (λ (t : ℕ × Told). t.0 == point) (values_at f numbers))
      (find (λ (t : ℕ × Told). t.0 == point) (values_at g numbers)) (each u) (told_of-kept each numbers point)

  sight-kept : ((u : ℕ) → IsKeptTold (Some (f u)) (Some (g u))) → (numbers : List ℕ)
      → IsKeptSight (sight_in (values_at f numbers)) (sight_in (values_at g numbers))
  sight-kept each numbers = record {
    entering = λ i. (told_of-kept each numbers (entering_point i)).entering;
    verdict = λ i. (told_of-kept each numbers (verdict_point i)).verdict;
  }

  -- of a number that is not looked at the same is seen
  told_of-same : (numbers : List ℕ) (point : ℕ) → ((u : ℕ) → Contains numbers u → u ≡ point → ⊥)
      → told_of (values_at g numbers) point ≡ told_of (values_at f numbers) point
  told_of-same [] point apart = refl
  told_of-same (u ∷ numbers) point apart =
      let other : (u == point) ≡ false = ne_eqb u point (apart u (first_in u numbers)) in
      ap (λ b. value_of (cond b (Some (u, g u)) (find (λ (t : ℕ × Told). t.0 == point) (values_at g numbers)))) other
      ∙ told_of-same numbers point (λ v has. apart v (later_in u numbers v has))
      ∙ sym (ap (λ b. value_of (cond b (Some (u, f u)) (find (λ (t : ℕ × Told). t.0 == point) (values_at f numbers)))) other)

-- no verdict looks at how another node is entered
verdicts-apart : (numbers : List ℕ) (j u : ℕ) → Contains (map verdict_point numbers) u → u ≡ entering_point j → ⊥
verdicts-apart numbers j u has is =
    let found = of_map verdict_point numbers u has in
    let odd : 2 * found.0 + 1 ≡ 2 * j = found.2 ∙ is in
    absurd (omega arith)

looks-apart : (plan : RunPlan) (i : ℕ) (p : PlanNode) (j u : ℕ) → (j ≡ i → ⊥) → Contains (looks_judged plan i p) u → u ≡ entering_point j → ⊥
looks-apart plan i p j u apart has is =
    let cases = filter_map (λ (n : Node). number_in plan (instance_of p) n.id) (case_nodes p.node) in
    let nodes = map (λ (at : ℕ × PlanNode). verdict_point at.0) (nodes_in plan p.path) in
    ⊎_elim (λ own. let same : 2 * i ≡ 2 * j = own ∙ is in apart (omega arith))
    (λ other.
    ⊎_elim (λ case. verdicts-apart cases j u case is)
    (λ node.
    let found = of_map (λ (at : ℕ × PlanNode). verdict_point at.0) (nodes_in plan p.path) u node in
    let odd : 2 * found.0.0 + 1 ≡ 2 * j = found.2 ∙ is in
    absurd (omega arith))
    (Contains-append_cases (map verdict_point cases) nodes u other))
    (Contains-cons_cases (entering_point i) (map verdict_point cases ++ nodes) u has)

abbrev SeesAlone : (ℕ → Told) → (ℕ → Told) → ℕ → List ℕ → Type 0
SeesAlone f g i numbers =
    (j : ℕ) → ((sight_in (values_at g numbers)).entering j ≡ (sight_in (values_at f numbers)).entering j) ⊎ (j ≡ i)

sees-alone : (f g : ℕ → Told) (plan : RunPlan) (i : ℕ) (p : PlanNode) → SeesAlone f g i (looks_judged plan i p)
sees-alone f g plan i p j =
    ⊎_elim (λ same. inr same)
    (λ apart. inl (ap entering_in (told_of-same f g (looks_judged plan i p) (entering_point j) (λ u. looks-apart plan i p j u apart))))
    (cases_eq j i)

looks-at : (plan : RunPlan) (point : ℕ) (p : PlanNode) → node_numbered plan (point / 2) ≡ Some p → (point % 2 == 0) ≡ false
    → looks_of_point plan point ≡ looks_judged plan (point / 2) p
looks-at plan point p is odd = rw (is, odd) refl

-- ---- points

at-nothing : (plan : RunPlan) (inputs : LiteralMap) (results : Results) (hits : Hits) (point : ℕ) (sight : Sight)
    → node_numbered plan (point / 2) ≡ None → told_at_point plan inputs results hits point sight ≡ judged verdict.Pending
at-nothing plan inputs results hits point sight is = rw is refl

at-entering : (plan : RunPlan) (inputs : LiteralMap) (results : Results) (hits : Hits) (point : ℕ) (sight : Sight) (p : PlanNode)
    → node_numbered plan (point / 2) ≡ Some p → (point % 2 == 0) ≡ true
    → told_at_point plan inputs results hits point sight ≡ entered (entering_of plan inputs sight p)
at-entering plan inputs results hits point sight p is even = rw (is, even) refl

at-verdict : (plan : RunPlan) (inputs : LiteralMap) (results : Results) (hits : Hits) (point : ℕ) (sight : Sight) (p : PlanNode)
    → node_numbered plan (point / 2) ≡ Some p → (point % 2 == 0) ≡ false
    → told_at_point plan inputs results hits point sight ≡ judged (verdict_of plan inputs results hits sight (point / 2) p)
at-verdict plan inputs results hits point sight p is odd = rw (is, odd) refl

module _ (plan : RunPlan) (inputs : LiteralMap) (results later : Results) (hits later_hits : Hits) (more : HasResultsOf later results)
    (grows : HasHitsOf later_hits hits) where
  point-kept : (point : ℕ) (f g : ℕ → Told) (numbers : List ℕ) → ((u : ℕ) → IsKeptTold (Some (f u)) (Some (g u)))
      → ((p : PlanNode) → node_numbered plan (point / 2) ≡ Some p → (point % 2 == 0) ≡ false → SeesAlone f g (point / 2) numbers)
      → IsKeptTold (Some (told_at_point plan inputs results hits point (sight_in (values_at f numbers))))
      (Some (told_at_point plan inputs later later_hits point (sight_in (values_at g numbers))))
  point-kept point f g numbers each sees = by (node_numbered plan (point / 2)) (point % 2 == 0) refl refl
    where
      by : (o : Option PlanNode) (b : Bool) → node_numbered plan (point / 2) ≡ o → (point % 2 == 0) ≡ b
          → IsKeptTold (Some (told_at_point plan inputs results hits point (sight_in (values_at f numbers))))
          (Some (told_at_point plan inputs later later_hits point (sight_in (values_at g numbers))))
      by None b is parity =
          let before = sight_in (values_at f numbers) in
          let after = sight_in (values_at g numbers) in
          both-told (told_at_point plan inputs results hits point before) (judged verdict.Pending)
          (told_at_point plan inputs later later_hits point after) (judged verdict.Pending)
          (at-nothing plan inputs results hits point before is) (at-nothing plan inputs later later_hits point after is)
          (judged-kept verdict.Pending verdict.Pending (pending-kept verdict.Pending))
      by (Some p) true is parity =
          let before = sight_in (values_at f numbers) in
          let after = sight_in (values_at g numbers) in
          both-told (told_at_point plan inputs results hits point before) (entered (entering_of plan inputs before p))
          (told_at_point plan inputs later later_hits point after) (entered (entering_of plan inputs after p))
          (at-entering plan inputs results hits point before p is parity) (at-entering plan inputs later later_hits point after p is parity)
          (entered-kept (entering_of plan inputs before p) (entering_of plan inputs after p)
          (entering-kept plan inputs before after (sight-kept f g each numbers) p))
      by (Some p) false is parity =
          let before = sight_in (values_at f numbers) in
          let after = sight_in (values_at g numbers) in
          let i = point / 2 in
          both-told (told_at_point plan inputs results hits point before) (judged (verdict_of plan inputs results hits before i p))
          (told_at_point plan inputs later later_hits point after) (judged (verdict_of plan inputs later later_hits after i p))
          (at-verdict plan inputs results hits point before p is parity) (at-verdict plan inputs later later_hits point after p is parity)
          (judged-kept (verdict_of plan inputs results hits before i p) (verdict_of plan inputs later later_hits after i p)
          (verdict_of-kept plan inputs results later hits later_hits more grows before after (sight-kept f g each numbers) i p (sees p is parity)))

  within-kept : (n v : ℕ)
      → IsKeptTold (Some (value_within (evaluation_rule plan inputs results hits) n v))
      (Some (value_within (evaluation_rule plan inputs later later_hits) n v))
  unfolding value_within
  within-kept zero v =
      let nothing : ℕ → Told = λ u. judged verdict.Pending in
      point-kept v nothing nothing [] (λ u. judged-kept verdict.Pending verdict.Pending (pending-kept verdict.Pending)) (λ p is odd j. inl refl)
  within-kept (suc n) v =
      let f = value_within (evaluation_rule plan inputs results hits) n in
      let g = value_within (evaluation_rule plan inputs later later_hits) n in
      point-kept v f g (looks_of_point plan v) (within-kept n) (λ p is odd.
      subst (SeesAlone f g (v / 2)) (sym (looks-at plan v p is odd)) (sees-alone f g plan (v / 2) p))

  told-kept : (point : ℕ) → IsKeptTold (Some (told plan inputs results hits point)) (Some (told plan inputs later later_hits point))
  unfolding solution_of
  told-kept point = within-kept (2 * length plan.nodes) point

  -- of all nodes
  pub whole-kept : IsKeptSight (whole_sight plan inputs results hits) (whole_sight plan inputs later later_hits)
  whole-kept = record {
    entering = λ i. (told-kept (entering_point i)).entering;
    verdict = λ i. (told-kept (verdict_point i)).verdict;
  }
