-- The two numbers of each node in the rule of evaluation, in a plan of task nodes: what they look at, and that the rule's solution is one.
use Rattle.std.proofs.Common.{◌≡◌, ℕ, zero, suc, ◌+◌, ◌*◌, ◌/◌, ◌%◌, ◌==◌, ◌<◌, ◌≤◌, true, false, cond, List, [], ◌∷◌, ◌++◌, map, filter, filter_map, find, length, get_or, position, Contains, Option, Some, None, option_map, refl, ◌∙◌, ap, subst, arith, ⊎_elim}
use Rattle.std.specs.List.{slice_get, enumerate_from}
use Rattle.std.proofs.lemmas.Bool.{ne_eqb, eq-eqb, cases_eq}
use Rattle.std.proofs.lemmas.List.{get_or_default}
use Rattle.std.proofs.lemmas.Nat.{div-mul-add, mod-mul-add}
use Rattle.std.proofs.lemmas.Option.{slice_get_cases}
use Rattle.fly_types.specs.declared.text.Text.{Text}
use Rattle.fly_types.specs.declared.literals.LiteralMap.{LiteralMap}
use Rattle.fly_docs.specs.declared.node.Node.{Node}
use Rattle.fly_docs.specs.declared.workflow.Workflow.{Workflow}
use Rattle.fly_docs.specs.Plans.{PlanNode}
use Rattle.fly_graph.proofs.Members.{Contains-nil, Contains-cons_cases, Contains-take_at}
use Rattle.fly_rules.specs.Rules.{values_at, value_within, solution_of}
use Rattle.fly_rules.proofs.RuleLemmas.{values_at_agreeing}
use Rattle.fly_state.specs.PlanTables.{IsOuterPlan, outer_node}
use Rattle.fly_state.specs.Plans.{RunPlan, same_path, node_numbered, number_in, instance_of, nodes_in, case_nodes, case_nodes_in, named_numbers, looks}
use Rattle.fly_state.proofs.AskedInputs.{task-there}
use Rattle.fly_state.proofs.Lists.{in_one, of_map}
use Rattle.fly_state.proofs.OuterNodes.{planned-at}
use Rattle.fly_state.proofs.OuterPlans.{case-none, count-outer}
use Rattle.fly_state.proofs.PlaceLemmas.{position_cons}
use Rattle.fly_eval.specs.declared.results.Results.{Results}
use Rattle.fly_eval.specs.declared.results.Hits.{Hits}
use Rattle.fly_eval.specs.Evaluation.{Told, entering_point, verdict_point, told_of, sight_in, outer_of, looks_entering, looks_judged, looks_of_point, told_at_point, evaluation_rule, told}

-- ---- halves

half-even : (i : ℕ) → entering_point i / 2 ≡ i
half-even i = let e : 2 * i ≡ i * 2 + 0 = omega arith in ap (λ n. n / 2) e ∙ div-mul-add i 2 0 (omega arith)

pub half-odd : (i : ℕ) → verdict_point i / 2 ≡ i
half-odd i = let e : 2 * i + 1 ≡ i * 2 + 1 = omega arith in ap (λ n. n / 2) e ∙ div-mul-add i 2 1 (omega arith)

pub is-even : (i : ℕ) → (entering_point i % 2 == 0) ≡ true
is-even i = let e : 2 * i ≡ i * 2 + 0 = omega arith in ap (λ n. n % 2 == 0) e ∙ ap (λ n. n == 0) (mod-mul-add i 2 0 (omega arith))

pub is-odd : (i : ℕ) → (verdict_point i % 2 == 0) ≡ false
is-odd i = let e : 2 * i + 1 ≡ i * 2 + 1 = omega arith in ap (λ n. n % 2 == 0) e ∙ ap (λ n. n == 0) (mod-mul-add i 2 1 (omega arith))

-- ---- what is told among numbers

abbrev value_of : Option (ℕ × Told) → Option Told
value_of o = option_map (λ (t : ℕ × Told). t.1) o

-- of a number that is looked at its value is told
pub told-in : (f : ℕ → Told) (numbers : List ℕ) (u : ℕ) → Contains numbers u → told_of (values_at f numbers) u ≡ Some (f u)
told-in f [] u has = absurd (Contains-nil u has)
told-in f (x ∷ xs) u has =
    let rest = find (λ (t : ℕ × Told). t.0 == u) (values_at f xs) in
    ⊎_elim (λ same. ap (λ b. value_of (cond b (Some (x, f x)) rest)) (eq-eqb x u same) ∙ ap (λ y. Some (f y)) same)
    (λ apart.
    ap (λ b. value_of (cond b (Some (x, f x)) rest)) (ne_eqb x u apart)
    ∙ told-in f xs u (⊎_elim (λ same. absurd (apart same)) (λ there. there) (Contains-cons_cases x xs u has)))
    (cases_eq x u)

-- ---- nodes that stand in no other

none-around : (w : Workflow) (place : ℕ) (nodes : List Node)
    → position (λ (q : PlanNode). same_path [] q.path) (map (outer_node w) (enumerate_from place nodes)) ≡ None
none-around w place [] = refl
none-around w place (n ∷ nodes) =
    position_cons (λ (q : PlanNode). same_path [] q.path) (outer_node w (place, n)) (map (outer_node w) (enumerate_from (place + 1) nodes))
    ∙ ap (option_map suc) (none-around w (place + 1) nodes)

none-inside : (w : Workflow) (id : Text) (k place : ℕ) (nodes : List Node)
    → filter (λ (at : ℕ × PlanNode). same_path (id ∷ []) (instance_of at.1)) (enumerate_from k (map (outer_node w) (enumerate_from place nodes)))
    ≡ []
none-inside w id k place [] = refl
none-inside w id k place (n ∷ nodes) = none-inside w id (k + 1) (place + 1) nodes

module _ (plan : RunPlan) (w : Workflow) (outer : IsOuterPlan plan w) where
  pub node-there : (i : ℕ) → i < length plan.nodes → (n : Node) × (slice_get w.nodes i ≡ Some n)
  node-there i small =
      ⊎_elim (λ found. (found.0, found.2)) (λ past. absurd (omega (arith, past.0, count-outer plan w outer, small))) (slice_get_cases w.nodes i).1

  module _ (i : ℕ) (n : Node) (there : slice_get w.nodes i ≡ Some n) where
    abbrev p : PlanNode
    p = outer_node w (i, n)

    -- no workflow node stands around it
    pub outer-none : outer_of plan p ≡ None
    outer-none = ap (position (λ (q : PlanNode). same_path [] q.path)) outer.nodes_are ∙ none-around w 0 w.nodes

    pub at-entering : node_numbered plan (entering_point i / 2) ≡ Some p
    at-entering = ap (node_numbered plan) (half-even i) ∙ planned-at plan w outer i n there

    pub at-verdict : node_numbered plan (verdict_point i / 2) ≡ Some p
    at-verdict = ap (node_numbered plan) (half-odd i) ∙ planned-at plan w outer i n there

    pub named-looked : named_numbers plan p ≡ looks plan i
    named-looked = let none = case-none plan w outer p in let at = planned-at plan w outer i n there in rw (at, none) refl

    entering-names : looks_entering plan p ≡ map verdict_point (named_numbers plan p)
    entering-names = let around = outer-none in let none = case-none plan w outer p in rw (around, none) refl

    entering-at : looks_of_point plan (entering_point i) ≡ looks_entering plan p
    entering-at = let at = at-entering in let even = is-even i in rw (at, even) refl

    -- how it is entered looks at the verdicts of those that it looks at
    pub entering-looks : looks_of_point plan (entering_point i) ≡ map verdict_point (looks plan i)
    entering-looks = entering-at ∙ entering-names ∙ ap (map verdict_point) named-looked

    judged-alone : looks_judged plan i p ≡ entering_point i ∷ []
    judged-alone =
        let cases : case_nodes n ≡ [] = ap case_nodes_in (task-there plan w outer i n there).2 in
        let inside : nodes_in plan (n.id ∷ []) ≡ [] =
        ap (λ ps. filter (λ (at : ℕ × PlanNode). same_path (n.id ∷ []) (instance_of at.1)) (enumerate_from 0 ps)) outer.nodes_are
        ∙ none-inside w n.id 0 0 w.nodes in
        λ k. entering_point i ∷ map verdict_point (filter_map (λ (m : Node). number_in plan (instance_of p) m.id) (cases k))
        ++ map (λ (at : ℕ × PlanNode). verdict_point at.0) (inside k)

    judged-at : looks_of_point plan (verdict_point i) ≡ looks_judged plan (verdict_point i / 2) p
    judged-at = let at = at-verdict in let odd = is-odd i in rw (at, odd) refl

    -- its verdict looks at how it is entered
    pub verdict-looks : looks_of_point plan (verdict_point i) ≡ entering_point i ∷ []
    verdict-looks = judged-at ∙ ap (λ j. looks_judged plan j p) (half-odd i) ∙ judged-alone

  -- ---- the solution

  module _ (inputs : LiteralMap) (results : Results) (hits : Hits) where
    abbrev steps : ℕ → ℕ → Told
    steps a point = value_within (evaluation_rule plan inputs results hits) a point

    abbrev at_order : ℕ → ℕ
    at_order k = get_or outer.order k 0

    at-small : (k : ℕ) → k < length outer.order → at_order k < length plan.nodes
    at-small k within = (outer.order_is.once.each (at_order k)).1 (k, within, get_or_default outer.order k (at_order k) 0 within)

    judged-from : (i : ℕ) → i < length plan.nodes → (a b : ℕ) → steps a (entering_point i) ≡ steps b (entering_point i)
        → steps (suc a) (verdict_point i) ≡ steps (suc b) (verdict_point i)
    unfolding value_within
    judged-from i small a b same =
        let node = node-there i small in
        ap (λ seen. told_at_point plan inputs results hits (verdict_point i) (sight_in seen))
        (values_at_agreeing (steps a) (steps b) (looks_of_point plan (verdict_point i)) (λ u looked.
        let own : entering_point i ≡ u =
        in_one (entering_point i) u (subst (λ us. Contains us u) (verdict-looks i node.0 node.1) looked) in
        subst (λ x. steps a x ≡ steps b x) own same))

    judged-settled : (k : ℕ) → at_order k < length plan.nodes
        → ((a b : ℕ) → 2 * k + 1 ≤ a → 2 * k + 1 ≤ b → steps a (entering_point (at_order k)) ≡ steps b (entering_point (at_order k)))
        → (a b : ℕ) → 2 * k + 2 ≤ a → 2 * k + 2 ≤ b → steps a (verdict_point (at_order k)) ≡ steps b (verdict_point (at_order k))
    judged-settled k small settled zero b first second = absurd (omega arith)
    judged-settled k small settled (suc a) zero first second = absurd (omega arith)
    judged-settled k small settled (suc a) (suc b) first second =
        judged-from (at_order k) small a b (settled a b (omega arith) (omega arith))

    entering-settled : (bound k : ℕ) → k < bound → k < length outer.order → (a b : ℕ) → 2 * k + 1 ≤ a → 2 * k + 1 ≤ b
        → steps a (entering_point (at_order k)) ≡ steps b (entering_point (at_order k))
    unfolding value_within
    entering-settled zero k below within a b first second = absurd (omega arith)
    entering-settled (suc bound) k below within zero b first second = absurd (omega arith)
    entering-settled (suc bound) k below within (suc a) zero first second = absurd (omega arith)
    entering-settled (suc bound) k below within (suc a) (suc b) first second =
        let i = at_order k in
        let node = node-there i (at-small k within) in
        ap (λ seen. told_at_point plan inputs results hits (entering_point i) (sight_in seen))
        (values_at_agreeing (steps a) (steps b) (looks_of_point plan (entering_point i)) (λ u looked.
        let found = of_map verdict_point (looks plan i) u (subst (λ us. Contains us u) (entering-looks i node.0 node.1) looked) in
        let there = Contains-take_at outer.order k found.0 (outer.order_is.back k found.0 within found.1) in
        let before : there.0 < k = there.1 in
        subst (λ x. steps a x ≡ steps b x) (ap verdict_point there.3 ∙ found.2)
        (judged-settled there.0 (at-small there.0 there.2) (entering-settled bound there.0 (omega arith) there.2) a b (omega arith) (omega arith))))

    abbrev count : ℕ
    count = 2 * length plan.nodes

    ordered : (i : ℕ) → i < length plan.nodes → (k : ℕ) × (k < length outer.order) × (at_order k ≡ i)
    ordered i small =
        let has = (outer.order_is.once.each i).0 small in
        (has.0, has.1, get_or_default outer.order has.0 0 i has.1 ∙ has.2)

    pub told-entering : (i : ℕ) → i < length plan.nodes → told plan inputs results hits (entering_point i)
        ≡ told_at_point plan inputs results hits (entering_point i)
        (sight_in (values_at (told plan inputs results hits) (looks_of_point plan (entering_point i))))
    unfolding solution_of value_within
    told-entering i small =
        let at = ordered i small in
        let long : length outer.order ≡ length plan.nodes = outer.order_is.once.len in
        let within : at.0 < length outer.order = at.1 in
        subst (λ x. steps count (entering_point x) ≡ steps (suc count) (entering_point x)) at.2
        (entering-settled (length outer.order) at.0 within within count (suc count) (omega (arith, long)) (omega (arith, long)))

    pub told-verdict : (i : ℕ) → i < length plan.nodes → told plan inputs results hits (verdict_point i)
        ≡ told_at_point plan inputs results hits (verdict_point i)
        (sight_in (values_at (told plan inputs results hits) (looks_of_point plan (verdict_point i))))
    unfolding solution_of value_within
    told-verdict i small =
        let at = ordered i small in
        let long : length outer.order ≡ length plan.nodes = outer.order_is.once.len in
        let within : at.0 < length outer.order = at.1 in
        subst (λ x. steps count (verdict_point x) ≡ steps (suc count) (verdict_point x)) at.2
        (judged-settled at.0 (at-small at.0 within) (entering-settled (length outer.order) at.0 within within) count (suc count)
        (omega (arith, long)) (omega (arith, long)))
