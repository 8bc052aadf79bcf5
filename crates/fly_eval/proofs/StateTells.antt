-- A node stands, and takes, over a state that tells those that it looks at as evaluation says.
use Rattle.std.proofs.Common.{◌≡◌, ℕ, Bool, true, false, not, if◌then◌else◌, List, [], ◌∷◌, ◌++◌, map, bytes_eq, Contains, Option, Some, None, option_and_then, unwrap_or, refl, sym, ◌∙◌, ap, subst}
use Rattle.std.specs.List.{slice_get}
use Rattle.std.proofs.lemmas.List.Elements.{Contains-append_left}
use Rattle.fly_types.specs.declared.text.Text.{Text}
use Rattle.fly_types.specs.declared.literals.LiteralMap.{LiteralMap}
use Rattle.fly_docs.specs.declared.node.Node.{Node}
use Rattle.fly_docs.specs.declared.workflow.Workflow.{Workflow}
use Rattle.fly_docs.specs.Bindings.{sources_of}
use Rattle.fly_docs.specs.Edges.{named_ids}
use Rattle.fly_docs.specs.Names.{start_node}
use Rattle.fly_docs.specs.Plans.{PlanNode}
use Rattle.fly_graph.proofs.Members.{Contains-filter_from}
use Rattle.fly_rules.specs.Rules.{values_at}
use Rattle.fly_rules.specs.Standing.{standing_among}
use Rattle.fly_state.specs.declared.slots.ExecState.{ExecState}
use Rattle.fly_state.specs.declared.standing.Standing.TheVariants as tells
use Rattle.fly_state.specs.Inputs.{inputs_of_node}
use Rattle.fly_state.specs.PlanTables.{IsOuterPlan, outer_node}
use Rattle.fly_state.specs.Plans.{RunPlan, number_in, looks}
use Rattle.fly_state.specs.Standing as state
use Rattle.fly_state.specs.Standing.{known_standing, meaning_of, standing_by}
use Rattle.fly_state.specs.States as state_of
use Rattle.fly_state.specs.States.{own_state, phase_of}
use Rattle.fly_state.proofs.Lists.{first_in, later_in, in_filter_map}
use Rattle.fly_state.proofs.OuterNodes.{planned-at}
use Rattle.fly_state.proofs.OuterPlans.{case-none}
use Rattle.fly_state.proofs.StandingLemmas.{by_outer}
use Rattle.fly_eval.specs.declared.verdict.Verdict.{Verdict}
use Rattle.fly_eval.specs.declared.verdict.Verdict.TheVariants as verdict
use Rattle.fly_eval.specs.declared.results.Results.{Results}
use Rattle.fly_eval.specs.declared.results.Hits.{Hits}
use Rattle.fly_eval.specs.declared.judging.Judged.{Judged}
use Rattle.fly_eval.specs.declared.passes.Pass.{Pass}
use Rattle.fly_eval.specs.Evaluation as eval
use Rattle.fly_eval.specs.Evaluation.{Entering, Sight, task_attempts, verdict_by, seen_attempts, whole_sight}
use Rattle.fly_eval.specs.Judging.{slot_of, told_standing, entering_over, IsJudged, TellsNode}
use Rattle.fly_eval.proofs.Points.{named-looked}
use Rattle.fly_eval.proofs.Sights.{seen, seen-verdict, standing-is, inputs-are, verdict-is}

-- ---- one verdict

pub told-sign : (v : Verdict) → state.sign_of (slot_of v).phase (meaning_of (told_standing v)) ≡ eval.sign_of v
told-sign verdict.Pending = refl
told-sign verdict.Blocked = refl
told-sign verdict.Skipped = refl
told-sign (verdict.Failed code) = refl
told-sign verdict.TimedOut = refl
told-sign (verdict.Succeeded outputs) = refl

pub told-outputs : (v : Verdict) → state_of.outputs_in (slot_of v) ≡ eval.outputs_in v
told-outputs verdict.Pending = refl
told-outputs verdict.Blocked = refl
told-outputs verdict.Skipped = refl
told-outputs (verdict.Failed code) = refl
told-outputs verdict.TimedOut = refl
told-outputs (verdict.Succeeded outputs) = refl

pub told-skipped : (v : Verdict) → state_of.is_skipped (slot_of v).phase ≡ eval.is_skipped v
told-skipped verdict.Pending = refl
told-skipped verdict.Blocked = refl
told-skipped verdict.Skipped = refl
told-skipped (verdict.Failed code) = refl
told-skipped verdict.TimedOut = refl
told-skipped (verdict.Succeeded outputs) = refl

pub told-failure : (v : Verdict) → state_of.is_failure (slot_of v).phase ≡ eval.is_failure v
told-failure verdict.Pending = refl
told-failure verdict.Blocked = refl
told-failure verdict.Skipped = refl
told-failure (verdict.Failed code) = refl
told-failure verdict.TimedOut = refl
told-failure (verdict.Succeeded outputs) = refl

map-same : {X Y : Type 0} (f g : X → Y) (xs : List X) → ((x : X) → Contains xs x → f x ≡ g x) → map f xs ≡ map g xs
map-same f g [] same = refl
map-same f g (x ∷ xs) same =
    ap (λ y. y ∷ map f xs) (same x (first_in x xs)) ∙ ap (λ ys. g x ∷ ys) (map-same f g xs (λ y has. same y (later_in x xs y has)))

pub if-same : {X : Type 0} (b : Bool) (x y z w : X) → (b ≡ true → x ≡ z) → (b ≡ false → y ≡ w) → (if b then x else y) ≡ (if b then z else w)
if-same true x y z w first second = first refl
if-same false x y z w first second = second refl

pub option-same : {X Y : Type 0} (f g : X → Option Y) (o : Option X) → ((x : X) → o ≡ Some x → f x ≡ g x)
    → option_and_then f o ≡ option_and_then g o
option-same f g None same = refl
option-same f g (Some x) same = same x refl

-- ---- one node

module _ (plan : RunPlan) (w : Workflow) (outer : IsOuterPlan plan w) (inputs : LiteralMap) (results : Results) (hits : Hits)
    (pass : Pass) (submitted : pass.state.root.inputs ≡ Some inputs) (i : ℕ) (n : Node) (there : slice_get w.nodes i ≡ Some n)
    (known : (j : ℕ) → Contains (looks plan i) j → TellsNode plan results hits (whole_sight plan inputs results hits) pass j) where
  abbrev sight : Sight
  sight = whole_sight plan inputs results hits

  abbrev s : ExecState
  s = pass.state

  abbrev p : PlanNode
  p = outer_node w (i, n)

  sign-same : (j : ℕ) → Contains (looks plan i) j → state.sign_of (phase_of s j) (known_standing pass.known j) ≡ eval.sign_of (sight.verdict j)
  sign-same j has =
      let told = known j has in
      (λ k. state.sign_of (told.slot_is k).phase (meaning_of (unwrap_or (told.standing_is k) tells.Blocked))) ∙ told-sign (sight.verdict j)

  standing-same : standing_by plan s i (values_at (known_standing pass.known) (looks plan i)) ≡ (sight.entering i).standing
  standing-same =
      by_outer plan s i p (known_standing pass.known) (planned-at plan w outer i n there) (case-none plan w outer p)
      ∙ ap standing_among (map-same (λ j. state.sign_of (phase_of s j) (known_standing pass.known j)) (λ j. eval.sign_of (sight.verdict j))
      (looks plan i) sign-same)
      ∙ sym (standing-is plan w outer inputs results hits i n there)

  -- it looks at what it promises from
  looked : (id : Text) (j : ℕ) → Contains (sources_of n.inputs) id → bytes_eq id start_node ≡ false → number_in plan [] id ≡ Some j
      → Contains (looks plan i) j
  looked id j has other is =
      let kept : Contains (named_ids n) id = Contains-filter_from (λ name. not (bytes_eq name start_node))
      (sources_of n.inputs ++ n.upstream) id (Contains-append_left (sources_of n.inputs) n.upstream id has) (ap not other) in
      subst (λ js. Contains js j) (named-looked plan w outer i n there) (in_filter_map (number_in plan []) (named_ids n) id j kept is)

  given-same : (id : Text) (j : ℕ) → Contains (sources_of n.inputs) id → bytes_eq id start_node ≡ false → number_in plan [] id ≡ Some j
      → eval.outputs_in ((seen plan w outer inputs results hits i n there).verdict j) ≡ state_of.outputs_in (own_state s j)
  given-same id j has other is =
      let looks_there = looked id j has other is in
      ap eval.outputs_in (seen-verdict plan w outer inputs results hits i n there j looks_there)
      ∙ sym (ap state_of.outputs_in (known j looks_there).slot_is ∙ told-outputs (sight.verdict j))

  known-same : (id : Text) → Contains (sources_of n.inputs) id
      → eval.known_in plan inputs (seen plan w outer inputs results hits i n there) [] id ≡ state_of.known_in plan s [] id
  known-same id has =
      if-same (bytes_eq id start_node) (Some inputs)
      (option_and_then (λ j. eval.outputs_in ((seen plan w outer inputs results hits i n there).verdict j)) (number_in plan [] id))
      s.root.inputs
      (option_and_then (λ j. state_of.outputs_in (own_state s j)) (number_in plan [] id))
      (λ start. sym submitted)
      (λ other.
      option-same (λ j. eval.outputs_in ((seen plan w outer inputs results hits i n there).verdict j))
      (λ j. state_of.outputs_in (own_state s j)) (number_in plan [] id) (λ j is. given-same id j has other is))

  inputs-same : (sight.entering i).inputs ≡ inputs_of_node plan s p None
  inputs-same = inputs-are plan w outer inputs results hits i n there (state_of.known_in plan s []) known-same

  pub entering-same : entering_over plan s pass.known i p ≡ sight.entering i
  entering-same = λ k. record { standing = standing-same k; inputs = sym inputs-same k }

  module _ (judged : Judged) (is : IsJudged plan results hits p (entering_over plan s pass.known i p) judged) where
    pub verdict-same : judged.verdict ≡ sight.verdict i
    verdict-same =
        is.verdict_is
        ∙ ap (λ (e : Entering). verdict_by e.standing e.inputs (λ given. (task_attempts plan results hits p).verdict)) entering-same
        ∙ sym (verdict-is plan w outer inputs results hits i n there)

    pub attempts-same : judged.attempts ≡ seen_attempts plan results hits p (sight.entering i)
    attempts-same = is.attempts_are ∙ ap (seen_attempts plan results hits p) entering-same
