-- In a state that agrees and whose instance isn't broken, a node that doesn't wait stands as evaluation enters it, and takes what evaluation does.
use Rattle.std.proofs.Common.{◌≡◌, ℕ, ◌<◌, Bool, true, false, not, if◌then◌else◌, ◌++◌, length, get_or, bytes_eq, Contains, Option, Some, None, option_and_then, refl, sym, ◌∙◌, ap, subst, [], ⊎_elim}
use Rattle.std.specs.List.{slice_get}
use Rattle.std.proofs.lemmas.Bool.{and_parts, cases_Bool, false≢true}
use Rattle.std.proofs.lemmas.List.{get_or_default}
use Rattle.std.proofs.lemmas.List.Elements.{Contains-append_left}
use Rattle.fly_types.specs.declared.text.Text.{Text}
use Rattle.fly_types.specs.declared.literals.LiteralMap.{LiteralMap}
use Rattle.fly_docs.specs.declared.node.Node.{Node}
use Rattle.fly_docs.specs.declared.workflow.Workflow.{Workflow}
use Rattle.fly_docs.specs.Bindings.{sources_of}
use Rattle.fly_docs.specs.Edges.{named_ids}
use Rattle.fly_docs.specs.Names.{start_node}
use Rattle.fly_docs.specs.Plans.{PlanNode}
use Rattle.fly_graph.proofs.Members.{Contains-filter_from, Contains-take_at}
use Rattle.fly_rules.specs.Standing.{Standing, waiting, blocked, skipped, ready, is_waiting_standing, is_ready_standing, is_skipped_standing, standing_among}
use Rattle.fly_rules.proofs.RuleLemmas.{holds_along_order}
use Rattle.fly_state.specs.declared.phase.Phase.{Phase}
use Rattle.fly_state.specs.declared.phase.Phase.TheVariants as phase
use Rattle.fly_state.specs.declared.slots.SlotState.{SlotState}
use Rattle.fly_state.specs.declared.slots.ExecState.{ExecState}
use Rattle.fly_state.specs.Inputs.{inputs_of_node}
use Rattle.fly_state.specs.Moves.{is_ready}
use Rattle.fly_state.specs.OfPlan.{IsOfPlan, is_aborted}
use Rattle.fly_state.specs.PlanTables.{IsOuterPlan, outer_node}
use Rattle.fly_state.specs.Plans.{RunPlan, number_in, looks}
use Rattle.fly_state.specs.Standing as state
use Rattle.fly_state.specs.Standing.{standing_of, signs_at}
use Rattle.fly_state.specs.States as state_of
use Rattle.fly_state.specs.States.{own_state, phase_of, is_succeeded, is_broken}
use Rattle.fly_state.proofs.Lists.{in_filter_map}
use Rattle.fly_state.proofs.OuterNodes.{numbered-node, planned-at, ready-sources}
use Rattle.fly_state.proofs.OuterPlans.{case-none}
use Rattle.fly_state.proofs.StandingLemmas.{by_outer, standing-fixed}
use Rattle.fly_eval.specs.declared.verdict.Verdict.{Verdict}
use Rattle.fly_eval.specs.declared.verdict.Verdict.TheVariants as verdict
use Rattle.fly_eval.specs.declared.results.Results.{Results}
use Rattle.fly_eval.specs.declared.results.Hits.{Hits}
use Rattle.fly_eval.specs.Evaluation as eval
use Rattle.fly_eval.specs.Evaluation.{Sight, task_attempts, verdict_by, whole_sight}
use Rattle.fly_eval.proofs.StandingKept.{IsKeptStanding}
use Rattle.fly_agreement.specs.Agreement.{TellsIn, TellsVerdict, Agrees}
use Rattle.fly_eval.proofs.Points.{node-there, named-looked}
use Rattle.fly_agreement.proofs.Signs.{among-kept, sign-kept}
use Rattle.fly_eval.proofs.Sights.{seen, seen-verdict, standing-is, inputs-are, verdict-is}

pub if-same : {X : Type 0} (b : Bool) (x y z w : X) → (b ≡ true → x ≡ z) → (b ≡ false → y ≡ w) → (if b then x else y) ≡ (if b then z else w)
if-same true x y z w first second = first refl
if-same false x y z w first second = second refl

pub option-same : {X Y : Type 0} (f g : X → Option Y) (o : Option X) → ((x : X) → o ≡ Some x → f x ≡ g x)
    → option_and_then f o ≡ option_and_then g o
option-same f g None same = refl
option-same f g (Some x) same = same x refl

is-ready : (x : Standing) → is_ready_standing x ≡ true → x ≡ ready
is-ready ready e = refl
is-ready waiting e = absurd (false≢true e)
is-ready blocked e = absurd (false≢true e)
is-ready skipped e = absurd (false≢true e)

is-skipped : (x : Standing) → is_skipped_standing x ≡ true → x ≡ skipped
is-skipped skipped e = refl
is-skipped waiting e = absurd (false≢true e)
is-skipped blocked e = absurd (false≢true e)
is-skipped ready e = absurd (false≢true e)

-- what succeeded gave the outputs of its verdict
succeeded-outputs : (f : Phase) (slot : SlotState) (v : Verdict) → TellsIn f slot v → is_succeeded f ≡ true
    → eval.outputs_in v ≡ (if is_succeeded f then slot.outputs else None)
succeeded-outputs phase.Succeeded slot v says e = ap eval.outputs_in says.2 ∙ sym says.1
succeeded-outputs _ slot v says e = absurd (false≢true e)

module _ (plan : RunPlan) (w : Workflow) (outer : IsOuterPlan plan w) (inputs : LiteralMap) (results : Results) (hits : Hits)
    (s : ExecState) (agrees : Agrees plan inputs results hits s) where
  abbrev sight : Sight
  sight = whole_sight plan inputs results hits

  pub tells : (i : ℕ) (n : Node) → slice_get w.nodes i ≡ Some n → TellsVerdict (own_state s i) (sight.verdict i)
  tells i n there = (agrees.nodes i (outer_node w (i, n)) (planned-at plan w outer i n there)).final

  module _ (whole : is_broken plan s [] ≡ false) where
    -- no node is aborted
    pub unaborted : (i : ℕ) (n : Node) → slice_get w.nodes i ≡ Some n → is_aborted (phase_of s i) ≡ false
    unaborted i n there =
        ⊎_elim (λ gone.
        absurd (false≢true (sym whole ∙ (agrees.nodes i (outer_node w (i, n)) (planned-at plan w outer i n there)).aborted gone)))
        (λ other. other) (cases_Bool (is_aborted (phase_of s i)))

    looked-below : (x u : ℕ) → Contains outer.order x → Contains (looks plan x) u → u < length plan.nodes
    looked-below x u has looked =
        let at : get_or outer.order has.0 0 ≡ x = get_or_default outer.order has.0 0 x has.1 ∙ has.2 in
        let before = outer.order_is.back has.0 u has.1 (subst (λ v. Contains (looks plan v) u) (sym at) looked) in
        let there = Contains-take_at outer.order has.0 u before in
        (outer.order_is.once.each u).1 (there.0, there.2, get_or_default outer.order there.0 u 0 there.2 ∙ there.3)

    abbrev IsSeen : ℕ → Type 0
    IsSeen i = IsKeptStanding (standing_of plan s i) (sight.entering i).standing

    -- a node that is never entered is blocked
    blocked-told : (i : ℕ) (n : Node) → slice_get w.nodes i ≡ Some n → IsSeen i → standing_of plan s i ≡ blocked
        → sight.verdict i ≡ verdict.Blocked
    blocked-told i n there known is =
        let stands : (sight.entering i).standing ≡ blocked = known (ap is_waiting_standing is) ∙ is in
        verdict-is plan w outer inputs results hits i n there
        ∙ ap (λ x. verdict_by x (sight.entering i).inputs (λ given. (task_attempts plan results hits (outer_node w (i, n))).verdict)) stands

    seen-step : (i : ℕ) → Contains outer.order i → ((u : ℕ) → Contains (looks plan i) u → IsSeen u) → IsSeen i
    seen-step i has known is =
        let small = (outer.order_is.once.each i).1 has in
        let node = node-there plan w outer i small in
        let p = outer_node w (i, node.0) in
        let now : standing_of plan s i ≡ standing_among (signs_at s (standing_of plan s) (looks plan i)) =
        standing-fixed plan s outer.order outer.order_is i small
        ∙ by_outer plan s i p (standing_of plan s) (planned-at plan w outer i node.0 node.1) (case-none plan w outer p) in
        standing-is plan w outer inputs results hits i node.0 node.1
        ∙ among-kept (λ u. state.sign_of (phase_of s u) (standing_of plan s u)) (λ u. eval.sign_of (sight.verdict u)) (looks plan i)
        (λ u looked.
        let at = node-there plan w outer u (looked-below i u has looked) in
        sign-kept (phase_of s u) (standing_of plan s u) (own_state s u) (sight.verdict u) (tells u at.0 at.1) (unaborted u at.0 at.1)
        (blocked-told u at.0 at.1 (known u looked)))
        (sym (ap is_waiting_standing now) ∙ is)
        ∙ sym now

    -- a node that doesn't wait stands as evaluation enters it
    pub seen-standing : (i : ℕ) → i < length plan.nodes → IsSeen i
    seen-standing i small =
        holds_along_order (looks plan) outer.order outer.order_is.back IsSeen seen-step i ((outer.order_is.once.each i).0 small)

    module _ (i : ℕ) (n : Node) (there : slice_get w.nodes i ≡ Some n) (small : i < length plan.nodes) where
      abbrev p : PlanNode
      p = outer_node w (i, n)

      pub blocked-verdict : standing_of plan s i ≡ blocked → sight.verdict i ≡ verdict.Blocked
      blocked-verdict = blocked-told i n there (seen-standing i small)

      pub skipped-verdict : is_skipped_standing (standing_of plan s i) ≡ true → sight.verdict i ≡ verdict.Skipped
      skipped-verdict skips =
          let is = is-skipped (standing_of plan s i) skips in
          let stands : (sight.entering i).standing ≡ skipped = seen-standing i small (ap is_waiting_standing is) ∙ is in
          verdict-is plan w outer inputs results hits i n there
          ∙ ap (λ x. verdict_by x (sight.entering i).inputs (λ given. (task_attempts plan results hits p).verdict)) stands

      -- ---- a node that is ready

      module _ (of_plan : IsOfPlan plan s) (go : is_ready plan s i ≡ true) where
        pub ready-standing : (sight.entering i).standing ≡ ready
        ready-standing =
            let is = is-ready (standing_of plan s i) (and_parts _ _ go).1 in
            seen-standing i small (ap is_waiting_standing is) ∙ is

        -- it looks at what it promises from
        looked : (id : Text) (j : ℕ) → Contains (sources_of n.inputs) id → bytes_eq id start_node ≡ false → number_in plan [] id ≡ Some j
            → Contains (looks plan i) j
        looked id j has other is =
            let kept : Contains (named_ids n) id = Contains-filter_from (λ name. not (bytes_eq name start_node))
            (sources_of n.inputs ++ n.upstream) id (Contains-append_left (sources_of n.inputs) n.upstream id has) (ap not other) in
            subst (λ js. Contains js j) (named-looked plan w outer i n there) (in_filter_map (number_in plan []) (named_ids n) id j kept is)

        -- each that it promises from gave the outputs of its verdict
        given-same : (id : Text) (j : ℕ) → Contains (sources_of n.inputs) id → bytes_eq id start_node ≡ false → number_in plan [] id ≡ Some j
            → eval.outputs_in ((seen plan w outer inputs results hits i n there).verdict j) ≡ state_of.outputs_in (own_state s j)
        given-same id j has other is =
            let at = numbered-node plan w outer id j is in
            let good = ready-sources plan w outer i n there s of_plan go whole j
            (in_filter_map (number_in plan []) (sources_of n.inputs) id j has is) in
            ap eval.outputs_in (seen-verdict plan w outer inputs results hits i n there j (looked id j has other is))
            ∙ succeeded-outputs (phase_of s j) (own_state s j) (sight.verdict j) (tells j at.0 at.1) good

        known-same : (id : Text) → Contains (sources_of n.inputs) id
            → eval.known_in plan inputs (seen plan w outer inputs results hits i n there) [] id ≡ state_of.known_in plan s [] id
        known-same id has =
            if-same (bytes_eq id start_node) (Some inputs)
            (option_and_then (λ j. eval.outputs_in ((seen plan w outer inputs results hits i n there).verdict j)) (number_in plan [] id))
            s.root.inputs
            (option_and_then (λ j. state_of.outputs_in (own_state s j)) (number_in plan [] id))
            (λ start. sym agrees.root.inputs)
            (λ other.
            option-same (λ j. eval.outputs_in ((seen plan w outer inputs results hits i n there).verdict j))
            (λ j. state_of.outputs_in (own_state s j)) (number_in plan [] id) (λ j is. given-same id j has other is))

        -- it takes what evaluation does
        pub ready-inputs : (sight.entering i).inputs ≡ inputs_of_node plan s p None
        ready-inputs = inputs-are plan w outer inputs results hits i n there (state_of.known_in plan s []) known-same
