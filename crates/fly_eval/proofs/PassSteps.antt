-- A pass with one node more judged.
use Rattle.std.proofs.Common.{◌≡◌, ◌≢◌, ℕ, ◌+◌, ◌<◌, List, replicate, length, get_or, Contains, Option, Some, None, IfSome, refl, sym, ◌∙◌, ap, subst, arith, ⊎_elim}
use Rattle.std.specs.List.{slice_get}
use Rattle.std.proofs.Math.ListN.{set}
use Rattle.std.proofs.lemmas.Bool.{cases_lt, cases_eq}
use Rattle.std.proofs.lemmas.List.{length-set, get_or-set_same, get_or-set_other, get_or_default, length-replicate, get_or-replicate}
use Rattle.std.proofs.lemmas.List.Elements.{Contains-get_or}
use Rattle.std.proofs.lemmas.Option.{same_Some, unwrap_or-slice_get, slice_get_past, slice_get_within, slice_get-get_or}
use Rattle.fly_types.specs.declared.literals.LiteralMap.{LiteralMap}
use Rattle.fly_docs.specs.declared.node.Node.{Node}
use Rattle.fly_docs.specs.declared.workflow.Workflow.{Workflow}
use Rattle.fly_docs.specs.Plans.{PlanNode}
use Rattle.fly_graph.proofs.Members.{Contains-take_at}
use Rattle.fly_policy.specs.Outcome.{AreOutputs}
use Rattle.fly_state.specs.declared.slots.SlotState.{SlotState}
use Rattle.fly_state.specs.declared.slots.NodeState.{NodeState}
use Rattle.fly_state.specs.declared.slots.ExecState.{ExecState}
use Rattle.fly_state.specs.Looks.{IsLookOrder}
use Rattle.fly_state.specs.OfPlan.{output_variables}
use Rattle.fly_state.specs.PlanTables.{IsOuterPlan, outer_node}
use Rattle.fly_state.specs.Plans.{RunPlan, node_numbered, looks}
use Rattle.fly_state.specs.Values.{HasKnownTypes}
use Rattle.fly_state.specs.States.{fresh_node, fresh_slot, own_state}
use Rattle.fly_state.proofs.OuterNodes.{planned-at}
use Rattle.fly_eval.specs.declared.results.Results.{Results}
use Rattle.fly_eval.specs.declared.results.Hits.{Hits}
use Rattle.fly_eval.specs.declared.judging.Judged.{Judged}
use Rattle.fly_eval.specs.declared.passes.Pass.{Pass}
use Rattle.fly_eval.specs.Evaluation.{Sight, seen_attempts, whole_sight}
use Rattle.fly_eval.specs.Judging.{slot_of, told_standing, node_told, entering_over, IsJudged, with_judged, IsFirstPass, IsPass, TellsNode, TellsAll}
use Rattle.fly_eval.specs.Records.{AreTypedRecords}
use Rattle.fly_eval.proofs.KnownTypes.{known-typed}
use Rattle.fly_eval.proofs.Points.{node-there}
use Rattle.fly_eval.proofs.StateTells.{verdict-same, attempts-same}
use Rattle.fly_eval.proofs.TypedVerdicts.{verdict-typed}

-- ---- lists with one value set

pub get-here : {X : Type 0} (xs : List X) (i : ℕ) (x : X) → i < length xs → slice_get (set xs i x) i ≡ Some x
get-here xs i x within =
    let long = length-set xs i x in
    slice_get-get_or (set xs i x) i x (omega (arith, long, within)) ∙ ap Some (get_or-set_same xs i x x within)

pub get-there : {X : Type 0} (xs : List X) (i j : ℕ) (x : X) → j ≢ i → slice_get (set xs i x) j ≡ slice_get xs j
get-there xs i j x apart =
    let long = length-set xs i x in
    ⊎_elim (λ lt.
    slice_get-get_or (set xs i x) j x (omega (arith, long, lt)) ∙ ap Some (get_or-set_other xs i j x x apart) ∙ sym (slice_get-get_or xs j x lt))
    (λ ge. slice_get_past (set xs i x) j (omega (arith, long, ge)) ∙ sym (slice_get_past xs j ge))
    (cases_lt j (length xs))

own-at : (nodes : List NodeState) (s : ExecState) → s.nodes ≡ nodes → (j : ℕ) → own_state s j ≡ (get_or nodes j fresh_node).own
own-at nodes s is j =
    ap (λ (x : NodeState). x.own) (unwrap_or-slice_get s.nodes j fresh_node ∙ ap (λ xs. get_or xs j fresh_node) is)

module _ (plan : RunPlan) (w : Workflow) (outer : IsOuterPlan plan w) (inputs : LiteralMap) (results : Results) (hits : Hits)
    (typed : AreTypedRecords plan inputs results hits) where
  abbrev sight : Sight
  sight = whole_sight plan inputs results hits

  abbrev Tells : Pass → ℕ → Type 0
  Tells pass i = TellsNode plan results hits sight pass i

  module _ (pass : Pass) (holds : IsPass plan inputs pass) (i : ℕ) (small : i < length plan.nodes) (n : Node) (there : slice_get w.nodes i ≡ Some n)
      (known : (j : ℕ) → Contains (looks plan i) j → Tells pass j) (judged : Judged)
      (is : IsJudged plan results hits (outer_node w (i, n)) (entering_over plan pass.state pass.known i (outer_node w (i, n))) judged) where
    abbrev p : PlanNode
    p = outer_node w (i, n)

    abbrev next : Pass
    next = with_judged pass i p judged

    same : judged.verdict ≡ sight.verdict i
    same = verdict-same plan w outer inputs results hits pass holds.submitted i n there known judged is

    own-here : own_state next.state i ≡ slot_of (sight.verdict i)
    own-here =
        own-at (set pass.state.nodes i (node_told judged.verdict)) next.state refl i
        ∙ ap (λ (x : NodeState). x.own) (get_or-set_same pass.state.nodes i (node_told judged.verdict) fresh_node (omega (arith, holds.nodes_each, small)))
        ∙ ap slot_of same

    own-there : (j : ℕ) → j ≢ i → own_state next.state j ≡ own_state pass.state j
    own-there j apart =
        own-at (set pass.state.nodes i (node_told judged.verdict)) next.state refl j
        ∙ ap (λ (x : NodeState). x.own) (get_or-set_other pass.state.nodes i j (node_told judged.verdict) fresh_node apart)
        ∙ sym (own-at pass.state.nodes pass.state refl j)

    pub next-holds : IsPass plan inputs next
    next-holds = record {
      nodes_each = length-set pass.state.nodes i (node_told judged.verdict) ∙ holds.nodes_each;
      known_each = length-set pass.known i (told_standing judged.verdict) ∙ holds.known_each;
      seen_each = length-set pass.seen i (record { path = p.path; item = None; verdict = judged.verdict; attempts = judged.attempts }) ∙ holds.seen_each;
      submitted = holds.submitted;
      taken = holds.taken;
      given = λ j q planned.
          ⊎_elim (λ e.
          let own : own_state next.state j ≡ slot_of (sight.verdict i) = ap (own_state next.state) e ∙ own-here in
          let node : p ≡ q = same_Some _ _ (sym (planned-at plan w outer i n there) ∙ ap (node_numbered plan) (sym e) ∙ planned) in
          subst (λ (r : PlanNode). IfSome (own_state next.state j).outputs (AreOutputs (output_variables plan r))) node
          (subst (λ (slot : SlotState). IfSome slot.outputs (AreOutputs (output_variables plan p))) (sym own)
          (verdict-typed plan w outer inputs results hits typed i n there)))
          (λ apart.
          subst (λ (slot : SlotState). IfSome slot.outputs (AreOutputs (output_variables plan q))) (sym (own-there j apart)) (holds.given j q planned))
          (cases_eq j i);
    }

    pub tells-here : Tells next i
    tells-here = record {
      slot_is = own-here;
      standing_is = get-here pass.known i (told_standing judged.verdict) (omega (arith, holds.known_each, small)) ∙ ap (λ v. Some (told_standing v)) same;
      seen_is = λ q planned.
          let node : p ≡ q = same_Some _ _ (sym (planned-at plan w outer i n there) ∙ planned) in
          get-here pass.seen i (record { path = p.path; item = None; verdict = judged.verdict; attempts = judged.attempts })
          (omega (arith, holds.seen_each, small))
          ∙ (λ k. Some (record {
            path = p.path;
            item = None;
            verdict = same k;
            attempts = attempts-same plan w outer inputs results hits pass holds.submitted i n there known judged is k;
          }))
          ∙ ap (λ (r : PlanNode). Some (record {
            path = r.path;
            item = None;
            verdict = sight.verdict i;
            attempts = seen_attempts plan results hits r (sight.entering i);
          })) node;
    }

    pub tells-there : (j : ℕ) → j ≢ i → Tells pass j → Tells next j
    tells-there j apart told = record {
      slot_is = own-there j apart ∙ told.slot_is;
      standing_is = get-there pass.known i j (told_standing judged.verdict) apart ∙ told.standing_is;
      seen_is = λ q planned.
          get-there pass.seen i j (record { path = p.path; item = None; verdict = judged.verdict; attempts = judged.attempts }) apart
          ∙ told.seen_is q planned;
    }

  -- ---- along an order

  module _ (order : List ℕ) (ordered : IsLookOrder (looks plan) (length plan.nodes) order) where
    pub number-small : (k : ℕ) → k < length order → get_or order k 0 < length plan.nodes
    number-small k within = (ordered.once.each (get_or order k 0)).1 (Contains-get_or order k 0 within)

    module _ (pass : Pass) (holds : IsPass plan inputs pass) (k : ℕ) (within : k < length order)
        (done : (j : ℕ) → j < k → Tells pass (get_or order j 0)) where
      abbrev i : ℕ
      i = get_or order k 0

      before-known : (j : ℕ) → Contains (looks plan i) j → Tells pass j
      before-known j looked =
          let at = Contains-take_at order k j (ordered.back k j within looked) in
          subst (Tells pass) at.3 (done at.0 at.1)

      module _ (p : PlanNode) (planned : node_numbered plan i ≡ Some p) (judged : Judged)
          (is : IsJudged plan results hits p (entering_over plan pass.state pass.known i p) judged) where
        node : (n : Node) × (slice_get w.nodes i ≡ Some n)
        node = node-there plan w outer i (number-small k within)

        its : outer_node w (i, node.0) ≡ p
        its = same_Some _ _ (sym (planned-at plan w outer i node.0 node.1) ∙ planned)

        own-judged : IsJudged plan results hits (outer_node w (i, node.0))
            (entering_over plan pass.state pass.known i (outer_node w (i, node.0))) judged
        own-judged = subst (λ (q : PlanNode). IsJudged plan results hits q (entering_over plan pass.state pass.known i q) judged) (sym its) is

        pub more-holds : IsPass plan inputs (with_judged pass i p judged)
        more-holds =
            subst (λ (q : PlanNode). IsPass plan inputs (with_judged pass i q judged)) its
            (next-holds pass holds i (number-small k within) node.0 node.1 before-known judged own-judged)

        pub more-done : (j : ℕ) → j < k + 1 → Tells (with_judged pass i p judged) (get_or order j 0)
        more-done j lt =
            subst (λ (q : PlanNode). Tells (with_judged pass i q judged) (get_or order j 0)) its
            (⊎_elim (λ same. subst (Tells (with_judged pass i (outer_node w (i, node.0)) judged)) (sym same)
            (tells-here pass holds i (number-small k within) node.0 node.1 before-known judged own-judged))
            (λ apart.
            tells-there pass holds i (number-small k within) node.0 node.1 before-known judged own-judged (get_or order j 0) apart
            (done j (before k j lt (λ e. apart (ap (λ x. get_or order x 0) e)))))
            (cases_eq (get_or order j 0) i))
          where
            before : (a b : ℕ) → b < a + 1 → (b ≡ a → ⊥) → b < a
            before a b le other = ⊎_elim (λ below. below) (λ above. absurd (other (omega arith))) (cases_lt b a)

    pub all-told : (pass : Pass) → IsPass plan inputs pass → ((j : ℕ) → j < length order → Tells pass (get_or order j 0))
        → TellsAll plan inputs results hits pass
    all-told pass holds done = record {
      holds = holds;
      tells = λ i small.
          let has = (ordered.once.each i).0 small in
          let at : get_or order has.0 0 ≡ i = get_or_default order has.0 0 i has.1 ∙ has.2 in
          subst (Tells pass) at (done has.0 has.1);
    }

  -- ---- before the first

  first-own : (pass : Pass) → IsFirstPass plan inputs pass → (i : ℕ) (p : PlanNode) → node_numbered plan i ≡ Some p
      → own_state pass.state i ≡ fresh_slot
  first-own pass first i p planned =
      own-at (replicate (length plan.nodes) fresh_node) pass.state first.nodes_are i
      ∙ ap (λ (x : NodeState). x.own)
      (get_or-replicate (length plan.nodes) i fresh_node fresh_node (slice_get_within plan.nodes i p planned))

  pub first-holds : (pass : Pass) → IsFirstPass plan inputs pass → IsPass plan inputs pass
  first-holds pass first = record {
    nodes_each = ap length first.nodes_are ∙ length-replicate (length plan.nodes) fresh_node;
    known_each = first.known_each;
    seen_each = first.seen_each;
    submitted = first.submitted;
    taken = typed.submitted;
    given = λ i p planned.
        subst (λ (slot : SlotState). IfSome slot.outputs (AreOutputs (output_variables plan p))) (sym (first-own pass first i p planned)) tt;
  }

-- what is known in the pass is of the promised types
pub pass-types : (plan : RunPlan) (w : Workflow) (outer : IsOuterPlan plan w) (inputs : LiteralMap) (pass : Pass) → IsPass plan inputs pass
    → HasKnownTypes plan pass.state
pass-types plan w outer inputs pass holds =
    known-typed plan w outer pass.state
    (subst (λ (o : Option LiteralMap). IfSome o (AreOutputs w.interface.inputs)) (sym holds.submitted) (holds.taken w outer.named))
    holds.given
