-- A running execution of a plan of uncached tasks in one workflow goes on: its round has a legal move, or an attempt
-- runs whose end isn't known.
use Rattle.std.proofs.Common.{◌≡◌, ◌⊎◌, ℕ, zero, suc, ◌<◌, Bool, true, false, ◌&&◌, List, [], ◌∷◌, length, Option, Some, None, is_some, is_none, refl, sym, ◌∙◌, ap, arith, inl, inr, ⊎_elim}
use Rattle.std.specs.List.{slice_get}
use Rattle.std.proofs.lemmas.Bool.{and_parts, cases_Bool, false≢true, true≢false, or_left}
use Rattle.std.proofs.lemmas.Option.{none-some, same_Some, slice_get_cases}
use Rattle.fly_policy.specs.declared.outcome.Outcome.{Outcome}
use Rattle.fly_docs.specs.declared.node.Node.{Node}
use Rattle.fly_docs.specs.declared.workflow.Workflow.{Workflow}
use Rattle.fly_docs.specs.Plans.{PlanNode}
use Rattle.fly_rules.proofs.RuleLemmas.{holds_along_order}
use Rattle.fly_state.specs.declared.view.View.{View}
use Rattle.fly_state.specs.Moves.{is_succeeding, outcome_in}
use Rattle.fly_state.specs.OfPlan.{IsViewOfPlan}
use Rattle.fly_state.specs.PlanTables.{IsOuterPlan, outer_node}
use Rattle.fly_state.specs.Plans.{RunPlan, node_numbered, looks, is_task, is_task_target}
use Rattle.fly_state.specs.Standing.{is_at_rest, is_settled}
use Rattle.fly_state.specs.States.{own_state, phase_of, is_running, is_broken}
use Rattle.fly_state.proofs.OuterNodes.{planned-at}
use Rattle.fly_state.proofs.OuterPlans.{all-nodes, count-outer}
use Rattle.fly_state.proofs.Ranges.{all-from}
use Rattle.fly_state.proofs.TaskNodes.{task-node}
use Rattle.fly_round.specs.declared.told.Told.{Told}
use Rattle.fly_round.specs.Moves.{round_moves}
use Rattle.fly_work.specs.Drives.{IsUncached}
use Rattle.fly_work.proofs.EndLemmas.{settled-closes}
use Rattle.fly_work.proofs.QuietNodes.{quiet-node, quiet-root, stopped, quiet-rests}

-- An attempt of a task node that runs, and of which the view knows no end.
pub record Awaits (plan : RunPlan) (v : View) : Type 0 where
  pub number : ℕ
  pub node : PlanNode
  pub planned : node_numbered plan number ≡ Some node
  pub runs : is_running (phase_of v.state number) ≡ true
  pub task : is_task node.node ≡ true
  pub unknown : outcome_in v node None (own_state v.state number).attempt ≡ None

-- ---- what is in a list

-- An element that passes a test of its place and itself.
record Passes {X : Type 0} (test : ℕ → X → Bool) (xs : List X) : Type 0 where
  place : ℕ
  one : X
  there : slice_get xs place ≡ Some one
  passes : test place one ≡ true

-- there is one, or none passes
passes-or-none : {X : Type 0} (test : ℕ → X → Bool) (xs : List X)
    → Passes test xs ⊎ ((i : ℕ) (x : X) → slice_get xs i ≡ Some x → test i x ≡ false)
passes-or-none test [] = inr (λ i x there. absurd (none-some x there))
passes-or-none {X} test (y ∷ ys) =
    ⊎_elim (λ here. inl (record { place = zero; one = y; there = refl; passes = here }))
    (λ fails. ⊎_elim later (λ none. inr (at-none fails none)) (passes-or-none (λ i. test (suc i)) ys))
    (cases_Bool (test zero y))
  where
    later : Passes (λ i. test (suc i)) ys
        → Passes test (y ∷ ys) ⊎ ((i : ℕ) (x : X) → slice_get (y ∷ ys) i ≡ Some x → test i x ≡ false)
    later h = inl (record { place = suc h.place; one = h.one; there = h.there; passes = h.passes })

    at-none : test zero y ≡ false → ((i : ℕ) (x : X) → slice_get ys i ≡ Some x → test (suc i) x ≡ false)
        → (i : ℕ) (x : X) → slice_get (y ∷ ys) i ≡ Some x → test i x ≡ false
    at-none fails none zero x there = ap (test zero) (sym (same_Some y x there)) ∙ fails
    at-none fails none (suc i) x there = none i x there

none-is : {X : Type 0} (o : Option X) → is_none o ≡ true → o ≡ None
none-is None e = refl
none-is (Some x) e = absurd (false≢true e)

-- ---- a round without moves

module _ (plan : RunPlan) (f : Workflow) (outer : IsOuterPlan plan f) (uncached : IsUncached plan) (v : View)
    (of_plan : IsViewOfPlan plan v) (runs : is_running v.state.root.phase ≡ true)
    (unstored : (i : ℕ) (p : PlanNode) → node_numbered plan i ≡ Some p → is_succeeding (phase_of v.state i) ≡ false)
    (told : List Told) (quiet : round_moves plan v told ≡ []) where
  -- the node runs an attempt whose end isn't known
  abbrev awaits_at : ℕ → PlanNode → Bool
  awaits_at i p = is_running (phase_of v.state i) && is_none (outcome_in v p None (own_state v.state i).attempt)

  module _ (none : (i : ℕ) (p : PlanNode) → node_numbered plan i ≡ Some p → awaits_at i p ≡ false) where
    ended : (i : ℕ) (p : PlanNode) → node_numbered plan i ≡ Some p → is_running (phase_of v.state i) ≡ true
        → is_some (outcome_in v p None (own_state v.state i).attempt) ≡ true
    ended i p planned goes =
        by (outcome_in v p None (own_state v.state i).attempt)
        (sym (ap (λ b. b && is_none (outcome_in v p None (own_state v.state i).attempt)) goes) ∙ none i p planned)
      where
        by : (o : Option Outcome) → is_none o ≡ false → is_some o ≡ true
        by (Some o) e = refl
        by None e = absurd (true≢false e)

    abbrev Rests : ℕ → Type 0
    Rests i = is_at_rest plan v.state i ≡ true

    node-at : (i : ℕ) → i < length plan.nodes → (n : Node) × (slice_get f.nodes i ≡ Some n)
    node-at i small =
        ⊎_elim (λ found. (found.0, found.2)) (λ past. absurd (omega (arith, past.0, count-outer plan f outer, small)))
        (slice_get_cases f.nodes i).1

    rests-broken : is_broken plan v.state [] ≡ true → (i : ℕ) → i < length plan.nodes → Rests i
    rests-broken broken i small =
        let node = node-at i small in
        or_left _ _ (stopped plan f outer v of_plan told i node.0 node.1
        (quiet-node plan v told quiet i (outer_node f (i, node.0)) (planned-at plan f outer i node.0 node.1)) broken)

    rests-whole : is_broken plan v.state [] ≡ false → (i : ℕ) → i < length plan.nodes → Rests i
    rests-whole whole i small =
        holds_along_order (looks plan) outer.order outer.order_is.back Rests (λ u has known.
        let below : u < length plan.nodes = (outer.order_is.once.each u).1 has in
        let node = node-at u below in
        let p : PlanNode = outer_node f (u, node.0) in
        let planned = planned-at plan f outer u node.0 node.1 in
        quiet-rests plan f outer v of_plan told u node.0 node.1 (quiet-node plan v told quiet u p planned) whole
        uncached (unstored u p planned) (ended u p planned) known below) i ((outer.order_is.once.each i).0 small)

    settled : is_settled plan v.state [] ≡ true
    settled =
        let each = ⊎_elim rests-broken rests-whole (cases_Bool (is_broken plan v.state [])) in
        all-nodes plan f outer (is_at_rest plan v.state)
        ∙ all-from (is_at_rest plan v.state) 0 (length plan.nodes) (λ i above below. each i (omega (arith, below)))

    closes : ⊥
    closes =
        true≢false
        (sym (settled-closes plan f outer v.state of_plan.state settled) ∙ quiet-root plan v told quiet runs)

  awaits : Passes awaits_at plan.nodes → Awaits plan v
  awaits found =
      let attempt = (own_state v.state found.place).attempt in
      let parts = and_parts (is_running (phase_of v.state found.place)) (is_none (outcome_in v found.one None attempt))
      found.passes in
      record {
        number = found.place;
        node = found.one;
        planned = found.there;
        runs = parts.0;
        task = ap is_task_target (task-node plan f outer v.state found.place found.one found.there).target;
        unknown = none-is (outcome_in v found.one None attempt) parts.1;
      }

  quiet-awaits : Awaits plan v
  quiet-awaits = ⊎_elim awaits (λ none. absurd (closes none)) (passes-or-none awaits_at plan.nodes)

-- where the round has no legal move, an attempt runs whose end isn't known
pub quiet-round : (plan : RunPlan) (f : Workflow) → IsOuterPlan plan f → IsUncached plan → (v : View)
    → IsViewOfPlan plan v
    → is_running v.state.root.phase ≡ true
    → ((i : ℕ) (p : PlanNode) → node_numbered plan i ≡ Some p → is_succeeding (phase_of v.state i) ≡ false)
    → (told : List Told) → round_moves plan v told ≡ [] → Awaits plan v
quiet-round plan f outer uncached v of_plan runs unstored told quiet =
    quiet-awaits plan f outer uncached v of_plan runs unstored told quiet
