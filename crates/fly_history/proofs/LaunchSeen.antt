-- In a state that agrees, a node that runs is at an attempt which evaluation gives the inputs that the node takes.
use Rattle.std.proofs.Common.{◌≡◌, ℕ, zero, suc, ◌+◌, ◌<◌, true, if◌then◌else◌, List, replicate, Contains, Some, None, Ok, option_map, refl, sym, ◌∙◌, ap, arith}
use Rattle.std.specs.List.{slice_get, enumerate_from}
use Rattle.std.proofs.lemmas.Bool.{and_from, false≢true}
use Rattle.std.proofs.lemmas.Option.{same_Some}
use Rattle.fly_types.specs.declared.literals.LiteralMap.{LiteralMap}
use Rattle.fly_docs.specs.declared.names.Identifier.{Identifier}
use Rattle.fly_docs.specs.declared.attempt_name.AttemptName.{AttemptName}
use Rattle.fly_docs.specs.declared.node.Node.{Node}
use Rattle.fly_docs.specs.declared.node.Target.{out-Target}
use Rattle.fly_docs.specs.declared.node.Target.TheOpen.{Target-F}
use Rattle.fly_docs.specs.declared.workflow.Workflow.{Workflow}
use Rattle.fly_docs.specs.Plans.{PlanNode}
use Rattle.fly_rules.specs.Standing.{ready}
use Rattle.fly_rules.proofs.GroundLemmas.{Contains-flat_map}
use Rattle.fly_state.specs.declared.phase.Phase.{Phase}
use Rattle.fly_state.specs.declared.phase.Phase.TheVariants as phase
use Rattle.fly_state.specs.declared.slots.ExecState.{ExecState}
use Rattle.fly_state.specs.Inputs.{inputs_of_node, value_in}
use Rattle.fly_state.specs.Moves.{attempt_limit}
use Rattle.fly_state.specs.OfPlan.{IsOfPlan}
use Rattle.fly_state.specs.PlanTables.{IsOuterPlan, outer_node}
use Rattle.fly_state.specs.Plans.{RunPlan, node_numbered, is_task, is_task_target}
use Rattle.fly_state.specs.States.{own_state, phase_of, is_running}
use Rattle.fly_state.proofs.AskedInputs.{task-there}
use Rattle.fly_state.proofs.Lists.{first_in, enumerated-at}
use Rattle.fly_state.proofs.OuterNodes.{planned-at}
use Rattle.fly_world.proofs.TypeLemmas.{contained}
use Rattle.fly_eval.specs.declared.results.Results.{Results}
use Rattle.fly_eval.specs.declared.results.Hits.{Hits}
use Rattle.fly_eval.specs.declared.seen.Seen.{Seen}
use Rattle.fly_eval.specs.Results.{hit_of}
use Rattle.fly_eval.specs.Attempts.{Attempts, attempts_of}
use Rattle.fly_eval.specs.Evaluation.{Sight, node_slot, by_hit, task_attempts, whole_sight, seen_items, seen_attempts, seen_node, evaluation_of}
use Rattle.fly_agreement.specs.Agreement.{given_inputs, is_under_way, Agrees}
use Rattle.fly_agreement.specs.Laws.{HasNoCached}
use Rattle.fly_agreement.proofs.LaterAgrees.{given-ready}
use Rattle.fly_history.specs.Laws.{HasEvaluatedInputs}
use Rattle.fly_history.proofs.AskedSeen.{given-taken, under_way-given, under_way-inputs}
use Rattle.fly_history.proofs.AttemptCounts.{attempt-counted}

running-under_way : (f : Phase) → is_running f ≡ true → is_under_way f ≡ true
running-under_way phase.Running e = refl
running-under_way _ e = absurd (false≢true e)

replicated-at : {X : Type 0} (n k : ℕ) (x : X) → k < n → slice_get (replicate n x) k ≡ Some x
replicated-at zero k x lt = absurd (omega arith)
replicated-at (suc n) zero x lt = refl
replicated-at (suc n) (suc k) x lt = replicated-at n k x (omega arith)

-- the node of a number stands there in the numbered list
numbered-there : (plan : RunPlan) (i : ℕ) (p : PlanNode) → node_numbered plan i ≡ Some p
    → Contains (enumerate_from 0 plan.nodes) (i, p)
numbered-there plan i p is =
    let number : 0 + i ≡ i = omega arith in
    contained (enumerate_from 0 plan.nodes) i (i, p)
    (enumerated-at 0 plan.nodes i ∙ ap (option_map (λ (q : PlanNode). (0 + i, q))) is ∙ ap (λ k. Some (k, p)) number)

-- the attempts of a task that is entered with these inputs
attempts-of-task : (plan : RunPlan) (results : Results) (hits : Hits) (p : PlanNode) (given : LiteralMap)
    (list : List LiteralMap)
    (id : Identifier) → out-Target p.node.target ≡ Target-F.Task id
    → replicate (task_attempts plan results hits p).count given ≡ list
    → seen_attempts plan results hits p (record { standing = ready; inputs = Ok given }) ≡ list
attempts-of-task plan results hits p given list id is e = rw is e

module _ (plan : RunPlan) (w : Workflow) (outer : IsOuterPlan plan w) (uncached : HasNoCached plan)
    (inputs : LiteralMap)
    (results : Results) (hits : Hits) (s : ExecState) (of_plan : IsOfPlan plan s)
    (agrees : Agrees plan inputs results hits s)
    (i : ℕ) (n : Node) (there : slice_get w.nodes i ≡ Some n) where
  abbrev p : PlanNode
  p = outer_node w (i, n)

  abbrev sight : Sight
  sight = whole_sight plan inputs results hits

  abbrev run : Attempts
  run = attempts_of results (node_slot p) (attempt_limit plan p)

  -- the attempts of the node as evaluation has them, where it is given these inputs
  attempts-seen : (given : LiteralMap) → given_inputs (sight.entering i) ≡ Some given
      → seen_attempts plan results hits p (sight.entering i) ≡ replicate run.count given
  attempts-seen given is =
      let e = sight.entering i in
      let stands = given-ready e.standing e.inputs given is in
      let takes = given-taken e.standing e.inputs given is in
      let task = task-there plan w outer i n there in
      let all : task_attempts plan results hits p ≡ run =
      ap (λ b. if b then by_hit (hit_of hits p.path) run else run) (uncached i p (planned-at plan w outer i n there)) in
      (λ k. seen_attempts plan results hits p (record { standing = stands k; inputs = takes k }))
      ∙ attempts-of-task plan results hits p given (replicate run.count given) task.0 task.2
      (ap (λ (a : Attempts). replicate a.count given) all)

  -- the attempt at which the node runs is there with what it takes
  pub launch-seen : is_running (phase_of s i) ≡ true → (given : LiteralMap) → inputs_of_node plan s p None ≡ Ok given
      → (name : AttemptName) → p.path ≡ name.path → None ≡ name.item → (own_state s i).attempt ≡ name.attempt
      → HasEvaluatedInputs (evaluation_of plan inputs results hits) name given
  launch-seen runs given takes name path item attempt =
      let goes = running-under_way (phase_of s i) runs in
      let planned = planned-at plan w outer i n there in
      let own = under_way-given plan w outer inputs results hits s of_plan agrees i n there goes in
      let owned = under_way-inputs plan w outer inputs results hits s of_plan agrees i n there goes in
      let same : own.0 ≡ given = same_Some own.0 given (ap value_in (sym owned ∙ takes)) in
      let x : Seen =
      record {
        path = p.path;
        item = None;
        verdict = sight.verdict i;
        attempts = seen_attempts plan results hits p
            (sight.entering i);
      } in
      let first : Contains (seen_node plan results hits sight (i, p)) x = first_in x
      (seen_items plan results p (sight.entering i)) in
      let runs_task : is_task n ≡ true = ap is_task_target (task-there plan w outer i n there).2 in
      let again = (agrees.nodes i p planned).running
      (and_from (is_task n) (is_running (phase_of s i)) runs_task runs) in
      let within = attempt-counted plan results p (node_slot p) (own_state s i).attempt again in (
        x,
        Contains-flat_map (seen_node plan results hits sight) (enumerate_from 0 plan.nodes) (i, p) x
            (numbered-there plan i p planned) first,
        path,
        item,
        ap (slice_get x.attempts) (sym attempt)
            ∙ ap (λ xs. slice_get xs (own_state s i).attempt) (attempts-seen own.0 own.1)
            ∙ replicated-at run.count (own_state s i).attempt own.0 within
            ∙ ap Some same,
      )
