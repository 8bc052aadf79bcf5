-- Small rounds, computed on the definitions.
use Rattle.std.proofs.Common.{◌≡◌, refl, ℕ, Bool, true, false, List, [], ◌∷◌, map, Some, None, codes, pos}
use Rattle.std.specs.List.{enumerate_from}
use Rattle.fly_types.specs.declared.text.Text.{Text}
use Rattle.fly_types.specs.declared.literals.LiteralMap.{LiteralMap}
use Rattle.fly_docs.specs.declared.names.Identifier.{Identifier}
use Rattle.fly_docs.specs.declared.interface.Interface.{Interface}
use Rattle.fly_docs.specs.declared.node.Node.{Node}
use Rattle.fly_docs.specs.declared.node.Target.{out-Target}
use Rattle.fly_docs.specs.declared.node.Target.TheVariants as target
use Rattle.fly_docs.specs.declared.task.Task.{Task}
use Rattle.fly_docs.specs.declared.workflow.Workflow.{Workflow}
use Rattle.fly_rules.specs.Rules.{value_within, solution_of}
use Rattle.fly_state.specs.declared.phase.Phase.{Phase}
use Rattle.fly_state.specs.declared.phase.Phase.TheVariants as phase
use Rattle.fly_state.specs.declared.slots.NodeState.{NodeState}
use Rattle.fly_state.specs.declared.moves.Move.{Move}
use Rattle.fly_state.specs.declared.moves.Step.{Step}
use Rattle.fly_state.specs.declared.moves.Step.TheVariants as steps
use Rattle.fly_state.specs.declared.entries.Op.{Op}
use Rattle.fly_state.specs.declared.entries.Op.TheVariants as op
use Rattle.fly_state.specs.declared.entries.Reply.{Reply}
use Rattle.fly_state.specs.declared.entries.Reply.TheVariants as reply
use Rattle.fly_state.specs.declared.view.View.{View}
use Rattle.fly_state.specs.Plans.{RunPlan}
use Rattle.fly_state.specs.PlanTables.{outer_node}
use Rattle.fly_state.specs.States.{fresh_slot, fresh_node}
use Rattle.fly_round.specs.declared.told.Told.{Told}
use Rattle.fly_round.specs.Questions.{look_up, reserve, launch, put, questions}
use Rattle.fly_round.specs.Moves.{at_node, at_root, round_moves}

-- ---- plans of tasks that take and give nothing

abbrev named : Text → Identifier
named name = record { project = []; domain = []; name = name; version = [] }

abbrev interface : Interface
interface = record { inputs = []; outputs = [] }

abbrev n0 : Text
n0 = codes "n0"

abbrev n1 : Text
n1 = codes "n1"

abbrev n2 : Text
n2 = codes "n2"

abbrev task : Bool → Bool → Task
task cached serializable = record {
  id = named (codes "t");
  cached = cached;
  serializable = serializable;
  cache_version = [];
  timeout_ms = 0;
  retries = 1;
  interface = interface;
  command = [];
  args = [];
}

abbrev node : Text → List Text → Node
node id upstream = record {
  id = id;
  timeout_ms = 0;
  retries = 0;
  inputs = [];
  upstream = upstream;
  target = target.Task (named (codes "t"));
}

abbrev workflow : List Node → Workflow
workflow nodes = record {
  id = named (codes "w");
  fail_late = false;
  interface = interface;
  nodes = nodes;
  outputs = [];
}

abbrev plan : Task → List Node → RunPlan
plan t nodes = record {
  documents = record { tasks = t ∷ []; workflows = workflow nodes ∷ []; primary = named (codes "w") };
  nodes = map (outer_node (workflow nodes)) (enumerate_from 0 nodes);
}

-- n1 after n0
abbrev pair : Task → RunPlan
pair t = plan t (node n0 [] ∷ node n1 (n0 ∷ []) ∷ [])

-- ---- views without launches

abbrev nothing : LiteralMap
nothing = record { entries = [] }

abbrev at_phase : Phase → NodeState
at_phase f = record fresh_node { own = record fresh_slot { phase = f } }

abbrev view : List Phase → View
view phases = record {
  exec = 0;
  name = codes "e1";
  version = 1;
  current = 1;
  state = record { root = record fresh_slot { phase = phase.Running }; nodes = map at_phase phases };
  launches = [];
}

abbrev told : ℕ → Op → Reply → Told
told place o r = record { place = place; op = o; reply = r }

abbrev looks_up : Text → Op
looks_up id = op.Lookup (codes "e1") (id ∷ [])

abbrev reserves : Text → Op
reserves id = op.Reserve (codes "e1") (id ∷ [])

abbrev moves : ℕ → Step → Move
moves i s = record { at = at_node i; step = s }

-- ---- a retry, beside a node that waits

abbrev retrying : View
retrying = view (phase.RetryableFailure ∷ phase.NotYetStarted ∷ [])

retry-asks : questions (pair (task false false)) retrying [] ≡ []
unfolding out-Target denote.Hole.Carrier.out
retry-asks = refl

retry-moves : round_moves (pair (task false false)) retrying [] ≡ moves 0 steps.Retry ∷ []
unfolding solution_of value_within out-Target denote.Hole.Carrier.out
retry-moves = refl

-- ---- a node that runs is launched with its inputs, and does not move

abbrev running : View
running = view (phase.Running ∷ phase.NotYetStarted ∷ [])

running-asks : questions (pair (task false false)) running [] ≡ launch (n0 ∷ []) None 0 nothing ∷ []
unfolding out-Target denote.Hole.Carrier.out
running-asks = refl

running-moves : round_moves (pair (task false false)) running [] ≡ []
unfolding solution_of value_within out-Target denote.Hole.Carrier.out
running-moves = refl

-- ---- a cached node whose outputs the catalog has, before a node that it holds up

abbrev queued : View
queued = view (phase.Queued ∷ phase.NotYetStarted ∷ [])

abbrev hit : List Told
hit = told 7 (looks_up n0) (reply.Hit nothing) ∷ []

hit-asks : questions (pair (task true true)) queued hit ≡ look_up (n0 ∷ []) ∷ []
unfolding out-Target denote.Hole.Carrier.out
hit-asks = refl

hit-moves : round_moves (pair (task true true)) queued hit ≡ moves 0 (steps.Hit 7) ∷ []
unfolding solution_of value_within out-Target denote.Hole.Carrier.out
hit-moves = refl

-- ---- one whose outputs it lacks: it runs, and with a reservation where its task needs one

abbrev miss : List Told
miss = told 7 (looks_up n0) reply.Miss ∷ []

miss-asks : questions (pair (task true false)) queued miss ≡ look_up (n0 ∷ []) ∷ []
unfolding out-Target denote.Hole.Carrier.out
miss-asks = refl

miss-moves : round_moves (pair (task true false)) queued miss ≡ moves 0 (steps.Run (Some 7) None) ∷ []
unfolding solution_of value_within out-Target denote.Hole.Carrier.out
miss-moves = refl

miss-reserves : questions (pair (task true true)) queued miss ≡ look_up (n0 ∷ []) ∷ reserve (n0 ∷ []) ∷ []
unfolding out-Target denote.Hole.Carrier.out
miss-reserves = refl

miss-waits : round_moves (pair (task true true)) queued miss ≡ []
unfolding solution_of value_within out-Target denote.Hole.Carrier.out
miss-waits = refl

abbrev granted : List Told
granted = told 7 (looks_up n0) reply.Miss ∷ told 8 (reserves n0) (reply.Granted (pos 30000)) ∷ []

granted-moves : round_moves (pair (task true true)) queued granted ≡ moves 0 (steps.Run (Some 7) (Some 8)) ∷ []
unfolding solution_of value_within out-Target denote.Hole.Carrier.out
granted-moves = refl

abbrev held : List Told
held = told 7 (looks_up n0) reply.Miss ∷ told 8 (reserves n0) (reply.HeldBy (codes "e2/n0") (pos 30000)) ∷ []

held-moves : round_moves (pair (task true true)) queued held ≡ []
unfolding solution_of value_within out-Target denote.Hole.Carrier.out
held-moves = refl

-- ---- outputs that are being stored

abbrev storing : View
storing = view (phase.Succeeding ∷ phase.NotYetStarted ∷ [])

storing-asks : questions (pair (task true false)) storing [] ≡ put (n0 ∷ []) ∷ []
unfolding out-Target denote.Hole.Carrier.out
storing-asks = refl

stored-moves : round_moves (pair (task true false)) storing (told 9 (op.Put (codes "e1") (n0 ∷ [])) reply.Present ∷ []) ≡ moves 0 (steps.Stored 9) ∷ []
unfolding solution_of value_within out-Target denote.Hole.Carrier.out
stored-moves = refl

-- ---- a broken instance: nothing is asked, and all that is not final is aborted

abbrev broken : View
broken = view (phase.Failed ∷ phase.Running ∷ phase.Queued ∷ [])

abbrev three : Task → RunPlan
three t = plan t (node n0 [] ∷ node n1 [] ∷ node n2 [] ∷ [])

broken-asks : questions (three (task true false)) broken [] ≡ []
unfolding out-Target denote.Hole.Carrier.out
broken-asks = refl

broken-moves : round_moves (three (task true false)) broken [] ≡ moves 1 steps.Abort ∷ moves 2 steps.Abort ∷ []
unfolding solution_of value_within out-Target denote.Hole.Carrier.out
broken-moves = refl

-- ---- the end: all nodes are final, and the root closes

abbrev ended : View
ended = view (phase.Succeeded ∷ phase.Succeeded ∷ [])

ended-moves : round_moves (pair (task false false)) ended [] ≡ record { at = at_root; step = steps.Close } ∷ []
unfolding solution_of value_within out-Target denote.Hole.Carrier.out
ended-moves = refl
