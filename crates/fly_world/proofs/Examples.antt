-- A small journal, computed on the definitions: two workers at one execution of one node.
use Rattle.std.proofs.Common.{◌≡◌, ◌≤◌, refl, ℕ, length, All, arith, true, false, List, [], ◌∷◌, ◌++◌, Some, None, codes, Option}
use Rattle.std.specs.Prelude.{pos}
use Rattle.std.proofs.lemmas.List.Elements.{All-nil, All-cons}
use Rattle.fly_types.specs.declared.text.Text.{Text}
use Rattle.fly_types.specs.declared.literals.LiteralMap.{LiteralMap}
use Rattle.fly_docs.specs.declared.attempt_name.AttemptName.{AttemptName}
use Rattle.fly_docs.specs.declared.names.Identifier.{Identifier}
use Rattle.fly_docs.specs.declared.interface.Interface.{Interface}
use Rattle.fly_docs.specs.declared.node.Node.{Node}
use Rattle.fly_docs.specs.declared.node.Target.{out-Target}
use Rattle.fly_docs.specs.declared.node.Target.TheVariants as target
use Rattle.fly_docs.specs.declared.task.Task.{Task}
use Rattle.fly_docs.specs.declared.workflow.Workflow.{Workflow}
use Rattle.fly_policy.specs.declared.outcome.Outcome.TheVariants as outcome
use Rattle.fly_state.specs.declared.moves.Step.{Step}
use Rattle.fly_state.specs.declared.moves.Step.TheVariants as steps
use Rattle.fly_state.specs.declared.entries.Op.{Op}
use Rattle.fly_state.specs.declared.entries.Op.TheVariants as op
use Rattle.fly_state.specs.declared.entries.Reply.{Reply}
use Rattle.fly_state.specs.declared.entries.Reply.TheVariants as reply
use Rattle.fly_state.specs.Plans.{RunPlan}
use Rattle.fly_types.specs.Same.{same_map}
use Rattle.fly_types.proofs.SameLemmas.{same_map-Decides}
use Rattle.fly_rules.specs.Rules.{value_within, solution_of}
use Rattle.fly_docs.specs.Names.{IsId}
use Rattle.fly_world.specs.World.{World, empty_world}
use Rattle.fly_world.specs.Changes.{adds_launch, with_change, with_entry}
use Rattle.fly_world.specs.Steps.{Answer, does, step}
use Rattle.fly_world.proofs.NameLemmas.{id-from}

-- ---- one node

abbrev named : List ℕ → Identifier
named name = record { project = []; domain = []; name = name; version = [] }

abbrev interface : Interface
interface = record { inputs = []; outputs = [] }

abbrev n0 : Text
n0 = codes "n0"

abbrev e1 : Text
e1 = codes "e1"

abbrev task : Task
task = record {
  id = named (codes "inc");
  cached = false;
  serializable = false;
  cache_version = [];
  timeout_ms = 1000;
  retries = 0;
  interface = interface;
  command = [];
  args = [];
}

abbrev node : Node
node = record {
  id = n0;
  timeout_ms = 0;
  retries = 0;
  inputs = [];
  upstream = [];
  target = target.Task (named (codes "inc"));
}

abbrev workflow : Workflow
workflow = record {
  id = named (codes "w");
  fail_late = false;
  interface = interface;
  nodes = node ∷ [];
  outputs = [];
}

abbrev plan : RunPlan
plan = record {
  documents = record { tasks = task ∷ []; workflows = workflow ∷ []; primary = named (codes "w") };
  nodes = record { path = n0 ∷ []; workflow = workflow; place = 0; node = node } ∷ [];
}

abbrev nothing : LiteralMap
nothing = record { entries = [] }

-- ---- replies

-- the replies to operations, each with its worker, one after another; none behind an illegal one
abbrev reply_after : (World → List Reply) → World → ℕ → Op → Option Answer → List Reply
reply_after more w worker o (Some a) = a.reply
    ∷ more (with_entry (with_change w a.change) (record { worker = worker; op = o; reply = a.reply }))
reply_after more w worker o None = []

replies : World → List (ℕ × Op) → List Reply
replies w [] = []
replies w (o ∷ os) = reply_after (λ next. replies next os) w o.0 o.1 (step plan w o.0 o.1)

abbrev write : ℕ → ℕ → Step → ℕ × Op
write worker base st = (
  worker,
  op.Write e1 base
      (record { at = record { node = Some 0; item = None }; step = st } ∷ []),
)

-- the node is queued in version 1
abbrev queued : List (ℕ × Op)
queued = (0, op.Submit e1 nothing) ∷ write 0 0 steps.Queue ∷ []

abbrev run : Step
run = steps.Run None None

abbrev read : ℕ → ℕ × Op
read worker = (worker, op.Read 0 0)

e1-id : IsId e1
e1-id = id-from e1 refl

path-ids : All IsId (n0 ∷ [])
path-ids = All-cons IsId n0 [] (id-from n0 refl) (All-nil IsId)

path-some : 1 ≤ length (n0 ∷ [])
path-some = omega arith

abbrev attempt : ℕ → AttemptName
attempt k = record {
  exec = e1;
  path = n0 ∷ [];
  item = None;
  attempt = k;
  exec_is_id = e1-id;
  path_of_ids = path-ids;
  path_is_some = path-some;
}

abbrev first : AttemptName
first = attempt 0

abbrev second : AttemptName
second = attempt 1

-- of two writes on one version the second is stale
two_writes : replies empty_world (queued ++ read 0 ∷ read 1 ∷ write 1 1 run ∷ write 0 1 run ∷ read 0 ∷ [])
    ≡ reply.Submitted ∷ reply.Written 1 ∷ reply.Viewed e1 1 1 ∷ reply.Viewed e1 1 1 ∷ reply.Written 2 ∷ reply.Stale 2
    ∷ reply.Viewed e1 2 2 ∷ []
unfolding replies step solution_of value_within out-Target denote.Hole.Carrier.out
two_writes = refl

abbrev running : List (ℕ × Op)
running = queued ++ write 1 1 run ∷ []

-- the world behind these operations, as far as they are legal
abbrev world_behind : (World → World) → World → ℕ → Op → Option Answer → World
world_behind more w worker o (Some a) = more
    (with_entry (with_change w a.change) (record { worker = worker; op = o; reply = a.reply }))
world_behind more w worker o None = w

world_after : World → List (ℕ × Op) → World
world_after w [] = w
world_after w (o ∷ os) = world_behind (λ next. world_after next os) w o.0 o.1 (step plan w o.0 o.1)

abbrev w2 : World
w2 = world_after empty_world running

same_nothing : same_map nothing nothing ≡ true
same_nothing = (same_map-Decides nothing nothing).1 refl

-- a launch with the node's inputs is taken
first_launch : step plan w2 0 (op.Launch first nothing) ≡ Some (does reply.Launched (adds_launch first nothing))
unfolding world_after step solution_of value_within out-Target denote.Hole.Carrier.out
first_launch = rw same_nothing refl

abbrev w3 : World
w3 = with_entry (with_change w2 (adds_launch first nothing))
    (record { worker = 0; op = op.Launch first nothing; reply = reply.Launched })

-- an attempt is launched once and claimed once
one_launch : replies w3 ((1, op.Launch first nothing) ∷ (0, op.Launch second nothing) ∷ (0, op.Claim) ∷ (0, op.Claim)
    ∷ [])
    ≡ reply.Already ∷ reply.NotRunning ∷ reply.Claimed first ∷ reply.Nothing ∷ []
unfolding world_after replies step solution_of value_within out-Target denote.Hole.Carrier.out
one_launch = refl

-- a timeout of 1,000 is not over at 999, and over at 1,000; what is settled stays
abbrev claim : ℕ × Op
claim = (0, op.Claim)

abbrev tick : ℕ → ℕ × Op
tick now = (0, op.Tick (pos now))

abbrev expire : ℕ × Op
expire = (0, op.Expire first)

abbrev finish : ℕ × Op
finish = (0, op.Finish first (outcome.Succeeded nothing))

timeout_over : replies w3 (claim ∷ tick 999 ∷ expire ∷ tick 1_000 ∷ expire ∷ finish ∷ [])
    ≡ reply.Claimed first ∷ reply.Now (pos 999) ∷ reply.NotDue ∷ reply.Now (pos 1_000) ∷ reply.Expired
    ∷ reply.AlreadySettled ∷ []
unfolding world_after replies step solution_of value_within out-Target denote.Hole.Carrier.out
timeout_over = refl

finish_in_time : replies w3 (finish ∷ claim ∷ tick 999 ∷ finish ∷ []) ≡ reply.NotClaimed ∷ reply.Claimed first
    ∷ reply.Now (pos 999) ∷ reply.Recorded ∷ []
unfolding world_after replies step solution_of value_within out-Target denote.Hole.Carrier.out
finish_in_time = refl

finish_late : replies w3 (claim ∷ tick 1_000 ∷ finish ∷ []) ≡ reply.Claimed first ∷ reply.Now (pos 1_000)
    ∷ reply.Expired ∷ []
unfolding world_after replies step solution_of value_within out-Target denote.Hole.Carrier.out
finish_late = refl

-- a run of one node to its end: the versions 1 to 4 are made by queue, run, settle and close
abbrev close : ℕ × Op
close = (0, op.Write e1 3 (record { at = record { node = None; item = None }; step = steps.Close } ∷ []))

one_run : replies w3 (claim ∷ finish ∷ write 0 2 steps.Settle ∷ close ∷ (0, op.Sweep) ∷ read 0 ∷ [])
    ≡ reply.Claimed first ∷ reply.Recorded ∷ reply.Written 3 ∷ reply.Written 4 ∷ reply.Swept 0 ∷ reply.Idle ∷ []
unfolding world_after replies step solution_of value_within out-Target denote.Hole.Carrier.out
one_run = refl

-- the root closes only once its node is final, and no move is made twice
too_early : replies empty_world
    (running ++ (0, op.Write e1 2 [])
    ∷ (0, op.Write e1 2 (record { at = record { node = None; item = None }; step = steps.Close } ∷ [])) ∷ [])
    ≡ reply.Submitted ∷ reply.Written 1 ∷ reply.Written 2 ∷ reply.IllegalMove 0 ∷ reply.IllegalMove 0 ∷ []
unfolding replies step solution_of value_within out-Target denote.Hole.Carrier.out
too_early = refl

-- what is not there is unknown, a name is submitted once, and a node that the plan lacks is illegal
odd_names : replies empty_world
    (queued ++ (0, op.Submit e1 nothing) ∷ (0, op.Lookup n0 (n0 ∷ [])) ∷ (0, op.Lookup e1 (e1 ∷ []))
    ∷ (0, op.Lookup e1 (n0 ∷ [])) ∷ [])
    ≡ reply.Submitted ∷ reply.Written 1 ∷ reply.Taken ∷ reply.Unknown ∷ reply.Unknown ∷ reply.NotReady ∷ []
unfolding replies step solution_of value_within out-Target denote.Hole.Carrier.out
odd_names = refl
