-- How a run opens: the operations that worker 0 makes before the first turn. Submissions have their inputs fitted.
use Rattle.std.specs.Prelude.{◌≡◌, ◌-◌, ℕ, not, pos, List, [], ◌∷◌, ◌++◌, map, filter, take, drop, length, codes, Some, None}
use Rattle.std.specs.List.{All}
use Rattle.fly_docs.specs.declared.submission.Submission.{Submission}
use Rattle.fly_policy.specs.declared.outcome.Outcome.{Outcome}
use Rattle.fly_policy.specs.declared.outcome.Outcome.TheVariants as outcome
use Rattle.fly_state.specs.declared.entries.Entry.{Entry}
use Rattle.fly_state.specs.declared.entries.Op.{Op}
use Rattle.fly_state.specs.declared.entries.Op.TheVariants as op
use Rattle.fly_state.specs.declared.entries.Reply.TheVariants as reply
use Rattle.fly_state.specs.Plans.{RunPlan}
use Rattle.fly_state.specs.States.{first_state}
use Rattle.fly_world.specs.declared.stored.Stored.{Stored}
use Rattle.fly_world.specs.Changes.{adds_execution, with_change, with_entry}
use Rattle.fly_world.specs.Journals.{beginning}
use Rattle.fly_world.specs.Kept.{Kept, moved_to}
use Rattle.fly_world.specs.Laws.{submission_of}
use Rattle.fly_world.specs.ReadOff.{submissions_in}
use Rattle.fly_world.specs.Steps.{does, step}
use Rattle.fly_world.specs.World.{World, Execution, Claim, empty_catalog, is_settled, unsettled}
use Rattle.fly_opening.specs.Submissions.{fitted_submission}

-- ---- the operations

abbrev pub import_op : Stored → Op
import_op a = op.Import a.dataset a.tag a.content

abbrev pub submit_op : Submission → Op
submit_op s = op.Submit s.name s.inputs

-- a new run begins for the closure of this hash, and takes the artifacts of the catalog and the submissions, each in
-- its order
abbrev pub new_opening : List ℕ → List Stored → List Submission → List Op
new_opening closure artifacts submissions =
    op.Begin closure ∷ map import_op artifacts ++ map submit_op submissions

-- an attempt that nobody ends any more
abbrev pub interruption : Outcome
interruption = outcome.Recoverable (codes "Interrupted") []

abbrev pub interrupt_op : Claim → Op
interrupt_op c = op.Finish c.name interruption

-- each claimed attempt without an outcome is interrupted, in the order of the claims
abbrev pub interrupt_ops : World → List Op
interrupt_ops w = map interrupt_op (filter (λ (c : Claim). not (is_settled w c.name)) w.claims)

-- a resumed run ends what was claimed, and takes the submissions behind those that the journal has
abbrev pub resumed_opening : World → List Submission → List Op
resumed_opening w submissions =
    interrupt_ops w ++ map submit_op (drop (length (submissions_in w.entries)) submissions)

-- the journal's submissions are the first ones of the document, with their inputs fitted
abbrev pub BeginsWith : RunPlan → List Entry → List Submission → Type 0
BeginsWith plan journal submissions =
    submissions_in journal ≡ map (fitted_submission plan) (take (length (submissions_in journal)) submissions)

-- ---- their entries

-- the entries are worker 0's of these operations, in their order
pub record AreOf (ops : List Op) (entries : List Entry) : Type 0 where
  pub ops_are : map (λ (e : Entry). e.op) entries ≡ ops
  pub worker : All (λ (e : Entry). e.worker ≡ 0) entries

-- a submission that was taken
abbrev pub submit_entry : Submission → Entry
submit_entry s = record { worker = 0; op = submit_op s; reply = reply.Submitted }

-- a new run began, and took the submissions, each in its order
abbrev pub opening_entries : List ℕ → List Submission → List Entry
opening_entries closure submissions = beginning closure ∷ map submit_entry submissions

-- The store of a run that began for the closure of this hash and took the submissions, and nothing more.
pub record IsOpened (plan : RunPlan) (closure : List ℕ) (submissions : List Submission) (k : Kept) : Type 0 where
  pub plan_is : k.plan ≡ plan
  pub closure_is : k.closure ≡ closure
  pub entries : k.world.entries ≡ opening_entries closure submissions
  pub opens : AreOf (new_opening closure [] submissions) k.world.entries
  pub executions : map submission_of k.world.executions ≡ submissions
  pub settled : unsettled k.world ≡ None

-- ---- parts, for private contracts

-- the execution of a submission, before anything else
abbrev pub first_execution : RunPlan → Submission → Execution
first_execution plan s =
    record { name = s.name; inputs = s.inputs; past = []; state = first_state plan s.inputs }

-- the world in which a run has taken these submissions
abbrev pub opened_world : RunPlan → List ℕ → List Submission → World
opened_world plan closure submissions = record {
  executions = map (first_execution plan) submissions;
  launches = [];
  claims = [];
  outcomes = [];
  catalog = empty_catalog;
  moment = pos 0;
  entries = opening_entries closure submissions;
}

-- the store in that world, with room for so many entries less one for each
abbrev pub opened_store : RunPlan → List ℕ → ℕ → List Submission → Kept
opened_store plan closure room submissions = record {
  plan = plan;
  closure = closure;
  world = opened_world plan closure submissions;
  spare = room - length submissions;
}

-- the submission is answered, by a new execution
abbrev pub IsTaken : RunPlan → World → Submission → Type 0
IsTaken plan w s =
    step plan w 0 (submit_op s) ≡ Some (does reply.Submitted (adds_execution s.name s.inputs (first_state plan s.inputs)))

-- the store with the submission's execution and its entry
abbrev pub with_submission : Kept → Submission → Kept
with_submission k s = moved_to k (with_entry (with_change k.world
    (adds_execution s.name s.inputs (first_state k.plan s.inputs))) (submit_entry s))
