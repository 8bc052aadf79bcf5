-- What `make` prints: the summary of a run of the generated workflow, whose children add.
use Rattle.std.specs.Prelude.{◌≡◌, ◌<◌, ℕ, pos, true, List, [], ◌∷◌, ◌++◌, map, flat_map, length, All, AllPairs, codes, decimal, Some, None, option_to_list}
use Rattle.std.specs.Fmt.{signed_decimal}
use Rattle.sha2.specs.Sha256.{sha256}
use Rattle.fly_types.specs.declared.literals.Literal.{Literal, out-Literal}
use Rattle.fly_types.specs.declared.literals.Literal.TheVariants as literal
use Rattle.fly_types.specs.declared.literals.Literal.TheOpen.{Literal-F}
use Rattle.fly_types.specs.declared.literals.LiteralMap.{LiteralMap}
use Rattle.fly_types.specs.declared.text.Text.{Text}
use Rattle.fly_types.specs.Layer.{LiteralLayer}
use Rattle.fly_ports.specs.Spawner.{run_of}
use Rattle.fly_docs.specs.declared.closure.Closure.{Closure}
use Rattle.fly_docs.specs.declared.submission.Submission.{Submission}
use Rattle.fly_docs.specs.AttemptName.{name_text}
use Rattle.fly_docs.specs.Closures.{closure_of}
use Rattle.fly_docs.specs.TypedClosures.{IsTypedClosure}
use Rattle.fly_writers.specs.Closures.{closure_text}
use Rattle.fly_writers.specs.Literals.{literal_map_text}
use Rattle.fly_state.specs.declared.slots.ExecState.{ExecState}
use Rattle.fly_state.specs.declared.slots.SlotState.{SlotState}
use Rattle.fly_state.specs.declared.entries.Entry.{Entry}
use Rattle.fly_state.specs.declared.entries.Op.{Op}
use Rattle.fly_state.specs.declared.entries.Op.TheVariants as op
use Rattle.fly_state.specs.declared.entries.Reply.TheVariants as reply
use Rattle.fly_state.specs.PlanTables.{IsPlannable}
use Rattle.fly_state.specs.Plans.{RunPlan, plan_for}
use Rattle.fly_world.specs.World.{World, Execution, are_all_over, unsettled}
use Rattle.fly_world.specs.Kept.{Kept}
use Rattle.fly_world.specs.Journals.{IsHistory, beginning}
use Rattle.fly_world.specs.ReadOff.{launched_in}
use Rattle.fly_world.specs.Steps.{are_workflow_inputs}
use Rattle.fly_round.specs.declared.told.Told.{Told}
use Rattle.fly_work.specs.Children.{Child, child_words}
use Rattle.fly_work.specs.Turns.{call_entry, claims_of}
use Rattle.fly_work.specs.Playing.{HasChildren}
use Rattle.fly_work.specs.Drives.{AreTurns, turn_numbered, IsUncached}
use Rattle.fly_generator.specs.Generated.{generated}
use Rattle.fly_generator.specs.Adder.{IsSum}
use Rattle.fly_report.specs.Phases.{phase_name}
use Rattle.fly_report.specs.Lines.{newline}

-- ---- the run

-- what is submitted: m, whose input a is 1
abbrev pub made_submission : Submission
made_submission = record { name = codes "m"; inputs = record { entries = (codes "a", literal.Integer (pos 1)) ∷ [] } }

-- the operation that submits it
abbrev pub made_op : Op
made_op = op.Submit made_submission.name made_submission.inputs

-- the hash by which a journal names its closure
abbrev pub closure_hash : Closure → List ℕ
closure_hash c = sha256 (closure_text c)

-- a run begins, and takes the submission
abbrev pub opening : List ℕ → List Entry
opening hash = beginning hash ∷ record { worker = 0; op = made_op; reply = reply.Submitted } ∷ []

-- the child answered the sum of its inputs
abbrev pub HasSum : Child → Type 0
HasSum k = IsSum (run_of (name_text k.work.name) (child_words k.work) (literal_map_text k.work.inputs) k.answer)

-- A run of a plan, as its store is at its end: opened with the submission, and driven to its end by the turns of one
-- worker, each of whose children answered the sum of its inputs.
pub record IsAddingRun (plan : RunPlan) (hash : List ℕ) (w : World) : Type 0 where
  pub history : IsHistory plan hash w.entries w
  pub turns : List (List Told)
  pub entries : w.entries ≡ opening hash ++ map (call_entry 0) (flat_map (λ calls. calls) turns)
  pub are_turns : AreTurns plan hash w.entries (turn_numbered 1 0) 0 turns
  -- the places of these calls rise through all turns, so each call is the entry of its own place
  pub rising : AllPairs (λ (a b : Told). a.place < b.place) (flat_map (λ calls. calls) turns)
  pub children : List Child
  pub ran : HasChildren plan hash w.entries (flat_map (λ calls. calls) turns) children
  pub all_ran : length children ≡ length (claims_of (flat_map (λ calls. calls) turns))
  pub sums : All HasSum children
  pub over : are_all_over w ≡ true

-- of the generated workflow of so many nodes
pub record IsGeneratedRun (count : ℕ) (w : World) : Type 0 where
  pub closure : Closure
  pub compiled : closure_of (generated count) ≡ Some closure
  pub run : IsAddingRun (plan_for closure) (closure_hash closure) w

-- ---- its summary

abbrev pub number_text : LiteralLayer → List ℕ
number_text (Literal-F.Integer n) = codes " output " ++ signed_decimal n
number_text _ = []

abbrev pub literal_text : Literal → List ℕ
literal_text value = number_text (out-Literal value)

-- the output, where there is one
abbrev pub output_text : SlotState → List ℕ
output_text root =
    flat_map (λ (outputs : LiteralMap). flat_map (λ (entry : Text × Literal). literal_text entry.1) outputs.entries)
    (option_to_list root.outputs)

abbrev pub end_text : ExecState → List ℕ
end_text state = codes " phase " ++ phase_name state.root.phase ++ output_text state.root

-- how many nodes and launches there were, and how the execution ended
abbrev pub summary_text : ℕ → World → List ℕ
summary_text count w =
    codes "nodes " ++ decimal count ++ codes " launches " ++ decimal (length (launched_in w.entries))
    ++ flat_map (λ (x : Execution). end_text x.state) w.executions ++ newline

-- the text is the summary of such a run
abbrev pub IsSummary : ℕ → List ℕ → Type 0
IsSummary count text = (w : World) × IsGeneratedRun count w × (text ≡ summary_text count w)

-- ---- parts, for private contracts

-- what is needed of a closure for a run that adds
pub record IsGeneratedClosure (count : ℕ) (c : Closure) : Type 0 where
  pub compiled : closure_of (generated count) ≡ Some c
  pub typed : IsTypedClosure c
  pub plannable : IsPlannable c
  pub uncached : IsUncached (plan_for c)
  pub inputs : are_workflow_inputs (plan_for c) made_submission.inputs ≡ true

-- the store was opened with the submission, and nothing more
pub record IsOpened (k : Kept) : Type 0 where
  pub entries : k.world.entries ≡ opening k.closure
  pub one : length k.world.executions ≡ 1
  pub settled : unsettled k.world ≡ None

-- the text is the summary of a run of the plan whose children add
abbrev pub IsSummaryOf : ℕ → RunPlan → List ℕ → List ℕ → Type 0
IsSummaryOf count plan hash text = (w : World) × IsAddingRun plan hash w × (text ≡ summary_text count w)
