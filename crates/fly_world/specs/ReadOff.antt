-- What is read off a journal: the submissions, the launches and claims, the outcomes of attempts, what the catalog
-- answered for nodes, and the versions of an execution.
use Rattle.std.specs.Prelude.{ℕ, ℤ, List, [], ◌∷◌, ◌++◌, map, filter, flat_map, slice_get, bytes_eq, Option, Some, None, option_map, option_and_then, option_to_list, if◌then◌else◌}
use Rattle.fly_types.specs.declared.text.Text.{Text}
use Rattle.fly_types.specs.declared.literals.LiteralMap.{LiteralMap}
use Rattle.fly_docs.specs.declared.attempt_name.AttemptName.{AttemptName}
use Rattle.fly_docs.specs.declared.submission.Submission.{Submission}
use Rattle.fly_policy.specs.declared.outcome.Outcome.{Outcome}
use Rattle.fly_policy.specs.declared.outcome.Outcome.TheVariants as outcome
use Rattle.fly_state.specs.declared.slots.ExecState.{ExecState}
use Rattle.fly_state.specs.declared.moves.Move.{Move}
use Rattle.fly_state.specs.declared.moves.Step.{Step}
use Rattle.fly_state.specs.declared.moves.Step.TheVariants as step
use Rattle.fly_state.specs.declared.entries.Entry.{Entry}
use Rattle.fly_state.specs.declared.entries.Op.{Op}
use Rattle.fly_state.specs.declared.entries.Op.TheVariants as op
use Rattle.fly_state.specs.declared.entries.Reply.{Reply}
use Rattle.fly_state.specs.declared.entries.Reply.TheVariants as reply
use Rattle.fly_state.specs.Plans.{Path}
use Rattle.fly_world.specs.World.{World, Execution, Past, execution_named}
use Rattle.fly_world.specs.Steps.{cut_moment}

-- ---- versions

-- all versions in their order
abbrev pub versions_of : Execution → List ExecState
versions_of x = map (λ (p : Past). p.state) x.past ++ x.state ∷ []

-- the last version of the execution of this name
abbrev pub final_state : World → Text → Option ExecState
final_state w exec = option_map (λ (at : ℕ × Execution). at.1.state) (execution_named w exec)

-- ---- submissions

abbrev pub submissions_by : Op → Reply → List Submission
submissions_by (op.Submit exec inputs) reply.Submitted = record { name = exec; inputs = inputs } ∷ []
submissions_by _ _ = []

-- the submissions of a journal in their order
abbrev pub submissions_in : List Entry → List Submission
submissions_in journal = flat_map (λ (e : Entry). submissions_by e.op e.reply) journal

-- ---- launches and claims

abbrev pub launches_by : Op → Reply → List AttemptName
launches_by (op.Launch name inputs) reply.Launched = name ∷ []
launches_by _ _ = []

abbrev pub claims_by : Op → Reply → List AttemptName
claims_by op.Claim (reply.Claimed name) = name ∷ []
claims_by _ _ = []

-- the names that a journal launches, and those that it hands out, in their order
abbrev pub launched_in : List Entry → List AttemptName
launched_in journal = flat_map (λ (e : Entry). launches_by e.op e.reply) journal

abbrev pub claimed_in : List Entry → List AttemptName
claimed_in journal = flat_map (λ (e : Entry). claims_by e.op e.reply) journal

-- ---- results

-- the attempt that an entry settles, with what it came to
abbrev pub results_by : Op → Reply → List (AttemptName × Outcome)
results_by (op.Finish name o) reply.Recorded = (name, o) ∷ []
results_by (op.Finish name o) reply.Expired = (name, outcome.TimedOut) ∷ []
results_by (op.Expire name) reply.Expired = (name, outcome.TimedOut) ∷ []
results_by _ _ = []

-- what a journal's attempts came to, in order
abbrev pub settled_in : List Entry → List (AttemptName × Outcome)
settled_in journal = flat_map (λ (e : Entry). results_by e.op e.reply) journal

-- the outcomes of an execution's attempts
abbrev pub results_in : List Entry → Text → List (AttemptName × Outcome)
results_in journal exec = filter (λ (r : AttemptName × Outcome). bytes_eq exec r.0.exec) (settled_in journal)

-- ---- the moment

-- what a clock showed, cut to at most 2^62, where that was taken
abbrev pub ticks_by : Op → Reply → List ℤ
ticks_by (op.Tick now) (reply.Now moment) = cut_moment now ∷ []
ticks_by _ _ = []

abbrev pub ticks_in : List Entry → List ℤ
ticks_in journal = flat_map (λ (e : Entry). ticks_by e.op e.reply) journal

-- ---- hits

-- what a look-up found for its path: a content, or nothing
abbrev pub lookup_result : Entry → List (Path × Option LiteralMap)
lookup_result e = by e.op e.reply
  where
    by : Op → Reply → List (Path × Option LiteralMap)
    by (op.Lookup exec path) (reply.Hit content) = (path, Some content) ∷ []
    by (op.Lookup exec path) reply.Miss = (path, None) ∷ []
    by _ _ = []

-- the place of the look-up that a move cites
abbrev pub lookup_place : Step → Option ℕ
lookup_place (step.Hit place) = Some place
lookup_place (step.Run miss lease) = miss
lookup_place _ = None

abbrev pub hits_of_move : List Entry → Move → List (Path × Option LiteralMap)
hits_of_move journal m = flat_map lookup_result
    (option_to_list (option_and_then (slice_get journal) (lookup_place m.step)))

-- the moves of an accepted Write of the execution
abbrev pub written_moves : Text → Entry → List Move
written_moves exec e = by e.op e.reply
  where
    by : Op → Reply → List Move
    by (op.Write other base moves) (reply.Written version) = if bytes_eq exec other then moves else []
    by _ _ = []

-- what the catalog answered for an execution's nodes, as far as an accepted move cites it
abbrev pub hits_in : List Entry → Text → List (Path × Option LiteralMap)
hits_in journal exec = flat_map (hits_of_move journal) (flat_map (written_moves exec) journal)
