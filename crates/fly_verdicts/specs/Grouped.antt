-- What a journal records, in a list for each execution, by the numbers of executions. Private contracts alone cite this
-- file.
use Rattle.std.specs.Prelude.{◌≡◌, ℕ, ◌<◌, ◌≤◌, ◌==◌, Bool, false, List, [], ◌++◌, map, filter, flat_map, length, slice_get, Option, Some, if◌then◌else◌}
use Rattle.std.specs.Option.{option_map_or}
use Rattle.std.specs.Global.{Vec}
use Rattle.fly_types.specs.declared.text.Text.{Text}
use Rattle.fly_types.specs.declared.literals.LiteralMap.{LiteralMap}
use Rattle.fly_docs.specs.declared.attempt_name.AttemptName.{AttemptName}
use Rattle.fly_policy.specs.declared.outcome.Outcome.{Outcome}
use Rattle.fly_state.specs.declared.entries.Entry.{Entry}
use Rattle.fly_state.specs.declared.entries.Op.{Op}
use Rattle.fly_state.specs.declared.entries.Op.TheVariants as op
use Rattle.fly_state.specs.declared.entries.Reply.{Reply}
use Rattle.fly_state.specs.declared.entries.Reply.TheVariants as reply
use Rattle.fly_state.specs.declared.moves.Move.{Move}
use Rattle.fly_state.specs.Plans.{Path}
use Rattle.fly_world.specs.ReadOff.{results_by, hits_of_move}
use Rattle.fly_report.specs.LaunchCounts.{Numbers, numbered_in}

-- what an attempt came to
abbrev pub Settled : Type 0
Settled = AttemptName × Outcome

-- what the catalog answered for a node
abbrev pub Answered : Type 0
Answered = Path × Option LiteralMap

-- the lists of a table
abbrev pub lists_of : {T : Type 0} → List (Vec T) → List (List T)
lists_of {T} table = map (λ (v : Vec T). v.items) table

-- There are so many lists, and each from a number on is that of its number.
abbrev pub HasListsFrom : {T : Type 0} → ℕ → ℕ → (ℕ → List T) → List (List T) → Type 0
HasListsFrom start count of lists =
    (length lists ≡ count) × ((i : ℕ) → start ≤ i → i < count → slice_get lists i ≡ Some (of i))

-- so is each list
abbrev pub HasLists : {T : Type 0} → ℕ → (ℕ → List T) → List (List T) → Type 0
HasLists count of lists = HasListsFrom 0 count of lists

-- these items come behind those of their own number
abbrev pub more_at : {T : Type 0} → (ℕ → List T) → ℕ → List T → ℕ → List T
more_at of number items i = of i ++ (if number == i then items else [])

-- each name that has a number has one below the count
abbrev pub HasNumbersBelow : ℕ → Numbers → Type 0
HasNumbersBelow count numbers = (exec : Text) (i : ℕ) → numbered_in numbers exec ≡ Some i → i < count

-- the name is of the execution of this number
abbrev pub is_number : Numbers → ℕ → Text → Bool
is_number numbers i exec = option_map_or (λ j. j == i) (numbered_in numbers exec) false

-- the outcomes of the attempts of the execution of a number
abbrev pub settled_at : Numbers → ℕ → List Entry → List Settled
settled_at numbers i entries =
    filter (λ (r : Settled). is_number numbers i r.0.exec) (flat_map (λ (e : Entry). results_by e.op e.reply) entries)

-- the moves of an accepted Write of the execution of a number
abbrev pub moves_by : Numbers → ℕ → Op → Reply → List Move
moves_by numbers i (op.Write other base moves) (reply.Written version) = if is_number numbers i other then moves else []
moves_by numbers i _ _ = []

-- what the catalog answered for its nodes, as far as these entries of the journal cite it
abbrev pub answered_at : List Entry → Numbers → ℕ → List Entry → List Answered
answered_at journal numbers i entries =
    flat_map (hits_of_move journal) (flat_map (λ (e : Entry). moves_by numbers i e.op e.reply) entries)
