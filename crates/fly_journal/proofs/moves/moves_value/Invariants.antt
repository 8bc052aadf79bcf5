use Rattle.std.proofs.Common.{◌≡◌, ◌++◌, map, drop}
use Rattle.serde_json.specs.View.{items_of}
use Rattle.serde_json.specs.Written.{items_text, compact_text}
use Rattle.fly_journal.specs.Moves.{move_json, moves_json}
use Rattle.fly_journal.proofs.moves.moves_value.Given as goal

-- the text so far and that of the moves that are left are that of all
abbrev pub invariant-loop-m : goal.invariant-loop-m
invariant-loop-m l =
    l.text.items ++ items_text l.later (items_of (map (move_json l.plan) (drop l.m-index l.moves)))
    ≡ compact_text (moves_json l.plan l.moves)
