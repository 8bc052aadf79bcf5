-- The line of an entry in the journal, and which entries have one.
use Rattle.std.specs.Prelude.{◌≡◌, ℕ, Bool, true, false, List, [], ◌∷◌, ◌++◌, Some, codes}
use Rattle.serde_json.specs.Data.{Data, string}
use Rattle.serde_json.specs.Written.{compact_text}
use Rattle.fly_policy.specs.declared.outcome.Outcome.TheVariants as outcome
use Rattle.fly_state.specs.declared.entries.Entry.{Entry}
use Rattle.fly_state.specs.declared.entries.Op.{Op}
use Rattle.fly_state.specs.declared.entries.Op.TheVariants as op
use Rattle.fly_state.specs.declared.moves.Move.{Move}
use Rattle.fly_state.specs.Plans.{RunPlan}
use Rattle.fly_writers.specs.Json.{Fields, message}
use Rattle.fly_journal.specs.Words.{op_word, reply_word}
use Rattle.fly_journal.specs.Moves.{count_json, AreInPlan}
use Rattle.fly_journal.specs.Replies.{reply_fields, is_reply_of}
use Rattle.fly_journal.specs.Ops.{op_fields}

-- what every line has: the words of the operation and of the reply, and the worker
abbrev pub common_fields : Entry → Fields
common_fields e =
    (codes "op", Some (string (op_word e.op))) ∷
    (codes "r", Some (string (reply_word e.reply))) ∷
    (codes "w", Some (count_json e.worker)) ∷ []

-- all fields of an entry; no two of one that has a line share a name
abbrev pub entry_fields : RunPlan → Entry → Fields
entry_fields plan e = op_fields plan e.op ++ reply_fields e.reply ++ common_fields e

-- the JSON of an entry
abbrev pub entry_json : RunPlan → Entry → Data
entry_json plan e = message (entry_fields plan e)

-- the byte that ends a line
abbrev pub newline : ℕ
newline = 10

-- the JSON without spaces, with the keys of each object sorted by their bytes, and a newline
abbrev pub line_text : RunPlan → Entry → List ℕ
line_text plan e = compact_text (entry_json plan e) ++ newline ∷ []

-- the moves that an operation makes
abbrev pub moves_of : Op → List Move
moves_of (op.Write exec base moves) = moves
moves_of _ = []

-- the operation finishes an attempt by a timeout
abbrev pub is_timeout : Op → Bool
is_timeout (op.Finish name outcome.TimedOut) = true
is_timeout _ = false

-- The entry has a line: its moves are at the root or at nodes of the plan, its reply is one that its operation may
-- have, and it finishes no attempt by a timeout.
pub record HasLine (plan : RunPlan) (e : Entry) : Type 0 where
  pub moves : AreInPlan plan (moves_of e.op)
  pub reply : is_reply_of e.op e.reply ≡ true
  pub outcome : is_timeout e.op ≡ false
