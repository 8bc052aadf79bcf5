-- The fields of replies, and which replies an operation may have.
use Rattle.std.specs.Prelude.{ℕ, Bool, true, false, List, [], ◌∷◌, ◌++◌, Some, bytes_eq, codes, if◌then◌else◌}
use Rattle.std.specs.List.{list_any}
use Rattle.serde_json.specs.Data.{string, number}
use Rattle.serde_json.specs.Find.{of_integer}
use Rattle.fly_docs.specs.AttemptName.{name_text}
use Rattle.fly_state.specs.declared.entries.Op.{Op}
use Rattle.fly_state.specs.declared.entries.Op.TheVariants as op
use Rattle.fly_state.specs.declared.entries.Reply.{Reply}
use Rattle.fly_state.specs.declared.entries.Reply.TheVariants as reply
use Rattle.fly_world.specs.Journals.{is_begin}
use Rattle.fly_writers.specs.Json.{Fields}
use Rattle.fly_writers.specs.Literals.{literal_map_json}
use Rattle.fly_journal.specs.Words.{reply_word}
use Rattle.fly_journal.specs.Moves.{count_json}

-- what a reply tells
abbrev pub reply_fields : Reply → Fields
reply_fields (reply.Now moment) = (codes "moment", Some (number (of_integer moment))) ∷ []
reply_fields (reply.Swept count) = (codes "count", Some (count_json count)) ∷ []
reply_fields (reply.Viewed exec version current) =
    (codes "exec", Some (string exec)) ∷
    (codes "version", Some (count_json version)) ∷
    (codes "current", Some (count_json current)) ∷ []
reply_fields (reply.Hit content) = (codes "found", Some (literal_map_json content)) ∷ []
reply_fields (reply.Granted expiry) = (codes "expiry", Some (number (of_integer expiry))) ∷ []
reply_fields (reply.HeldBy owner expiry) =
    (codes "owner", Some (string owner)) ∷
    (codes "expiry", Some (number (of_integer expiry))) ∷ []
reply_fields (reply.Stale current) = (codes "current", Some (count_json current)) ∷ []
reply_fields (reply.IllegalMove index) = (codes "index", Some (count_json index)) ∷ []
reply_fields (reply.Written version) = (codes "version", Some (count_json version)) ∷ []
reply_fields (reply.Claimed name) = (codes "name", Some (string (name_text name))) ∷ []
reply_fields _ = []

-- the words of the replies that an operation itself has
abbrev pub own_replies : Op → List (List ℕ)
own_replies (op.Begin closure) = codes "begun" ∷ []
own_replies (op.Import dataset tag content) = codes "imported" ∷ []
own_replies (op.Submit exec inputs) = codes "submitted" ∷ codes "taken" ∷ []
own_replies (op.Tick now) = codes "now" ∷ []
own_replies op.Sweep = codes "swept" ∷ []
own_replies (op.Read from back) = codes "idle" ∷ codes "viewed" ∷ []
own_replies (op.Lookup exec path) = codes "notReady" ∷ codes "hit" ∷ codes "miss" ∷ []
own_replies (op.Reserve exec path) = codes "notReady" ∷ codes "granted" ∷ codes "heldBy" ∷ []
own_replies (op.Launch name inputs) =
    codes "already" ∷ codes "notRunning" ∷ codes "badInputs" ∷ codes "launched" ∷ []
own_replies (op.Expire name) =
    codes "notClaimed" ∷ codes "alreadySettled" ∷ codes "notDue" ∷ codes "expired" ∷ []
own_replies (op.Put exec path) = codes "notReady" ∷ codes "present" ∷ codes "stored" ∷ []
own_replies (op.Write exec base moves) = codes "stale" ∷ codes "illegalMove" ∷ codes "written" ∷ []
own_replies op.Claim = codes "nothing" ∷ codes "claimed" ∷ []
own_replies (op.Finish name outcome) =
    codes "notClaimed" ∷ codes "alreadySettled" ∷ codes "expired" ∷ codes "recorded" ∷ []

-- it names an execution or an attempt that has to be there, and may be unknown
abbrev pub may_be_unknown : Op → Bool
may_be_unknown (op.Lookup exec path) = true
may_be_unknown (op.Reserve exec path) = true
may_be_unknown (op.Launch name inputs) = true
may_be_unknown (op.Expire name) = true
may_be_unknown (op.Put exec path) = true
may_be_unknown (op.Write exec base moves) = true
may_be_unknown (op.Finish name outcome) = true
may_be_unknown _ = false

-- the words of all replies that an operation may have; memory may be wanting for any but a beginning
abbrev pub reply_words : Op → List (List ℕ)
reply_words o =
    own_replies o ++ (if may_be_unknown o then codes "unknown" ∷ [] else [])
    ++ (if is_begin o then [] else codes "noMemory" ∷ [])

-- the operation may have the reply
abbrev pub is_reply_of : Op → Reply → Bool
is_reply_of o r = list_any (bytes_eq (reply_word r)) (reply_words o)
