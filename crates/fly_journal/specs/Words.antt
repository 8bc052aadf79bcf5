-- The words of operations, replies and steps in the journal.
use Rattle.std.specs.Prelude.{ℕ, List, codes}
use Rattle.fly_state.specs.declared.entries.Op.{Op}
use Rattle.fly_state.specs.declared.entries.Op.TheVariants as op
use Rattle.fly_state.specs.declared.entries.Reply.{Reply}
use Rattle.fly_state.specs.declared.entries.Reply.TheVariants as reply
use Rattle.fly_state.specs.declared.moves.Step.{Step}
use Rattle.fly_state.specs.declared.moves.Step.TheVariants as step

-- the word of an operation
abbrev pub op_word : Op → List ℕ
op_word (op.Begin closure) = codes "begin"
op_word (op.Import dataset tag content) = codes "import"
op_word (op.Submit exec inputs) = codes "submit"
op_word (op.Tick now) = codes "tick"
op_word op.Sweep = codes "sweep"
op_word (op.Read from back) = codes "read"
op_word (op.Lookup exec path) = codes "lookup"
op_word (op.Reserve exec path) = codes "reserve"
op_word (op.Launch name inputs) = codes "launch"
op_word (op.Expire name) = codes "expire"
op_word (op.Put exec path) = codes "put"
op_word (op.Write exec base moves) = codes "write"
op_word op.Claim = codes "claim"
op_word (op.Finish name outcome) = codes "finish"

-- the word of a reply
abbrev pub reply_word : Reply → List ℕ
reply_word reply.Begun = codes "begun"
reply_word reply.Imported = codes "imported"
reply_word reply.Submitted = codes "submitted"
reply_word reply.Taken = codes "taken"
reply_word (reply.Now moment) = codes "now"
reply_word (reply.Swept count) = codes "swept"
reply_word reply.Idle = codes "idle"
reply_word (reply.Viewed exec version current) = codes "viewed"
reply_word reply.NotReady = codes "notReady"
reply_word (reply.Hit content) = codes "hit"
reply_word reply.Miss = codes "miss"
reply_word (reply.Granted expiry) = codes "granted"
reply_word (reply.HeldBy owner expiry) = codes "heldBy"
reply_word reply.Already = codes "already"
reply_word reply.NotRunning = codes "notRunning"
reply_word reply.BadInputs = codes "badInputs"
reply_word reply.Launched = codes "launched"
reply_word reply.NotClaimed = codes "notClaimed"
reply_word reply.AlreadySettled = codes "alreadySettled"
reply_word reply.NotDue = codes "notDue"
reply_word reply.Expired = codes "expired"
reply_word reply.Present = codes "present"
reply_word reply.Stored = codes "stored"
reply_word (reply.Stale current) = codes "stale"
reply_word (reply.IllegalMove index) = codes "illegalMove"
reply_word (reply.Written version) = codes "written"
reply_word reply.Nothing = codes "nothing"
reply_word (reply.Claimed name) = codes "claimed"
reply_word reply.Recorded = codes "recorded"
reply_word reply.Unknown = codes "unknown"
reply_word reply.NoMemory = codes "noMemory"

-- the word of a step
abbrev pub step_word : Step → List ℕ
step_word step.Begin = codes "begin"
step_word step.Queue = codes "queue"
step_word (step.Choose case) = codes "choose"
step_word step.NoCase = codes "noCase"
step_word step.InputFail = codes "inputFail"
step_word step.Skip = codes "skip"
step_word (step.Run miss lease) = codes "run"
step_word (step.Hit place) = codes "hit"
step_word step.Retry = codes "retry"
step_word step.Settle = codes "settle"
step_word (step.Stored place) = codes "stored"
step_word step.Close = codes "close"
step_word step.Abort = codes "abort"
