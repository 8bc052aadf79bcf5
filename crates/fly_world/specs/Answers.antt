-- What an answer of the code means, whose change has the texts and numbers by which it is made.
use Rattle.std.specs.Prelude.{◌≡◌, ◌≤◌, ◌<◌, ◌^◌, pos, ◌≤ℤ◌, ℕ, true, false, not, length, slice_get, Option, Some, None, option_map, option_and_then, is_some, is_none, IsTrue, IsSome, ◌&&◌, ⊤}
use Rattle.std.specs.Option.{option_map_or}
use Rattle.fly_attempts.specs.Attempts.{claim_at, settlement_at, number_of}
use Rattle.fly_catalog.specs.Requests.{after_grant, grant_of, tag_of}
use Rattle.fly_catalog.specs.Cached.{owner_text}
use Rattle.fly_state.specs.Plans.{RunPlan}
use Rattle.fly_world.specs.declared.answers.Change as made
use Rattle.fly_world.specs.declared.answers.Change.TheVariants as change
use Rattle.fly_world.specs.declared.answers.Answer as told
use Rattle.fly_world.specs.declared.spots.Spot as numbers
use Rattle.fly_world.specs.World.{World, Execution, Launch, unclaimed, is_submitted}
use Rattle.fly_world.specs.Changes.{Change, no_change, moment_becomes, catalog_becomes, lets_go, adds_execution, adds_launch, adds_claim, adds_outcome, adds_version}
use Rattle.fly_world.specs.Spots.{Spot, is_ended, owner_at}
use Rattle.fly_world.specs.Steps.{Answer, heartbeat, max_executions, with_artifact_under}
use Rattle.fly_world.specs.Store.{StoreLists, attempts_in, execution_numbered, spot_at}

-- the change by what it names in the store; nothing where that is not there
abbrev pub change_of : RunPlan → World → made.Change → Change
change_of plan w change.Nothing = no_change
change_of plan w (change.Moment moment) = moment_becomes moment
change_of plan w change.Sweep = lets_go (is_ended plan w)
change_of plan w (change.Stores dataset tag content) = catalog_becomes (with_artifact_under w.catalog dataset tag content)
change_of plan w (change.Reserves spot dataset tag owner) =
    catalog_becomes (after_grant w.catalog dataset tag owner (grant_of w.catalog dataset tag owner w.moment heartbeat))
change_of plan w (change.Execution submission state) = adds_execution submission.name submission.inputs state
change_of plan w (change.Launch name inputs) = adds_launch name inputs
change_of plan w change.Claim = option_map_or (λ (l : Launch). adds_claim l.name) (unclaimed w) no_change
change_of plan w (change.Outcome number outcome) =
    option_map_or (λ (l : Launch). adds_outcome l.name outcome) (slice_get w.launches number) no_change
change_of plan w (change.Version number state) =
    option_map_or (λ at. adds_version at state) (execution_numbered w number) no_change

-- the answer that is meant in a world
abbrev pub answer_of : RunPlan → World → told.Answer → Answer
answer_of plan w a = record { reply = a.reply; change = change_of plan w a.change }

-- the answer that is meant in the store; none where there is none
abbrev pub answer_in : StoreLists → Option told.Answer → Option Answer
answer_in s a = option_map (answer_of s.plan s.world) a

-- The store has what the change names, and lacks what it adds.
abbrev pub CanMake : StoreLists → made.Change → Type 0
CanMake s change.Nothing = ⊤
CanMake s (change.Moment moment) = moment ≤ℤ pos (2 ^ 62)
CanMake s change.Sweep = ⊤
CanMake s (change.Stores dataset tag content) = tag_of s.world.catalog dataset tag ≡ None
CanMake s (change.Reserves spot dataset tag owner) =
    option_map owner_at (spot_at s.plan s.world spot) ≡ Some owner
CanMake s (change.Execution submission state) =
    (is_submitted s.world submission.name ≡ false) × (length s.world.executions < max_executions)
CanMake s (change.Launch name inputs) = number_of (attempts_in s.world) name ≡ None
CanMake s change.Claim = IsSome (unclaimed s.world)
CanMake s (change.Outcome number outcome) =
    IsSome (claim_at (attempts_in s.world) number) × (settlement_at (attempts_in s.world) number ≡ None)
CanMake s (change.Version number state) = number < length s.world.executions

-- the change of an answer, where there is one, can be made
abbrev pub CanMakeAnswer : StoreLists → Option told.Answer → Type 0
CanMakeAnswer s None = ⊤
CanMakeAnswer s (Some a) = CanMake s a.change
