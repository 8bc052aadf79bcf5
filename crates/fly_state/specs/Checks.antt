-- What comes of values that are asked for, without the values.
use Rattle.std.specs.Prelude.{Ok, Err, ⊤}
use Rattle.fly_docs.specs.SlotInputs as docs
use Rattle.fly_docs.specs.SlotInputs.{Taken}
use Rattle.fly_state.specs.declared.checks.Taking.{Taking}
use Rattle.fly_state.specs.declared.checks.Taking.TheVariants as taking

-- the value is there; or it has a text that no value of its enum is; or something is not known
abbrev pub IsTakingOf : {X : Type 0} → Taken X → Taking → Type 0
IsTakingOf (Ok x) taking.There = ⊤
IsTakingOf (Err (docs.enum_outside text)) taking.Outside = ⊤
IsTakingOf (Err docs.unknown) taking.Unknown = ⊤
IsTakingOf _ _ = ⊥
