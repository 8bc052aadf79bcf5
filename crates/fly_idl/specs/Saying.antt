-- What a child's standard output says, by whether its status is 0.
use Rattle.std.specs.Prelude.{◌≡◌, ◌⊎◌, ℕ, ◌^◌, ◌<◌, ◌≤◌, Bool, true, false, List, [], length}
use Rattle.fly_types.specs.declared.literals.LiteralMap.{LiteralMap}
use Rattle.fly_types.specs.declared.said.Said.{Said}
use Rattle.fly_types.specs.declared.said.Said.TheVariants.{Outputs, TooLarge, Neither}
use Rattle.fly_types.specs.Sound.{IsSoundMap}
use Rattle.fly_idl.specs.Reading.{ReadsLiteralMap, ReadsErrorDocument}

-- the most bytes that a child may write, 1 MiB
abbrev pub output_limit : ℕ
output_limit = 2 ^ 20

-- no bytes are an empty map
abbrev pub MeansOutputs : List ℕ → LiteralMap → Type 0
MeansOutputs bytes outputs = ((bytes ≡ []) × (outputs ≡ record { entries = [] })) ⊎ ReadsLiteralMap bytes outputs

-- the document that the status calls for
abbrev pub IsWanted : Bool → List ℕ → Said → Type 0
IsWanted true bytes said = (outputs : LiteralMap) × (said ≡ Outputs outputs) × MeansOutputs bytes outputs
IsWanted false bytes said = ReadsErrorDocument bytes said

-- what the bytes say
pub data Says (zero : Bool) (bytes : List ℕ) (said : Said) : Type 0 where
  too_large : output_limit < length bytes → said ≡ TooLarge → Says zero bytes said
  neither : length bytes ≤ output_limit → ((s : Said) → IsWanted zero bytes s → ⊥) → said ≡ Neither → Says zero bytes said
  wanted : length bytes ≤ output_limit → IsWanted zero bytes said → Says zero bytes said

-- the outputs, where it has some, are sound
abbrev pub HasSoundOutputs : Said → Type 0
HasSoundOutputs said = (outputs : LiteralMap) → said ≡ Outputs outputs → IsSoundMap outputs
