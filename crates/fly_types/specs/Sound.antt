-- What every literal and type of a document keeps: the ranges and the order of the proto3 JSON mapping, and the limits on levels.
use Rattle.std.specs.Prelude.{◌⊎◌, ℕ, ◌+◌, ◌*◌, ◌^◌, ◌<◌, ◌≤◌, ℤ, pos, neg_ℤ, nat_abs, ◌≤ℤ◌, List, map, length, FitsSigned, ⊤}
use Rattle.std.specs.Int.{w64}
use Rattle.std.specs.List.{All}
use Rattle.std.specs.List.Sorted.{IsStrictlySortedBy}
use Rattle.std.specs.Ordering.{nat_cmp}
use Rattle.std.specs.Cmp.Lexicographic.{slice_cmp}
use Rattle.fly_types.specs.declared.text.Text.{Text}
use Rattle.fly_types.specs.declared.kinds.LiteralType.{LiteralType}
use Rattle.fly_types.specs.declared.kinds.LiteralType.TheOpen.{LiteralType-F}
use Rattle.fly_types.specs.declared.kinds.LiteralType.TheFolds.{every-LiteralType}
use Rattle.fly_types.specs.declared.literals.Literal.{Literal}
use Rattle.fly_types.specs.declared.literals.Literal.TheOpen.{Literal-F}
use Rattle.fly_types.specs.declared.literals.Literal.TheFolds.{every-Literal}
use Rattle.fly_types.specs.declared.literals.LiteralMap.{LiteralMap}
use Rattle.fly_types.specs.declared.literals.Tree.{Tree, out-Tree}
use Rattle.fly_types.specs.declared.literals.Tree.TheOpen.{Tree-F}
use Rattle.fly_types.specs.declared.literals.Tree.TheFolds.{every-Tree}
use Rattle.fly_types.specs.Layer.{TypeLayer, LiteralLayer, TreeLayer}
use Rattle.fly_types.specs.Levels.{max_levels, type_levels, tree_levels, literal_levels}

-- a count of 64 bits holds the length
abbrev pub IsShort : {X : Type 0} → List X → Type 0
IsShort xs = length xs < 2 ^ 64

-- the names rise, by their bytes, so that they differ
abbrev pub AreNamesSorted : {X : Type 0} → List (Text × X) → Type 0
AreNamesSorted entries = IsStrictlySortedBy (slice_cmp nat_cmp) (map (λ entry. entry.0) entries)

abbrev pub AreEntriesSound : {X : Type 0} → List (Text × X) → Type 0
AreEntriesSound entries = IsShort entries × AreNamesSorted entries × All (λ entry. IsShort entry.0) entries

-- ---- types

abbrev pub IsTypeLayerSound : TypeLayer → Type 0
IsTypeLayerSound (LiteralType-F.Blob form) = IsShort form.format
IsTypeLayerSound (LiteralType-F.Enum values) = IsShort values × All IsShort values
IsTypeLayerSound (LiteralType-F.Union variants) = IsShort variants
IsTypeLayerSound _ = ⊤

abbrev pub HasSoundTypeParts : LiteralType → Type 0
HasSoundTypeParts = every-LiteralType IsTypeLayerSound

pub record IsSoundType (t : LiteralType) : Type 0 where
  pub parts : HasSoundTypeParts t
  pub levels : type_levels t ≤ max_levels

-- ---- the content of a STRUCT

-- the whole numbers that a JSON number of 64 bits holds exactly
abbrev pub IsExactWhole : ℤ → Type 0
IsExactWhole z = nat_abs z < 2 ^ 53

abbrev pub IsTreeLayerSound : TreeLayer → Type 0
IsTreeLayerSound (Tree-F.Whole value) = IsExactWhole value
IsTreeLayerSound (Tree-F.Text text) = IsShort text
IsTreeLayerSound (Tree-F.List trees) = IsShort trees
IsTreeLayerSound (Tree-F.Object members) = AreEntriesSound members
IsTreeLayerSound _ = ⊤

abbrev pub HasSoundTreeParts : Tree → Type 0
HasSoundTreeParts = every-Tree IsTreeLayerSound

abbrev pub IsObject : TreeLayer → Type 0
IsObject (Tree-F.Object members) = ⊤
IsObject _ = ⊥

pub record IsSoundStruct (tree : Tree) : Type 0 where
  pub object : IsObject (out-Tree tree)
  pub parts : HasSoundTreeParts tree
  pub levels : tree_levels tree ≤ max_levels

-- ---- literals

-- from 0001-01-01T00:00:00Z to the end of year 9999
pub record IsInstant (seconds : ℤ) (nanos : ℕ) : Type 0 where
  pub after_first : neg_ℤ (pos 62135596800) ≤ℤ seconds
  pub before_last : seconds ≤ℤ pos 253402300799
  pub nanos_below : nanos < 10 ^ 9

abbrev pub HaveOneSign : ℤ → ℤ → Type 0
HaveOneSign a b = ((pos 0 ≤ℤ a) × (pos 0 ≤ℤ b)) ⊎ ((a ≤ℤ pos 0) × (b ≤ℤ pos 0))

-- at most 315,576,000,000 seconds either way, some 10,000 years
pub record IsSpan (seconds nanos : ℤ) : Type 0 where
  pub within : nat_abs seconds * 10 ^ 9 + nat_abs nanos ≤ 315576000000 * 10 ^ 9
  pub nanos_below : nat_abs nanos < 10 ^ 9
  pub one_sign : HaveOneSign seconds nanos

abbrev pub IsLiteralLayerSound : LiteralLayer → Type 0
IsLiteralLayerSound (Literal-F.Integer value) = FitsSigned w64 value
IsLiteralLayerSound (Literal-F.Text text) = IsShort text
IsLiteralLayerSound (Literal-F.Datetime seconds nanos) = IsInstant seconds nanos
IsLiteralLayerSound (Literal-F.Duration seconds nanos) = IsSpan seconds nanos
IsLiteralLayerSound (Literal-F.Blob uri form) = IsShort uri × IsShort form.format
IsLiteralLayerSound (Literal-F.Binary value tag) = IsShort value × IsShort tag
IsLiteralLayerSound (Literal-F.Error node message) = IsShort node × IsShort message
IsLiteralLayerSound (Literal-F.Generic tree) = IsSoundStruct tree
IsLiteralLayerSound (Literal-F.Union value variant) = IsSoundType variant
IsLiteralLayerSound (Literal-F.Collection elements) = IsShort elements
IsLiteralLayerSound (Literal-F.Map entries) = AreEntriesSound entries
IsLiteralLayerSound _ = ⊤

abbrev pub HasSoundParts : Literal → Type 0
HasSoundParts = every-Literal IsLiteralLayerSound

pub record IsSound (l : Literal) : Type 0 where
  pub parts : HasSoundParts l
  pub levels : literal_levels l ≤ max_levels

pub record IsSoundMap (m : LiteralMap) : Type 0 where
  pub names : AreEntriesSound m.entries
  pub literals : All (λ entry. IsSound entry.1) m.entries
