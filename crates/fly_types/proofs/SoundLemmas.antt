-- What is sound layer by layer is sound, and the other way round.
use Rattle.std.proofs.Common.{◌≡◌, List, [], ◌∷◌, refl, ap, map}
use Rattle.std.specs.List.{AllByRecursion}
use Rattle.fly_types.specs.declared.text.Text.{Text}
use Rattle.fly_types.specs.declared.kinds.LiteralType.{roll-LiteralType}
use Rattle.fly_types.specs.declared.kinds.LiteralType.TheOpen.{LiteralType-F}
use Rattle.fly_types.specs.declared.kinds.LiteralType.TheFolds.{every_made-LiteralType}
use Rattle.fly_types.specs.declared.literals.Literal.{roll-Literal}
use Rattle.fly_types.specs.declared.literals.Literal.TheOpen.{Literal-F}
use Rattle.fly_types.specs.declared.literals.Literal.TheFolds.{every_made-Literal}
use Rattle.fly_types.specs.declared.literals.Tree.{roll-Tree}
use Rattle.fly_types.specs.declared.literals.Tree.TheOpen.{Tree-F}
use Rattle.fly_types.specs.declared.literals.Tree.TheFolds.{every_made-Tree}
use Rattle.fly_types.specs.Layer.{TypeLayer, LiteralLayer, TreeLayer}
use Rattle.fly_types.specs.Sound.{IsTypeLayerSound, HasSoundTypeParts, IsTreeLayerSound, HasSoundTreeParts, IsLiteralLayerSound, HasSoundParts}
use Rattle.fly_types.proofs.TypeTells.{TypesHeld}
use Rattle.fly_types.proofs.TreeTells.{TreesHeld}
use Rattle.fly_types.proofs.LiteralTells.{LiteralsHeld}

-- a list, with what holds of each element beside it
module _ {X : Type 0} (P : X → Type 0) where
  beside : (xs : List X) → AllByRecursion P xs → List ((x : X) × P x)
  beside [] all = []
  beside (x ∷ xs) all = (x, all.0) ∷ beside xs all.1

  beside-front : (xs : List X) (all : AllByRecursion P xs) → map (λ e. e.0) (beside xs all) ≡ xs
  unfolding beside
  beside-front [] all = refl
  beside-front (x ∷ xs) all = λ i. x ∷ beside-front xs all.1 i

  entries_beside : (es : List (Text × X)) → AllByRecursion (λ (e : Text × X). P e.1) es → List (Text × ((x : X) × P x))
  entries_beside [] all = []
  entries_beside (e ∷ es) all = (e.0, (e.1, all.0)) ∷ entries_beside es all.1

  entries_beside-front : (es : List (Text × X)) (all : AllByRecursion (λ (e : Text × X). P e.1) es) → map (λ e. (e.0, e.1.0)) (entries_beside es all) ≡ es
  unfolding entries_beside
  entries_beside-front [] all = refl
  entries_beside-front (e ∷ es) all = λ i. e ∷ entries_beside-front es all.1 i

pub HasSoundTypeParts-roll : (z : TypeLayer) → IsTypeLayerSound z → TypesHeld HasSoundTypeParts z → HasSoundTypeParts (roll-LiteralType z)
HasSoundTypeParts-roll (LiteralType-F.Simple s) p h = every_made-LiteralType IsTypeLayerSound (LiteralType-F.Simple s) (LiteralType-F.Simple s) refl p
HasSoundTypeParts-roll (LiteralType-F.Collection t) p h = every_made-LiteralType IsTypeLayerSound (LiteralType-F.Collection t) (LiteralType-F.Collection (t, h)) refl p
HasSoundTypeParts-roll (LiteralType-F.Map t) p h = every_made-LiteralType IsTypeLayerSound (LiteralType-F.Map t) (LiteralType-F.Map (t, h)) refl p
HasSoundTypeParts-roll (LiteralType-F.Blob form) p h = every_made-LiteralType IsTypeLayerSound (LiteralType-F.Blob form) (LiteralType-F.Blob form) refl p
HasSoundTypeParts-roll (LiteralType-F.Enum values) p h = every_made-LiteralType IsTypeLayerSound (LiteralType-F.Enum values) (LiteralType-F.Enum values) refl p
HasSoundTypeParts-roll (LiteralType-F.Union ts) p h =
    every_made-LiteralType IsTypeLayerSound (LiteralType-F.Union ts) (LiteralType-F.Union (beside HasSoundTypeParts ts h))
    (ap LiteralType-F.Union (beside-front HasSoundTypeParts ts h)) p

pub HasSoundTreeParts-roll : (z : TreeLayer) → IsTreeLayerSound z → TreesHeld HasSoundTreeParts z → HasSoundTreeParts (roll-Tree z)
HasSoundTreeParts-roll Tree-F.Null p h = every_made-Tree IsTreeLayerSound Tree-F.Null Tree-F.Null refl p
HasSoundTreeParts-roll (Tree-F.Bool value) p h = every_made-Tree IsTreeLayerSound (Tree-F.Bool value) (Tree-F.Bool value) refl p
HasSoundTreeParts-roll (Tree-F.Whole value) p h = every_made-Tree IsTreeLayerSound (Tree-F.Whole value) (Tree-F.Whole value) refl p
HasSoundTreeParts-roll (Tree-F.Text text) p h = every_made-Tree IsTreeLayerSound (Tree-F.Text text) (Tree-F.Text text) refl p
HasSoundTreeParts-roll (Tree-F.List ts) p h =
    every_made-Tree IsTreeLayerSound (Tree-F.List ts) (Tree-F.List (beside HasSoundTreeParts ts h)) (ap Tree-F.List (beside-front HasSoundTreeParts ts h)) p
HasSoundTreeParts-roll (Tree-F.Object ms) p h =
    every_made-Tree IsTreeLayerSound (Tree-F.Object ms) (Tree-F.Object (entries_beside HasSoundTreeParts ms h))
    (ap Tree-F.Object (entries_beside-front HasSoundTreeParts ms h)) p

pub HasSoundParts-roll : (z : LiteralLayer) → IsLiteralLayerSound z → LiteralsHeld HasSoundParts z → HasSoundParts (roll-Literal z)
HasSoundParts-roll (Literal-F.Union value variant) p h =
    every_made-Literal IsLiteralLayerSound (Literal-F.Union value variant) (Literal-F.Union (value, h) variant) refl p
HasSoundParts-roll (Literal-F.Collection ls) p h =
    every_made-Literal IsLiteralLayerSound (Literal-F.Collection ls) (Literal-F.Collection (beside HasSoundParts ls h)) (ap Literal-F.Collection (beside-front HasSoundParts ls h)) p
HasSoundParts-roll (Literal-F.Map es) p h =
    every_made-Literal IsLiteralLayerSound (Literal-F.Map es) (Literal-F.Map (entries_beside HasSoundParts es h)) (ap Literal-F.Map (entries_beside-front HasSoundParts es h)) p
HasSoundParts-roll Literal-F.None p h = every_made-Literal IsLiteralLayerSound Literal-F.None Literal-F.None refl p
HasSoundParts-roll (Literal-F.Integer value) p h = every_made-Literal IsLiteralLayerSound (Literal-F.Integer value) (Literal-F.Integer value) refl p
HasSoundParts-roll (Literal-F.Text text) p h = every_made-Literal IsLiteralLayerSound (Literal-F.Text text) (Literal-F.Text text) refl p
HasSoundParts-roll (Literal-F.Boolean value) p h = every_made-Literal IsLiteralLayerSound (Literal-F.Boolean value) (Literal-F.Boolean value) refl p
HasSoundParts-roll (Literal-F.Datetime seconds nanos) p h = every_made-Literal IsLiteralLayerSound (Literal-F.Datetime seconds nanos) (Literal-F.Datetime seconds nanos) refl p
HasSoundParts-roll (Literal-F.Duration seconds nanos) p h = every_made-Literal IsLiteralLayerSound (Literal-F.Duration seconds nanos) (Literal-F.Duration seconds nanos) refl p
HasSoundParts-roll (Literal-F.Blob uri form) p h = every_made-Literal IsLiteralLayerSound (Literal-F.Blob uri form) (Literal-F.Blob uri form) refl p
HasSoundParts-roll (Literal-F.Binary value tag) p h = every_made-Literal IsLiteralLayerSound (Literal-F.Binary value tag) (Literal-F.Binary value tag) refl p
HasSoundParts-roll (Literal-F.Error node message) p h = every_made-Literal IsLiteralLayerSound (Literal-F.Error node message) (Literal-F.Error node message) refl p
HasSoundParts-roll (Literal-F.Generic tree) p h = every_made-Literal IsLiteralLayerSound (Literal-F.Generic tree) (Literal-F.Generic tree) refl p
