-- The canonical bytes of each kind of value.
use Rattle.std.proofs.Common.{◌≡◌, ℕ, ℤ, Bool, List, [], ◌∷◌, ◌++◌, map, length, refl, sym, ◌∙◌, ap}
use Rattle.std.proofs.lemmas.List.{length-map}
use Rattle.std.specs.Int.{w32, w64}
use Rattle.std.specs.List.{concat}
use Rattle.fly_types.specs.declared.text.Text.{Text}
use Rattle.fly_types.specs.declared.bytes.Bytes.{Bytes}
use Rattle.fly_types.specs.declared.kinds.Simple.{Simple}
use Rattle.fly_types.specs.declared.kinds.BlobType.{BlobType}
use Rattle.fly_types.specs.declared.kinds.LiteralType.{LiteralType, roll-LiteralType}
use Rattle.fly_types.specs.declared.kinds.LiteralType.TheOpen.{LiteralType-F}
use Rattle.fly_types.specs.declared.kinds.LiteralType.TheViews as tv
use Rattle.fly_types.specs.declared.kinds.LiteralType.TheVariants as t
use Rattle.fly_types.specs.declared.kinds.LiteralType.TheFolds.{fold-roll-LiteralType}
use Rattle.fly_types.specs.declared.literals.Tree.{Tree, roll-Tree}
use Rattle.fly_types.specs.declared.literals.Tree.TheOpen.{Tree-F}
use Rattle.fly_types.specs.declared.literals.Tree.TheViews as rv
use Rattle.fly_types.specs.declared.literals.Tree.TheVariants as r
use Rattle.fly_types.specs.declared.literals.Tree.TheFolds.{fold-roll-Tree}
use Rattle.fly_types.specs.declared.literals.Literal.{Literal, roll-Literal}
use Rattle.fly_types.specs.declared.literals.Literal.TheOpen.{Literal-F}
use Rattle.fly_types.specs.declared.literals.Literal.TheViews as lv
use Rattle.fly_types.specs.declared.literals.Literal.TheVariants as l
use Rattle.fly_types.specs.declared.literals.Literal.TheFolds.{fold-roll-Literal}
use Rattle.fly_types.specs.Layer.{TypeLayer, LiteralLayer, TreeLayer}
use Rattle.fly_types.specs.Canonical.{number_bytes, count_bytes, signed_bytes, flag_bytes, text_bytes, list_bytes, pair_bytes, form_bytes, simple_number, type_bytes_by, type_bytes, tree_bytes_by, tree_bytes, literal_bytes_by, literal_bytes, member_bytes, entry_bytes}

-- many values: their count, and the bytes of each
abbrev pub all_bytes : {X : Type 0} → (X → List ℕ) → List X → List ℕ
all_bytes f xs = count_bytes (length xs) ++ concat (map f xs)

pub list_bytes-map : {X : Type 0} (f : X → List ℕ) (xs : List X) → list_bytes (map f xs) ≡ all_bytes f xs
list_bytes-map f xs = ap (λ n. count_bytes n ++ concat (map f xs)) (length-map xs f)

map-map : {X Y : Type 0} (f : X → Y) (g : Y → List ℕ) (xs : List X) → map g (map f xs) ≡ map (λ x. g (f x)) xs
map-map f g [] = refl
map-map f g (x ∷ xs) = ap (λ ys. g (f x) ∷ ys) (map-map f g xs)

list_bytes-map-map : {X Y : Type 0} (f : X → Y) (g : Y → List ℕ) (xs : List X) → list_bytes (map g (map f xs)) ≡ all_bytes (λ x. g (f x)) xs
list_bytes-map-map f g xs = ap list_bytes (map-map f g xs) ∙ list_bytes-map (λ x. g (f x)) xs

-- one layer of a value, with the bytes of what it holds
abbrev pub type_layer_bytes : TypeLayer → List ℕ
type_layer_bytes (LiteralType-F.Simple s) = 0x10 ∷ simple_number s ∷ []
type_layer_bytes (LiteralType-F.Collection element) = 0x11 ∷ type_bytes element
type_layer_bytes (LiteralType-F.Map value) = 0x12 ∷ type_bytes value
type_layer_bytes (LiteralType-F.Blob form) = 0x13 ∷ form_bytes form
type_layer_bytes (LiteralType-F.Enum values) = 0x14 ∷ all_bytes text_bytes values
type_layer_bytes (LiteralType-F.Union variants) = 0x15 ∷ all_bytes type_bytes variants

pub type_bytes-roll : (d : TypeLayer) → type_bytes (roll-LiteralType d) ≡ type_layer_bytes d
unfolding type_bytes
type_bytes-roll (LiteralType-F.Simple s) = fold-roll-LiteralType (List ℕ) type_bytes_by (LiteralType-F.Simple s)
type_bytes-roll (LiteralType-F.Collection element) = fold-roll-LiteralType (List ℕ) type_bytes_by (LiteralType-F.Collection element)
type_bytes-roll (LiteralType-F.Map value) = fold-roll-LiteralType (List ℕ) type_bytes_by (LiteralType-F.Map value)
type_bytes-roll (LiteralType-F.Blob form) = fold-roll-LiteralType (List ℕ) type_bytes_by (LiteralType-F.Blob form)
type_bytes-roll (LiteralType-F.Enum values) =
    fold-roll-LiteralType (List ℕ) type_bytes_by (LiteralType-F.Enum values) ∙ ap (λ b. 0x14 ∷ b) (list_bytes-map text_bytes values)
type_bytes-roll (LiteralType-F.Union variants) =
    fold-roll-LiteralType (List ℕ) type_bytes_by (LiteralType-F.Union variants) ∙ ap (λ b. 0x15 ∷ b) (list_bytes-map type_bytes variants)

abbrev pub tree_layer_bytes : TreeLayer → List ℕ
tree_layer_bytes Tree-F.Null = 0x00 ∷ []
tree_layer_bytes (Tree-F.Bool value) = 0x01 ∷ flag_bytes value
tree_layer_bytes (Tree-F.Whole value) = 0x02 ∷ signed_bytes w64 value
tree_layer_bytes (Tree-F.Text text) = 0x03 ∷ text_bytes text
tree_layer_bytes (Tree-F.List trees) = 0x04 ∷ all_bytes tree_bytes trees
tree_layer_bytes (Tree-F.Object members) = 0x05 ∷ all_bytes member_bytes members

pub tree_bytes-roll : (d : TreeLayer) → tree_bytes (roll-Tree d) ≡ tree_layer_bytes d
unfolding tree_bytes
tree_bytes-roll Tree-F.Null = fold-roll-Tree (List ℕ) tree_bytes_by Tree-F.Null
tree_bytes-roll (Tree-F.Bool value) = fold-roll-Tree (List ℕ) tree_bytes_by (Tree-F.Bool value)
tree_bytes-roll (Tree-F.Whole value) = fold-roll-Tree (List ℕ) tree_bytes_by (Tree-F.Whole value)
tree_bytes-roll (Tree-F.Text text) = fold-roll-Tree (List ℕ) tree_bytes_by (Tree-F.Text text)
tree_bytes-roll (Tree-F.List trees) =
    fold-roll-Tree (List ℕ) tree_bytes_by (Tree-F.List trees) ∙ ap (λ b. 0x04 ∷ b) (list_bytes-map tree_bytes trees)
tree_bytes-roll (Tree-F.Object members) =
    fold-roll-Tree (List ℕ) tree_bytes_by (Tree-F.Object members) ∙ ap (λ b. 0x05 ∷ b) (list_bytes-map-map (λ m. (m.0, tree_bytes m.1)) pair_bytes members)

abbrev pub literal_layer_bytes : LiteralLayer → List ℕ
literal_layer_bytes Literal-F.None = 0x01 ∷ []
literal_layer_bytes (Literal-F.Integer value) = 0x02 ∷ signed_bytes w64 value
literal_layer_bytes (Literal-F.Text text) = 0x03 ∷ text_bytes text
literal_layer_bytes (Literal-F.Boolean value) = 0x04 ∷ flag_bytes value
literal_layer_bytes (Literal-F.Datetime seconds nanos) = 0x05 ∷ (signed_bytes w64 seconds ++ number_bytes w32 nanos)
literal_layer_bytes (Literal-F.Duration seconds nanos) = 0x06 ∷ (signed_bytes w64 seconds ++ signed_bytes w32 nanos)
literal_layer_bytes (Literal-F.Blob uri form) = 0x07 ∷ (text_bytes uri ++ form_bytes form)
literal_layer_bytes (Literal-F.Binary value tag) = 0x08 ∷ (text_bytes value ++ text_bytes tag)
literal_layer_bytes (Literal-F.Error node message) = 0x09 ∷ (text_bytes node ++ text_bytes message)
literal_layer_bytes (Literal-F.Generic tree) = 0x0a ∷ tree_bytes tree
literal_layer_bytes (Literal-F.Union value variant) = 0x0b ∷ (type_bytes variant ++ literal_bytes value)
literal_layer_bytes (Literal-F.Map entries) = 0x0c ∷ all_bytes entry_bytes entries
literal_layer_bytes (Literal-F.Collection elements) = 0x0d ∷ all_bytes literal_bytes elements

pub literal_bytes-roll : (d : LiteralLayer) → literal_bytes (roll-Literal d) ≡ literal_layer_bytes d
unfolding literal_bytes
literal_bytes-roll (Literal-F.Map entries) =
    fold-roll-Literal (List ℕ) literal_bytes_by (Literal-F.Map entries) ∙ ap (λ b. 0x0c ∷ b) (list_bytes-map-map (λ e. (e.0, literal_bytes e.1)) pair_bytes entries)
literal_bytes-roll (Literal-F.Collection elements) =
    fold-roll-Literal (List ℕ) literal_bytes_by (Literal-F.Collection elements) ∙ ap (λ b. 0x0d ∷ b) (list_bytes-map literal_bytes elements)
literal_bytes-roll Literal-F.None = fold-roll-Literal (List ℕ) literal_bytes_by Literal-F.None
literal_bytes-roll (Literal-F.Integer value) = fold-roll-Literal (List ℕ) literal_bytes_by (Literal-F.Integer value)
literal_bytes-roll (Literal-F.Text text) = fold-roll-Literal (List ℕ) literal_bytes_by (Literal-F.Text text)
literal_bytes-roll (Literal-F.Boolean value) = fold-roll-Literal (List ℕ) literal_bytes_by (Literal-F.Boolean value)
literal_bytes-roll (Literal-F.Datetime seconds nanos) = fold-roll-Literal (List ℕ) literal_bytes_by (Literal-F.Datetime seconds nanos)
literal_bytes-roll (Literal-F.Duration seconds nanos) = fold-roll-Literal (List ℕ) literal_bytes_by (Literal-F.Duration seconds nanos)
literal_bytes-roll (Literal-F.Blob uri form) = fold-roll-Literal (List ℕ) literal_bytes_by (Literal-F.Blob uri form)
literal_bytes-roll (Literal-F.Binary value tag) = fold-roll-Literal (List ℕ) literal_bytes_by (Literal-F.Binary value tag)
literal_bytes-roll (Literal-F.Error node message) = fold-roll-Literal (List ℕ) literal_bytes_by (Literal-F.Error node message)
literal_bytes-roll (Literal-F.Generic tree) = fold-roll-Literal (List ℕ) literal_bytes_by (Literal-F.Generic tree)
literal_bytes-roll (Literal-F.Union value variant) = fold-roll-Literal (List ℕ) literal_bytes_by (Literal-F.Union value variant)

-- the same at each variant, for the answers of the writers

pub type_bytes-Simple : (s : Simple) → type_bytes (t.Simple s) ≡ type_layer_bytes (LiteralType-F.Simple s)
type_bytes-Simple s = ap type_bytes (sym (tv.rolls-Simple s)) ∙ type_bytes-roll (LiteralType-F.Simple s)

pub type_bytes-Collection : (element : LiteralType) → type_bytes (t.Collection element) ≡ type_layer_bytes (LiteralType-F.Collection element)
type_bytes-Collection element = ap type_bytes (sym (tv.rolls-Collection element)) ∙ type_bytes-roll (LiteralType-F.Collection element)

pub type_bytes-Map : (value : LiteralType) → type_bytes (t.Map value) ≡ type_layer_bytes (LiteralType-F.Map value)
type_bytes-Map value = ap type_bytes (sym (tv.rolls-Map value)) ∙ type_bytes-roll (LiteralType-F.Map value)

pub type_bytes-Blob : (form : BlobType) → type_bytes (t.Blob form) ≡ type_layer_bytes (LiteralType-F.Blob form)
type_bytes-Blob form = ap type_bytes (sym (tv.rolls-Blob form)) ∙ type_bytes-roll (LiteralType-F.Blob form)

pub type_bytes-Enum : (values : List Text) → type_bytes (t.Enum values) ≡ type_layer_bytes (LiteralType-F.Enum values)
type_bytes-Enum values = ap type_bytes (sym (tv.rolls-Enum values)) ∙ type_bytes-roll (LiteralType-F.Enum values)

pub type_bytes-Union : (variants : List LiteralType) → type_bytes (t.Union variants) ≡ type_layer_bytes (LiteralType-F.Union variants)
type_bytes-Union variants = ap type_bytes (sym (tv.rolls-Union variants)) ∙ type_bytes-roll (LiteralType-F.Union variants)

pub ruleset type_variants = (type_bytes-Simple, type_bytes-Collection, type_bytes-Map, type_bytes-Blob, type_bytes-Enum, type_bytes-Union)

pub tree_bytes-Null : tree_bytes r.Null ≡ tree_layer_bytes Tree-F.Null
tree_bytes-Null = ap tree_bytes (sym rv.rolls-Null) ∙ tree_bytes-roll Tree-F.Null

pub tree_bytes-Bool : (value : Bool) → tree_bytes (r.Bool value) ≡ tree_layer_bytes (Tree-F.Bool value)
tree_bytes-Bool value = ap tree_bytes (sym (rv.rolls-Bool value)) ∙ tree_bytes-roll (Tree-F.Bool value)

pub tree_bytes-Whole : (value : ℤ) → tree_bytes (r.Whole value) ≡ tree_layer_bytes (Tree-F.Whole value)
tree_bytes-Whole value = ap tree_bytes (sym (rv.rolls-Whole value)) ∙ tree_bytes-roll (Tree-F.Whole value)

pub tree_bytes-Text : (text : Text) → tree_bytes (r.Text text) ≡ tree_layer_bytes (Tree-F.Text text)
tree_bytes-Text text = ap tree_bytes (sym (rv.rolls-Text text)) ∙ tree_bytes-roll (Tree-F.Text text)

pub tree_bytes-List : (trees : List Tree) → tree_bytes (r.List trees) ≡ tree_layer_bytes (Tree-F.List trees)
tree_bytes-List trees = ap tree_bytes (sym (rv.rolls-List trees)) ∙ tree_bytes-roll (Tree-F.List trees)

pub tree_bytes-Object : (members : List (Text × Tree)) → tree_bytes (r.Object members) ≡ tree_layer_bytes (Tree-F.Object members)
tree_bytes-Object members = ap tree_bytes (sym (rv.rolls-Object members)) ∙ tree_bytes-roll (Tree-F.Object members)

pub ruleset tree_variants = (tree_bytes-Null, tree_bytes-Bool, tree_bytes-Whole, tree_bytes-Text, tree_bytes-List, tree_bytes-Object)

pub literal_bytes-None : literal_bytes l.None ≡ literal_layer_bytes Literal-F.None
literal_bytes-None = ap literal_bytes (sym lv.rolls-None) ∙ literal_bytes-roll Literal-F.None

pub literal_bytes-Integer : (value : ℤ) → literal_bytes (l.Integer value) ≡ literal_layer_bytes (Literal-F.Integer value)
literal_bytes-Integer value = ap literal_bytes (sym (lv.rolls-Integer value)) ∙ literal_bytes-roll (Literal-F.Integer value)

pub literal_bytes-Text : (text : Text) → literal_bytes (l.Text text) ≡ literal_layer_bytes (Literal-F.Text text)
literal_bytes-Text text = ap literal_bytes (sym (lv.rolls-Text text)) ∙ literal_bytes-roll (Literal-F.Text text)

pub literal_bytes-Boolean : (value : Bool) → literal_bytes (l.Boolean value) ≡ literal_layer_bytes (Literal-F.Boolean value)
literal_bytes-Boolean value = ap literal_bytes (sym (lv.rolls-Boolean value)) ∙ literal_bytes-roll (Literal-F.Boolean value)

pub literal_bytes-Datetime : (seconds : ℤ) (nanos : ℕ) → literal_bytes (l.Datetime seconds nanos) ≡ literal_layer_bytes (Literal-F.Datetime seconds nanos)
literal_bytes-Datetime seconds nanos = ap literal_bytes (sym (lv.rolls-Datetime seconds nanos)) ∙ literal_bytes-roll (Literal-F.Datetime seconds nanos)

pub literal_bytes-Duration : (seconds : ℤ) (nanos : ℤ) → literal_bytes (l.Duration seconds nanos) ≡ literal_layer_bytes (Literal-F.Duration seconds nanos)
literal_bytes-Duration seconds nanos = ap literal_bytes (sym (lv.rolls-Duration seconds nanos)) ∙ literal_bytes-roll (Literal-F.Duration seconds nanos)

pub literal_bytes-Blob : (uri : Text) (form : BlobType) → literal_bytes (l.Blob uri form) ≡ literal_layer_bytes (Literal-F.Blob uri form)
literal_bytes-Blob uri form = ap literal_bytes (sym (lv.rolls-Blob uri form)) ∙ literal_bytes-roll (Literal-F.Blob uri form)

pub literal_bytes-Binary : (value : Bytes) (tag : Text) → literal_bytes (l.Binary value tag) ≡ literal_layer_bytes (Literal-F.Binary value tag)
literal_bytes-Binary value tag = ap literal_bytes (sym (lv.rolls-Binary value tag)) ∙ literal_bytes-roll (Literal-F.Binary value tag)

pub literal_bytes-Error : (node : Text) (message : Text) → literal_bytes (l.Error node message) ≡ literal_layer_bytes (Literal-F.Error node message)
literal_bytes-Error node message = ap literal_bytes (sym (lv.rolls-Error node message)) ∙ literal_bytes-roll (Literal-F.Error node message)

pub literal_bytes-Generic : (tree : Tree) → literal_bytes (l.Generic tree) ≡ literal_layer_bytes (Literal-F.Generic tree)
literal_bytes-Generic tree = ap literal_bytes (sym (lv.rolls-Generic tree)) ∙ literal_bytes-roll (Literal-F.Generic tree)

pub literal_bytes-Union : (value : Literal) (variant : LiteralType) → literal_bytes (l.Union value variant) ≡ literal_layer_bytes (Literal-F.Union value variant)
literal_bytes-Union value variant = ap literal_bytes (sym (lv.rolls-Union value variant)) ∙ literal_bytes-roll (Literal-F.Union value variant)

pub literal_bytes-Map : (entries : List (Text × Literal)) → literal_bytes (l.Map entries) ≡ literal_layer_bytes (Literal-F.Map entries)
literal_bytes-Map entries = ap literal_bytes (sym (lv.rolls-Map entries)) ∙ literal_bytes-roll (Literal-F.Map entries)

pub literal_bytes-Collection : (elements : List Literal) → literal_bytes (l.Collection elements) ≡ literal_layer_bytes (Literal-F.Collection elements)
literal_bytes-Collection elements = ap literal_bytes (sym (lv.rolls-Collection elements)) ∙ literal_bytes-roll (Literal-F.Collection elements)

pub ruleset literal_variants = (literal_bytes-None, literal_bytes-Integer, literal_bytes-Text, literal_bytes-Boolean, literal_bytes-Datetime, literal_bytes-Duration, literal_bytes-Blob, literal_bytes-Binary, literal_bytes-Error, literal_bytes-Generic, literal_bytes-Union, literal_bytes-Map, literal_bytes-Collection)
