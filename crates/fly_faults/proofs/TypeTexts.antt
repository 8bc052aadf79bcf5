-- The text of a type at each variant.
use Rattle.std.proofs.Common.{◌≡◌, List, [], ◌∷◌, ◌++◌, map, codes, refl, sym, ◌∙◌, ap}
use Rattle.std.specs.List.{flat_map}
use Rattle.fly_types.specs.declared.text.Text.{Text}
use Rattle.fly_types.specs.declared.kinds.Simple.{Simple}
use Rattle.fly_types.specs.declared.kinds.BlobType.{BlobType}
use Rattle.fly_types.specs.declared.kinds.LiteralType.{LiteralType, roll-LiteralType}
use Rattle.fly_types.specs.declared.kinds.LiteralType.TheOpen.{LiteralType-F}
use Rattle.fly_types.specs.declared.kinds.LiteralType.TheViews as view
use Rattle.fly_types.specs.declared.kinds.LiteralType.TheVariants as type
use Rattle.fly_types.specs.declared.kinds.LiteralType.TheFolds.{fold-roll-LiteralType}
use Rattle.fly_types.specs.Layer.{TypeLayer}
use Rattle.fly_faults.specs.TypeText.{quoted, simple_text, blob_text, listed, type_text_by, text_of_type}

-- the texts of parts, listed
more_listed : (ts : List LiteralType) → flat_map (λ t. codes "," ++ t) (map text_of_type ts) ≡ flat_map (λ t. codes "," ++ text_of_type t) ts
more_listed [] = refl
more_listed (t ∷ ts) = ap (λ r. (codes "," ++ text_of_type t) ++ r) (more_listed ts)

listed-map : (ts : List LiteralType) → listed (λ t. t) (map text_of_type ts) ≡ listed text_of_type ts
listed-map [] = refl
listed-map (t ∷ ts) = ap (λ r. text_of_type t ++ r) (more_listed ts)

abbrev pub layer_text : TypeLayer → Text
layer_text (LiteralType-F.Simple s) = simple_text s
layer_text (LiteralType-F.Collection element) = codes "[" ++ text_of_type element ++ codes "]"
layer_text (LiteralType-F.Map value) = codes "{" ++ text_of_type value ++ codes "}"
layer_text (LiteralType-F.Blob form) = blob_text form
layer_text (LiteralType-F.Enum values) = codes "enum(" ++ listed quoted values ++ codes ")"
layer_text (LiteralType-F.Union variants) = codes "union(" ++ listed text_of_type variants ++ codes ")"

pub text-roll : (d : TypeLayer) → text_of_type (roll-LiteralType d) ≡ layer_text d
text-roll (LiteralType-F.Simple s) = fold-roll-LiteralType Text type_text_by (LiteralType-F.Simple s)
text-roll (LiteralType-F.Collection element) = fold-roll-LiteralType Text type_text_by (LiteralType-F.Collection element)
text-roll (LiteralType-F.Map value) = fold-roll-LiteralType Text type_text_by (LiteralType-F.Map value)
text-roll (LiteralType-F.Blob form) = fold-roll-LiteralType Text type_text_by (LiteralType-F.Blob form)
text-roll (LiteralType-F.Enum values) = fold-roll-LiteralType Text type_text_by (LiteralType-F.Enum values)
text-roll (LiteralType-F.Union variants) =
    fold-roll-LiteralType Text type_text_by (LiteralType-F.Union variants) ∙ ap (λ r. codes "union(" ++ r ++ codes ")") (listed-map variants)

pub text-Simple : (s : Simple) → text_of_type (type.Simple s) ≡ simple_text s
text-Simple s = ap text_of_type (sym (view.rolls-Simple s)) ∙ text-roll (LiteralType-F.Simple s)

pub text-Collection : (element : LiteralType) → text_of_type (type.Collection element) ≡ codes "[" ++ text_of_type element ++ codes "]"
text-Collection element = ap text_of_type (sym (view.rolls-Collection element)) ∙ text-roll (LiteralType-F.Collection element)

pub text-Map : (value : LiteralType) → text_of_type (type.Map value) ≡ codes "{" ++ text_of_type value ++ codes "}"
text-Map value = ap text_of_type (sym (view.rolls-Map value)) ∙ text-roll (LiteralType-F.Map value)

pub text-Blob : (form : BlobType) → text_of_type (type.Blob form) ≡ blob_text form
text-Blob form = ap text_of_type (sym (view.rolls-Blob form)) ∙ text-roll (LiteralType-F.Blob form)

pub text-Enum : (values : List Text) → text_of_type (type.Enum values) ≡ codes "enum(" ++ listed quoted values ++ codes ")"
text-Enum values = ap text_of_type (sym (view.rolls-Enum values)) ∙ text-roll (LiteralType-F.Enum values)

pub text-Union : (variants : List LiteralType) → text_of_type (type.Union variants) ≡ codes "union(" ++ listed text_of_type variants ++ codes ")"
text-Union variants = ap text_of_type (sym (view.rolls-Union variants)) ∙ text-roll (LiteralType-F.Union variants)

pub ruleset type_variants = (text-Simple, text-Collection, text-Map, text-Blob, text-Enum, text-Union)
