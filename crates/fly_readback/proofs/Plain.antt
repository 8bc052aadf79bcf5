-- What is written has whole numbers, and the keys of each object in order.
use Rattle.std.proofs.Common.{ℕ, Bool, true, false, cond, ℤ, pos, negsuc, List, [], ◌∷◌, map, Option, Some, None, Ordering, Less, Equal, Greater, nat_cmp, sym, subst, arith, codes}
use Rattle.std.specs.Ordering.{match_ordering}
use Rattle.std.specs.List.{AllByRecursion}
use Rattle.std.specs.List.Sorted.{IsStrictlySortedBy}
use Rattle.std.specs.Cmp.Lexicographic.{slice_cmp}
use Rattle.serde_json.specs.Data.{Data, string, object, Members, no_members, member, put}
use Rattle.serde_json.specs.Find.{of_integer}
use Rattle.serde_json.specs.View.{items_of}
use Rattle.fly_types.specs.declared.text.Text.{Text}
use Rattle.fly_types.specs.declared.kinds.BlobType.{BlobType}
use Rattle.fly_types.specs.declared.kinds.LiteralType.{LiteralType, roll-LiteralType}
use Rattle.fly_types.specs.declared.kinds.LiteralType.TheOpen.{LiteralType-F}
use Rattle.fly_types.specs.declared.kinds.LiteralType.TheFolds.{ind-LiteralType, map-LiteralType, fold-roll-LiteralType}
use Rattle.fly_types.specs.declared.literals.Tree.{Tree, roll-Tree}
use Rattle.fly_types.specs.declared.literals.Tree.TheOpen.{Tree-F}
use Rattle.fly_types.specs.declared.literals.Tree.TheFolds.{ind-Tree, map-Tree, fold-roll-Tree}
use Rattle.fly_types.specs.declared.literals.Tree.TheViews as tree_views
use Rattle.fly_types.specs.declared.literals.Literal.{Literal, roll-Literal}
use Rattle.fly_types.specs.declared.literals.Literal.TheOpen.{Literal-F}
use Rattle.fly_types.specs.declared.literals.Literal.TheFolds.{ind-Literal, fold-roll-Literal}
use Rattle.fly_types.specs.declared.literals.Literal.TheViews as literal_views
use Rattle.fly_types.specs.declared.literals.LiteralMap.{LiteralMap}
use Rattle.fly_types.specs.Layer.{TypeLayer, TreeLayer, LiteralLayer}
use Rattle.fly_types.specs.Sound.{IsExactWhole, HasSoundTreeParts, HasSoundParts, IsSound, IsSoundMap}
use Rattle.fly_types.proofs.TypeTells.{TypesHeld}
use Rattle.fly_types.proofs.TreeTells as tree_tells
use Rattle.fly_types.proofs.TreeTells.{TreesHeld}
use Rattle.fly_types.proofs.LiteralTells as literal_tells
use Rattle.fly_types.proofs.LiteralTells.{LiteralsHeld}
use Rattle.fly_writers.specs.Json.{Fields, with_field, with_fields, message, unless_empty, optional_text, optional_list, as_fields, optional_map}
use Rattle.fly_writers.specs.Types.{dimensionality, blob_type_fields, blob_type_json, enum_type_fields, union_type_fields, type_fields_by, type_json_by, type_json}
use Rattle.fly_writers.specs.Literals.{tree_json_by, tree_json, primitive_fields, blob_metadata_fields, blob_fields, optional_bytes, binary_fields, error_fields, union_fields, scalar_fields, collection_fields, map_fields, literal_fields_by, literal_json_by, literal_json, literal_map_json}
use Rattle.std.proofs.lemmas.List.Elements.{recursion_from_All}
use Rattle.fly_idl.proofs.Ordered.{WhereSome, IsOrdered, AreItemsOrdered, keys_put, members_put}
use Rattle.fly_readback.proofs.ReadLiterals.{mapped, held_from}
use Rattle.fly_readback.proofs.Texts.{IsWhole, HasWholes, HaveItemsWholes, HaveMembersWholes}

abbrev pub IsPlain : Data → Type 0
IsPlain d = HasWholes d × IsOrdered d

abbrev ArePlain : Members → Type 0
ArePlain ms = IsPlain (object ms)

-- ---- messages

match_wholes : (o : Ordering) (a b c : Members) → HaveMembersWholes a → HaveMembersWholes b → HaveMembersWholes c
    → HaveMembersWholes (match_ordering o a b c)
match_wholes Less a b c f g h = f
match_wholes Equal a b c f g h = g
match_wholes Greater a b c f g h = h

wholes_put : (k : List ℕ) (d : Data) (ms : Members) → HasWholes d → HaveMembersWholes ms
    → HaveMembersWholes (put k d ms)
wholes_put k d no_members p h = (p, tt)
wholes_put k d (member l x ms) p h =
    match_wholes (slice_cmp nat_cmp k l) (member k d (member l x ms)) (member l d ms) (member l x (put k d ms))
    (p, h) (p, h.1) (h.0, wholes_put k d ms p h.1)

abbrev pub AreFieldsPlain : Fields → Type 0
AreFieldsPlain fs = AllByRecursion (λ (f : List ℕ × Option Data). WhereSome IsPlain f.1) fs

field-plain : (k : List ℕ) (o : Option Data) (ms : Members) → WhereSome IsPlain o → ArePlain ms
    → ArePlain (with_field ms k o)
field-plain k None ms p h = h
field-plain k (Some d) ms p h =
    (wholes_put k d ms p.0 h.0, (keys_put k d ms h.1.0, members_put k d ms p.1 h.1.1))

fields-plain : (fs : Fields) (ms : Members) → AreFieldsPlain fs → ArePlain ms → ArePlain (with_fields ms fs)
fields-plain [] ms p h = h
fields-plain (f ∷ fs) ms p h = fields-plain fs (with_field ms f.0 f.1) p.1 (field-plain f.0 f.1 ms p.0 h)

none-plain : ArePlain no_members
unfolding IsStrictlySortedBy
none-plain = (tt, (tt, tt))

pub message-plain : (fs : Fields) → AreFieldsPlain fs → IsPlain (message fs)
message-plain fs p = fields-plain fs no_members p none-plain

unless_empty-plain : (ms : Members) → ArePlain ms → WhereSome IsPlain (unless_empty ms)
unless_empty-plain no_members h = tt
unless_empty-plain (member k d ms) h = h

text-plain : (s : List ℕ) → WhereSome IsPlain (optional_text s)
text-plain [] = tt
text-plain (b ∷ bs) = (tt, tt)

items-plain : (ds : List Data) → AllByRecursion IsPlain ds
    → HaveItemsWholes (items_of ds) × AreItemsOrdered (items_of ds)
items-plain [] h = (tt, tt)
items-plain (d ∷ ds) h = let rest = items-plain ds h.1 in ((h.0.0, rest.0), (h.0.1, rest.1))

list-plain : (ds : List Data) → AllByRecursion IsPlain ds → WhereSome IsPlain (optional_list ds)
list-plain [] h = tt
list-plain (d ∷ ds) h = items-plain (d ∷ ds) h

entries-fields : (es : List (List ℕ × Data)) → AllByRecursion (λ (e : List ℕ × Data). IsPlain e.1) es
    → AreFieldsPlain (as_fields es)
entries-fields [] h = tt
entries-fields (e ∷ es) h = (h.0, entries-fields es h.1)

map-plain : (es : List (List ℕ × Data)) → AllByRecursion (λ (e : List ℕ × Data). IsPlain e.1) es
    → WhereSome IsPlain (optional_map es)
map-plain es h =
    unless_empty-plain (with_fields no_members (as_fields es))
    (fields-plain (as_fields es) no_members (entries-fields es h) none-plain)

-- ---- what each part of a layer has, each element of its list has

parts-plain : {A : Type 0} (P : A → Type 0) (f : A → Data) → ((a : A) → P a → IsPlain (f a)) → (xs : List A)
    → AllByRecursion P xs → AllByRecursion IsPlain (map f xs)
parts-plain P f h [] p = tt
parts-plain P f h (x ∷ xs) p = (h x p.0, parts-plain P f h xs p.1)

texts-plain : (ts : List (List ℕ)) → AllByRecursion IsPlain (map string ts)
texts-plain [] = tt
texts-plain (t ∷ ts) = ((tt, tt), texts-plain ts)

-- ---- types

dimension-plain : (m : Bool) → WhereSome IsPlain (dimensionality m)
dimension-plain true = (tt, tt)
dimension-plain false = tt

blob_type-plain : (form : BlobType) → IsPlain (blob_type_json form)
blob_type-plain form =
    message-plain (blob_type_fields form) (text-plain form.format, (dimension-plain form.multipart, tt))

abbrev IsTypePlain : LiteralType → Type 0
IsTypePlain t = IsPlain (type_json t)

abbrev type_fields : TypeLayer → Fields
type_fields z = type_fields_by (map-LiteralType LiteralType Data type_json z)

type_layer-plain : (z : TypeLayer) → TypesHeld IsTypePlain z → IsPlain (message (type_fields z))
type_layer-plain (LiteralType-F.Simple s) h = message-plain (type_fields (LiteralType-F.Simple s)) ((tt, tt), tt)
type_layer-plain (LiteralType-F.Collection t) h = message-plain (type_fields (LiteralType-F.Collection t)) (h, tt)
type_layer-plain (LiteralType-F.Map t) h = message-plain (type_fields (LiteralType-F.Map t)) (h, tt)
type_layer-plain (LiteralType-F.Blob form) h =
    message-plain (type_fields (LiteralType-F.Blob form)) (blob_type-plain form, tt)
type_layer-plain (LiteralType-F.Enum values) h =
    message-plain (type_fields (LiteralType-F.Enum values))
    (message-plain (enum_type_fields values) (list-plain (map string values) (texts-plain values), tt), tt)
type_layer-plain (LiteralType-F.Union ts) h =
    message-plain (type_fields (LiteralType-F.Union ts)) (
      message-plain (union_type_fields (map type_json ts))
          (list-plain (map type_json ts) (parts-plain IsTypePlain type_json (λ t p. p) ts h), tt),
      tt,
    )

rolled_type-plain : (z : TypeLayer) → TypesHeld IsTypePlain z → IsTypePlain (roll-LiteralType z)
unfolding type_json
rolled_type-plain z h =
    subst IsPlain (sym (fold-roll-LiteralType Data type_json_by z)) (type_layer-plain z h)

type_list_held : (P : LiteralType → Type 0) (es : List ((t : LiteralType) × P t))
    → AllByRecursion P (map (λ e. e.0) es)
type_list_held P [] = tt
type_list_held P (e ∷ es) = (e.1, type_list_held P es)

types_held : (P : LiteralType → Type 0) (x : LiteralType-F ((t : LiteralType) × P t))
    → TypesHeld P (map-LiteralType ((t : LiteralType) × P t) LiteralType (λ e. e.0) x)
types_held P (LiteralType-F.Simple s) = tt
types_held P (LiteralType-F.Collection e) = e.1
types_held P (LiteralType-F.Map e) = e.1
types_held P (LiteralType-F.Blob form) = tt
types_held P (LiteralType-F.Enum values) = tt
types_held P (LiteralType-F.Union es) = type_list_held P es

pub type-plain : (t : LiteralType) → IsPlain (type_json t)
type-plain = ind-LiteralType IsTypePlain (λ x y is. subst (λ z. IsTypePlain (roll-LiteralType z)) is
    (rolled_type-plain _ (types_held IsTypePlain y)))

-- ---- the content of a STRUCT

whole-plain : (z : ℤ) → IsExactWhole z → IsWhole (of_integer z)
whole-plain (pos n) h = omega (arith, h)
whole-plain (negsuc n) h = omega (arith, h)

abbrev IsTreePlain : Tree → Type 0
IsTreePlain t = HasSoundTreeParts t → IsPlain (tree_json t)

trees-plain : (ts : List Tree) → AllByRecursion IsTreePlain ts → AllByRecursion HasSoundTreeParts ts
    → AllByRecursion IsPlain (map tree_json ts)
trees-plain [] h p = tt
trees-plain (t ∷ ts) h p = (h.0 p.0, trees-plain ts h.1 p.1)

members-plain : (ms : List (Text × Tree)) → AllByRecursion (λ (m : Text × Tree). IsTreePlain m.1) ms
    → AllByRecursion (λ (m : Text × Tree). HasSoundTreeParts m.1) ms
    → AllByRecursion (λ (e : List ℕ × Data). IsPlain e.1) (map (λ (m : Text × Tree). (m.0, tree_json m.1)) ms)
members-plain [] h p = tt
members-plain (m ∷ ms) h p = (h.0 p.0, members-plain ms h.1 p.1)

tree_layer-plain : (z : TreeLayer) → TreesHeld IsTreePlain z → tree_tells.IsSoundLayer z
    → IsPlain (tree_json_by (map-Tree Tree Data tree_json z))
tree_layer-plain Tree-F.Null h p = (tt, tt)
tree_layer-plain (Tree-F.Bool value) h p = (tt, tt)
tree_layer-plain (Tree-F.Whole value) h p = (whole-plain value p.0, tt)
tree_layer-plain (Tree-F.Text text) h p = (tt, tt)
tree_layer-plain (Tree-F.List ts) h p = items-plain (map tree_json ts) (trees-plain ts h p.1)
tree_layer-plain (Tree-F.Object ms) h p =
    let es : List (List ℕ × Data) = map (λ (m : Text × Tree). (m.0, tree_json m.1)) ms in
    message-plain (as_fields es) (entries-fields es (members-plain ms h p.1))

rolled_tree-plain : (z : TreeLayer) → TreesHeld IsTreePlain z → IsTreePlain (roll-Tree z)
unfolding tree_json
rolled_tree-plain z h p =
    subst IsPlain (sym (fold-roll-Tree Data tree_json_by z)) (tree_layer-plain z h
    (subst tree_tells.IsSoundLayer (tree_views.out-roll-Tree z) (tree_tells.sound_layer (roll-Tree z) p)))

tree_list_held : (P : Tree → Type 0) (es : List ((t : Tree) × P t)) → AllByRecursion P (map (λ e. e.0) es)
tree_list_held P [] = tt
tree_list_held P (e ∷ es) = (e.1, tree_list_held P es)

tree_members_held : (P : Tree → Type 0) (ms : List (Text × ((t : Tree) × P t)))
    → AllByRecursion (λ (m : Text × Tree). P m.1) (map (λ m. (m.0, m.1.0)) ms)
tree_members_held P [] = tt
tree_members_held P (m ∷ ms) = (m.1.1, tree_members_held P ms)

trees_held : (P : Tree → Type 0) (x : Tree-F ((t : Tree) × P t))
    → TreesHeld P (map-Tree ((t : Tree) × P t) Tree (λ e. e.0) x)
trees_held P Tree-F.Null = tt
trees_held P (Tree-F.Bool value) = tt
trees_held P (Tree-F.Whole value) = tt
trees_held P (Tree-F.Text text) = tt
trees_held P (Tree-F.List es) = tree_list_held P es
trees_held P (Tree-F.Object ms) = tree_members_held P ms

pub tree-plain : (t : Tree) → HasSoundTreeParts t → IsPlain (tree_json t)
tree-plain = ind-Tree IsTreePlain (λ x y is. subst (λ z. IsTreePlain (roll-Tree z)) is
    (rolled_tree-plain _ (trees_held IsTreePlain y)))

-- ---- literals

if-plain : (b : Bool) (s : List ℕ) → WhereSome IsPlain (cond b (Some (string s)) None)
if-plain true s = (tt, tt)
if-plain false s = tt

bytes-plain : (bs : List ℕ) → WhereSome IsPlain (optional_bytes bs)
bytes-plain [] = tt
bytes-plain (b ∷ bs) = (tt, tt)

abbrev IsLiteralPlain : Literal → Type 0
IsLiteralPlain l = HasSoundParts l → IsPlain (literal_json l)

literals-plain : (ls : List Literal) → AllByRecursion IsLiteralPlain ls → AllByRecursion HasSoundParts ls
    → AllByRecursion IsPlain (map literal_json ls)
literals-plain [] h p = tt
literals-plain (l ∷ ls) h p = (h.0 p.0, literals-plain ls h.1 p.1)

entries-plain : (es : List (Text × Literal)) → AllByRecursion (λ (e : Text × Literal). IsLiteralPlain e.1) es
    → AllByRecursion (λ (e : Text × Literal). HasSoundParts e.1) es
    → AllByRecursion (λ (e : List ℕ × Data). IsPlain e.1) (map (λ (e : Text × Literal). (e.0, literal_json e.1)) es)
entries-plain [] h p = tt
entries-plain (e ∷ es) h p = (h.0 p.0, entries-plain es h.1 p.1)

scalar-plain : (fs : Fields) → AreFieldsPlain fs → IsPlain (message ((codes "scalar", Some (message fs)) ∷ []))
scalar-plain fs h = message-plain ((codes "scalar", Some (message fs)) ∷ []) (message-plain fs h, tt)

primitive-plain : (fs : Fields) → AreFieldsPlain fs
    → IsPlain (message ((codes "scalar", Some (message ((codes "primitive", Some (message fs)) ∷ []))) ∷ []))
primitive-plain fs h = scalar-plain ((codes "primitive", Some (message fs)) ∷ []) (message-plain fs h, tt)

literal_layer-plain : (z : LiteralLayer) → LiteralsHeld IsLiteralPlain z → literal_tells.IsSoundLayer z
    → IsPlain (literal_json_by (mapped z))
literal_layer-plain Literal-F.None h p = scalar-plain (scalar_fields (mapped Literal-F.None)) (none-plain, tt)
literal_layer-plain (Literal-F.Integer value) h p =
    primitive-plain (primitive_fields (mapped (Literal-F.Integer value))) ((tt, tt), tt)
literal_layer-plain (Literal-F.Text text) h p =
    primitive-plain (primitive_fields (mapped (Literal-F.Text text))) ((tt, tt), tt)
literal_layer-plain (Literal-F.Boolean value) h p =
    primitive-plain (primitive_fields (mapped (Literal-F.Boolean value))) ((tt, tt), tt)
literal_layer-plain (Literal-F.Datetime seconds nanos) h p =
    primitive-plain (primitive_fields (mapped (Literal-F.Datetime seconds nanos))) (if-plain _ _, tt)
literal_layer-plain (Literal-F.Duration seconds nanos) h p =
    primitive-plain (primitive_fields (mapped (Literal-F.Duration seconds nanos))) (if-plain _ _, tt)
literal_layer-plain (Literal-F.Blob uri form) h p =
    scalar-plain (scalar_fields (mapped (Literal-F.Blob uri form))) (
      message-plain (blob_fields uri form)
          (message-plain (blob_metadata_fields form) (blob_type-plain form, tt), (text-plain uri, tt)),
      tt,
    )
literal_layer-plain (Literal-F.Binary value tag) h p =
    scalar-plain (scalar_fields (mapped (Literal-F.Binary value tag)))
    (message-plain (binary_fields value tag) (bytes-plain value, (text-plain tag, tt)), tt)
literal_layer-plain (Literal-F.Error node text) h p =
    scalar-plain (scalar_fields (mapped (Literal-F.Error node text)))
    (message-plain (error_fields node text) (text-plain node, (text-plain text, tt)), tt)
literal_layer-plain (Literal-F.Generic tree) h p =
    scalar-plain (scalar_fields (mapped (Literal-F.Generic tree))) (tree-plain tree p.0.parts, tt)
literal_layer-plain (Literal-F.Union value variant) h p =
    scalar-plain (scalar_fields (mapped (Literal-F.Union value variant)))
    (message-plain (union_fields (literal_json value) (type_json variant)) (h p.1, (type-plain variant, tt)), tt)
literal_layer-plain (Literal-F.Collection ls) h p =
    message-plain (literal_fields_by (mapped (Literal-F.Collection ls))) (
      message-plain (collection_fields (map literal_json ls))
          (list-plain (map literal_json ls) (literals-plain ls h p.1), tt),
      tt,
    )
literal_layer-plain (Literal-F.Map es) h p =
    let js : List (List ℕ × Data) = map (λ (e : Text × Literal). (e.0, literal_json e.1)) es in
    message-plain (literal_fields_by (mapped (Literal-F.Map es)))
    (message-plain (map_fields js) (map-plain js (entries-plain es h p.1), tt), tt)

rolled_literal-plain : (z : LiteralLayer) → LiteralsHeld IsLiteralPlain z → IsLiteralPlain (roll-Literal z)
unfolding literal_json
rolled_literal-plain z h p =
    subst IsPlain (sym (fold-roll-Literal Data literal_json_by z)) (literal_layer-plain z h
    (subst literal_tells.IsSoundLayer (literal_views.out-roll-Literal z)
    (literal_tells.sound_layer (roll-Literal z) p)))

pub literal-plain : (l : Literal) → HasSoundParts l → IsPlain (literal_json l)
literal-plain = ind-Literal IsLiteralPlain (λ x y is. subst (λ z. IsLiteralPlain (roll-Literal z)) is
    (rolled_literal-plain _ (held_from IsLiteralPlain y)))

all-sound : (es : List (Text × Literal)) → AllByRecursion (λ (e : Text × Literal). IsSound e.1) es
    → AllByRecursion (λ (e : List ℕ × Data). IsPlain e.1) (map (λ (e : Text × Literal). (e.0, literal_json e.1)) es)
all-sound [] h = tt
all-sound (e ∷ es) h = (literal-plain e.1 h.0.parts, all-sound es h.1)

pub literal_map-plain : (m : LiteralMap) → IsSoundMap m → IsPlain (literal_map_json m)
literal_map-plain m s =
    let js : List (List ℕ × Data) = map (λ (e : Text × Literal). (e.0, literal_json e.1)) m.entries in
    message-plain (map_fields js) (
      map-plain js (all-sound m.entries
          (recursion_from_All (λ (e : Text × Literal). IsSound e.1) m.entries s.literals)),
      tt,
    )
