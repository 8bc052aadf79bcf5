-- A type that is read, and in which nothing is found, is sound.
use Rattle.std.proofs.Common.{◌≡◌, ℕ, zero, suc, ◌+◌, ◌≤◌, ◌<◌, ◌^◌, List, [], ◌∷◌, map, true, Option, Some, None, refl, sym, ap, subst, ◌∙◌, arith, codes}
use Rattle.std.specs.List.{AllByRecursion}
use Rattle.std.proofs.lemmas.List.{length-map}
use Rattle.std.proofs.lemmas.List.Elements.{All-from_recursion}
use Rattle.serde_json.specs.Data.{Data, Members}
use Rattle.fly_types.specs.declared.kinds.Simple.{Simple}
use Rattle.fly_types.specs.declared.kinds.BlobType.{BlobType}
use Rattle.fly_types.specs.declared.kinds.LiteralType.{LiteralType}
use Rattle.fly_types.specs.declared.kinds.LiteralType.TheVariants as types
use Rattle.fly_types.specs.declared.kinds.LiteralType.TheOpen.{LiteralType-F}
use Rattle.fly_types.specs.declared.kinds.LiteralType.TheViews as views
use Rattle.fly_types.specs.Levels.{max_levels, largest, type_levels}
use Rattle.fly_types.specs.Sound.{IsShort, HasSoundTypeParts, IsSoundType}
use Rattle.fly_types.proofs.SoundLemmas.{HasSoundTypeParts-roll}
use Rattle.fly_cast.proofs.Levels.{type_levels-roll}
use Rattle.fly_schema.specs.declared.table.Level.{Level}
use Rattle.fly_schema.specs.declared.table.Level.TheVariants.{Same, First, Deeper}
use Rattle.fly_schema.specs.Table.{message, one, list, optional, FieldRow, MessageRow}
use Rattle.fly_schema.specs.Faults.{fault_of, level_after, row_at}
use Rattle.fly_values.specs.Fields.{members_in, field, member_at, text_value, items_in, texts_value}
use Rattle.fly_values.specs.Types.{simple_value, blob_type_value, enum_values, plain_type, variant_values, last_type, type_by, type_at}
use Rattle.fly_idl.specs.Rows.{plain, named, field_with, simple_type, blob_type_number, enum_type_number, literal_type_number, union_type_number, literal_type_row, union_type_row}
use Rattle.fly_idl.proofs.Ordered.{WhereSome, all-map}
use Rattle.fly_idl.proofs.Bounds.{either}
use Rattle.fly_idl.proofs.Clear.{field-clear, message-clear, items-clear, one_of-clear, member-clear}
use Rattle.fly_idl.proofs.Bounded.{IsDataShort, AreMembersShort, members_short, field_short, member_short, items_short, text_short}

where_weaker : {A : Type 0} (P Q : A → Type 0) (o : Option A) → ((a : A) → P a → Q a) → WhereSome P o → WhereSome Q o
where_weaker P Q None h p = tt
where_weaker P Q (Some a) h p = h a p

where_any : {A : Type 0} (Q : A → Type 0) (o : Option A) → ((a : A) → Q a) → WhereSome Q o
where_any Q None h = tt
where_any Q (Some a) h = h a

-- ---- the parts

module _ (n : ℕ) (small : n < 2 ^ 64) where
  short_text : (d : Data) → IsDataShort n d → IsShort (text_value d)
  short_text d h = let le = text_short n d h in omega arith

  sound-blob : (d : Data) → IsDataShort n d → HasSoundTypeParts (types.Blob (blob_type_value d))
  unfolding blob_type_value
  sound-blob d h =
      subst HasSoundTypeParts (views.rolls-Blob (blob_type_value d))
      (HasSoundTypeParts-roll (LiteralType-F.Blob (blob_type_value d))
      (short_text _ (field_short n (codes "format") (members_in d) (members_short n d h))) tt)

  sound-enum : (d : Data) → IsDataShort n d → HasSoundTypeParts (types.Enum (enum_values d))
  unfolding enum_values
  sound-enum d h =
      let inside = field (codes "values") (members_in d) in
      let items = items_short n inside (field_short n (codes "values") (members_in d) (members_short n d h)) in
      let long = length-map (items_in inside) text_value in
      subst HasSoundTypeParts (views.rolls-Enum (texts_value inside))
      (HasSoundTypeParts-roll (LiteralType-F.Enum (texts_value inside)) (
        omega (arith, long, items.0, small),
        All-from_recursion IsShort (texts_value inside)
            (all-map (IsDataShort n) IsShort text_value short_text (items_in inside) items.1),
      ) tt)

  sound-simple : (s : Simple) → HasSoundTypeParts (types.Simple s)
  sound-simple s =
      subst HasSoundTypeParts (views.rolls-Simple s) (HasSoundTypeParts-roll (LiteralType-F.Simple s) tt tt)

  plain-parts : (ms : Members) → AreMembersShort n ms → HasSoundTypeParts (plain_type ms)
  unfolding plain_type
  plain-parts ms h =
      either HasSoundTypeParts (λ d. types.Blob (blob_type_value d)) (member_at (codes "blob") ms) _
      (where_weaker (IsDataShort n) _ _ sound-blob (member_short n (codes "blob") ms h))
      (either HasSoundTypeParts (λ d. types.Enum (enum_values d)) (member_at (codes "enumType") ms) _
      (where_weaker (IsDataShort n) _ _ sound-enum (member_short n (codes "enumType") ms h))
      (sound-simple (simple_value (field (codes "simple") ms))))

  -- a union at the last level has no variants
  last-parts : (ms : Members) → AreMembersShort n ms → HasSoundTypeParts (last_type ms)
  unfolding last_type
  last-parts ms h =
      either HasSoundTypeParts (λ d. types.Union []) (member_at (codes "unionType") ms) (plain_type ms)
      (where_any (λ d. HasSoundTypeParts (types.Union [])) _ (λ d. subst HasSoundTypeParts (views.rolls-Union [])
      (HasSoundTypeParts-roll (LiteralType-F.Union []) (omega arith) tt))) (plain-parts ms h)

  module _ (of : Data → LiteralType) (each : (d : Data) → IsDataShort n d → HasSoundTypeParts (of d)) where
    sound-collection : (d : Data) → IsDataShort n d → HasSoundTypeParts (types.Collection (of d))
    sound-collection d h =
        subst HasSoundTypeParts (views.rolls-Collection (of d))
        (HasSoundTypeParts-roll (LiteralType-F.Collection (of d)) tt (each d h))

    sound-map : (d : Data) → IsDataShort n d → HasSoundTypeParts (types.Map (of d))
    sound-map d h =
        subst HasSoundTypeParts (views.rolls-Map (of d)) (HasSoundTypeParts-roll (LiteralType-F.Map (of d)) tt
        (each d h))

    sound-union : (d : Data) → IsDataShort n d → HasSoundTypeParts (types.Union (variant_values of d))
    unfolding variant_values
    sound-union d h =
        let inside = field (codes "variants") (members_in d) in
        let items = items_short n inside (field_short n (codes "variants") (members_in d) (members_short n d h)) in
        let long = length-map (items_in inside) of in
        subst HasSoundTypeParts (views.rolls-Union (map of (items_in inside)))
        (HasSoundTypeParts-roll (LiteralType-F.Union (map of (items_in inside))) (omega (arith, long, items.0, small))
        (all-map (IsDataShort n) HasSoundTypeParts of each (items_in inside) items.1))

    by-parts : (ms : Members) → AreMembersShort n ms → HasSoundTypeParts (type_by of ms)
    unfolding type_by
    by-parts ms h =
        either HasSoundTypeParts (λ d. types.Collection (of d)) (member_at (codes "collectionType") ms) _
        (where_weaker (IsDataShort n) _ _ sound-collection (member_short n (codes "collectionType") ms h))
        (either HasSoundTypeParts (λ d. types.Map (of d)) (member_at (codes "mapValueType") ms) _
        (where_weaker (IsDataShort n) _ _ sound-map (member_short n (codes "mapValueType") ms h))
        (either HasSoundTypeParts (λ d. types.Union (variant_values of d)) (member_at (codes "unionType") ms)
        (plain_type ms)
        (where_weaker (IsDataShort n) _ _ sound-union (member_short n (codes "unionType") ms h)) (plain-parts ms h)))

  pub type-parts : (k : ℕ) (d : Data) → IsDataShort n d → HasSoundTypeParts (type_at k d)
  unfolding type_at
  type-parts zero d h = last-parts (members_in d) (members_short n d h)
  type-parts (suc k) d h = by-parts (type_at k) (type-parts k) (members_in d) (members_short n d h)

-- ---- the levels

levels-simple : (s : Simple) → type_levels (types.Simple s) ≡ 1
levels-simple s = ap type_levels (sym (views.rolls-Simple s)) ∙ type_levels-roll (LiteralType-F.Simple s)

levels-blob : (b : BlobType) → type_levels (types.Blob b) ≡ 1
levels-blob b = ap type_levels (sym (views.rolls-Blob b)) ∙ type_levels-roll (LiteralType-F.Blob b)

levels-enum : (values : List (List ℕ)) → type_levels (types.Enum values) ≡ 1
levels-enum values = ap type_levels (sym (views.rolls-Enum values)) ∙ type_levels-roll (LiteralType-F.Enum values)

levels-collection : (t : LiteralType) → type_levels (types.Collection t) ≡ 1 + type_levels t
levels-collection t = ap type_levels (sym (views.rolls-Collection t)) ∙ type_levels-roll (LiteralType-F.Collection t)

levels-map : (t : LiteralType) → type_levels (types.Map t) ≡ 1 + type_levels t
levels-map t = ap type_levels (sym (views.rolls-Map t)) ∙ type_levels-roll (LiteralType-F.Map t)

levels-union : (ts : List LiteralType) → type_levels (types.Union ts) ≡ 1 + largest (map type_levels ts)
levels-union ts = ap type_levels (sym (views.rolls-Union ts)) ∙ type_levels-roll (LiteralType-F.Union ts)

-- the type has no more levels than are left
abbrev Fits : ℕ → LiteralType → Type 0
Fits left t = type_levels t ≤ left

plain-fits : (left : ℕ) (ms : Members) → 1 ≤ left → Fits left (plain_type ms)
unfolding plain_type
plain-fits left ms h =
    either (Fits left) (λ d. types.Blob (blob_type_value d)) (member_at (codes "blob") ms) _
    (where_any (λ d. Fits left (types.Blob (blob_type_value d))) _ (λ d. omega
    (arith, levels-blob (blob_type_value d), h)))
    (either (Fits left) (λ d. types.Enum (enum_values d)) (member_at (codes "enumType") ms) _
    (where_any (λ d. Fits left (types.Enum (enum_values d))) _ (λ d. omega (arith, levels-enum (enum_values d), h)))
    (let one_level = levels-simple (simple_value (field (codes "simple") ms)) in omega arith))

last-fits : (left : ℕ) (ms : Members) → 1 ≤ left → Fits left (last_type ms)
unfolding last_type
last-fits left ms h =
    either (Fits left) (λ d. types.Union []) (member_at (codes "unionType") ms) (plain_type ms)
    (where_any (λ d. Fits left (types.Union [])) _ (λ d. omega (arith, levels-union [], h))) (plain-fits left ms h)

all-largest : (left : ℕ) (ts : List LiteralType) → AllByRecursion (Fits left) ts → largest (map type_levels ts) ≤ left
all-largest left [] h = omega arith
all-largest left (t ∷ ts) h = omega (arith, h.0, all-largest left ts h.1)

-- the members of the `oneof` of a type
abbrev type_members : List FieldRow
type_members =
    field_with optional (plain (codes "simple")) one simple_type Same
    ∷ field_with optional (named (codes "collectionType") (codes "collection_type")) one
    (message literal_type_number) Deeper
    ∷ field_with optional (named (codes "mapValueType") (codes "map_value_type")) one
    (message literal_type_number) Deeper
    ∷ field_with optional (plain (codes "blob")) one (message blob_type_number) Same
    ∷ field_with optional (named (codes "enumType") (codes "enum_type")) one (message enum_type_number) Same
    ∷ field_with optional (named (codes "unionType") (codes "union_type")) one (message union_type_number) Same ∷ []

module _ (rows : List MessageRow) (has_type : row_at rows literal_type_number ≡ literal_type_row)
    (has_union : row_at rows union_type_number ≡ union_type_row) where
  -- nothing is found in a type that has this level
  abbrev IsTypeClear : Level → ℕ → Data → Type 0
  IsTypeClear l level d = fault_of rows d (record {
    shape = one;
    kind = message literal_type_number;
    level = l;
  }) level ≡ None

  module _ (left level : ℕ) (counted : left + 1 + level ≡ 17) (of : Data → LiteralType)
      (each : (d : Data) → IsTypeClear Deeper level d → Fits left (of d)) where
    collection-fits : (d : Data) → IsTypeClear Deeper level d → Fits (left + 1) (types.Collection (of d))
    collection-fits d e = omega (arith, levels-collection (of d), each d e)

    map-fits : (d : Data) → IsTypeClear Deeper level d → Fits (left + 1) (types.Map (of d))
    map-fits d e = omega (arith, levels-map (of d), each d e)

    union-fits : (d : Data)
        → fault_of rows d (record { shape = one; kind = message union_type_number; level = Same }) level ≡ None
        → Fits (left + 1) (types.Union (variant_values of d))
    unfolding variant_values
    union-fits d e =
        let m = message-clear rows union_type_row union_type_number Same level d has_union refl e in
        let inside = field (codes "variants") (members_in d) in
        let clear = field-clear rows (members_in d) level
        (field_with optional (plain (codes "variants")) list (message literal_type_number) Deeper) refl m.parts.0 in
        let items = items-clear rows (message literal_type_number) Deeper level inside clear in
        let below = all-largest left (map of (items_in inside))
        (all-map (IsTypeClear Deeper level) (Fits left) of each (items_in inside) items) in
        omega (arith, levels-union (map of (items_in inside)), below)

    by-fits : (ms : Members)
        → WhereSome (IsTypeClear Deeper level) (member_at (codes "collectionType") ms)
        → WhereSome (IsTypeClear Deeper level) (member_at (codes "mapValueType") ms)
        → WhereSome (λ d. fault_of rows d (record {
          shape = one;
          kind = message union_type_number;
          level = Same;
        }) level ≡ None)
        (member_at (codes "unionType") ms)
        → Fits (left + 1) (type_by of ms)
    unfolding type_by
    by-fits ms collection mapped union =
        either (Fits (left + 1)) (λ d. types.Collection (of d)) (member_at (codes "collectionType") ms) _
        (where_weaker (IsTypeClear Deeper level) _ _ collection-fits collection)
        (either (Fits (left + 1)) (λ d. types.Map (of d)) (member_at (codes "mapValueType") ms) _
        (where_weaker (IsTypeClear Deeper level) _ _ map-fits mapped)
        (either (Fits (left + 1)) (λ d. types.Union (variant_values of d)) (member_at (codes "unionType") ms)
        (plain_type ms)
        (where_weaker _ _ _ union-fits union) (plain-fits (left + 1) ms (omega arith))))

  left_below : (level left : ℕ) → level ≤ max_levels → left + level ≡ 17 → 1 ≤ left
  left_below level left h e = omega arith

  type-fits : (k : ℕ) (d : Data) (l : Level) (level left : ℕ) → left + level_after l level ≡ 17 → IsTypeClear l
      level d
      → Fits left (type_at k d)
  unfolding type_at
  type-fits zero d l level left counted e =
      let m = message-clear rows literal_type_row literal_type_number l level d has_type refl e in
      last-fits left (members_in d) (left_below (level_after l level) left m.levels counted)
  type-fits (suc k) d l level zero counted e =
      let m = message-clear rows literal_type_row literal_type_number l level d has_type refl e in
      let some = left_below (level_after l level) zero m.levels counted in
      absurd (omega (arith, some))
  type-fits (suc k) d l level (suc left) counted e =
      let here = level_after l level in
      let m = message-clear rows literal_type_row literal_type_number l level d has_type refl e in
      let fields = one_of-clear rows (members_in d) here true type_members m.parts.0 in
      let same : left + 1 ≡ suc left = omega arith in
      let count : left + 1 + here ≡ 17 = omega (arith, counted) in
      let deeper : left + (here + 1) ≡ 17 = omega (arith, counted) in
      subst (λ n. Fits n (type_at (suc k) d)) same
      (by-fits left here count (type_at k) (λ x clear. type-fits k x Deeper here left deeper clear) (members_in d)
      (member-clear rows (members_in d) here
      (field_with optional (named (codes "collectionType") (codes "collection_type")) one
      (message literal_type_number) Deeper)
      refl fields.1.0)
      (member-clear rows (members_in d) here
      (field_with optional (named (codes "mapValueType") (codes "map_value_type")) one
      (message literal_type_number) Deeper)
      refl fields.1.1.0)
      (member-clear rows (members_in d) here
      (field_with optional (named (codes "unionType") (codes "union_type")) one (message union_type_number) Same)
      refl fields.1.1.1.1.1.0))

  -- a type in which nothing is found is sound
  pub type-sound : (n : ℕ) → n < 2 ^ 64 → (k : ℕ) (d : Data) (level : ℕ) → IsDataShort n d → IsTypeClear First level d
      → IsSoundType (type_at k d)
  type-sound n small k d level h e = record {
    parts = type-parts n small k d h;
    levels = type-fits k d First level 16 refl e;
  }
