-- A literal that is read, and in which nothing is found, is sound.
use Rattle.std.proofs.Common.{◌≡◌, inl, inr, ℕ, zero, suc, ◌+◌, ◌≤◌, ◌<◌, ◌^◌, true, List, [], ◌∷◌, map, Option, Some, None, refl, sym, ap, subst, ◌∙◌, arith, codes}
use Rattle.std.proofs.lemmas.List.{length-map}
use Rattle.std.specs.List.{AllByRecursion}
use Rattle.std.proofs.lemmas.List.Elements.{All-from_recursion}
use Rattle.serde_json.specs.Data.{Data, null, Members, no_members}
use Rattle.fly_types.specs.declared.text.Text.{Text}
use Rattle.fly_types.specs.declared.kinds.LiteralType.{LiteralType}
use Rattle.fly_types.specs.declared.literals.Literal.{Literal}
use Rattle.fly_types.specs.declared.literals.Literal.TheVariants as literals
use Rattle.fly_types.specs.declared.literals.Literal.TheOpen.{Literal-F}
use Rattle.fly_types.specs.declared.literals.Literal.TheViews as views
use Rattle.fly_types.specs.declared.literals.Literal.TheFolds.{fold-roll-Literal}
use Rattle.fly_types.specs.Levels.{largest, literal_levels, literal_levels_by}
use Rattle.fly_types.specs.Sound.{IsShort, HasSoundParts, IsSound, IsSoundMap}
use Rattle.fly_types.proofs.SoundLemmas.{HasSoundParts-roll}
use Rattle.fly_schema.specs.declared.table.Level.{Level}
use Rattle.fly_schema.specs.declared.table.Level.TheVariants.{Same, First, Deeper}
use Rattle.fly_schema.specs.Table.{message, one, list, map_by, struct, empty, any_text, optional, FieldRow, MessageRow}
use Rattle.fly_schema.specs.Scalars.{fits_texts}
use Rattle.fly_schema.specs.Faults.{fault_of, level_after, row_at}
use Rattle.fly_values.specs.Fields.{members_in, field, member_at, text_value, truth_value, items_in, entries_of}
use Rattle.fly_values.specs.Scalars.{integer_value, bytes_value, datetime_value, duration_value}
use Rattle.fly_values.specs.Types.{blob_type_value, type_value, type_depth}
use Rattle.fly_values.specs.Trees.{struct_value}
use Rattle.fly_values.specs.Literals.{datetime_literal, duration_literal, primitive_by, blob_value, binary_value, error_value, plain_scalar, union_by, scalar_by, elements_by, entries_by, literal_by, literal_at, literal_value, literal_depth, scalar_value, union_depth, literal_map_value}
use Rattle.fly_idl.specs.Rows.{plain, named, field_with, literal_type_number, literal_number, literal_list_number, literal_map_number, scalar_number, primitive_number, blob_number, binary_number, error_number, union_number, union_type_number, literal_row, literal_list_row, literal_map_row, scalar_row, union_row, literal_type_row, union_type_row}
use Rattle.fly_idl.proofs.Ordered.{IsOrdered, AreMembersOrdered, WhereSome, members_ordered, keys_ordered, field_ordered, items_ordered, all-map}
use Rattle.fly_idl.proofs.Bounds.{either, member-there}
use Rattle.fly_idl.proofs.Clear.{IsClear, field-clear, required-clear, message-clear, items-clear, entries-clear, one_of-clear, member-clear, member_field-clear}
use Rattle.fly_idl.proofs.Bounded.{IsDataShort, AreMembersShort, members_short, count_short, field_short, member_short, items_short, text_short}
use Rattle.fly_idl.proofs.SoundScalars.{integer-fits, datetime-sound, duration-sound, bytes-sound}
use Rattle.fly_idl.proofs.SoundTypes.{type-sound}
use Rattle.fly_idl.proofs.SoundTrees.{both-all, largest-map, map-twice, entries-sound, entries-kept, struct-sound}

where_weaker : {A : Type 0} (P Q : A → Type 0) (o : Option A) → ((a : A) → P a → Q a) → WhereSome P o → WhereSome Q o
where_weaker P Q None h p = tt
where_weaker P Q (Some a) h p = h a p

where_any : {A : Type 0} (Q : A → Type 0) (o : Option A) → ((a : A) → Q a) → WhereSome Q o
where_any Q None h = tt
where_any Q (Some a) h = h a

where_both : {A : Type 0} (P Q : A → Type 0) (o : Option A) → WhereSome P o → WhereSome Q o → WhereSome
    (λ a. P a × Q a) o
where_both P Q None p q = tt
where_both P Q (Some a) p q = (p, q)

-- ---- levels

second-map : {A : Type 0} (f : A → ℕ) (es : List (Text × A))
    → map (λ (e : Text × ℕ). e.1) (map (λ (e : Text × A). (e.0, f e.1)) es) ≡ map (λ (e : Text × A). f e.1) es
second-map f [] = refl
second-map f (e ∷ es) = ap (λ ns. f e.1 ∷ ns) (second-map f es)

levels-collection : (ls : List Literal) → literal_levels (literals.Collection ls) ≡ 1 + largest
    (map literal_levels ls)
levels-collection ls =
    ap literal_levels (sym (views.rolls-Collection ls)) ∙ fold-roll-Literal ℕ literal_levels_by
    (Literal-F.Collection ls)

levels-map : (es : List (Text × Literal))
    → literal_levels (literals.Map es) ≡ 1 + largest (map (λ (e : Text × Literal). literal_levels e.1) es)
levels-map es =
    ap literal_levels (sym (views.rolls-Map es)) ∙ fold-roll-Literal ℕ literal_levels_by (Literal-F.Map es)
    ∙ ap (λ ns. 1 + largest ns) (second-map literal_levels es)

levels-union : (l : Literal) (t : LiteralType) → literal_levels (literals.Union l t) ≡ 1 + literal_levels l
levels-union l t =
    ap literal_levels (sym (views.rolls-Union l t)) ∙ fold-roll-Literal ℕ literal_levels_by (Literal-F.Union l t)

abbrev Fits : ℕ → Literal → Type 0
Fits most l = literal_levels l ≤ most

-- no level
abbrev IsFlat : Literal → Type 0
IsFlat l = literal_levels l ≡ 0

flat-none : IsFlat literals.None
flat-none = ap literal_levels (sym views.rolls-None) ∙ fold-roll-Literal ℕ literal_levels_by Literal-F.None

flat-primitive : (ms : Members) → IsFlat (primitive_by ms)
unfolding primitive_by
flat-primitive ms =
    either IsFlat (λ d. literals.Integer (integer_value d)) (member_at (codes "integer") ms) _
    (where_any (λ d. IsFlat (literals.Integer (integer_value d))) _ (λ d. ap literal_levels
    (sym (views.rolls-Integer (integer_value d)))
    ∙ fold-roll-Literal ℕ literal_levels_by (Literal-F.Integer (integer_value d))))
    (either IsFlat (λ d. literals.Text (text_value d)) (member_at (codes "stringValue") ms) _
    (where_any (λ d. IsFlat (literals.Text (text_value d))) _ (λ d. ap literal_levels
    (sym (views.rolls-Text (text_value d)))
    ∙ fold-roll-Literal ℕ literal_levels_by (Literal-F.Text (text_value d))))
    (either IsFlat (λ d. literals.Boolean (truth_value d)) (member_at (codes "boolean") ms) _
    (where_any (λ d. IsFlat (literals.Boolean (truth_value d))) _ (λ d. ap literal_levels
    (sym (views.rolls-Boolean (truth_value d)))
    ∙ fold-roll-Literal ℕ literal_levels_by (Literal-F.Boolean (truth_value d))))
    (either IsFlat datetime_literal (member_at (codes "datetime") ms) _
    (where_any (λ d. IsFlat (datetime_literal d)) _
    (λ d. ap literal_levels (sym (views.rolls-Datetime (datetime_value d).seconds (datetime_value d).nanos))
    ∙ fold-roll-Literal ℕ literal_levels_by (Literal-F.Datetime (datetime_value d).seconds (datetime_value d).nanos)))
    (either IsFlat duration_literal (member_at (codes "duration") ms) literals.None
    (where_any (λ d. IsFlat (duration_literal d)) _
    (λ d. ap literal_levels (sym (views.rolls-Duration (duration_value d).seconds (duration_value d).nanos))
    ∙ fold-roll-Literal ℕ literal_levels_by (Literal-F.Duration (duration_value d).seconds (duration_value d).nanos)))
    flat-none))))

flat-blob : (d : Data) → IsFlat (blob_value d)
unfolding blob_value
flat-blob d = ap literal_levels (sym (views.rolls-Blob _ _)) ∙ fold-roll-Literal ℕ literal_levels_by
    (Literal-F.Blob _ _)

flat-binary : (d : Data) → IsFlat (binary_value d)
unfolding binary_value
flat-binary d = ap literal_levels (sym (views.rolls-Binary _ _)) ∙ fold-roll-Literal ℕ literal_levels_by
    (Literal-F.Binary _ _)

flat-error : (d : Data) → IsFlat (error_value d)
unfolding error_value
flat-error d = ap literal_levels (sym (views.rolls-Error _ _)) ∙ fold-roll-Literal ℕ literal_levels_by
    (Literal-F.Error _ _)

flat-plain : (ms : Members) → IsFlat (plain_scalar ms)
unfolding plain_scalar
flat-plain ms =
    either IsFlat (λ d. primitive_by (members_in d)) (member_at (codes "primitive") ms) _
    (where_any (λ d. IsFlat (primitive_by (members_in d))) _ (λ d. flat-primitive (members_in d)))
    (either IsFlat blob_value (member_at (codes "blob") ms) _ (where_any (λ d. IsFlat (blob_value d)) _ flat-blob)
    (either IsFlat binary_value (member_at (codes "binary") ms) _ (where_any (λ d. IsFlat (binary_value d)) _
    flat-binary)
    (either IsFlat error_value (member_at (codes "error") ms) _ (where_any (λ d. IsFlat (error_value d)) _ flat-error)
    (either IsFlat (λ d. literals.Generic (struct_value d)) (member_at (codes "generic") ms) literals.None
    (where_any (λ d. IsFlat (literals.Generic (struct_value d))) _
    (λ d. ap literal_levels (sym (views.rolls-Generic (struct_value d)))
    ∙ fold-roll-Literal ℕ literal_levels_by (Literal-F.Generic (struct_value d))))
    flat-none))))

module _ (most : ℕ) (of : Data → Literal) (each : (d : Data) → Fits most (of d)) where
  union-fits : (d : Data) → Fits (suc most) (union_by of d)
  unfolding union_by
  union-fits d =
      let value = field (codes "value") (members_in d) in
      omega (arith, levels-union (of value) (type_value (field (codes "type") (members_in d))), each value)

  pub scalar-fits : (ms : Members) → Fits (suc most) (scalar_by of ms)
  unfolding scalar_by
  scalar-fits ms =
      either (Fits (suc most)) (union_by of) (member_at (codes "union") ms) (plain_scalar ms)
      (where_any (λ d. Fits (suc most) (union_by of d)) _ union-fits) (omega (arith, flat-plain ms))

  collection-fits : (d : Data) → Fits (suc most) (literals.Collection (elements_by of d))
  unfolding elements_by
  collection-fits d =
      let ds = items_in (field (codes "literals") (members_in d)) in
      let below = largest-map (λ x. literal_levels (of x)) most each ds in
      let same = ap largest (map-twice of literal_levels ds) in
      omega (arith, levels-collection (map of ds), same, below)

  map-fits : (d : Data) → Fits (suc most) (literals.Map (entries_by of d))
  unfolding entries_by
  map-fits d =
      let es = entries_of (members_in (field (codes "literals") (members_in d))) in
      let below = largest-map (λ (e : Text × Data). literal_levels (of e.1)) most (λ e. each e.1) es in
      let same = ap largest (map-twice (λ (e : Text × Data). (e.0, of e.1))
      (λ (m : Text × Literal). literal_levels m.1) es) in
      omega (arith, levels-map (map (λ (e : Text × Data). (e.0, of e.1)) es), same, below)

  by-fits : (ms : Members) → Fits (suc most) (literal_by of ms)
  unfolding literal_by
  by-fits ms =
      either (Fits (suc most)) (λ d. literals.Collection (elements_by of d)) (member_at (codes "collection") ms) _
      (where_any (λ d. Fits (suc most) (literals.Collection (elements_by of d))) _ collection-fits)
      (either (Fits (suc most)) (λ d. literals.Map (entries_by of d)) (member_at (codes "map") ms) _
      (where_any (λ d. Fits (suc most) (literals.Map (entries_by of d))) _ map-fits)
      (scalar-fits (members_in (field (codes "scalar") ms))))

pub literal-fits : (k : ℕ) (d : Data) → Fits k (literal_at k d)
unfolding literal_at
literal-fits zero d = omega (arith, flat-plain (members_in (field (codes "scalar") (members_in d))))
literal-fits (suc k) d = by-fits k (literal_at k) (literal-fits k) (members_in d)

-- ---- parts

-- the members of the `oneof` of a literal, and of a scalar
abbrev literal_members : List FieldRow
literal_members =
    field_with optional (plain (codes "scalar")) one (message scalar_number) Same
    ∷ field_with optional (plain (codes "collection")) one (message literal_list_number) Deeper
    ∷ field_with optional (plain (codes "map")) one (message literal_map_number) Deeper ∷ []

abbrev scalar_members : List FieldRow
scalar_members =
    field_with optional (plain (codes "primitive")) one (message primitive_number) Same
    ∷ field_with optional (plain (codes "blob")) one (message blob_number) Same
    ∷ field_with optional (plain (codes "binary")) one (message binary_number) Same
    ∷ field_with optional (named (codes "noneType") (codes "none_type")) one empty Same
    ∷ field_with optional (plain (codes "error")) one (message error_number) Same
    ∷ field_with optional (plain (codes "generic")) one struct Same
    ∷ field_with optional (plain (codes "union")) one (message union_number) Deeper ∷ []

no_union : (P : Data → Type 0) → WhereSome P (member_at (codes "union") no_members)
unfolding member_at field
no_union P = tt

no_literals : field (codes "literals") no_members ≡ null
unfolding field
no_literals = refl

module _ (n : ℕ) (small : n < 2 ^ 63) where
  abbrev IsKept : Data → Type 0
  IsKept d = IsDataShort n d × IsOrdered d

  fits_count : n < 2 ^ 64
  fits_count = omega (arith, small)

  short_text : (d : Data) → IsDataShort n d → IsShort (text_value d)
  short_text d h = let le = text_short n d h in omega (arith, small)

  sound-none : HasSoundParts literals.None
  sound-none = subst HasSoundParts views.rolls-None (HasSoundParts-roll Literal-F.None tt tt)

  primitive-parts : (ms : Members) → AreMembersShort n ms → HasSoundParts (primitive_by ms)
  unfolding primitive_by
  primitive-parts ms h =
      either HasSoundParts (λ d. literals.Integer (integer_value d)) (member_at (codes "integer") ms) _
      (where_weaker (IsDataShort n) (λ d. HasSoundParts (literals.Integer (integer_value d))) _
      (λ d p. subst HasSoundParts (views.rolls-Integer (integer_value d))
      (HasSoundParts-roll (Literal-F.Integer (integer_value d)) (integer-fits n d p) tt))
      (member_short n (codes "integer") ms h))
      (either HasSoundParts (λ d. literals.Text (text_value d)) (member_at (codes "stringValue") ms) _
      (where_weaker (IsDataShort n) (λ d. HasSoundParts (literals.Text (text_value d))) _
      (λ d p. subst HasSoundParts (views.rolls-Text (text_value d))
      (HasSoundParts-roll (Literal-F.Text (text_value d)) (short_text d p) tt))
      (member_short n (codes "stringValue") ms h))
      (either HasSoundParts (λ d. literals.Boolean (truth_value d)) (member_at (codes "boolean") ms) _
      (where_any (λ d. HasSoundParts (literals.Boolean (truth_value d))) _
      (λ d. subst HasSoundParts (views.rolls-Boolean (truth_value d)) (HasSoundParts-roll
      (Literal-F.Boolean (truth_value d)) tt tt)))
      (either HasSoundParts datetime_literal (member_at (codes "datetime") ms) _
      (where_any (λ d. HasSoundParts (datetime_literal d)) _
      (λ d. subst HasSoundParts (views.rolls-Datetime (datetime_value d).seconds (datetime_value d).nanos)
      (HasSoundParts-roll (Literal-F.Datetime (datetime_value d).seconds (datetime_value d).nanos)
      (datetime-sound d) tt)))
      (either HasSoundParts duration_literal (member_at (codes "duration") ms) literals.None
      (where_any (λ d. HasSoundParts (duration_literal d)) _
      (λ d. subst HasSoundParts (views.rolls-Duration (duration_value d).seconds (duration_value d).nanos)
      (HasSoundParts-roll (Literal-F.Duration (duration_value d).seconds (duration_value d).nanos)
      (duration-sound d) tt)))
      sound-none))))

  sound-format : (d : Data) → IsDataShort n d → IsShort (blob_type_value d).format
  unfolding blob_type_value
  sound-format d h = short_text _ (field_short n (codes "format") (members_in d) (members_short n d h))

  blob-parts : (d : Data) → IsDataShort n d → HasSoundParts (blob_value d)
  unfolding blob_value
  blob-parts d h =
      let ms = members_short n d h in
      let metadata = field_short n (codes "metadata") (members_in d) ms in
      let kind = field_short n (codes "type") (members_in (field (codes "metadata") (members_in d)))
      (members_short n _ metadata) in
      subst HasSoundParts (views.rolls-Blob _ _)
      (HasSoundParts-roll (Literal-F.Blob (text_value (field (codes "uri") (members_in d)))
      (blob_type_value (field (codes "type") (members_in (field (codes "metadata") (members_in d))))))
      (short_text _ (field_short n (codes "uri") (members_in d) ms), sound-format _ kind) tt)

  binary-parts : (d : Data) → IsDataShort n d → HasSoundParts (binary_value d)
  unfolding binary_value
  binary-parts d h =
      let ms = members_short n d h in
      let bytes = bytes-sound n _ (field_short n (codes "value") (members_in d) ms) in
      subst HasSoundParts (views.rolls-Binary _ _)
      (HasSoundParts-roll (Literal-F.Binary (bytes_value (field (codes "value") (members_in d)))
      (text_value (field (codes "tag") (members_in d))))
      (omega (arith, bytes, small), short_text _ (field_short n (codes "tag") (members_in d) ms)) tt)

  error-parts : (d : Data) → IsDataShort n d → HasSoundParts (error_value d)
  unfolding error_value
  error-parts d h =
      let ms = members_short n d h in
      subst HasSoundParts (views.rolls-Error _ _)
      (HasSoundParts-roll (Literal-F.Error (text_value (field (codes "failedNodeId") (members_in d)))
      (text_value (field (codes "message") (members_in d)))) (
        short_text _ (field_short n (codes "failedNodeId") (members_in d) ms),
        short_text _ (field_short n (codes "message") (members_in d) ms),
      ) tt)

  generic-parts : (d : Data) → IsKept d → HasSoundParts (literals.Generic (struct_value d))
  generic-parts d h =
      subst HasSoundParts (views.rolls-Generic (struct_value d))
      (HasSoundParts-roll (Literal-F.Generic (struct_value d)) (struct-sound n fits_count d h) tt)

  member-kept : (name : List ℕ) (ms : Members) → AreMembersShort n ms → AreMembersOrdered ms
      → WhereSome IsKept (member_at name ms)
  member-kept name ms h k =
      where_both (IsDataShort n) IsOrdered (member_at name ms) (member_short n name ms h) (member-there name ms k)

  plain-parts : (ms : Members) → AreMembersShort n ms → AreMembersOrdered ms → HasSoundParts (plain_scalar ms)
  unfolding plain_scalar
  plain-parts ms h k =
      either HasSoundParts (λ d. primitive_by (members_in d)) (member_at (codes "primitive") ms) _
      (where_weaker (IsDataShort n) (λ d. HasSoundParts (primitive_by (members_in d))) _
      (λ d p. primitive-parts (members_in d) (members_short n d p)) (member_short n (codes "primitive") ms h))
      (either HasSoundParts blob_value (member_at (codes "blob") ms) _
      (where_weaker (IsDataShort n) (λ d. HasSoundParts (blob_value d)) _ blob-parts
      (member_short n (codes "blob") ms h))
      (either HasSoundParts binary_value (member_at (codes "binary") ms) _
      (where_weaker (IsDataShort n) (λ d. HasSoundParts (binary_value d)) _ binary-parts
      (member_short n (codes "binary") ms h))
      (either HasSoundParts error_value (member_at (codes "error") ms) _
      (where_weaker (IsDataShort n) (λ d. HasSoundParts (error_value d)) _ error-parts
      (member_short n (codes "error") ms h))
      (either HasSoundParts (λ d. literals.Generic (struct_value d)) (member_at (codes "generic") ms) literals.None
      (where_weaker IsKept (λ d. HasSoundParts (literals.Generic (struct_value d))) _ generic-parts
      (member-kept (codes "generic") ms h k))
      sound-none))))

  kept-field : (name : List ℕ) (d : Data) → IsKept d → IsKept (field name (members_in d))
  kept-field name d h = (
    field_short n name (members_in d) (members_short n d h.0),
    field_ordered name (members_in d)
        (members_ordered d h.1),
  )

  module _ (rows : List MessageRow) (has_type : row_at rows literal_type_number ≡ literal_type_row)
      (has_union_type : row_at rows union_type_number ≡ union_type_row)
      (has_literal : row_at rows literal_number ≡ literal_row)
      (has_list : row_at rows literal_list_number ≡ literal_list_row) (has_map : row_at rows literal_map_number
      ≡ literal_map_row)
      (has_scalar : row_at rows scalar_number ≡ scalar_row) (has_union : row_at rows union_number ≡ union_row) where
    -- nothing is found in a message of this row
    abbrev IsClearOf : ℕ → Level → ℕ → Data → Type 0
    IsClearOf number l level d = fault_of rows d (record { shape = one; kind = message number; level = l })
        level ≡ None

    abbrev IsLiteralRead : Level → ℕ → Data → Type 0
    IsLiteralRead l level d = IsKept d × IsClearOf literal_number l level d

    module _ (of : Data → Literal) (each : (l : Level) (level : ℕ) (d : Data) → IsLiteralRead l level d →
        HasSoundParts (of d)) where
      union-parts : (level : ℕ) (d : Data) → IsKept d × IsClearOf union_number Deeper level d → HasSoundParts
          (union_by of d)
      unfolding union_by
      union-parts level d h =
          let m = message-clear rows union_row union_number Deeper level d has_union refl h.1 in
          let value = required-clear rows (members_in d) (level + 1) (plain (codes "value"))
          (record { shape = one; kind = message literal_number; level = Same }) refl m.parts.0 in
          let kind = required-clear rows (members_in d) (level + 1) (plain (codes "type"))
          (record { shape = one; kind = message literal_type_number; level = First }) refl m.parts.1.0 in
          let variant = type-sound rows has_type has_union_type n fits_count type_depth
          (field (codes "type") (members_in d))
          (level + 1) (kept-field (codes "type") d h.0).0 kind in
          let inner = of (field (codes "value") (members_in d)) in
          let outer = type_value (field (codes "type") (members_in d)) in
          subst HasSoundParts (views.rolls-Union inner outer)
          (HasSoundParts-roll (Literal-F.Union inner outer) variant
          (each Same (level + 1) (field (codes "value") (members_in d)) (kept-field (codes "value") d h.0, value)))

      union-clear : (level : ℕ) (d : Data) → IsClear rows (record {
        shape = one;
        kind = message scalar_number;
        level = Same;
      }) level d
          → WhereSome (IsClearOf union_number Deeper level) (member_at (codes "union") (members_in d))
      union-clear level d (inl absent) =
          subst (λ x. WhereSome (IsClearOf union_number Deeper level) (member_at (codes "union")
          (members_in x))) (sym absent)
          (no_union (IsClearOf union_number Deeper level))
      union-clear level d (inr e) =
          let m = message-clear rows scalar_row scalar_number Same level d has_scalar refl e in
          let fields = one_of-clear rows (members_in d) level true scalar_members m.parts.0 in
          member-clear rows (members_in d) level (field_with optional (plain (codes "union")) one
          (message union_number) Deeper)
          refl fields.1.1.1.1.1.1.0

      pub scalar-parts : (level : ℕ) (d : Data) → IsKept d
          → IsClear rows (record { shape = one; kind = message scalar_number; level = Same }) level d
          → HasSoundParts (scalar_by of (members_in d))
      unfolding scalar_by
      scalar-parts level d h e =
          let short = members_short n d h.0 in
          let ordered = members_ordered d h.1 in
          either HasSoundParts (union_by of) (member_at (codes "union") (members_in d)) (plain_scalar (members_in d))
          (where_weaker (λ x. IsKept x × IsClearOf union_number Deeper level x) (λ x. HasSoundParts (union_by of x)) _
          (union-parts level)
          (where_both IsKept (IsClearOf union_number Deeper level) _ (member-kept (codes "union") (members_in d)
          short ordered)
          (union-clear level d e)))
          (plain-parts (members_in d) short ordered)

      collection-parts : (level : ℕ) (d : Data) → IsKept d × IsClearOf literal_list_number Deeper level d
          → HasSoundParts (literals.Collection (elements_by of d))
      unfolding elements_by
      collection-parts level d h =
          let m = message-clear rows literal_list_row literal_list_number Deeper level d has_list refl h.1 in
          let inside = field (codes "literals") (members_in d) in
          let kept = kept-field (codes "literals") d h.0 in
          let clear = items-clear rows (message literal_number) Same (level + 1) inside
          (field-clear rows (members_in d) (level + 1)
          (field_with optional (plain (codes "literals")) list (message literal_number) Same) refl m.parts.0) in
          let items = items_short n inside kept.0 in
          let long = length-map (items_in inside) of in
          let each_kept = both-all (IsDataShort n) IsOrdered (items_in inside) items.1
          (items_ordered inside kept.1) in
          subst HasSoundParts (views.rolls-Collection (map of (items_in inside)))
          (HasSoundParts-roll (Literal-F.Collection (map of (items_in inside))) (omega (arith, long, items.0, small))
          (all-map (IsLiteralRead Same (level + 1)) HasSoundParts of (each Same (level + 1)) (items_in inside)
          (both-all IsKept (IsClearOf literal_number Same (level + 1)) (items_in inside) each_kept clear)))

      -- the values of the entries, in a message of a map
      pub values-parts : (level : ℕ) (d : Data) → IsKept d
          → IsClear rows (record { shape = map_by any_text; kind = message literal_number; level = Same }) level d
          → AllByRecursion (λ (e : Text × Literal). HasSoundParts e.1)
          (map (λ (e : Text × Data). (e.0, of e.1)) (entries_of (members_in d)))
      values-parts level d h e =
          let es = entries_of (members_in d) in
          all-map (λ (x : Text × Data). IsLiteralRead Same level x.1) (λ (x : Text × Literal). HasSoundParts x.1)
          (λ (x : Text × Data). (x.0, of x.1)) (λ x p. each Same level x.1 p) es
          (both-all (λ (x : Text × Data). IsKept x.1) (λ (x : Text × Data). IsClearOf literal_number Same level
          x.1) es
          (entries-kept n fits_count (members_in d) (members_short n d h.0) (members_ordered d h.1))
          (second es (entries-clear rows any_text (message literal_number) Same level d e)))
        where
          second : (es : List (Text × Data))
              → AllByRecursion (λ (x : Text × Data). (fits_texts any_text x.0 ≡ true) × IsClearOf literal_number
              Same level x.1) es
              → AllByRecursion (λ (x : Text × Data). IsClearOf literal_number Same level x.1) es
          second [] h = tt
          second (x ∷ es) h = (h.0.1, second es h.1)

      map-parts : (level : ℕ) (d : Data) → IsKept d × IsClearOf literal_map_number Deeper level d
          → HasSoundParts (literals.Map (entries_by of d))
      unfolding entries_by
      map-parts level d h =
          let m = message-clear rows literal_map_row literal_map_number Deeper level d has_map refl h.1 in
          let inside = field (codes "literals") (members_in d) in
          let kept = kept-field (codes "literals") d h.0 in
          let clear = field-clear rows (members_in d) (level + 1)
          (field_with optional (plain (codes "literals")) (map_by any_text) (message literal_number) Same) refl
          m.parts.0 in
          let entries = map (λ (e : Text × Data). (e.0, of e.1)) (entries_of (members_in inside)) in
          subst HasSoundParts (views.rolls-Map entries)
          (HasSoundParts-roll (Literal-F.Map entries)
          (entries-sound n fits_count of (members_in inside) (count_short n inside kept.0)
          (keys_ordered inside kept.1)
          (members_short n inside kept.0)) (values-parts (level + 1) inside kept clear))

      by-parts : (level : ℕ) (d : Data) → IsKept d
          → WhereSome (IsClearOf literal_list_number Deeper level) (member_at (codes "collection") (members_in d))
          → WhereSome (IsClearOf literal_map_number Deeper level) (member_at (codes "map") (members_in d))
          → IsClear rows (record { shape = one; kind = message scalar_number; level = Same }) level
          (field (codes "scalar") (members_in d))
          → HasSoundParts (literal_by of (members_in d))
      unfolding literal_by
      by-parts level d h collection mapped scalar =
          let short = members_short n d h.0 in
          let ordered = members_ordered d h.1 in
          either HasSoundParts (λ x. literals.Collection (elements_by of x))
          (member_at (codes "collection") (members_in d)) _
          (where_weaker (λ x. IsKept x × IsClearOf literal_list_number Deeper level x)
          (λ x. HasSoundParts (literals.Collection (elements_by of x))) _ (collection-parts level)
          (where_both IsKept (IsClearOf literal_list_number Deeper level) _
          (member-kept (codes "collection") (members_in d) short ordered) collection))
          (either HasSoundParts (λ x. literals.Map (entries_by of x)) (member_at (codes "map") (members_in d)) _
          (where_weaker (λ x. IsKept x × IsClearOf literal_map_number Deeper level x)
          (λ x. HasSoundParts (literals.Map (entries_by of x))) _ (map-parts level)
          (where_both IsKept (IsClearOf literal_map_number Deeper level) _
          (member-kept (codes "map") (members_in d) short ordered) mapped))
          (scalar-parts level (field (codes "scalar") (members_in d)) (kept-field (codes "scalar") d h) scalar))

    pub literal-parts : (k : ℕ) (l : Level) (level : ℕ) (d : Data) → IsLiteralRead l level d → HasSoundParts
        (literal_at k d)
    unfolding literal_at
    literal-parts zero l level d h =
        let scalar = kept-field (codes "scalar") d h.0 in
        plain-parts (members_in (field (codes "scalar") (members_in d))) (members_short n _ scalar.0)
        (members_ordered _ scalar.1)
    literal-parts (suc k) l level d h =
        let here = level_after l level in
        let m = message-clear rows literal_row literal_number l level d has_literal refl h.1 in
        let fields = one_of-clear rows (members_in d) here true literal_members m.parts.0 in
        by-parts (literal_at k) (literal-parts k) here d h.0
        (member-clear rows (members_in d) here
        (field_with optional (plain (codes "collection")) one (message literal_list_number) Deeper) refl fields.1.0)
        (member-clear rows (members_in d) here
        (field_with optional (plain (codes "map")) one (message literal_map_number) Deeper) refl fields.1.1.0)
        (member_field-clear rows (members_in d) here
        (field_with optional (plain (codes "scalar")) one (message scalar_number) Same) refl fields.0)

    -- ---- whole literals, and maps of them

    pub literal-sound : (l : Level) (level : ℕ) (d : Data)
        → (IsDataShort n d × IsOrdered d) × (fault_of rows d (record {
          shape = one;
          kind = message
              literal_number;
          level = l;
        }) level ≡ None)
        → IsSound (literal_value d)
    literal-sound l level d h = record {
      parts = literal-parts literal_depth l level d h;
      levels = literal-fits literal_depth d;
    }

    values-sound : (level : ℕ) (d : Data) → IsKept d
        → IsClear rows (record { shape = map_by any_text; kind = message literal_number; level = Same }) level d
        → AllByRecursion (λ (e : Text × Literal). IsSound e.1)
        (map (λ (e : Text × Data). (e.0, literal_value e.1)) (entries_of (members_in d)))
    values-sound level d h e =
        let es = entries_of (members_in d) in
        all-map (λ (x : Text × Data). IsLiteralRead Same level x.1) (λ (x : Text × Literal). IsSound x.1)
        (λ (x : Text × Data). (x.0, literal_value x.1)) (λ x p. literal-sound Same level x.1 p) es
        (both-all (λ (x : Text × Data). IsKept x.1) (λ (x : Text × Data). IsClearOf literal_number Same level x.1) es
        (entries-kept n fits_count (members_in d) (members_short n d h.0) (members_ordered d h.1))
        (second es (entries-clear rows any_text (message literal_number) Same level d e)))
      where
        second : (es : List (Text × Data))
            → AllByRecursion (λ (x : Text × Data). (fits_texts any_text x.0 ≡ true) × IsClearOf literal_number
            Same level x.1) es
            → AllByRecursion (λ (x : Text × Data). IsClearOf literal_number Same level x.1) es
        second [] h = tt
        second (x ∷ es) h = (h.0.1, second es h.1)

    map-sound_by : (level : ℕ) (d : Data) → IsKept d
        → IsClear rows (record { shape = map_by any_text; kind = message literal_number; level = Same }) level
        (field (codes "literals") (members_in d))
        → IsSoundMap (literal_map_value d)
    unfolding literal_map_value entries_by
    map-sound_by level d h e =
        let inside = field (codes "literals") (members_in d) in
        let kept = kept-field (codes "literals") d h in
        let entries = map (λ (x : Text × Data). (x.0, literal_value x.1)) (entries_of (members_in inside)) in record {
          names = entries-sound n fits_count literal_value (members_in inside) (count_short n inside kept.0)
              (keys_ordered inside kept.1) (members_short n inside kept.0);
          literals = All-from_recursion (λ (x : Text × Literal). IsSound x.1) entries
              (values-sound level inside kept e);
        }

    -- a message of a map, which may be absent
    pub map-sound : (level : ℕ) (d : Data) → IsDataShort n d × IsOrdered d
        → IsClear rows (record { shape = one; kind = message literal_map_number; level = Same }) level d
        → IsSoundMap (literal_map_value d)
    map-sound level d h (inl absent) =
        map-sound_by level d h (inl (ap (λ x. field (codes "literals") (members_in x)) absent ∙ no_literals))
    map-sound level d h (inr e) =
        let m = message-clear rows literal_map_row literal_map_number Same level d has_map refl e in
        map-sound_by level d h (field-clear rows (members_in d) level
        (field_with optional (plain (codes "literals")) (map_by any_text) (message literal_number) Same) refl
        m.parts.0)

    -- a scalar by itself
    pub scalar-sound : (level : ℕ) (d : Data) → IsDataShort n d × IsOrdered d
        → IsClear rows (record { shape = one; kind = message scalar_number; level = Same }) level d
        → IsSound (scalar_value d)
    scalar-sound level d h e = record {
      parts = scalar-parts (literal_at union_depth) (literal-parts union_depth) level d h e;
      levels = scalar-fits union_depth (literal_at union_depth) (literal-fits union_depth) (members_in d);
    }
