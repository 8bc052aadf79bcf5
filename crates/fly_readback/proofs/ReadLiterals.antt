-- The JSON of a literal stands for that literal.
use Rattle.std.proofs.Common.{◌≡◌, ℕ, zero, suc, ◌+◌, ◌≤◌, ◌<◌, Bool, true, ℤ, pos, List, [], ◌∷◌, map, Some, None, nat_cmp, refl, sym, ap, ap₂, subst, ◌∙◌, arith, codes}
use Rattle.std.specs.Prelude.{⊤, unwrap_or, slice_index}
use Rattle.std.specs.List.{AllByRecursion, All}
use Rattle.std.specs.List.Sorted.{IsStrictlySortedBy}
use Rattle.std.specs.Cmp.Lexicographic.{slice_cmp}
use Rattle.std.proofs.lemmas.List.Elements.{recursion_from_All}
use Rattle.base64.specs.Engines.{standard}
use Rattle.base64.specs.GeneralPurpose.{decoded_of}
use Rattle.base64.proofs.EngineFacts.{decode_of-encode_of}
use Rattle.serde_json.specs.Data.{Data, string, boolean}
use Rattle.fly_types.specs.declared.text.Text.{Text}
use Rattle.fly_types.specs.declared.kinds.BlobType.{BlobType}
use Rattle.fly_types.specs.declared.kinds.LiteralType.{LiteralType}
use Rattle.fly_types.specs.declared.literals.Literal.{Literal, roll-Literal, out-Literal}
use Rattle.fly_types.specs.declared.literals.Literal.TheVariants as literals
use Rattle.fly_types.specs.declared.literals.Literal.TheOpen.{Literal-F}
use Rattle.fly_types.specs.declared.literals.Literal.TheViews as views
use Rattle.fly_types.specs.declared.literals.Literal.TheFolds.{fold_out-Literal, map-Literal, every_here-Literal, every_held-Literal}
use Rattle.fly_types.specs.declared.literals.LiteralMap.{LiteralMap}
use Rattle.fly_types.specs.Layer.{LiteralLayer}
use Rattle.fly_types.specs.Levels.{largest, literal_levels, literal_levels_by}
use Rattle.fly_types.specs.Sound.{IsInstant, IsSpan, AreNamesSorted, IsLiteralLayerSound, HasSoundParts, IsSound, IsSoundMap}
use Rattle.fly_types.proofs.LiteralTells.{LiteralsHeld, IsSoundLayer, sound_layer}
use Rattle.fly_scalars.specs.Whole.{integer_text}
use Rattle.fly_scalars.specs.Binary.{bytes_of, bytes_text}
use Rattle.fly_scalars.specs.Datetime.{datetime_text}
use Rattle.fly_scalars.specs.Duration.{duration_text}
use Rattle.fly_scalars.proofs.WholeLemmas.{i64_reads_back}
use Rattle.fly_scalars.proofs.DurationLemmas.{duration_reads}
use Rattle.fly_values.specs.Fields.{members_in, field, first_there, unless_null, member_at, text_value, truth_value, list_value, map_value}
use Rattle.fly_values.specs.Scalars.{integer_value, bytes_value, epoch, no_time}
use Rattle.fly_values.specs.Types.{blob_type_value, type_value}
use Rattle.fly_values.specs.Trees.{struct_value}
use Rattle.fly_values.specs.Literals.{datetime_literal, duration_literal, primitive_by, primitive_value, blob_value, binary_value, error_value, plain_scalar, union_by, scalar_by, elements_by, entries_by, literal_by, literal_at, literal_depth, literal_value, literal_map_value}
use Rattle.fly_writers.specs.Json.{Fields, message}
use Rattle.fly_writers.specs.Types.{type_json}
use Rattle.fly_writers.specs.Literals.{tree_json, datetime_json, duration_json, blob_metadata_fields, blob_fields, optional_bytes, binary_fields, error_fields, union_fields, scalar_fields, collection_fields, map_fields, literal_fields_by, literal_json_by, literal_json, literal_map_json}
use Rattle.fly_writers.proofs.ScalarTexts.{datetime_written, duration_written}
use Rattle.fly_readback.specs.ReadBack.{IsLayerOfBytes, IsOfBytes, IsMapOfBytes}
use Rattle.fly_writers.proofs.MessageLemmas.{are_distinct}
use Rattle.fly_readback.proofs.Messages.{value_in, message-field, message-member, skip, take, first_both, text-twice, text-kept, list-twice, AreSorted, map-twice}
use Rattle.fly_readback.proofs.ReadTypes.{blob_type-read, type-read}
use Rattle.fly_readback.proofs.ReadTrees.{struct-read, tree-there}
use Rattle.fly_readback.proofs.Dates.{datetime-read}

-- ---- bytes

bytes_at : (bs : List ℕ) → AllByRecursion (λ b. b < 256) bs → (i : ℕ) → slice_index bs i < 256
bytes_at [] h i = omega arith
bytes_at (b ∷ bs) h zero = h.0
bytes_at (b ∷ bs) h (suc i) = bytes_at bs h.1 i

pub bytes-back : (bs : List ℕ) → All (λ b. b < 256) bs → bytes_of (bytes_text bs) ≡ Some bs
unfolding bytes_of bytes_text decoded_of
bytes-back bs h =
    let read = decode_of-encode_of standard bs refl (bytes_at bs (recursion_from_All (λ b. b < 256) bs h)) in
    rw read refl

bytes-read : (bs : List ℕ) → All (λ b. b < 256) bs → bytes_value (first_both (optional_bytes bs)) ≡ bs
bytes-read [] h = refl
bytes-read (b ∷ bs) h = ap (λ o. unwrap_or o []) (bytes-back (b ∷ bs) h)

-- ---- primitives

primitive-integer : (value : ℤ) → IsLiteralLayerSound (Literal-F.Integer value)
    → primitive_value (message ((codes "integer", Some (string (integer_text value))) ∷ [])) ≡ literals.Integer value
unfolding primitive_by
primitive-integer value h =
    let fs : Fields = (codes "integer", Some (string (integer_text value))) ∷ [] in
    take (λ d. literals.Integer (integer_value d)) _ (string (integer_text value)) _
    (message-member (codes "integer") fs refl)
    ∙ ap (λ o. literals.Integer (unwrap_or o (pos 0))) (i64_reads_back value h)

primitive-text : (s : List ℕ)
    → primitive_value (message ((codes "stringValue", Some (string s)) ∷ [])) ≡ literals.Text s
unfolding primitive_by
primitive-text s =
    let fs : Fields = (codes "stringValue", Some (string s)) ∷ [] in
    skip _ _ _ (message-member (codes "integer") fs refl)
    ∙ take (λ d. literals.Text (text_value d)) _ (string s) _ (message-member (codes "stringValue") fs refl)

primitive-boolean : (b : Bool)
    → primitive_value (message ((codes "boolean", Some (boolean b)) ∷ [])) ≡ literals.Boolean b
unfolding primitive_by
primitive-boolean b =
    let fs : Fields = (codes "boolean", Some (boolean b)) ∷ [] in
    skip _ _ _ (message-member (codes "integer") fs refl)
    ∙ skip _ _ _ (message-member (codes "stringValue") fs refl)
    ∙ take (λ d. literals.Boolean (truth_value d)) _ (boolean b) _ (message-member (codes "boolean") fs refl)

primitive-datetime : (seconds : ℤ) (nanos : ℕ) → IsInstant seconds nanos
    → primitive_value (message ((codes "datetime", datetime_json seconds nanos) ∷ []))
    ≡ literals.Datetime seconds nanos
unfolding primitive_by
primitive-datetime seconds nanos h =
    let fs : Fields = (codes "datetime", datetime_json seconds nanos) ∷ [] in
    let written = string (datetime_text (record { seconds = seconds; nanos = nanos })) in
    skip _ _ _ (message-member (codes "integer") fs refl)
    ∙ skip _ _ _ (message-member (codes "stringValue") fs refl)
    ∙ skip _ _ _ (message-member (codes "boolean") fs refl)
    ∙ take datetime_literal _ written _ (message-member (codes "datetime") fs refl
    ∙ ap (λ o. unless_null (first_both o)) (datetime_written seconds nanos h))
    ∙ ap (λ o. literals.Datetime (unwrap_or o epoch).seconds (unwrap_or o epoch).nanos)
    (datetime-read (record { seconds = seconds; nanos = nanos }) h)

primitive-duration : (seconds nanos : ℤ) → IsSpan seconds nanos
    → primitive_value (message ((codes "duration", duration_json seconds nanos) ∷ []))
    ≡ literals.Duration seconds nanos
unfolding primitive_by
primitive-duration seconds nanos h =
    let fs : Fields = (codes "duration", duration_json seconds nanos) ∷ [] in
    let written = string (duration_text (record { seconds = seconds; nanos = nanos })) in
    skip _ _ _ (message-member (codes "integer") fs refl)
    ∙ skip _ _ _ (message-member (codes "stringValue") fs refl)
    ∙ skip _ _ _ (message-member (codes "boolean") fs refl)
    ∙ skip _ _ _ (message-member (codes "datetime") fs refl)
    ∙ take duration_literal _ written _ (message-member (codes "duration") fs refl
    ∙ ap (λ o. unless_null (first_both o)) (duration_written seconds nanos h))
    ∙ ap (λ o. literals.Duration (unwrap_or o no_time).seconds (unwrap_or o no_time).nanos)
    (duration_reads (record { seconds = seconds; nanos = nanos }) h)

-- ---- other scalars

blob-read : (uri : List ℕ) (form : BlobType) → blob_value (message (blob_fields uri form)) ≡ literals.Blob uri form
unfolding blob_value
blob-read uri form =
    let fs = blob_fields uri form in
    ap₂ literals.Blob (ap text_value (message-field (codes "uri") fs refl) ∙ text-twice uri)
    (ap (λ d. blob_type_value (field (codes "type") (members_in d))) (message-field (codes "metadata") fs refl)
    ∙ ap blob_type_value (message-field (codes "type") (blob_metadata_fields form) refl) ∙ blob_type-read form)

binary-read : (value tag : List ℕ) → All (λ b. b < 256) value
    → binary_value (message (binary_fields value tag)) ≡ literals.Binary value tag
unfolding binary_value
binary-read value tag h =
    let fs = binary_fields value tag in
    ap₂ literals.Binary (ap bytes_value (message-field (codes "value") fs refl) ∙ bytes-read value h)
    (ap text_value (message-field (codes "tag") fs refl) ∙ text-twice tag)

error-read : (node text : List ℕ) → error_value (message (error_fields node text)) ≡ literals.Error node text
unfolding error_value
error-read node text =
    let fs = error_fields node text in
    ap₂ literals.Error (ap text_value (message-field (codes "failedNodeId") fs refl) ∙ text-kept node)
    (ap text_value (message-field (codes "message") fs refl) ∙ text-twice text)

primitive-scalar : (p : Data) (l : Literal) → unless_null p ≡ Some p → primitive_value p ≡ l
    → plain_scalar (members_in (message ((codes "primitive", Some p) ∷ []))) ≡ l
unfolding plain_scalar
primitive-scalar p l there e =
    let fs : Fields = (codes "primitive", Some p) ∷ [] in
    take primitive_value _ p _ (message-member (codes "primitive") fs refl ∙ there) ∙ e

-- a layer that holds no literal
abbrev pub IsFlat : LiteralLayer → Type 0
IsFlat (Literal-F.Union value variant) = ⊥
IsFlat (Literal-F.Collection ls) = ⊥
IsFlat (Literal-F.Map es) = ⊥
IsFlat _ = ⊤

abbrev pub mapped : LiteralLayer → Literal-F Data
mapped z = map-Literal Literal Data literal_json z

flat-read : (z : LiteralLayer) → IsFlat z → IsLiteralLayerSound z → IsLayerOfBytes z
    → plain_scalar (members_in (message (scalar_fields (mapped z)))) ≡ roll-Literal z
unfolding plain_scalar
flat-read Literal-F.None f p b =
    let fs = scalar_fields (mapped Literal-F.None) in
    skip _ _ _ (message-member (codes "primitive") fs refl) ∙ skip _ _ _ (message-member (codes "blob") fs refl)
    ∙ skip _ _ _ (message-member (codes "binary") fs refl) ∙ skip _ _ _ (message-member (codes "error") fs refl)
    ∙ skip _ _ _ (message-member (codes "generic") fs refl) ∙ sym views.rolls-None
flat-read (Literal-F.Integer value) f p b =
    primitive-scalar _ (literals.Integer value) refl (primitive-integer value p) ∙ sym (views.rolls-Integer value)
flat-read (Literal-F.Text text) f p b =
    primitive-scalar _ (literals.Text text) refl (primitive-text text) ∙ sym (views.rolls-Text text)
flat-read (Literal-F.Boolean value) f p b =
    primitive-scalar _ (literals.Boolean value) refl (primitive-boolean value) ∙ sym (views.rolls-Boolean value)
flat-read (Literal-F.Datetime seconds nanos) f p b =
    primitive-scalar _ (literals.Datetime seconds nanos) refl (primitive-datetime seconds nanos p)
    ∙ sym (views.rolls-Datetime seconds nanos)
flat-read (Literal-F.Duration seconds nanos) f p b =
    primitive-scalar _ (literals.Duration seconds nanos) refl (primitive-duration seconds nanos p)
    ∙ sym (views.rolls-Duration seconds nanos)
flat-read (Literal-F.Blob uri form) f p b =
    let fs = scalar_fields (mapped (Literal-F.Blob uri form)) in
    skip _ _ _ (message-member (codes "primitive") fs refl)
    ∙ take blob_value _ (message (blob_fields uri form)) _ (message-member (codes "blob") fs refl)
    ∙ blob-read uri form ∙ sym (views.rolls-Blob uri form)
flat-read (Literal-F.Binary value tag) f p b =
    let fs = scalar_fields (mapped (Literal-F.Binary value tag)) in
    skip _ _ _ (message-member (codes "primitive") fs refl) ∙ skip _ _ _ (message-member (codes "blob") fs refl)
    ∙ take binary_value _ (message (binary_fields value tag)) _ (message-member (codes "binary") fs refl)
    ∙ binary-read value tag b ∙ sym (views.rolls-Binary value tag)
flat-read (Literal-F.Error node text) f p b =
    let fs = scalar_fields (mapped (Literal-F.Error node text)) in
    skip _ _ _ (message-member (codes "primitive") fs refl) ∙ skip _ _ _ (message-member (codes "blob") fs refl)
    ∙ skip _ _ _ (message-member (codes "binary") fs refl)
    ∙ take error_value _ (message (error_fields node text)) _ (message-member (codes "error") fs refl)
    ∙ error-read node text ∙ sym (views.rolls-Error node text)
flat-read (Literal-F.Generic tree) f p b =
    let fs = scalar_fields (mapped (Literal-F.Generic tree)) in
    skip _ _ _ (message-member (codes "primitive") fs refl) ∙ skip _ _ _ (message-member (codes "blob") fs refl)
    ∙ skip _ _ _ (message-member (codes "binary") fs refl) ∙ skip _ _ _ (message-member (codes "error") fs refl)
    ∙ take (λ d. literals.Generic (struct_value d)) _ (tree_json tree) _
    (message-member (codes "generic") fs refl ∙ tree-there tree p.object)
    ∙ ap literals.Generic (struct-read tree p) ∙ sym (views.rolls-Generic tree)
flat-read (Literal-F.Union value variant) f p b = absurd f
flat-read (Literal-F.Collection ls) f p b = absurd f
flat-read (Literal-F.Map es) f p b = absurd f

-- ---- one layer

abbrev pub of_layer : LiteralLayer → Data
of_layer z = literal_json_by (mapped z)

pub literal_json-out : (l : Literal) → literal_json l ≡ of_layer (out-Literal l)
unfolding literal_json
literal_json-out l = fold_out-Literal Data literal_json_by l

there : (z : LiteralLayer) → unless_null (of_layer z) ≡ Some (of_layer z)
there z = refl

pub literal-there : (l : Literal) → unless_null (literal_json l) ≡ Some (literal_json l)
literal-there l = subst (λ d. unless_null d ≡ Some d) (sym (literal_json-out l)) (there (out-Literal l))

abbrev pub layer_levels : LiteralLayer → ℕ
layer_levels (Literal-F.Union value variant) = 1 + literal_levels value
layer_levels (Literal-F.Collection ls) = 1 + largest (map literal_levels ls)
layer_levels (Literal-F.Map es) = 1 + largest (map (λ (e : Text × Literal). literal_levels e.1) es)
layer_levels _ = 0

second-map : {A : Type 0} (f : A → ℕ) (es : List (Text × A))
    → map (λ (e : Text × ℕ). e.1) (map (λ (e : Text × A). (e.0, f e.1)) es) ≡ map (λ (e : Text × A). f e.1) es
second-map f [] = refl
second-map f (e ∷ es) = ap (λ ns. f e.1 ∷ ns) (second-map f es)

levels-layer : (z : LiteralLayer) → literal_levels_by (map-Literal Literal ℕ literal_levels z) ≡ layer_levels z
levels-layer Literal-F.None = refl
levels-layer (Literal-F.Integer value) = refl
levels-layer (Literal-F.Text text) = refl
levels-layer (Literal-F.Boolean value) = refl
levels-layer (Literal-F.Datetime seconds nanos) = refl
levels-layer (Literal-F.Duration seconds nanos) = refl
levels-layer (Literal-F.Blob uri form) = refl
levels-layer (Literal-F.Binary value tag) = refl
levels-layer (Literal-F.Error node text) = refl
levels-layer (Literal-F.Generic tree) = refl
levels-layer (Literal-F.Union value variant) = refl
levels-layer (Literal-F.Collection ls) = refl
levels-layer (Literal-F.Map es) = ap (λ ns. 1 + largest ns) (second-map literal_levels es)

pub literal_levels-out : (l : Literal) → literal_levels l ≡ layer_levels (out-Literal l)
literal_levels-out l = fold_out-Literal ℕ literal_levels_by l ∙ levels-layer (out-Literal l)

-- each binary within is made of bytes
list_held : (P : Literal → Type 0) (es : List ((l : Literal) × P l)) → AllByRecursion P (map (λ e. e.0) es)
list_held P [] = tt
list_held P (e ∷ es) = (e.1, list_held P es)

entries_held : (P : Literal → Type 0) (es : List (Text × ((l : Literal) × P l)))
    → AllByRecursion (λ (e : Text × Literal). P e.1) (map (λ e. (e.0, e.1.0)) es)
entries_held P [] = tt
entries_held P (e ∷ es) = (e.1.1, entries_held P es)

pub held_from : (P : Literal → Type 0) (x : Literal-F ((l : Literal) × P l))
    → LiteralsHeld P (map-Literal ((l : Literal) × P l) Literal (λ e. e.0) x)
held_from P (Literal-F.Union e variant) = e.1
held_from P (Literal-F.Collection es) = list_held P es
held_from P (Literal-F.Map es) = entries_held P es
held_from P Literal-F.None = tt
held_from P (Literal-F.Integer value) = tt
held_from P (Literal-F.Text text) = tt
held_from P (Literal-F.Boolean value) = tt
held_from P (Literal-F.Datetime seconds nanos) = tt
held_from P (Literal-F.Duration seconds nanos) = tt
held_from P (Literal-F.Blob uri form) = tt
held_from P (Literal-F.Binary value tag) = tt
held_from P (Literal-F.Error node message) = tt
held_from P (Literal-F.Generic tree) = tt

abbrev pub AreLayerBytes : LiteralLayer → Type 0
AreLayerBytes z = IsLayerOfBytes z × LiteralsHeld IsOfBytes z

pub bytes_layer : (l : Literal) → IsOfBytes l → AreLayerBytes (out-Literal l)
bytes_layer l p =
    let h = every_held-Literal IsLayerOfBytes l p in
    (every_here-Literal IsLayerOfBytes l p, subst (LiteralsHeld IsOfBytes) h.1 (held_from IsOfBytes h.0))

-- the entries of a map have the names of its literals
names-kept : (es : List (Text × Literal))
    → map (λ (e : List ℕ × Data). e.0) (map (λ (e : Text × Literal). (e.0, literal_json e.1)) es)
    ≡ map (λ (e : Text × Literal). e.0) es
names-kept [] = refl
names-kept (e ∷ es) = ap (λ rest. e.0 ∷ rest) (names-kept es)

pub entries-sorted : (es : List (Text × Literal)) → AreNamesSorted es
    → AreSorted (map (λ (e : Text × Literal). (e.0, literal_json e.1)) es)
entries-sorted es h = subst (IsStrictlySortedBy (slice_cmp nat_cmp)) (sym (names-kept es)) h

module _ (of : Data → Literal) (n : ℕ)
    (each : (l : Literal) → HasSoundParts l → IsOfBytes l → literal_levels l ≤ n → of (literal_json l) ≡ l) where
  all-read : (ls : List Literal) → AllByRecursion HasSoundParts ls → AllByRecursion IsOfBytes ls
      → largest (map literal_levels ls) ≤ n → map of (map literal_json ls) ≡ ls
  all-read [] p b h = refl
  all-read (l ∷ ls) p b h =
      ap₂ (λ x xs. x ∷ xs) (each l p.0 b.0 (omega (arith, h))) (all-read ls p.1 b.1 (omega (arith, h)))

  map-read : (es : List (Text × Literal)) → AllByRecursion (λ (e : Text × Literal). HasSoundParts e.1) es
      → AllByRecursion (λ (e : Text × Literal). IsOfBytes e.1) es
      → largest (map (λ (e : Text × Literal). literal_levels e.1) es) ≤ n
      → map (λ (e : List ℕ × Data). (e.0, of e.1)) (map (λ (e : Text × Literal). (e.0, literal_json e.1)) es) ≡ es
  map-read [] p b h = refl
  map-read (e ∷ es) p b h =
      ap₂ (λ x xs. (e.0, x) ∷ xs) (each e.1 p.0 b.0 (omega (arith, h))) (map-read es p.1 b.1 (omega (arith, h)))

  collection-read : (ls : List Literal) → AllByRecursion HasSoundParts ls → AllByRecursion IsOfBytes ls
      → largest (map literal_levels ls) ≤ n
      → elements_by of (message (collection_fields (map literal_json ls))) ≡ ls
  unfolding elements_by
  collection-read ls p b h =
      ap (list_value of) (message-field (codes "literals") (collection_fields (map literal_json ls)) refl)
      ∙ ap (map of) (list-twice (map literal_json ls)) ∙ all-read ls p b h

  pub entries-read : (es : List (Text × Literal)) → AreNamesSorted es
      → AllByRecursion (λ (e : Text × Literal). HasSoundParts e.1) es
      → AllByRecursion (λ (e : Text × Literal). IsOfBytes e.1) es
      → largest (map (λ (e : Text × Literal). literal_levels e.1) es) ≤ n
      → entries_by of (message (map_fields (map (λ (e : Text × Literal). (e.0, literal_json e.1)) es))) ≡ es
  unfolding entries_by
  entries-read es s p b h =
      let js : List (List ℕ × Data) = map (λ (e : Text × Literal). (e.0, literal_json e.1)) es in
      ap (map_value of) (message-field (codes "literals") (map_fields js) refl)
      ∙ ap (map (λ (e : List ℕ × Data). (e.0, of e.1))) (map-twice js (entries-sorted es s)) ∙ map-read es p b h

  -- ---- scalars

  scalar-flat : (fs : Fields) (l : Literal) → member_at (codes "union") (members_in (message fs)) ≡ None
      → plain_scalar (members_in (message fs)) ≡ l → scalar_by of (members_in (message fs)) ≡ l
  unfolding scalar_by
  scalar-flat fs l none e = skip _ _ _ none ∙ e

  scalar-union : (value : Literal) (variant : LiteralType) → HasSoundParts value → IsOfBytes value
      → literal_levels value ≤ n → type_value (type_json variant) ≡ variant
      → scalar_by of (members_in (message (scalar_fields (mapped (Literal-F.Union value variant)))))
      ≡ literals.Union value variant
  unfolding scalar_by union_by
  scalar-union value variant p b h t =
      let fs = scalar_fields (mapped (Literal-F.Union value variant)) in
      let us = union_fields (literal_json value) (type_json variant) in
      take (union_by of) _ (message us) _ (message-member (codes "union") fs refl)
      ∙ ap₂ literals.Union (ap of (message-field (codes "value") us refl) ∙ each value p b h)
      (ap type_value (message-field (codes "type") us refl) ∙ t)

  -- ---- literals

  no_container : (s : Data)
      → literal_by of (members_in (message ((codes "scalar", Some s) ∷ []))) ≡ scalar_by of (members_in s)
  unfolding literal_by
  no_container s =
      let fs : Fields = (codes "scalar", Some s) ∷ [] in
      skip _ _ _ (message-member (codes "collection") fs refl) ∙ skip _ _ _ (message-member (codes "map") fs refl)
      ∙ ap (λ d. scalar_by of (members_in d)) (message-field (codes "scalar") fs refl)

  flat-layer : (z : LiteralLayer) → IsFlat z → IsLiteralLayerSound z → IsLayerOfBytes z
      → member_at (codes "union") (members_in (message (scalar_fields (mapped z)))) ≡ None
      → literal_by of (members_in (message ((codes "scalar", Some (message (scalar_fields (mapped z)))) ∷ [])))
      ≡ roll-Literal z
  flat-layer z f p b none =
      no_container (message (scalar_fields (mapped z)))
      ∙ scalar-flat (scalar_fields (mapped z)) (roll-Literal z) none (flat-read z f p b)

  abbrev no_union : (z : LiteralLayer) → are_distinct (scalar_fields (mapped z)) ≡ true
      → member_at (codes "union") (members_in (message (scalar_fields (mapped z))))
      ≡ unless_null (first_there (value_in (codes "union") (scalar_fields (mapped z)))
      (value_in (codes "union") (scalar_fields (mapped z))))
  no_union z distinct = message-member (codes "union") (scalar_fields (mapped z)) distinct

  layer-read : (z : LiteralLayer) → IsSoundLayer z → AreLayerBytes z → layer_levels z ≤ suc n
      → literal_by of (members_in (of_layer z)) ≡ roll-Literal z
  unfolding literal_by
  layer-read Literal-F.None p b h = flat-layer Literal-F.None tt p.0 b.0 (no_union Literal-F.None refl)
  layer-read (Literal-F.Integer value) p b h =
      let z = Literal-F.Integer value in flat-layer z tt p.0 b.0 (no_union z refl)
  layer-read (Literal-F.Text text) p b h =
      let z = Literal-F.Text text in flat-layer z tt p.0 b.0 (no_union z refl)
  layer-read (Literal-F.Boolean value) p b h =
      let z = Literal-F.Boolean value in flat-layer z tt p.0 b.0 (no_union z refl)
  layer-read (Literal-F.Datetime seconds nanos) p b h =
      let z = Literal-F.Datetime seconds nanos in flat-layer z tt p.0 b.0 (no_union z refl)
  layer-read (Literal-F.Duration seconds nanos) p b h =
      let z = Literal-F.Duration seconds nanos in flat-layer z tt p.0 b.0 (no_union z refl)
  layer-read (Literal-F.Blob uri form) p b h =
      let z = Literal-F.Blob uri form in flat-layer z tt p.0 b.0 (no_union z refl)
  layer-read (Literal-F.Binary value tag) p b h =
      let z = Literal-F.Binary value tag in flat-layer z tt p.0 b.0 (no_union z refl)
  layer-read (Literal-F.Error node text) p b h =
      let z = Literal-F.Error node text in flat-layer z tt p.0 b.0 (no_union z refl)
  layer-read (Literal-F.Generic tree) p b h =
      let z = Literal-F.Generic tree in flat-layer z tt p.0 b.0 (no_union z refl)
  layer-read (Literal-F.Union value variant) p b h =
      no_container (message (scalar_fields (mapped (Literal-F.Union value variant))))
      ∙ scalar-union value variant p.1 b.1 (omega (arith, h)) (type-read variant p.0.levels)
      ∙ sym (views.rolls-Union value variant)
  layer-read (Literal-F.Collection ls) p b h =
      let fs = literal_fields_by (mapped (Literal-F.Collection ls)) in
      take (λ d. literals.Collection (elements_by of d)) _ (message (collection_fields (map literal_json ls))) _
      (message-member (codes "collection") fs refl)
      ∙ ap literals.Collection (collection-read ls p.1 b.1 (omega (arith, h))) ∙ sym (views.rolls-Collection ls)
  layer-read (Literal-F.Map es) p b h =
      let fs = literal_fields_by (mapped (Literal-F.Map es)) in
      let js : List (List ℕ × Data) = map (λ (e : Text × Literal). (e.0, literal_json e.1)) es in
      skip _ _ _ (message-member (codes "collection") fs refl)
      ∙ take (λ d. literals.Map (entries_by of d)) _ (message (map_fields js)) _
      (message-member (codes "map") fs refl)
      ∙ ap literals.Map (entries-read es p.0.1 p.1 b.1 (omega (arith, h))) ∙ sym (views.rolls-Map es)

-- ---- at the last level

scalar-of : (s : Data) → field (codes "scalar") (members_in (message ((codes "scalar", Some s) ∷ []))) ≡ s
scalar-of s = message-field (codes "scalar") ((codes "scalar", Some s) ∷ []) refl

last-flat : (z : LiteralLayer) → IsFlat z → IsLiteralLayerSound z → IsLayerOfBytes z
    → plain_scalar (members_in (field (codes "scalar")
    (members_in (message ((codes "scalar", Some (message (scalar_fields (mapped z)))) ∷ [])))))
    ≡ roll-Literal z
last-flat z f p b =
    ap (λ d. plain_scalar (members_in d)) (scalar-of (message (scalar_fields (mapped z)))) ∙ flat-read z f p b

last-read : (z : LiteralLayer) → IsLiteralLayerSound z → IsLayerOfBytes z → layer_levels z ≤ 0
    → plain_scalar (members_in (field (codes "scalar") (members_in (of_layer z)))) ≡ roll-Literal z
last-read Literal-F.None p b h = last-flat Literal-F.None tt p b
last-read (Literal-F.Integer value) p b h = last-flat (Literal-F.Integer value) tt p b
last-read (Literal-F.Text text) p b h = last-flat (Literal-F.Text text) tt p b
last-read (Literal-F.Boolean value) p b h = last-flat (Literal-F.Boolean value) tt p b
last-read (Literal-F.Datetime seconds nanos) p b h = last-flat (Literal-F.Datetime seconds nanos) tt p b
last-read (Literal-F.Duration seconds nanos) p b h = last-flat (Literal-F.Duration seconds nanos) tt p b
last-read (Literal-F.Blob uri form) p b h = last-flat (Literal-F.Blob uri form) tt p b
last-read (Literal-F.Binary value tag) p b h = last-flat (Literal-F.Binary value tag) tt p b
last-read (Literal-F.Error node text) p b h = last-flat (Literal-F.Error node text) tt p b
last-read (Literal-F.Generic tree) p b h = last-flat (Literal-F.Generic tree) tt p b
last-read (Literal-F.Union value variant) p b h = absurd (omega (arith, h))
last-read (Literal-F.Collection ls) p b h = absurd (omega (arith, h))
last-read (Literal-F.Map es) p b h = absurd (omega (arith, h))

-- ---- any literal

pub literal-read : (k : ℕ) (l : Literal) → HasSoundParts l → IsOfBytes l → literal_levels l ≤ k
    → literal_at k (literal_json l) ≡ l
unfolding literal_at
literal-read zero l p b h =
    ap (λ d. plain_scalar (members_in (field (codes "scalar") (members_in d)))) (literal_json-out l)
    ∙ last-read (out-Literal l) (sound_layer l p).0 (bytes_layer l b).0 (omega (arith, h, literal_levels-out l))
    ∙ views.roll-out-Literal l
literal-read (suc k) l p b h =
    ap (λ d. literal_by (literal_at k) (members_in d)) (literal_json-out l)
    ∙ layer-read (literal_at k) k (literal-read k) (out-Literal l) (sound_layer l p) (bytes_layer l b)
    (omega (arith, h, literal_levels-out l))
    ∙ views.roll-out-Literal l

-- ---- literals by name

pub all-parts : (es : List (Text × Literal)) → AllByRecursion (λ (e : Text × Literal). IsSound e.1) es
    → AllByRecursion (λ (e : Text × Literal). HasSoundParts e.1) es
    × (largest (map (λ (e : Text × Literal). literal_levels e.1) es) ≤ literal_depth)
all-parts [] h = (tt, omega arith)
all-parts (e ∷ es) h =
    let rest = all-parts es h.1 in ((h.0.parts, rest.0), omega (arith, h.0.levels, rest.1))

-- the JSON of literals by name stands for them
pub literal_map-read : (m : LiteralMap) → IsSoundMap m → IsMapOfBytes m → literal_map_value (literal_map_json m) ≡ m
unfolding literal_map_value
literal_map-read m s b =
    let parts = all-parts m.entries (recursion_from_All (λ (e : Text × Literal). IsSound e.1) m.entries s.literals) in
    let read = entries-read literal_value literal_depth (literal-read literal_depth) m.entries s.names.1 parts.0
    (recursion_from_All (λ (e : Text × Literal). IsOfBytes e.1) m.entries b) parts.1 in
    λ i. record { entries = read i }
