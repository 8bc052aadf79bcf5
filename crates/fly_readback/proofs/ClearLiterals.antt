-- Nothing is found in the JSON of a literal.
use Rattle.std.proofs.Common.{◌≡◌, ℕ, zero, suc, ◌+◌, ◌≤◌, ◌<◌, Bool, true, cond, ℤ, List, [], ◌∷◌, map, Option, Some, None, is_some, refl, sym, ap, subst, ◌∙◌, arith, codes}
use Rattle.std.specs.List.{AllByRecursion, All}
use Rattle.serde_json.specs.Data.{Data, string, boolean, object, no_members}
use Rattle.fly_types.specs.declared.text.Text.{Text}
use Rattle.fly_types.specs.declared.kinds.BlobType.{BlobType}
use Rattle.fly_types.specs.declared.kinds.LiteralType.{LiteralType}
use Rattle.fly_types.specs.declared.literals.Tree.{Tree, out-Tree}
use Rattle.fly_types.specs.declared.literals.Literal.{Literal, out-Literal}
use Rattle.fly_types.specs.declared.literals.Literal.TheOpen.{Literal-F}
use Rattle.fly_types.specs.declared.literals.Tree.TheOpen.{Tree-F}
use Rattle.fly_types.specs.Layer.{LiteralLayer, TreeLayer}
use Rattle.fly_types.specs.Levels.{max_levels, largest, type_levels, literal_levels}
use Rattle.fly_types.specs.Sound.{IsInstant, IsSpan, AreNamesSorted, IsLiteralLayerSound, HasSoundParts, IsObject, IsSoundStruct}
use Rattle.fly_types.proofs.LiteralTells.{IsSoundLayer, sound_layer}
use Rattle.fly_scalars.specs.Whole.{integer_text}
use Rattle.fly_scalars.specs.Binary.{bytes_text}
use Rattle.fly_scalars.specs.Datetime.{datetime_text}
use Rattle.fly_scalars.specs.Duration.{duration_text}
use Rattle.fly_scalars.proofs.WholeLemmas.{i64_reads_back}
use Rattle.fly_scalars.proofs.DurationLemmas.{duration_reads}
use Rattle.fly_schema.specs.declared.table.Level.{Level}
use Rattle.fly_schema.specs.declared.table.Level.TheVariants.{Same, First, Deeper}
use Rattle.fly_schema.specs.Table.{any_text, text_form, boolean_form, integer_form, bytes_form, datetime_form, duration_form, float_form, scalar, message, struct, empty, one, list, map_by, optional, Forms, FieldRow, MessageRow}
use Rattle.fly_schema.specs.Faults.{fault_of, level_after, row_at}
use Rattle.fly_schema.specs.declared.fault.DocKind.TheVariants.{TooDeep}
use Rattle.fly_schema.specs.Places.{fault_here}
use Rattle.fly_schema.specs.Structs.{struct_fault}
use Rattle.fly_schema.proofs.FieldFaults.{own_passed}
use Rattle.fly_values.specs.Fields.{unless_null, first_there}
use Rattle.fly_writers.specs.Json as written
use Rattle.fly_writers.specs.Json.{Fields, optional_text, optional_map}
use Rattle.fly_writers.specs.Types.{blob_type_json, type_json}
use Rattle.fly_writers.proofs.MessageLemmas.{are_distinct}
use Rattle.fly_writers.specs.Literals.{tree_json, datetime_json, duration_json, primitive_fields, blob_metadata_fields, blob_fields, optional_bytes, binary_fields, error_fields, union_fields, scalar_fields, collection_fields, map_fields, literal_json}
use Rattle.fly_writers.proofs.ScalarTexts.{datetime_written, duration_written}
use Rattle.fly_idl.specs.Rows as rows_of
use Rattle.fly_idl.specs.Rows.{plain, named, field_with, blob_type_number, literal_type_number, literal_number, literal_list_number, literal_map_number, scalar_number, primitive_number, blob_number, blob_metadata_number, binary_number, error_number, union_number, literal_row, literal_list_row, literal_map_row, scalar_row, primitive_row, blob_row, blob_metadata_row, binary_row, error_row, union_row}
use Rattle.fly_readback.specs.ReadBack.{IsLayerOfBytes, IsOfBytes}
use Rattle.fly_readback.proofs.Messages.{first_both}
use Rattle.fly_readback.proofs.Dates.{datetime-read}
use Rattle.fly_readback.proofs.Faultless.{seen, seen_in, IsSpelled, AreSpelled, optional-clear, required-clear, one_of-clear, left_out-clear, within, message-faultless, optional_list-faultless, optional_map-faultless, text-faultless, truth-faultless}
use Rattle.fly_readback.proofs.ReadTypes.{type-there}
use Rattle.fly_readback.proofs.ReadTrees.{of_layer as of_tree, tree_json-out, tree-there}
use Rattle.fly_readback.proofs.ReadLiterals.{IsFlat, mapped, of_layer, literal-there, literal_json-out, layer_levels, literal_levels-out, bytes-back, AreLayerBytes, bytes_layer, entries-sorted}
use Rattle.fly_readback.proofs.ClearTypes.{optional_text-faultless}
use Rattle.fly_readback.proofs.ClearTrees.{struct-clear}

-- ---- the members of each `oneof`

abbrev integer_field : FieldRow
integer_field = field_with optional (plain (codes "integer")) one (scalar integer_form) Same

abbrev text_field : FieldRow
text_field = field_with optional (named (codes "stringValue") (codes "string_value")) one rows_of.text Same

abbrev boolean_field : FieldRow
boolean_field = field_with optional (plain (codes "boolean")) one rows_of.truth Same

abbrev datetime_field : FieldRow
datetime_field = field_with optional (plain (codes "datetime")) one (scalar datetime_form) Same

abbrev duration_field : FieldRow
duration_field = field_with optional (plain (codes "duration")) one (scalar duration_form) Same

abbrev primitive_members : List FieldRow
primitive_members =
    integer_field ∷ text_field ∷ boolean_field ∷ datetime_field ∷ duration_field
    ∷ field_with optional (named (codes "floatValue") (codes "float_value")) one (scalar float_form) Same ∷ []

abbrev scalar_members : List FieldRow
scalar_members =
    field_with optional (plain (codes "primitive")) one (message primitive_number) Same
    ∷ field_with optional (plain (codes "blob")) one (message blob_number) Same
    ∷ field_with optional (plain (codes "binary")) one (message binary_number) Same
    ∷ field_with optional (named (codes "noneType") (codes "none_type")) one empty Same
    ∷ field_with optional (plain (codes "error")) one (message error_number) Same
    ∷ field_with optional (plain (codes "generic")) one struct Same
    ∷ field_with optional (plain (codes "union")) one (message union_number) Deeper ∷ []

abbrev literal_members : List FieldRow
literal_members =
    field_with optional (plain (codes "scalar")) one (message scalar_number) Same
    ∷ field_with optional (plain (codes "collection")) one (message literal_list_number) Deeper
    ∷ field_with optional (plain (codes "map")) one (message literal_map_number) Deeper ∷ []

primitives_spelled : AreSpelled primitive_members
primitives_spelled = (refl, (refl, (refl, (refl, (refl, (refl, tt))))))

scalars_spelled : AreSpelled scalar_members
scalars_spelled = (refl, (refl, (refl, (refl, (refl, (refl, (refl, tt)))))))

literals_spelled : AreSpelled literal_members
literals_spelled = (refl, (refl, (refl, tt)))

sole : (f : FieldRow) (o : Option Data) (d : Data) → o ≡ Some d → cond (is_some o) (f ∷ []) [] ≡ f ∷ []
sole f o d e = ap (λ (x : Option Data). cond (is_some x) (f ∷ []) []) e

module _ (rows : List MessageRow) where
  -- ---- primitives

  module _ (has_primitive : row_at rows primitive_number ≡ primitive_row) where
    abbrev IsPrimitiveClear : ℕ → Data → Type 0
    IsPrimitiveClear level d =
        fault_of rows d (record { shape = one; kind = message primitive_number; level = Same }) level ≡ None

    by_primitive : (level : ℕ) (fs : Fields) (f : FieldRow) (d : Data) → level ≤ max_levels
        → are_distinct fs ≡ true → IsSpelled f.name → seen_in fs primitive_members ≡ f ∷ []
        → seen f.name.camel fs ≡ Some d → fault_of rows d f.form level ≡ None
        → IsPrimitiveClear level (written.message fs)
    by_primitive level fs f d h distinct spelled only there e =
        message-faultless rows primitive_row primitive_number Same level fs has_primitive refl h tt
        (one_of-clear rows fs distinct level true primitive_members f d primitives_spelled spelled only there e, tt)

    integer-clear : (value : ℤ) (level : ℕ) → level ≤ max_levels → IsLiteralLayerSound (Literal-F.Integer value)
        → IsPrimitiveClear level (written.message ((codes "integer", Some (string (integer_text value))) ∷ []))
    integer-clear value level h p =
        by_primitive level ((codes "integer", Some (string (integer_text value))) ∷ []) integer_field
        (string (integer_text value)) h refl refl refl refl
        (text-faultless rows integer_form (integer_text value) Same level refl (ap is_some (i64_reads_back value p)) h)

    text-clear : (s : List ℕ) (level : ℕ) → level ≤ max_levels
        → IsPrimitiveClear level (written.message ((codes "stringValue", Some (string s)) ∷ []))
    text-clear s level h =
        by_primitive level ((codes "stringValue", Some (string s)) ∷ []) text_field (string s) h refl refl refl refl
        (text-faultless rows (text_form any_text) s Same level refl refl h)

    boolean-clear : (b : Bool) (level : ℕ) → level ≤ max_levels
        → IsPrimitiveClear level (written.message ((codes "boolean", Some (boolean b)) ∷ []))
    boolean-clear b level h =
        by_primitive level ((codes "boolean", Some (boolean b)) ∷ []) boolean_field (boolean b) h refl refl refl refl
        (truth-faultless rows boolean_form b Same level refl refl h)

    datetime-clear : (seconds : ℤ) (nanos level : ℕ) → level ≤ max_levels → IsInstant seconds nanos
        → IsPrimitiveClear level (written.message ((codes "datetime", datetime_json seconds nanos) ∷ []))
    datetime-clear seconds nanos level h p =
        let text = datetime_text (record { seconds = seconds; nanos = nanos }) in
        let there = ap (λ o. unless_null (first_both o)) (datetime_written seconds nanos p) in
        by_primitive level ((codes "datetime", datetime_json seconds nanos) ∷ []) datetime_field (string text) h refl
        refl (sole datetime_field _ (string text) there) there
        (text-faultless rows datetime_form text Same level refl
        (ap is_some (datetime-read (record { seconds = seconds; nanos = nanos }) p)) h)

    duration-clear : (seconds nanos : ℤ) (level : ℕ) → level ≤ max_levels → IsSpan seconds nanos
        → IsPrimitiveClear level (written.message ((codes "duration", duration_json seconds nanos) ∷ []))
    duration-clear seconds nanos level h p =
        let text = duration_text (record { seconds = seconds; nanos = nanos }) in
        let there = ap (λ o. unless_null (first_both o)) (duration_written seconds nanos p) in
        by_primitive level ((codes "duration", duration_json seconds nanos) ∷ []) duration_field (string text) h refl
        refl (sole duration_field _ (string text) there) there
        (text-faultless rows duration_form text Same level refl
        (ap is_some (duration_reads (record { seconds = seconds; nanos = nanos }) p)) h)

  -- ---- other scalars

  abbrev OfMessage : ℕ → Forms
  OfMessage n = record { shape = one; kind = message n; level = Same }

  abbrev OfText : Forms
  OfText = record { shape = one; kind = rows_of.text; level = Same }

  bytes-clear : (bs : List ℕ) (level : ℕ) (v : Data) → level ≤ max_levels → All (λ b. b < 256) bs
      → unless_null (first_both (optional_bytes bs)) ≡ Some v
      → fault_of rows v (record { shape = one; kind = scalar bytes_form; level = Same }) level ≡ None
  bytes-clear [] level v h p e = cc
  bytes-clear (b ∷ bs) level v h p e =
      let same : string (bytes_text (b ∷ bs)) ≡ v = cc in
      subst (λ x. fault_of rows x (record { shape = one; kind = scalar bytes_form; level = Same }) level ≡ None) same
      (text-faultless rows bytes_form (bytes_text (b ∷ bs)) Same level refl (ap is_some (bytes-back (b ∷ bs) p)) h)

  binary-clear : row_at rows binary_number ≡ binary_row → (value tag : List ℕ) (level : ℕ) → level ≤ max_levels
      → All (λ b. b < 256) value
      → fault_of rows (written.message (binary_fields value tag)) (OfMessage binary_number) level ≡ None
  binary-clear has value tag level h p =
      let fs = binary_fields value tag in
      message-faultless rows binary_row binary_number Same level fs has refl h tt (
        optional-clear rows fs refl level (plain (codes "value"))
            (record { shape = one; kind = scalar bytes_form; level = Same }) refl
            (λ v e. bytes-clear value level v h p e),
        (
          optional-clear rows fs refl level (plain (codes "tag")) OfText refl
              (λ v e. optional_text-faultless rows tag level v h e),
          tt,
        ),
      )

  -- a text whose original name is another one
  split_text : (s : List ℕ) (level : ℕ) (v : Data) → level ≤ max_levels
      → unless_null (first_there (optional_text s) None) ≡ Some v → fault_of rows v OfText level ≡ None
  split_text [] level v h e = cc
  split_text (b ∷ bs) level v h e = optional_text-faultless rows (b ∷ bs) level v h e

  error-clear : row_at rows error_number ≡ error_row → (node text : List ℕ) (level : ℕ) → level ≤ max_levels
      → fault_of rows (written.message (error_fields node text)) (OfMessage error_number) level ≡ None
  error-clear has node text level h =
      let fs = error_fields node text in
      message-faultless rows error_row error_number Same level fs has refl h tt (
        optional-clear rows fs refl level (named (codes "failedNodeId") (codes "failed_node_id")) OfText refl
            (λ v e. split_text node level v h e),
        (
          optional-clear rows fs refl level (plain (codes "message")) OfText refl
              (λ v e. optional_text-faultless rows text level v h e),
          tt,
        ),
      )

  blob-clear : row_at rows blob_number ≡ blob_row → row_at rows blob_metadata_number ≡ blob_metadata_row
      → (uri : List ℕ) (form : BlobType) (level : ℕ) → level ≤ max_levels
      → fault_of rows (blob_type_json form) (OfMessage blob_type_number) level ≡ None
      → fault_of rows (written.message (blob_fields uri form)) (OfMessage blob_number) level ≡ None
  blob-clear has has_metadata uri form level h kind =
      let fs = blob_fields uri form in
      let ms = blob_metadata_fields form in
      let metadata = message-faultless rows blob_metadata_row blob_metadata_number Same level ms has_metadata refl h tt
      (required-clear rows ms refl level (plain (codes "type")) (OfMessage blob_type_number) _ refl refl kind, tt) in
      message-faultless rows blob_row blob_number Same level fs has refl h tt (
        required-clear rows fs refl level (plain (codes "metadata")) (OfMessage blob_metadata_number)
            (written.message ms) refl refl metadata,
        (
          optional-clear rows fs refl level (plain (codes "uri")) OfText refl
              (λ v e. optional_text-faultless rows uri level v h e),
          tt,
        ),
      )

  passed-over : (level : ℕ) → level ≤ max_levels
      → fault_of rows (object no_members) (record { shape = one; kind = empty; level = Same }) level ≡ None
  passed-over level h =
      sym (own_passed rows (object no_members) (record { shape = one; kind = empty; level = Same }) level
      (sym (ap (λ b. cond b (fault_here TooDeep) None) (within level h))))

  struct-layer : (z : TreeLayer) (level : ℕ) → level ≤ max_levels → IsObject z → struct_fault (of_tree z) 0 ≡ None
      → fault_of rows (of_tree z) (record { shape = one; kind = struct; level = Same }) level ≡ None
  struct-layer Tree-F.Null level h o e = absurd o
  struct-layer (Tree-F.Bool value) level h o e = absurd o
  struct-layer (Tree-F.Whole value) level h o e = absurd o
  struct-layer (Tree-F.Text text) level h o e = absurd o
  struct-layer (Tree-F.List ts) level h o e = absurd o
  struct-layer (Tree-F.Object ms) level h o e =
      sym (own_passed rows (of_tree (Tree-F.Object ms)) (record { shape = one; kind = struct; level = Same }) level
      (sym (ap (λ b. cond b (fault_here TooDeep) None) (within level h)))) ∙ e

  generic-clear : (t : Tree) (level : ℕ) → level ≤ max_levels → IsSoundStruct t
      → fault_of rows (tree_json t) (record { shape = one; kind = struct; level = Same }) level ≡ None
  generic-clear t level h s =
      subst (λ d. fault_of rows d (record { shape = one; kind = struct; level = Same }) level ≡ None)
      (sym (tree_json-out t))
      (struct-layer (out-Tree t) level h s.object
      (ap (λ d. struct_fault d 0) (sym (tree_json-out t)) ∙ struct-clear t s))

  -- ---- scalars

  module _ (has_scalar : row_at rows scalar_number ≡ scalar_row) where
    abbrev IsScalarClear : ℕ → Data → Type 0
    IsScalarClear level d = fault_of rows d (OfMessage scalar_number) level ≡ None

    -- a scalar, by the one member that it has
    by_scalar : (level : ℕ) (name : List ℕ) (d : Data) (f : FieldRow) → level ≤ max_levels
        → AllByRecursion (λ (x : List ℕ). seen x ((name, Some d) ∷ []) ≡ None)
        (codes "schema" ∷ codes "structuredDataset" ∷ [])
        → seen_in ((name, Some d) ∷ []) scalar_members ≡ f ∷ []
        → IsSpelled f.name → seen f.name.camel ((name, Some d) ∷ []) ≡ Some d
        → fault_of rows d f.form level ≡ None → IsScalarClear level (written.message ((name, Some d) ∷ []))
    by_scalar level name d f h refused only spelled there e =
        let fs : Fields = (name, Some d) ∷ [] in
        message-faultless rows scalar_row scalar_number Same level fs has_scalar refl h (
          left_out-clear rows fs refl level (plain (codes "schema")) refl refused.0,
          (
            left_out-clear rows fs refl level (named (codes "structuredDataset") (codes "structured_dataset")) refl
                refused.1.0,
            tt,
          ),
        ) (one_of-clear rows fs refl level true scalar_members f d scalars_spelled spelled only there e, tt)

    primitive-scalar : (level : ℕ) (fs : Fields) → level ≤ max_levels
        → fault_of rows (written.message fs) (OfMessage primitive_number) level ≡ None
        → IsScalarClear level (written.message ((codes "primitive", Some (written.message fs)) ∷ []))
    primitive-scalar level fs h e =
        by_scalar level (codes "primitive") (written.message fs)
        (field_with optional (plain (codes "primitive")) one (message primitive_number) Same) h (refl, (refl, tt))
        refl refl refl e

    module _ (has_primitive : row_at rows primitive_number ≡ primitive_row)
        (has_blob : row_at rows blob_number ≡ blob_row)
        (has_metadata : row_at rows blob_metadata_number ≡ blob_metadata_row)
        (has_binary : row_at rows binary_number ≡ binary_row) (has_error : row_at rows error_number ≡ error_row)
        (kinds : (form : BlobType) (level : ℕ) → level ≤ max_levels
        → fault_of rows (blob_type_json form) (OfMessage blob_type_number) level ≡ None) where
      flat-clear : (z : LiteralLayer) (level : ℕ) → level ≤ max_levels → IsFlat z → IsLiteralLayerSound z
          → IsLayerOfBytes z → IsScalarClear level (written.message (scalar_fields (mapped z)))
      flat-clear Literal-F.None level h f p b =
          by_scalar level (codes "noneType") (object no_members)
          (field_with optional (named (codes "noneType") (codes "none_type")) one empty Same) h (refl, (refl, tt))
          refl refl refl (passed-over level h)
      flat-clear (Literal-F.Integer value) level h f p b =
          primitive-scalar level (primitive_fields (mapped (Literal-F.Integer value))) h
          (integer-clear has_primitive value level h p)
      flat-clear (Literal-F.Text text) level h f p b =
          primitive-scalar level (primitive_fields (mapped (Literal-F.Text text))) h
          (text-clear has_primitive text level h)
      flat-clear (Literal-F.Boolean value) level h f p b =
          primitive-scalar level (primitive_fields (mapped (Literal-F.Boolean value))) h
          (boolean-clear has_primitive value level h)
      flat-clear (Literal-F.Datetime seconds nanos) level h f p b =
          primitive-scalar level (primitive_fields (mapped (Literal-F.Datetime seconds nanos))) h
          (datetime-clear has_primitive seconds nanos level h p)
      flat-clear (Literal-F.Duration seconds nanos) level h f p b =
          primitive-scalar level (primitive_fields (mapped (Literal-F.Duration seconds nanos))) h
          (duration-clear has_primitive seconds nanos level h p)
      flat-clear (Literal-F.Blob uri form) level h f p b =
          by_scalar level (codes "blob") (written.message (blob_fields uri form))
          (field_with optional (plain (codes "blob")) one (message blob_number) Same) h (refl, (refl, tt)) refl refl
          refl (blob-clear has_blob has_metadata uri form level h (kinds form level h))
      flat-clear (Literal-F.Binary value tag) level h f p b =
          by_scalar level (codes "binary") (written.message (binary_fields value tag))
          (field_with optional (plain (codes "binary")) one (message binary_number) Same) h (refl, (refl, tt)) refl
          refl refl (binary-clear has_binary value tag level h b)
      flat-clear (Literal-F.Error node text) level h f p b =
          by_scalar level (codes "error") (written.message (error_fields node text))
          (field_with optional (plain (codes "error")) one (message error_number) Same) h (refl, (refl, tt)) refl
          refl refl (error-clear has_error node text level h)
      flat-clear (Literal-F.Generic tree) level h f p b =
          let there = tree-there tree p.object in
          by_scalar level (codes "generic") (tree_json tree)
          (field_with optional (plain (codes "generic")) one struct Same) h (refl, (refl, tt))
          (sole _ _ (tree_json tree) there) refl there (generic-clear tree level h p)
      flat-clear (Literal-F.Union value variant) level h f p b = absurd f
      flat-clear (Literal-F.Collection ls) level h f p b = absurd f
      flat-clear (Literal-F.Map es) level h f p b = absurd f

      -- ---- literals

      module _ (has_union : row_at rows union_number ≡ union_row)
          (has_literal : row_at rows literal_number ≡ literal_row)
          (has_list : row_at rows literal_list_number ≡ literal_list_row)
          (has_map : row_at rows literal_map_number ≡ literal_map_row)
          (types : (t : LiteralType) (level : ℕ) → type_levels t ≤ 16
          → fault_of rows (type_json t) (record { shape = one; kind = message literal_type_number; level = First })
          level ≡ None) where
        -- nothing is found in a literal at this level
        abbrev pub IsLiteralClear : ℕ → Data → Type 0
        IsLiteralClear level d = fault_of rows d (record {
          shape = one;
          kind = message literal_number;
          level = Same;
        }) level ≡ None

        -- a literal, by the one member that it has
        by_member : (level : ℕ) (name : List ℕ) (d : Data) (f : FieldRow) → level ≤ max_levels
            → seen (codes "offloadedMetadata") ((name, Some d) ∷ []) ≡ None
            → seen_in ((name, Some d) ∷ []) literal_members ≡ f ∷ []
            → IsSpelled f.name → seen f.name.camel ((name, Some d) ∷ []) ≡ Some d
            → fault_of rows d f.form level ≡ None → IsLiteralClear level (written.message ((name, Some d) ∷ []))
        by_member level name d f h refused only spelled there e =
            let fs : Fields = (name, Some d) ∷ [] in
            message-faultless rows literal_row literal_number Same level fs has_literal refl h (
              left_out-clear rows fs refl level (named (codes "offloadedMetadata") (codes "offloaded_metadata")) refl
                  refused,
              tt,
            ) (one_of-clear rows fs refl level true literal_members f d literals_spelled spelled only there e, tt)

        scalar-literal : (level : ℕ) (fs : Fields) → level ≤ max_levels → IsScalarClear level (written.message fs)
            → IsLiteralClear level (written.message ((codes "scalar", Some (written.message fs)) ∷ []))
        scalar-literal level fs h e =
            by_member level (codes "scalar") (written.message fs)
            (field_with optional (plain (codes "scalar")) one (message scalar_number) Same) h refl refl refl refl e

        flat-literal : (z : LiteralLayer) (level : ℕ) → level ≤ max_levels → IsFlat z → IsLiteralLayerSound z
            → IsLayerOfBytes z
            → IsLiteralClear level
            (written.message ((codes "scalar", Some (written.message (scalar_fields (mapped z)))) ∷ []))
        flat-literal z level h f p b = scalar-literal level (scalar_fields (mapped z)) h (flat-clear z level h f p b)

        module _ (k : ℕ) (each : (l : Literal) (level : ℕ) → HasSoundParts l → IsOfBytes l → literal_levels l ≤ k
            → literal_levels l + level ≤ 16 → IsLiteralClear level (literal_json l)) where
          all-clear : (ls : List Literal) (level : ℕ) → AllByRecursion HasSoundParts ls → AllByRecursion IsOfBytes ls
              → largest (map literal_levels ls) ≤ k → largest (map literal_levels ls) + level ≤ 16
              → AllByRecursion (IsLiteralClear level) (map literal_json ls)
          all-clear [] level p b h fits = tt
          all-clear (l ∷ ls) level p b h fits = (
            each l level p.0 b.0 (omega (arith, h)) (omega (arith, fits)),
            all-clear ls level p.1 b.1
                (omega (arith, h)) (omega (arith, fits)),
          )

          pub entries-clear : (es : List (Text × Literal)) (level : ℕ)
              → AllByRecursion (λ (e : Text × Literal). HasSoundParts e.1) es
              → AllByRecursion (λ (e : Text × Literal). IsOfBytes e.1) es
              → largest (map (λ (e : Text × Literal). literal_levels e.1) es) ≤ k
              → largest (map (λ (e : Text × Literal). literal_levels e.1) es) + level ≤ 16
              → AllByRecursion (λ (e : List ℕ × Data). IsLiteralClear level e.1)
              (map (λ (e : Text × Literal). (e.0, literal_json e.1)) es)
          entries-clear [] level p b h fits = tt
          entries-clear (e ∷ es) level p b h fits = (
            each e.1 level p.0 b.0 (omega (arith, h)) (omega (arith, fits)),
            entries-clear es level p.1 b.1
                (omega (arith, h)) (omega (arith, fits)),
          )

          union-clear : (value : Literal) (variant : LiteralType) (level : ℕ) → HasSoundParts value → IsOfBytes value
              → literal_levels value ≤ k → 1 + literal_levels value + level ≤ 16 → type_levels variant ≤ 16
              → fault_of rows (written.message (union_fields (literal_json value) (type_json variant)))
              (record { shape = one; kind = message union_number; level = Deeper }) level ≡ None
          union-clear value variant level p b h fits t =
              let fs = union_fields (literal_json value) (type_json variant) in
              message-faultless rows union_row union_number Deeper level fs has_union refl (omega (arith, fits)) tt (
                required-clear rows fs refl (level + 1) (plain (codes "value")) (OfMessage literal_number)
                    (literal_json value) refl (literal-there value)
                    (each value (level + 1) p b h (omega (arith, fits))),
                (
                  required-clear rows fs refl (level + 1) (plain (codes "type"))
                      (record { shape = one; kind = message literal_type_number; level = First }) (type_json variant)
                      refl (type-there variant) (types variant (level + 1) t),
                  tt,
                ),
              )

          collection-clear : (ls : List Literal) (level : ℕ) → AllByRecursion HasSoundParts ls
              → AllByRecursion IsOfBytes ls → largest (map literal_levels ls) ≤ k
              → 1 + largest (map literal_levels ls) + level ≤ 16
              → fault_of rows (written.message (collection_fields (map literal_json ls)))
              (record { shape = one; kind = message literal_list_number; level = Deeper }) level ≡ None
          collection-clear ls level p b h fits =
              let fs = collection_fields (map literal_json ls) in
              message-faultless rows literal_list_row literal_list_number Deeper level fs has_list refl
              (omega (arith, fits)) tt (
                optional-clear rows fs refl (level + 1) (plain (codes "literals"))
                    (record { shape = list; kind = message literal_number; level = Same }) refl
                    (λ v e. optional_list-faultless rows (map literal_json ls) (message literal_number) Same
                    (level + 1) v (all-clear ls (level + 1) p b h (omega (arith, fits))) e),
                tt,
              )

          pub map-clear : (es : List (Text × Literal)) (l : Level) (level : ℕ) → AreNamesSorted es
              → AllByRecursion (λ (e : Text × Literal). HasSoundParts e.1) es
              → AllByRecursion (λ (e : Text × Literal). IsOfBytes e.1) es
              → largest (map (λ (e : Text × Literal). literal_levels e.1) es) ≤ k
              → largest (map (λ (e : Text × Literal). literal_levels e.1) es) + level_after l level ≤ 16
              → fault_of rows
              (written.message (map_fields (map (λ (e : Text × Literal). (e.0, literal_json e.1)) es)))
              (record { shape = one; kind = message literal_map_number; level = l }) level ≡ None
          map-clear es l level sorted p b h fits =
              let js : List (List ℕ × Data) = map (λ (e : Text × Literal). (e.0, literal_json e.1)) es in
              let here = level_after l level in
              message-faultless rows literal_map_row literal_map_number l level (map_fields js) has_map refl
              (omega (arith, fits)) tt (
                optional-clear rows (map_fields js) refl here (plain (codes "literals"))
                    (record { shape = map_by any_text; kind = message literal_number; level = Same }) refl
                    (λ v e. optional_map-faultless rows js (message literal_number) Same here v
                    (entries-sorted es sorted) (entries-clear es here p b h (omega (arith, fits))) e),
                tt,
              )

          layer-clear : (z : LiteralLayer) (level : ℕ) → IsSoundLayer z → AreLayerBytes z → layer_levels z ≤ suc k
              → layer_levels z + level ≤ 16 → IsLiteralClear level (of_layer z)
          layer-clear Literal-F.None level p b h fits =
              flat-literal Literal-F.None level (omega (arith, fits)) tt p.0 b.0
          layer-clear (Literal-F.Integer value) level p b h fits =
              flat-literal (Literal-F.Integer value) level (omega (arith, fits)) tt p.0 b.0
          layer-clear (Literal-F.Text text) level p b h fits =
              flat-literal (Literal-F.Text text) level (omega (arith, fits)) tt p.0 b.0
          layer-clear (Literal-F.Boolean value) level p b h fits =
              flat-literal (Literal-F.Boolean value) level (omega (arith, fits)) tt p.0 b.0
          layer-clear (Literal-F.Datetime seconds nanos) level p b h fits =
              flat-literal (Literal-F.Datetime seconds nanos) level (omega (arith, fits)) tt p.0 b.0
          layer-clear (Literal-F.Duration seconds nanos) level p b h fits =
              flat-literal (Literal-F.Duration seconds nanos) level (omega (arith, fits)) tt p.0 b.0
          layer-clear (Literal-F.Blob uri form) level p b h fits =
              flat-literal (Literal-F.Blob uri form) level (omega (arith, fits)) tt p.0 b.0
          layer-clear (Literal-F.Binary value tag) level p b h fits =
              flat-literal (Literal-F.Binary value tag) level (omega (arith, fits)) tt p.0 b.0
          layer-clear (Literal-F.Error node text) level p b h fits =
              flat-literal (Literal-F.Error node text) level (omega (arith, fits)) tt p.0 b.0
          layer-clear (Literal-F.Generic tree) level p b h fits =
              flat-literal (Literal-F.Generic tree) level (omega (arith, fits)) tt p.0 b.0
          layer-clear (Literal-F.Union value variant) level p b h fits =
              let d = written.message (union_fields (literal_json value) (type_json variant)) in
              scalar-literal level ((codes "union", Some d) ∷ []) (omega (arith, fits))
              (by_scalar level (codes "union") d
              (field_with optional (plain (codes "union")) one (message union_number) Deeper) (omega (arith, fits))
              (refl, (refl, tt)) refl refl refl
              (union-clear value variant level p.1 b.1 (omega (arith, h)) (omega (arith, fits)) p.0.levels))
          layer-clear (Literal-F.Collection ls) level p b h fits =
              by_member level (codes "collection") (written.message (collection_fields (map literal_json ls)))
              (field_with optional (plain (codes "collection")) one (message literal_list_number) Deeper)
              (omega (arith, fits)) refl refl refl refl
              (collection-clear ls level p.1 b.1 (omega (arith, h)) (omega (arith, fits)))
          layer-clear (Literal-F.Map es) level p b h fits =
              by_member level (codes "map")
              (written.message (map_fields (map (λ (e : Text × Literal). (e.0, literal_json e.1)) es)))
              (field_with optional (plain (codes "map")) one (message literal_map_number) Deeper)
              (omega (arith, fits)) refl refl refl refl
              (map-clear es Deeper level p.0.1 p.1 b.1 (omega (arith, h)) (omega (arith, fits)))

        last-clear : (z : LiteralLayer) (level : ℕ) → IsSoundLayer z → AreLayerBytes z → layer_levels z ≤ 0
            → level ≤ max_levels → IsLiteralClear level (of_layer z)
        last-clear Literal-F.None level p b h fits = flat-literal Literal-F.None level fits tt p.0 b.0
        last-clear (Literal-F.Integer value) level p b h fits =
            flat-literal (Literal-F.Integer value) level fits tt p.0 b.0
        last-clear (Literal-F.Text text) level p b h fits = flat-literal (Literal-F.Text text) level fits tt p.0 b.0
        last-clear (Literal-F.Boolean value) level p b h fits =
            flat-literal (Literal-F.Boolean value) level fits tt p.0 b.0
        last-clear (Literal-F.Datetime seconds nanos) level p b h fits =
            flat-literal (Literal-F.Datetime seconds nanos) level fits tt p.0 b.0
        last-clear (Literal-F.Duration seconds nanos) level p b h fits =
            flat-literal (Literal-F.Duration seconds nanos) level fits tt p.0 b.0
        last-clear (Literal-F.Blob uri form) level p b h fits =
            flat-literal (Literal-F.Blob uri form) level fits tt p.0 b.0
        last-clear (Literal-F.Binary value tag) level p b h fits =
            flat-literal (Literal-F.Binary value tag) level fits tt p.0 b.0
        last-clear (Literal-F.Error node text) level p b h fits =
            flat-literal (Literal-F.Error node text) level fits tt p.0 b.0
        last-clear (Literal-F.Generic tree) level p b h fits =
            flat-literal (Literal-F.Generic tree) level fits tt p.0 b.0
        last-clear (Literal-F.Union value variant) level p b h fits = absurd (omega (arith, h))
        last-clear (Literal-F.Collection ls) level p b h fits = absurd (omega (arith, h))
        last-clear (Literal-F.Map es) level p b h fits = absurd (omega (arith, h))

        -- nothing is found in a literal that lies within the levels
        pub literal-clear : (k : ℕ) (l : Literal) (level : ℕ) → HasSoundParts l → IsOfBytes l
            → literal_levels l ≤ k → literal_levels l + level ≤ 16 → IsLiteralClear level (literal_json l)
        literal-clear zero l level p b h fits =
            subst (IsLiteralClear level) (sym (literal_json-out l))
            (last-clear (out-Literal l) level (sound_layer l p) (bytes_layer l b)
            (omega (arith, h, literal_levels-out l)) (omega (arith, fits)))
        literal-clear (suc k) l level p b h fits =
            subst (IsLiteralClear level) (sym (literal_json-out l))
            (layer-clear k (literal-clear k) (out-Literal l) level (sound_layer l p) (bytes_layer l b)
            (omega (arith, h, literal_levels-out l)) (omega (arith, fits, literal_levels-out l)))
