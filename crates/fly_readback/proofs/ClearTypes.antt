-- Nothing is found in the JSON of a type.
use Rattle.std.proofs.Common.{◌≡◌, ℕ, zero, suc, ◌+◌, ◌≤◌, Bool, true, false, cond, List, [], ◌∷◌, map, Option, Some, None, is_some, refl, sym, ap, subst, arith, codes}
use Rattle.std.specs.List.{AllByRecursion}
use Rattle.serde_json.specs.Data.{Data, string}
use Rattle.fly_types.specs.declared.kinds.Simple.{Simple}
use Rattle.fly_types.specs.declared.kinds.Simple.TheVariants as simples
use Rattle.fly_types.specs.declared.kinds.BlobType.{BlobType}
use Rattle.fly_types.specs.declared.kinds.LiteralType.{LiteralType, out-LiteralType}
use Rattle.fly_types.specs.declared.kinds.LiteralType.TheOpen.{LiteralType-F}
use Rattle.fly_types.specs.Layer.{TypeLayer}
use Rattle.fly_types.specs.Levels.{max_levels, largest, type_levels}
use Rattle.fly_cast.proofs.Levels.{layer_levels, type_levels-out, type_levels-positive}
use Rattle.fly_schema.specs.declared.table.Level.{Level}
use Rattle.fly_schema.specs.declared.table.Level.TheVariants.{Same, Deeper}
use Rattle.fly_schema.specs.Table.{any_text, text_form, message, one, list, optional, Forms, FieldRow, MessageRow}
use Rattle.fly_schema.specs.Faults.{fault_of, level_after, row_at}
use Rattle.fly_values.specs.Fields.{unless_null}
use Rattle.fly_writers.specs.Json as written
use Rattle.fly_writers.specs.Json.{Fields, optional_text, optional_list}
use Rattle.fly_writers.specs.Types.{simple_name, dimensionality, blob_type_fields, blob_type_json, enum_type_fields, union_type_fields, type_json}
use Rattle.fly_idl.specs.Rows as rows_of
use Rattle.fly_idl.specs.Rows.{plain, named, field_with, simple_type, blob_type_number, enum_type_number, literal_type_number, union_type_number, blob_type_row, enum_type_row, literal_type_row, union_type_row}
use Rattle.fly_readback.proofs.Messages.{first_both}
use Rattle.fly_readback.proofs.Faultless.{seen, seen_in, IsSpelled, AreSpelled, optional-clear, one_of-clear, left_out-clear, message-faultless, optional_list-faultless, text-faultless}
use Rattle.fly_readback.proofs.ReadTypes.{of_layer, type_json-out, type-there}

-- the members of the `oneof` of a type
abbrev type_members : List FieldRow
type_members =
    field_with optional (plain (codes "simple")) one simple_type Same
    ∷ field_with optional (named (codes "collectionType") (codes "collection_type")) one
    (message literal_type_number) Deeper
    ∷ field_with optional (named (codes "mapValueType") (codes "map_value_type")) one
    (message literal_type_number) Deeper
    ∷ field_with optional (plain (codes "blob")) one (message blob_type_number) Same
    ∷ field_with optional (named (codes "enumType") (codes "enum_type")) one (message enum_type_number) Same
    ∷ field_with optional (named (codes "unionType") (codes "union_type")) one (message union_type_number) Same ∷ []

all_spelled : AreSpelled type_members
all_spelled = (refl, (refl, (refl, (refl, (refl, (refl, tt))))))

module _ (rows : List MessageRow) where
  abbrev TextForm : Forms
  TextForm = record { shape = one; kind = rows_of.text; level = Same }

  -- a text that is left out where it is empty
  pub optional_text-faultless : (s : List ℕ) (level : ℕ) (v : Data) → level ≤ max_levels
      → unless_null (first_both (optional_text s)) ≡ Some v
      → fault_of rows v (record { shape = one; kind = rows_of.text; level = Same }) level ≡ None
  optional_text-faultless [] level v h e = cc
  optional_text-faultless (b ∷ bs) level v h e =
      let same : string (b ∷ bs) ≡ v = cc in
      subst (λ x. fault_of rows x TextForm level ≡ None) same
      (text-faultless rows (text_form any_text) (b ∷ bs) Same level refl refl h)

  pub texts-faultless : (ts : List (List ℕ)) (level : ℕ) → level ≤ max_levels
      → AllByRecursion (λ d. fault_of rows d (record { shape = one; kind = rows_of.text; level = Same }) level ≡ None)
      (map string ts)
  texts-faultless [] level h = tt
  texts-faultless (t ∷ ts) level h =
      (text-faultless rows (text_form any_text) t Same level refl refl h, texts-faultless ts level h)

  simple-clear : (s : Simple) (level : ℕ) → level ≤ max_levels
      → fault_of rows (string (simple_name s)) (record { shape = one; kind = simple_type; level = Same }) level ≡ None
  simple-clear simples.None level h = text-faultless rows _ (codes "NONE") Same level refl refl h
  simple-clear simples.Integer level h = text-faultless rows _ (codes "INTEGER") Same level refl refl h
  simple-clear simples.Text level h = text-faultless rows _ (codes "STRING") Same level refl refl h
  simple-clear simples.Boolean level h = text-faultless rows _ (codes "BOOLEAN") Same level refl refl h
  simple-clear simples.Datetime level h = text-faultless rows _ (codes "DATETIME") Same level refl refl h
  simple-clear simples.Duration level h = text-faultless rows _ (codes "DURATION") Same level refl refl h
  simple-clear simples.Binary level h = text-faultless rows _ (codes "BINARY") Same level refl refl h
  simple-clear simples.Error level h = text-faultless rows _ (codes "ERROR") Same level refl refl h
  simple-clear simples.Struct level h = text-faultless rows _ (codes "STRUCT") Same level refl refl h

  dimension-clear : (multipart : Bool) (level : ℕ) (v : Data) → level ≤ max_levels
      → unless_null (first_both (dimensionality multipart)) ≡ Some v
      → fault_of rows v (record { shape = one; kind = rows_of.dimensionality; level = Same }) level ≡ None
  dimension-clear false level v h e = cc
  dimension-clear true level v h e =
      let same : string (codes "MULTIPART") ≡ v = cc in
      subst (λ x. fault_of rows x (record { shape = one; kind = rows_of.dimensionality; level = Same }) level ≡ None)
      same (text-faultless rows _ (codes "MULTIPART") Same level refl refl h)

  module _ (has_blob : row_at rows blob_type_number ≡ blob_type_row) where
    pub blob-clear : (form : BlobType) (level : ℕ) → level ≤ max_levels
        → fault_of rows (blob_type_json form) (record { shape = one; kind = message blob_type_number; level = Same })
        level ≡ None
    blob-clear form level h =
        let fs = blob_type_fields form in
        message-faultless rows blob_type_row blob_type_number Same level fs has_blob refl h tt (
          optional-clear rows fs refl level (plain (codes "format"))
              (record { shape = one; kind = rows_of.text; level = Same }) refl
              (λ v e. optional_text-faultless form.format level v h e),
          (
            optional-clear rows fs refl level (plain (codes "dimensionality"))
                (record { shape = one; kind = rows_of.dimensionality; level = Same }) refl
                (λ v e. dimension-clear form.multipart level v h e),
            tt,
          ),
        )

    module _ (has_type : row_at rows literal_type_number ≡ literal_type_row)
        (has_union : row_at rows union_type_number ≡ union_type_row)
        (has_enum : row_at rows enum_type_number ≡ enum_type_row) where
      enum-clear : (values : List (List ℕ)) (level : ℕ) → level ≤ max_levels
          → fault_of rows (written.message (enum_type_fields values))
          (record { shape = one; kind = message enum_type_number; level = Same }) level ≡ None
      enum-clear values level h =
          let fs = enum_type_fields values in
          message-faultless rows enum_type_row enum_type_number Same level fs has_enum refl h tt (
            optional-clear rows fs refl level (plain (codes "values"))
                (record { shape = list; kind = rows_of.text; level = Same }) refl
                (λ v e. optional_list-faultless rows (map string values) rows_of.text Same level v
                (texts-faultless values level h) e),
            tt,
          )

      -- nothing is found in a type that has this level
      abbrev pub IsTypeClear : Level → ℕ → Data → Type 0
      IsTypeClear l level d = fault_of rows d (record {
        shape = one;
        kind = message literal_type_number;
        level = l;
      }) level ≡ None

      -- a type, by the one member that it has
      by_member : (l : Level) (level : ℕ) (name : List ℕ) (d : Data) (f : FieldRow)
          → level_after l level ≤ max_levels
          → AllByRecursion (λ (x : List ℕ). seen x ((name, Some d) ∷ []) ≡ None)
          (codes "schema" ∷ codes "structuredDatasetType" ∷ [])
          → seen_in ((name, Some d) ∷ []) type_members ≡ f ∷ []
          → IsSpelled f.name → seen f.name.camel ((name, Some d) ∷ []) ≡ Some d
          → fault_of rows d f.form (level_after l level) ≡ None
          → IsTypeClear l level (written.message ((name, Some d) ∷ []))
      by_member l level name d f fits refused sole spelled there e =
          let fs : Fields = (name, Some d) ∷ [] in
          let here = level_after l level in
          message-faultless rows literal_type_row literal_type_number l level fs has_type refl fits (
            left_out-clear rows fs refl here (plain (codes "schema")) refl refused.0,
            (
              left_out-clear rows fs refl here
                  (named (codes "structuredDatasetType") (codes "structured_dataset_type")) refl refused.1.0,
              tt,
            ),
          ) (one_of-clear rows fs refl here true type_members f d all_spelled spelled sole there e, tt)

      module _ (k : ℕ) (each : (t : LiteralType) (l : Level) (level : ℕ) → type_levels t ≤ k
          → type_levels t + level_after l level ≤ 17 → IsTypeClear l level (type_json t)) where
        variants-clear : (ts : List LiteralType) (level : ℕ) → largest (map type_levels ts) ≤ k
            → 1 + largest (map type_levels ts) + level ≤ 17
            → AllByRecursion (IsTypeClear Deeper level) (map type_json ts)
        variants-clear [] level h fits = tt
        variants-clear (t ∷ ts) level h fits = (
          each t Deeper level (omega (arith, h)) (omega (arith, fits)),
          variants-clear ts level (omega (arith, h))
              (omega (arith, fits)),
        )

        union-clear : (ts : List LiteralType) (level : ℕ) → level ≤ max_levels → largest (map type_levels ts) ≤ k
            → 1 + largest (map type_levels ts) + level ≤ 17
            → fault_of rows (written.message (union_type_fields (map type_json ts)))
            (record { shape = one; kind = message union_type_number; level = Same }) level ≡ None
        union-clear ts level h below fits =
            let fs = union_type_fields (map type_json ts) in
            message-faultless rows union_type_row union_type_number Same level fs has_union refl h tt (
              optional-clear rows fs refl level (plain (codes "variants"))
                  (record { shape = list; kind = message literal_type_number; level = Deeper }) refl
                  (λ v e. optional_list-faultless rows (map type_json ts) (message literal_type_number) Deeper level v
                  (variants-clear ts level below fits) e),
              tt,
            )

        layer-clear : (z : TypeLayer) (l : Level) (level : ℕ) → layer_levels z ≤ suc k
            → layer_levels z + level_after l level ≤ 17 → IsTypeClear l level (of_layer z)
        layer-clear (LiteralType-F.Simple s) l level h fits =
            by_member l level (codes "simple") (string (simple_name s))
            (field_with optional (plain (codes "simple")) one simple_type Same) (omega (arith, fits))
            (refl, (refl, tt)) refl refl refl (simple-clear s (level_after l level) (omega (arith, fits)))
        layer-clear (LiteralType-F.Collection t) l level h fits =
            let f = field_with optional (named (codes "collectionType") (codes "collection_type")) one
            (message literal_type_number) Deeper in
            by_member l level (codes "collectionType") (type_json t) f (omega (arith, fits))
            (refl, (refl, tt)) (ap (λ (o : Option Data). cond (is_some o) (f ∷ []) []) (type-there t)) refl
            (type-there t) (each t Deeper (level_after l level) (omega (arith, h)) (omega (arith, fits)))
        layer-clear (LiteralType-F.Map t) l level h fits =
            let f = field_with optional (named (codes "mapValueType") (codes "map_value_type")) one
            (message literal_type_number) Deeper in
            by_member l level (codes "mapValueType") (type_json t) f (omega (arith, fits))
            (refl, (refl, tt)) (ap (λ (o : Option Data). cond (is_some o) (f ∷ []) []) (type-there t)) refl
            (type-there t) (each t Deeper (level_after l level) (omega (arith, h)) (omega (arith, fits)))
        layer-clear (LiteralType-F.Blob form) l level h fits =
            by_member l level (codes "blob") (blob_type_json form)
            (field_with optional (plain (codes "blob")) one (message blob_type_number) Same) (omega (arith, fits))
            (refl, (refl, tt)) refl refl refl (blob-clear form (level_after l level) (omega (arith, fits)))
        layer-clear (LiteralType-F.Enum values) l level h fits =
            by_member l level (codes "enumType") (written.message (enum_type_fields values))
            (field_with optional (named (codes "enumType") (codes "enum_type")) one (message enum_type_number) Same)
            (omega (arith, fits)) (refl, (refl, tt)) refl refl refl
            (enum-clear values (level_after l level) (omega (arith, fits)))
        layer-clear (LiteralType-F.Union ts) l level h fits =
            by_member l level (codes "unionType") (written.message (union_type_fields (map type_json ts)))
            (field_with optional (named (codes "unionType") (codes "union_type")) one (message union_type_number) Same)
            (omega (arith, fits)) (refl, (refl, tt)) refl refl refl
            (union-clear ts (level_after l level) (omega (arith, fits)) (omega (arith, h)) (omega (arith, fits)))

      -- nothing is found in a type that lies within the levels
      pub type-clear : (k : ℕ) (t : LiteralType) (l : Level) (level : ℕ) → type_levels t ≤ k
          → type_levels t + level_after l level ≤ 17 → IsTypeClear l level (type_json t)
      type-clear zero t l level h fits = absurd (omega (arith, h, type_levels-positive t))
      type-clear (suc k) t l level h fits =
          subst (IsTypeClear l level) (sym (type_json-out t))
          (layer-clear k (type-clear k) (out-LiteralType t) l level (omega (arith, h, type_levels-out t))
          (omega (arith, fits, type_levels-out t)))
