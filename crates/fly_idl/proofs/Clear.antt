-- What is known of the fields of a message in which nothing is found.
use Rattle.std.proofs.Common.{◌≡◌, ◌⊎◌, inl, inr, ℕ, ◌≤◌, Bool, true, false, cond, List, [], ◌∷◌, Option, Some, None, is_some, refl, sym, ap, subst, ◌∙◌}
use Rattle.std.specs.List.{AllByRecursion}
use Rattle.std.specs.Option.{option_and_then}
use Rattle.serde_json.specs.Data.{Data, null, boolean, number, string, array, object, Items, no_items, item, Members, no_members, member}
use Rattle.serde_json.specs.Find.{get_member, as_str}
use Rattle.fly_schema.specs.declared.table.Level.{Level}
use Rattle.fly_schema.specs.Table.{Named, Texts, text_form, Kinds, scalar, message, one, list, map_by, Forms, required, FieldRow, Parts, single, one_of, MessageRow}
use Rattle.fly_schema.specs.Lookups as lookups
use Rattle.fly_schema.specs.Lookups.{value_at}
use Rattle.fly_schema.specs.Scalars.{fits_texts, if_passes}
use Rattle.fly_schema.specs.Faults.{fault_of, member_fault, level_after, row_at, row_for, row_instead, row_fault, part_fault, left_out_fault}
use Rattle.fly_schema.proofs.Faultless.{AllItems, AllMembers, map_none, scalar_none, message_none, there_in, one_of_none, row_none, field_none, required_there, list_none}
use Rattle.std.proofs.lemmas.Bool.{ltb-false}
use Rattle.fly_types.specs.Levels.{max_levels}
use Rattle.fly_idl.proofs.Ordered.{WhereSome}
use Rattle.fly_values.specs.Fields.{members_in, field, first_there, unless_null, member_at, original_name, listed, items_in, entries_of, text_value}

-- ---- one field

-- a value that is there reads alike on both sides
none_alike : (d : Data) → lookups.unless_null d ≡ unless_null d
none_alike null = refl
none_alike (boolean b) = refl
none_alike (number n) = refl
none_alike (string s) = refl
none_alike (array ds) = refl
none_alike (object ms) = refl

second_alike : (o : Option Data) → option_and_then lookups.unless_null o ≡ unless_null (first_there None o)
second_alike None = refl
second_alike (Some d) = none_alike d

found_alike : (ms : Members) (camel original : List ℕ) (o : Option Data) → get_member camel ms ≡ o
    → option_and_then lookups.unless_null (get_member (cond (is_some o) camel original) ms)
    ≡ unless_null (first_there o (get_member original ms))
found_alike ms camel original None e = second_alike (get_member original ms)
found_alike ms camel original (Some d) e = ap (option_and_then lookups.unless_null) e ∙ none_alike d

-- a field is found under the names that it has in the table
pub value-field : (name : Named) (ms : Members) → original_name name.camel ≡ name.original
    → value_at name (object ms) ≡ unless_null (field name.camel ms)
unfolding field
value-field name ms spelled =
    found_alike ms name.camel name.original (get_member name.camel ms) refl
    ∙ ap (λ original. unless_null (first_there (get_member name.camel ms) (get_member original ms))) (sym spelled)

module _ (rows : List MessageRow) where
  abbrev NoFault : Forms → ℕ → Data → Type 0
  NoFault form level d = fault_of rows d form level ≡ None

  -- the value is absent, or nothing is found in it
  abbrev pub IsClear : Forms → ℕ → Data → Type 0
  IsClear form level d = (d ≡ null) ⊎ (fault_of rows d form level ≡ None)

  clear_at : (form : Forms) (level : ℕ) (d : Data) → ((v : Data) → unless_null d ≡ Some v → fault_of rows v form
      level ≡ None)
      → IsClear form level d
  clear_at form level null h = inl refl
  clear_at form level (boolean b) h = inr (h (boolean b) refl)
  clear_at form level (number n) h = inr (h (number n) refl)
  clear_at form level (string s) h = inr (h (string s) refl)
  clear_at form level (array ds) h = inr (h (array ds) refl)
  clear_at form level (object ms) h = inr (h (object ms) refl)

  there_at : (form : Forms) (level : ℕ) (d v : Data) → unless_null d ≡ Some v
      → ((w : Data) → unless_null d ≡ Some w → fault_of rows w form level ≡ None) → fault_of rows d form level ≡ None
  there_at form level null v e h = cc
  there_at form level (boolean b) v e h = h (boolean b) refl
  there_at form level (number n) v e h = h (number n) refl
  there_at form level (string s) v e h = h (string s) refl
  there_at form level (array ds) v e h = h (array ds) refl
  there_at form level (object ms) v e h = h (object ms) refl

  -- nothing is found by a part of a message's row
  abbrev pub IsPartClear : Members → ℕ → Parts → Type 0
  IsPartClear ms level p = part_fault (object ms) (member_fault rows ms) level p ≡ None

  -- a field is absent, or nothing is found in it
  pub field-clear : (ms : Members) (level : ℕ) (f : FieldRow) → original_name f.name.camel ≡ f.name.original
      → IsPartClear ms level (single f) → IsClear f.form level (field f.name.camel ms)
  field-clear ms level f spelled e =
      let same = value-field f.name ms spelled in
      clear_at f.form level (field f.name.camel ms)
      (λ v there. (field_none rows ms level f e).1 v (same ∙ there))

  -- nothing is found in a field that has to be there
  pub required-clear : (ms : Members) (level : ℕ) (name : Named) (form : Forms) → original_name name.camel ≡
      name.original
      → IsPartClear ms level (single (record { name = name; need = required; form = form }))
      → fault_of rows (field name.camel ms) form level ≡ None
  required-clear ms level name form spelled e =
      let f : FieldRow = record { name = name; need = required; form = form } in
      let same = value-field name ms spelled in
      let known = field_none rows ms level f e in
      let there = required_there name (object ms) known.0 in
      there_at form level (field name.camel ms) there.0 (sym same ∙ there.1) (λ v at. known.1 v (same ∙ at))

  -- ---- messages

  -- nothing is refused in it, and nothing is found by the parts of its row
  pub record IsMessageClear (row : MessageRow) (level : ℕ) (ms : Members) : Type 0 where
    pub left_out : AllByRecursion (λ l. left_out_fault (object ms) l ≡ None) row.left_out
    pub levels : level ≤ max_levels
    pub parts : AllByRecursion (λ p. part_fault (object ms) (member_fault rows ms) level p ≡ None) row.parts

  abbrev of_message : (n : ℕ) (level : Level) → Forms
  of_message n level = record { shape = one; kind = message n; level = level }

  by_row : (row : MessageRow) (n : ℕ) (ms : Members) → row_at rows n ≡ row → row.instead ≡ None
      → row_for rows n (object ms) ≡ row
  by_row row n ms at plain =
      ap (λ r. row_instead rows r (object ms) r.instead) at ∙ ap (row_instead rows row (object ms)) plain

  pub message-clear : (row : MessageRow) (n : ℕ) (l : Level) (level : ℕ) (d : Data) → row_at rows n ≡ row →
      row.instead ≡ None
      → fault_of rows d (record { shape = one; kind = message n; level = l }) level ≡ None
      → IsMessageClear row (level_after l level) (members_in d)
  message-clear row n l level d at plain e =
      let m = message_none rows d n l level e in
      let found = subst (λ r. row_fault (object m.0) (member_fault rows m.0) (level_after l level) r ≡ None)
      (by_row row n m.0 at plain) m.3 in
      let both = row_none (object m.0) (member_fault rows m.0) (level_after l level) row found in
      subst (λ x. IsMessageClear row (level_after l level) (members_in x)) (sym m.1)
      (record { left_out = both.0; levels = ltb-false max_levels (level_after l level) m.2; parts = both.1 })

  -- ---- lists

  all-items : (P : Data → Type 0) (ds : Items) → AllItems P ds → AllByRecursion P (listed ds)
  all-items P no_items h = tt
  all-items P (item d ds) h = (h.0, all-items P ds h.1)

  abbrev of_list : (kind : Kinds) (l : Level) → Forms
  of_list kind l = record { shape = list; kind = kind; level = l }

  -- nothing is found in the items of a list
  pub items-clear : (kind : Kinds) (l : Level) (level : ℕ) (d : Data)
      → IsClear (record { shape = list; kind = kind; level = l }) level d
      → AllByRecursion (λ x. fault_of rows x (record { shape = one; kind = kind; level = l }) level ≡ None)
      (items_in d)
  items-clear kind l level d (inl absent) =
      subst (λ x. AllByRecursion (λ y. fault_of rows y (record { shape = one; kind = kind; level = l }) level ≡
      None) (items_in x))
      (sym absent) tt
  items-clear kind l level d (inr e) =
      let a = list_none rows d kind l level e in
      subst (λ x. AllByRecursion (λ y. fault_of rows y (record { shape = one; kind = kind; level = l }) level ≡
      None) (items_in x))
      (sym a.1) (all-items _ a.0 a.2)

  -- ---- texts

  passes_by : (b : Bool) (s : List ℕ) → is_some (cond b (Some s) None) ≡ true → b ≡ true
  passes_by true s e = refl
  passes_by false s e = cc

  is_text : (texts : Texts) (d : Data) → is_some (if_passes (fits_texts texts) (as_str d)) ≡ true
      → fits_texts texts (text_value d) ≡ true
  is_text texts null e = cc
  is_text texts (boolean b) e = cc
  is_text texts (number n) e = cc
  is_text texts (string s) e = passes_by (fits_texts texts s) s e
  is_text texts (array ds) e = cc
  is_text texts (object ms) e = cc

  -- a text has its form
  pub text-clear : (texts : Texts) (l : Level) (level : ℕ) (d : Data)
      → fault_of rows d (record { shape = one; kind = scalar (text_form texts); level = l }) level ≡ None
      → fits_texts texts (text_value d) ≡ true
  text-clear texts l level d e = is_text texts d (scalar_none rows d (text_form texts) l level e)

  -- ---- a `oneof`

  module _ (d : Data) (Q : FieldRow → Type 0) (absent : (g : FieldRow) → value_at g.name d ≡ None → Q g) where
    none_turn : (g : FieldRow) (gs : List FieldRow) (o : Option Data) → value_at g.name d ≡ o
        → (there_in d gs ≡ [] → AllByRecursion Q gs) → cond (is_some o) (g ∷ there_in d gs) (there_in d gs) ≡ []
        → Q g × AllByRecursion Q gs
    none_turn g gs None at more e = (absent g at, more e)
    none_turn g gs (Some w) at more e = cc

    none-there : (fs : List FieldRow) → there_in d fs ≡ [] → AllByRecursion Q fs
    none-there [] e = tt
    none-there (g ∷ gs) e = none_turn g gs (value_at g.name d) refl (none-there gs) e

    one_turn : (f g : FieldRow) (gs : List FieldRow) (o : Option Data) → Q f → value_at g.name d ≡ o
        → (there_in d gs ≡ f ∷ [] → AllByRecursion Q gs) → cond (is_some o) (g ∷ there_in d gs) (there_in d gs)
        ≡ f ∷ []
        → Q g × AllByRecursion Q gs
    one_turn f g gs None q at more e = (absent g at, more e)
    one_turn f g gs (Some w) q at more e =
        let same : f ≡ g = cc in
        let rest : there_in d gs ≡ [] = cc in
        (subst Q same q, none-there gs rest)

    one-there : (f : FieldRow) (fs : List FieldRow) → Q f → there_in d fs ≡ f ∷ [] → AllByRecursion Q fs
    one-there f [] q e = tt
    one-there f (g ∷ gs) q e = one_turn f g gs (value_at g.name d) q refl (one-there f gs q) e

  -- nothing is found in a field, where it is there
  abbrev pub IsFieldClear : Members → ℕ → FieldRow → Type 0
  IsFieldClear ms level f = (v : Data) → value_at f.name (object ms) ≡ Some v → fault_of rows v f.form level ≡ None

  absent-clear : (ms : Members) (level : ℕ) (g : FieldRow) → value_at g.name (object ms) ≡ None → IsFieldClear
      ms level g
  absent-clear ms level g e v at = let clash : None ≡ Some v = sym e ∙ at in cc

  alone-clear : (ms : Members) (level : ℕ) (f : FieldRow) (v : Data) → value_at f.name (object ms) ≡ Some v
      → fault_of rows v f.form level ≡ None → IsFieldClear ms level f
  alone-clear ms level f v there e w at =
      let both : Some v ≡ Some w = sym there ∙ at in
      let same : v ≡ w = cc in
      subst (λ x. fault_of rows x f.form level ≡ None) same e

  -- nothing is found in those of its members that are there
  pub one_of-clear : (ms : Members) (level : ℕ) (needed : Bool) (fs : List FieldRow) → IsPartClear ms level
      (one_of needed fs)
      → AllByRecursion (λ (f : FieldRow). (v : Data) → value_at f.name (object ms) ≡ Some v → fault_of rows v
      f.form level ≡ None) fs
  one_of-clear ms level needed fs e = by (one_of_none rows ms level needed fs e)
    where
      by : ((needed ≡ false) × (there_in (object ms) fs ≡ []))
          ⊎ ((f : FieldRow) × (v : Data) × (there_in (object ms) fs ≡ f ∷ []) × (value_at f.name (object ms) ≡ Some v)
          × (fault_of rows v f.form level ≡ None)) → AllByRecursion (IsFieldClear ms level) fs
      by (inl none) = none-there (object ms) (IsFieldClear ms level) (absent-clear ms level) fs none.1
      by (inr sole) =
          one-there (object ms) (IsFieldClear ms level) (absent-clear ms level) sole.0 fs
          (alone-clear ms level sole.0 sole.1 sole.3 sole.4) sole.2

  where_known : {A : Type 0} (P : A → Type 0) (o : Option A) → ((v : A) → o ≡ Some v → P v) → WhereSome P o
  where_known P None h = tt
  where_known P (Some v) h = h v refl

  -- the same of a member of a `oneof`, under its name
  pub member-clear : (ms : Members) (level : ℕ) (f : FieldRow) → original_name f.name.camel ≡ f.name.original
      → ((v : Data) → value_at f.name (object ms) ≡ Some v → fault_of rows v f.form level ≡ None)
      → WhereSome (λ v. fault_of rows v f.form level ≡ None) (member_at f.name.camel ms)
  unfolding member_at
  member-clear ms level f spelled h =
      where_known (λ v. fault_of rows v f.form level ≡ None) (unless_null (field f.name.camel ms))
      (λ v there. h v (value-field f.name ms spelled ∙ there))

  -- and of its value, which is null where it is absent
  pub member_field-clear : (ms : Members) (level : ℕ) (f : FieldRow) → original_name f.name.camel ≡ f.name.original
      → ((v : Data) → value_at f.name (object ms) ≡ Some v → fault_of rows v f.form level ≡ None)
      → IsClear f.form level (field f.name.camel ms)
  member_field-clear ms level f spelled h =
      clear_at f.form level (field f.name.camel ms) (λ v there. h v (value-field f.name ms spelled ∙ there))

  -- ---- maps

  all-members : (P : List ℕ → Data → Type 0) (ms : Members) → AllMembers P ms
      → AllByRecursion (λ (e : List ℕ × Data). P e.0 e.1) (entries_of ms)
  all-members P no_members h = tt
  all-members P (member key d ms) h = (h.0, all-members P ms h.1)

  -- nothing is found in the values of a map
  pub entries-clear : (keys : Texts) (kind : Kinds) (l : Level) (level : ℕ) (d : Data)
      → IsClear (record { shape = map_by keys; kind = kind; level = l }) level d
      → AllByRecursion (λ (e : List ℕ × Data). (fits_texts keys e.0 ≡ true)
      × (fault_of rows e.1 (record { shape = one; kind = kind; level = l }) level ≡ None)) (entries_of (members_in d))
  entries-clear keys kind l level d (inl absent) =
      subst (λ x. AllByRecursion (λ (e : List ℕ × Data). (fits_texts keys e.0 ≡ true)
      × (fault_of rows e.1 (record { shape = one; kind = kind; level = l }) level ≡ None))
      (entries_of (members_in x)))
      (sym absent) tt
  entries-clear keys kind l level d (inr e) =
      let m = map_none rows d keys kind l level e in
      subst (λ x. AllByRecursion (λ (e : List ℕ × Data). (fits_texts keys e.0 ≡ true)
      × (fault_of rows e.1 (record { shape = one; kind = kind; level = l }) level ≡ None))
      (entries_of (members_in x)))
      (sym m.1) (all-members (λ key x. (fits_texts keys key ≡ true)
      × (fault_of rows x (record { shape = one; kind = kind; level = l }) level ≡ None)) m.0 m.2)
