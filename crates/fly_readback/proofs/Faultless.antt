-- Nothing is found in a message that was written, where nothing is found in its fields.
use Rattle.std.proofs.Common.{◌≡◌, ℕ, ◌+◌, ◌≤◌, nat_lt, Bool, true, false, cond, not, List, [], ◌∷◌, map, Option, Some, None, is_some, refl, sym, ap, ap₂, subst, ◌∙◌, arith}
use Rattle.std.proofs.lemmas.Bool.Decides.{nat_tests}
use Rattle.std.specs.List.{AllByRecursion, filter}
use Rattle.std.specs.Option.{option_or}
use Rattle.serde_json.specs.Data.{Data, boolean, string, array, object, Members, no_members, member}
use Rattle.serde_json.specs.View.{items_of}
use Rattle.fly_types.specs.Levels.{max_levels}
use Rattle.fly_schema.specs.declared.table.Level.{Level}
use Rattle.fly_schema.specs.declared.table.When.TheVariants as whens
use Rattle.fly_schema.specs.declared.fault.DocKind.TheVariants.{Missing, LeftOut, FloatRefused, WrongKind, TooDeep}
use Rattle.fly_schema.specs.Table.{Named, any_text, Scalars, Kinds, scalar, message, one, list, map_by, Forms, optional, required, FieldRow, Parts, single, one_of, MessageRow}
use Rattle.fly_schema.specs.Lookups.{value_at, is_there}
use Rattle.fly_schema.specs.Places as places
use Rattle.fly_schema.specs.Places.{Fault, inside, index, fault_here, first_of}
use Rattle.fly_schema.specs.Scalars.{is_refused_float, has_form}
use Rattle.fly_schema.specs.Faults.{fault_of, items_fault, entries_fault, member_fault, own_fault, level_after, row_at, row_instead, row_for, row_fault, part_fault, one_of_fault, left_out_fault, read_fault}
use Rattle.fly_schema.proofs.FieldFaults.{own_passed, read_there, read_absent}
use Rattle.fly_schema.proofs.Faultless.{there_in}
use Rattle.fly_values.specs.Fields.{first_there, unless_null, original_name}
use Rattle.fly_writers.specs.Json as written
use Rattle.fly_writers.specs.Json.{Fields, with_fields, unless_empty, optional_list, as_fields, optional_map}
use Rattle.fly_writers.proofs.MessageLemmas.{are_distinct}
use Rattle.fly_idl.proofs.Clear.{value-field}
use Rattle.fly_readback.proofs.Messages.{value_in, message-field, as_members, AreSorted, map-written, first_both}

-- ---- what is seen of a field

-- the value under a name, where it is there
abbrev pub seen : List ℕ → Fields → Option Data
seen name fs = unless_null (first_there (value_in name fs) (value_in (original_name name) fs))

abbrev pub IsSpelled : Named → Type 0
IsSpelled name = original_name name.camel ≡ name.original

pub value-seen : (name : Named) (fs : Fields) → are_distinct fs ≡ true → IsSpelled name
    → value_at name (written.message fs) ≡ seen name.camel fs
value-seen name fs distinct spelled =
    value-field name (with_fields no_members fs) spelled
    ∙ ap unless_null (message-field name.camel fs distinct)

-- the fields of a list that are there
abbrev pub seen_in : Fields → List FieldRow → List FieldRow
seen_in fs rows = filter (λ (f : FieldRow). is_some (seen f.name.camel fs)) rows

abbrev pub AreSpelled : List FieldRow → Type 0
AreSpelled rows = AllByRecursion (λ (f : FieldRow). IsSpelled f.name) rows

there-seen : (fs : Fields) (rows : List FieldRow) → are_distinct fs ≡ true → AreSpelled rows
    → there_in (written.message fs) rows ≡ seen_in fs rows
there-seen fs [] distinct spelled = refl
there-seen fs (f ∷ rows) distinct spelled =
    ap₂ (λ (b : Bool) (rest : List FieldRow). cond b (f ∷ rest) rest)
    (ap is_some (value-seen f.name fs distinct spelled.0)) (there-seen fs rows distinct spelled.1)

-- ---- the parts of a row

module _ (rows : List MessageRow) (fs : Fields) (distinct : are_distinct fs ≡ true) (level : ℕ) where
  abbrev members : Members
  members = with_fields no_members fs

  -- nothing is found by a part of a message's row
  abbrev pub IsPartClear : Parts → Type 0
  IsPartClear p = part_fault (object members) (member_fault rows members) level p ≡ None

  read-clear : (f : FieldRow) (v : Data) → IsSpelled f.name → seen f.name.camel fs ≡ Some v
      → fault_of rows v f.form level ≡ None → read_fault (object members) (member_fault rows members) level f ≡ None
  read-clear f v spelled there e =
      read_there rows members level f v (sym (value-seen f.name fs distinct spelled ∙ there))
      ∙ ap (inside (places.field f.name.camel)) e

  read-left : (f : FieldRow) → IsSpelled f.name → seen f.name.camel fs ≡ None
      → read_fault (object members) (member_fault rows members) level f ≡ None
  read-left f spelled none = read_absent rows members level f (sym (value-seen f.name fs distinct spelled ∙ none))

  -- an optional field in which nothing is found, where it is there
  by_value : (f : FieldRow) (o : Option Data) → IsSpelled f.name → seen f.name.camel fs ≡ o
      → ((v : Data) → o ≡ Some v → fault_of rows v f.form level ≡ None)
      → read_fault (object members) (member_fault rows members) level f ≡ None
  by_value f None spelled e h = read-left f spelled e
  by_value f (Some v) spelled e h = read-clear f v spelled e (h v refl)

  pub optional-clear : (name : Named) (form : Forms) → IsSpelled name
      → ((v : Data) → seen name.camel fs ≡ Some v → fault_of rows v form level ≡ None)
      → IsPartClear (single (record { name = name; need = optional; form = form }))
  optional-clear name form spelled h =
      by_value (record { name = name; need = optional; form = form }) (seen name.camel fs) spelled refl h

  pub absent-clear : (name : Named) (form : Forms) → IsSpelled name → seen name.camel fs ≡ None
      → IsPartClear (single (record { name = name; need = optional; form = form }))
  absent-clear name form spelled none = read-left (record { name = name; need = optional; form = form }) spelled none

  pub required-clear : (name : Named) (form : Forms) (v : Data) → IsSpelled name → seen name.camel fs ≡ Some v
      → fault_of rows v form level ≡ None → IsPartClear (single (record { name = name; need = required; form = form }))
  required-clear name form v spelled there e =
      let f : FieldRow = record { name = name; need = required; form = form } in
      let is : is_there name (object members) ≡ true = ap is_some (value-seen name fs distinct spelled ∙ there) in
      ap (λ b. cond (not b) (inside (places.field name.camel) (fault_here Missing))
      (read_fault (object members) (member_fault rows members) level f)) is
      ∙ read-clear f v spelled there e

  pub one_of-clear : (needed : Bool) (fields : List FieldRow) (f : FieldRow) (v : Data) → AreSpelled fields
      → IsSpelled f.name → seen_in fs fields ≡ f ∷ [] → seen f.name.camel fs ≡ Some v
      → fault_of rows v f.form level ≡ None → IsPartClear (one_of needed fields)
  one_of-clear needed fields f v all spelled sole there e =
      ap (one_of_fault (object members) (member_fault rows members) level needed fields)
      (there-seen fs fields distinct all ∙ sole)
      ∙ read-clear f v spelled there e

  -- a field that is left out is not there
  pub left_out-clear : (name : Named) → IsSpelled name → seen name.camel fs ≡ None
      → left_out_fault (object members) (record { name = name; when = whens.Present }) ≡ None
  left_out-clear name spelled none =
      ap (λ (o : Option Data). cond (is_some o) (inside (places.field name.camel) (fault_here LeftOut)) None)
      (value-seen name fs distinct spelled ∙ none)

-- ---- messages

all_none : {A : Type 0} (f : A → Option Fault) (xs : List A) → AllByRecursion (λ x. f x ≡ None) xs
    → first_of (map f xs) ≡ None
all_none f [] h = refl
all_none f (x ∷ xs) h = ap₂ option_or h.0 (all_none f xs h.1)

pub within : (level : ℕ) → level ≤ max_levels → nat_lt max_levels level ≡ false
within level h = grind (arith, nat_tests, h)

module _ (rows : List MessageRow) where
  own-message : (n : ℕ) (l : Level) (level : ℕ) (ms : Members) → level_after l level ≤ max_levels
      → None ≡ own_fault (record { shape = one; kind = message n; level = l }) level (object ms)
  own-message n l level ms h =
      sym (ap (λ b. cond b (fault_here TooDeep) None) (within (level_after l level) h))

  by_row : (row : MessageRow) (n : ℕ) (ms : Members) → row_at rows n ≡ row → row.instead ≡ None
      → row_for rows n (object ms) ≡ row
  by_row row n ms at plain =
      ap (λ r. row_instead rows r (object ms) r.instead) at ∙ ap (row_instead rows row (object ms)) plain

  pub message-faultless : (row : MessageRow) (n : ℕ) (l : Level) (level : ℕ) (fs : Fields) → row_at rows n ≡ row
      → row.instead ≡ None → level_after l level ≤ max_levels
      → AllByRecursion (λ x. left_out_fault (written.message fs) x ≡ None) row.left_out
      → AllByRecursion (λ p. part_fault (written.message fs) (member_fault rows (with_fields no_members fs))
      (level_after l level) p ≡ None) row.parts
      → fault_of rows (written.message fs) (record { shape = one; kind = message n; level = l }) level ≡ None
  message-faultless row n l level fs at plain fits refused parts =
      let ms = with_fields no_members fs in
      let form : Forms = record { shape = one; kind = message n; level = l } in
      let found = member_fault rows ms in
      sym (own_passed rows (object ms) form level (own-message n l level ms fits))
      ∙ ap (row_fault (object ms) found (level_after l level)) (by_row row n ms at plain)
      ∙ ap₂ option_or (all_none (left_out_fault (object ms)) row.left_out refused)
      (all_none (part_fault (object ms) found (level_after l level)) row.parts parts)

  -- ---- lists and maps

  items-faultless : (ds : List Data) (form : Forms) (level n : ℕ)
      → AllByRecursion (λ d. fault_of rows d form level ≡ None) ds
      → items_fault rows (items_of ds) form level n ≡ None
  unfolding fault_of
  items-faultless [] form level n h = refl
  items-faultless (d ∷ ds) form level n h =
      ap₂ option_or (ap (inside (index n)) h.0) (items-faultless ds form level (n + 1) h.1)

  pub list-faultless : (ds : List Data) (kind : Kinds) (l : Level) (level : ℕ)
      → AllByRecursion (λ d. fault_of rows d (record { shape = one; kind = kind; level = l }) level ≡ None) ds
      → fault_of rows (array (items_of ds)) (record { shape = list; kind = kind; level = l }) level ≡ None
  list-faultless ds kind l level h =
      sym (own_passed rows (array (items_of ds)) (record { shape = list; kind = kind; level = l }) level refl)
      ∙ items-faultless ds (record { shape = one; kind = kind; level = l }) level 0 h

  -- a list that is left out where it is empty
  pub optional_list-faultless : (ds : List Data) (kind : Kinds) (l : Level) (level : ℕ) (v : Data)
      → AllByRecursion (λ d. fault_of rows d (record { shape = one; kind = kind; level = l }) level ≡ None) ds
      → unless_null (first_both (optional_list ds)) ≡ Some v
      → fault_of rows v (record { shape = list; kind = kind; level = l }) level ≡ None
  optional_list-faultless [] kind l level v h e = cc
  optional_list-faultless (d ∷ ds) kind l level v h e =
      let same : array (items_of (d ∷ ds)) ≡ v = cc in
      subst (λ x. fault_of rows x (record { shape = list; kind = kind; level = l }) level ≡ None) same
      (list-faultless (d ∷ ds) kind l level h)

  entries-faultless : (es : List (List ℕ × Data)) (form : Forms) (level n : ℕ)
      → AllByRecursion (λ (e : List ℕ × Data). fault_of rows e.1 form level ≡ None) es
      → entries_fault rows (as_members es) any_text form level n ≡ None
  unfolding fault_of
  entries-faultless [] form level n h = refl
  entries-faultless (e ∷ es) form level n h =
      ap₂ option_or (ap (inside (index n)) h.0) (entries-faultless es form level (n + 1) h.1)

  -- a map by any texts
  pub map-faultless : (es : List (List ℕ × Data)) (kind : Kinds) (l : Level) (level : ℕ)
      → AllByRecursion (λ (e : List ℕ × Data). fault_of rows e.1 (record { shape = one; kind = kind; level = l })
      level ≡ None) es
      → fault_of rows (object (as_members es)) (record { shape = map_by any_text; kind = kind; level = l }) level
      ≡ None
  map-faultless es kind l level h =
      sym (own_passed rows (object (as_members es)) (record { shape = map_by any_text; kind = kind; level = l })
      level refl)
      ∙ entries-faultless es (record { shape = one; kind = kind; level = l }) level 0 h

  -- a map that is left out where it is empty
  pub optional_map-faultless : (es : List (List ℕ × Data)) (kind : Kinds) (l : Level) (level : ℕ) (v : Data)
      → AreSorted es
      → AllByRecursion (λ (e : List ℕ × Data). fault_of rows e.1 (record { shape = one; kind = kind; level = l })
      level ≡ None) es
      → unless_null (first_both (optional_map es)) ≡ Some v
      → fault_of rows v (record { shape = map_by any_text; kind = kind; level = l }) level ≡ None
  optional_map-faultless es kind l level v sorted h e =
      by (as_members es) (map-written es sorted) (map-faultless es kind l level h)
    where
      by : (ms : Members) → with_fields no_members (as_fields es) ≡ ms
          → fault_of rows (object ms) (record { shape = map_by any_text; kind = kind; level = l }) level ≡ None
          → fault_of rows v (record { shape = map_by any_text; kind = kind; level = l }) level ≡ None
      by no_members is clear =
          let none : None ≡ Some v = ap (λ x. unless_null (first_both (unless_empty x))) (sym is) ∙ e in cc
      by (member key d ms) is clear =
          let some : Some (object (member key d ms)) ≡ Some v =
          ap (λ x. unless_null (first_both (unless_empty x))) (sym is) ∙ e in
          let same : object (member key d ms) ≡ v = cc in
          subst (λ x. fault_of rows x (record { shape = map_by any_text; kind = kind; level = l }) level ≡ None) same
          clear

  -- ---- scalars

  refused_or : (a b c : Bool) → a ≡ false → b ≡ true → c ≡ false
      → None ≡ cond a (fault_here FloatRefused) (cond (not b) (fault_here WrongKind)
      (cond c (fault_here TooDeep) None))
  refused_or false true false p q r = refl
  refused_or true b c p q r = cc
  refused_or false false c p q r = cc
  refused_or false true true p q r = cc

  -- a text of a scalar's form
  pub text-faultless : (s : Scalars) (text : List ℕ) (l : Level) (level : ℕ)
      → is_refused_float s (string text) ≡ false → has_form s (string text) ≡ true
      → level_after l level ≤ max_levels
      → fault_of rows (string text) (record { shape = one; kind = scalar s; level = l }) level ≡ None
  text-faultless s text l level float formed fits =
      sym (own_passed rows (string text) (record { shape = one; kind = scalar s; level = l }) level
      (refused_or _ _ _ float formed (within (level_after l level) fits)))

  pub truth-faultless : (s : Scalars) (b : Bool) (l : Level) (level : ℕ)
      → is_refused_float s (boolean b) ≡ false → has_form s (boolean b) ≡ true → level_after l level ≤ max_levels
      → fault_of rows (boolean b) (record { shape = one; kind = scalar s; level = l }) level ≡ None
  truth-faultless s b l level float formed fits =
      sym (own_passed rows (boolean b) (record { shape = one; kind = scalar s; level = l }) level
      (refused_or _ _ _ float formed (within (level_after l level) fits)))
