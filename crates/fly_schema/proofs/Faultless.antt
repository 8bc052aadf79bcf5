-- What is known of a value in which nothing is found: of its own form, of the fields of a message, and of what is
-- inside.
use Rattle.std.proofs.Common.{◌≡◌, ◌≢◌, ◌⊎◌, inl, inr, ℕ, ◌+◌, Bool, true, false, cond, not, nat_lt, List, [], ◌∷◌, map, Option, Some, None, is_some, if◌then◌else◌, refl, sym, ap, subst, ◌∙◌}
use Rattle.std.specs.Bool.{⊤}
use Rattle.std.specs.List.{AllByRecursion, filter}
use Rattle.std.specs.Option.{option_or}
use Rattle.serde_json.specs.Data.{Data, null, boolean, number, string, array, object, Items, no_items, item, Members, no_members, member}
use Rattle.serde_json.specs.Find.{as_array, as_object}
use Rattle.fly_types.specs.Levels.{max_levels}
use Rattle.fly_schema.specs.declared.table.Level.{Level}
use Rattle.fly_schema.specs.declared.fault.DocKind.{DocKind}
use Rattle.fly_schema.specs.declared.fault.DocKind.TheVariants.{FloatRefused, WrongKind, TooDeep, Missing}
use Rattle.fly_schema.specs.Table.{Named, Texts, Scalars, Kinds, scalar, message, struct, one, list, map_by, Forms, required, FieldRow, single, one_of, MessageRow}
use Rattle.fly_schema.specs.Lookups.{value_at, is_there}
use Rattle.fly_schema.specs.Places.{Fault, Step, inside, index, fault_here, first_of}
use Rattle.fly_schema.specs.Scalars.{has_form, fits_texts}
use Rattle.fly_schema.specs.Structs.{struct_fault}
use Rattle.fly_schema.specs.Faults.{Verdict, fault_of, items_fault, entries_fault, entry_fault, member_fault, own_fault, value_fault, is_float_of, has_kind, level_after, element_of, row_for, row_fault, part_fault, one_of_fault, left_out_fault, is_missing, read_fault}
use Rattle.fly_schema.proofs.FieldFaults.{inner_fault, fault_by, read_there}

-- ---- nothing in the first, and nothing in what comes after it

pub neither : {X : Type 0} (a b : Option X) → option_or a b ≡ None → (a ≡ None) × (b ≡ None)
neither None b e = (refl, e)
neither (Some x) b e = cc

nothing_inside : (step : Step) (found : Option Fault) → inside step found ≡ None → found ≡ None
nothing_inside step None e = refl
nothing_inside step (Some x) e = cc

unless_kind : (b : Bool) (kind : DocKind) (rest : Option Fault) → (if b then fault_here kind else rest) ≡ None
    → (b ≡ false) × (rest ≡ None)
unless_kind true kind rest e = cc
unless_kind false kind rest e = (refl, e)

passed : (b : Bool) → not b ≡ false → b ≡ true
passed true e = refl
passed false e = cc

-- ---- a value, without what is inside it

pub own_none : (rows : List MessageRow) (d : Data) (form : Forms) (level : ℕ) → fault_of rows d form level ≡ None
    → (own_fault form level d ≡ None) × (inner_fault rows d form level ≡ None)
own_none rows d form level e =
    neither (own_fault form level d) (inner_fault rows d form level) (sym (fault_by rows d form level) ∙ e)

-- it has its kind, is no refused float, and lies within the levels
pub value_none : (kind : Kinds) (level : ℕ) (d : Data) → value_fault kind level d ≡ None
    → (is_float_of kind d ≡ false) × (has_kind kind d ≡ true) × (nat_lt max_levels level ≡ false)
value_none kind level d e =
    let a = unless_kind (is_float_of kind d) FloatRefused _ e in
    let b = unless_kind (not (has_kind kind d)) WrongKind _ a.1 in
    let f = unless_kind (nat_lt max_levels level) TooDeep _ b.1 in
    (a.0, passed (has_kind kind d) b.0, f.0)

-- a scalar has its form, and is in its range
pub scalar_none : (rows : List MessageRow) (d : Data) (s : Scalars) (l : Level) (level : ℕ)
    → fault_of rows d (record { shape = one; kind = scalar s; level = l }) level ≡ None → has_form s d ≡ true
scalar_none rows d s l level e =
    (value_none (scalar s) (level_after l level) d
    (own_none rows d (record { shape = one; kind = scalar s; level = l }) level e).0).1

is_object : (d : Data) → is_some (as_object d) ≡ true → (ms : Members) × (d ≡ object ms)
is_object null e = cc
is_object (boolean b) e = cc
is_object (number n) e = cc
is_object (string s) e = cc
is_object (array ds) e = cc
is_object (object ms) e = (ms, refl)

is_array : (d : Data) → is_some (as_array d) ≡ true → (ds : Items) × (d ≡ array ds)
is_array null e = cc
is_array (boolean b) e = cc
is_array (number n) e = cc
is_array (string s) e = cc
is_array (array ds) e = (ds, refl)
is_array (object ms) e = cc

if_kind : (b : Bool) (kind : DocKind) → (if b then None else fault_here kind) ≡ None → b ≡ true
if_kind true kind e = refl
if_kind false kind e = cc

-- ---- messages

-- a message is an object, within the levels, and its row finds nothing
pub message_none : (rows : List MessageRow) (d : Data) (n : ℕ) (l : Level) (level : ℕ)
    → fault_of rows d (record { shape = one; kind = message n; level = l }) level ≡ None
    → (ms : Members) × (d ≡ object ms) × (nat_lt max_levels (level_after l level) ≡ false)
    × (row_fault (object ms) (member_fault rows ms) (level_after l level) (row_for rows n (object ms)) ≡ None)
message_none rows d n l level e =
    let form : Forms = record { shape = one; kind = message n; level = l } in
    let parts = own_none rows d form level e in
    let own = value_none (message n) (level_after l level) d parts.0 in
    let o = is_object d own.1 in
    (o.0, o.1, own.2, subst (λ x. inner_fault rows x form level ≡ None) o.1 parts.1)

-- a STRUCT is an object, and its content has no fault
pub struct_none : (rows : List MessageRow) (d : Data) (l : Level) (level : ℕ)
    → fault_of rows d (record { shape = one; kind = struct; level = l }) level ≡ None
    → (ms : Members) × (d ≡ object ms) × (struct_fault (object ms) 0 ≡ None)
struct_none rows d l level e =
    let form : Forms = record { shape = one; kind = struct; level = l } in
    let parts = own_none rows d form level e in
    let own = value_none struct (level_after l level) d parts.0 in
    let o = is_object d own.1 in
    (o.0, o.1, subst (λ x. inner_fault rows x form level ≡ None) o.1 parts.1)

pub each_none : {A : Type 0} (f : A → Option Fault) (xs : List A) → first_of (map f xs) ≡ None
    → AllByRecursion (λ x. f x ≡ None) xs
each_none f [] e = tt
each_none f (x ∷ xs) e = let both = neither (f x) (first_of (map f xs)) e in (both.0, each_none f xs both.1)

-- no field is refused, and nothing is found in any part
pub row_none : (d : Data) (found : List ℕ → Verdict) (level : ℕ) (row : MessageRow) → row_fault d found level row ≡ None
    → AllByRecursion (λ l. left_out_fault d l ≡ None) row.left_out
    × AllByRecursion (λ p. part_fault d found level p ≡ None) row.parts
row_none d found level row e =
    let both =
    neither (first_of (map (left_out_fault d) row.left_out))
    (first_of (map (part_fault d found level) row.parts)) e in
    (each_none (left_out_fault d) row.left_out both.0, each_none (part_fault d found level) row.parts both.1)

-- ---- the fields of a message

value_read : (rows : List MessageRow) (ms : Members) (level : ℕ) (f : FieldRow) (v : Data)
    → value_at f.name (object ms) ≡ Some v
    → read_fault (object ms) (member_fault rows ms) level f ≡ None → fault_of rows v f.form level ≡ None
value_read rows ms level f v there e = nothing_inside _ _ (sym (read_there rows ms level f v (sym there)) ∙ e)

at_missing : (b : Bool) (step : Step) (rest : Option Fault)
    → (if b then inside step (fault_here Missing) else rest) ≡ None
    → (b ≡ false) × (rest ≡ None)
at_missing true step rest e = cc
at_missing false step rest e = (refl, e)

-- a field is there where it has to be, and nothing is found in its value
pub field_none : (rows : List MessageRow) (ms : Members) (level : ℕ) (f : FieldRow)
    → part_fault (object ms) (member_fault rows ms) level (single f) ≡ None
    → (is_missing f.need f.name (object ms) ≡ false)
    × ((v : Data) → value_at f.name (object ms) ≡ Some v → fault_of rows v f.form level ≡ None)
field_none rows ms level f e =
    let both =
    at_missing (is_missing f.need f.name (object ms)) _
    (read_fault (object ms) (member_fault rows ms) level f) e in
    (both.0, λ v there. value_read rows ms level f v there both.1)

there_is : (o : Option Data) → not (is_some o) ≡ false → (v : Data) × (o ≡ Some v)
there_is None e = cc
there_is (Some v) e = (v, refl)

-- a required field is there
pub required_there : (name : Named) (d : Data) → is_missing required name d ≡ false
    → (v : Data) × (value_at name d ≡ Some v)
required_there name d e = there_is (value_at name d) e

-- those members of a `oneof` that are there
abbrev pub there_in : Data → List FieldRow → List FieldRow
there_in d fs = filter (λ (f : FieldRow). is_there f.name d) fs

head_or : FieldRow → List FieldRow → FieldRow
head_or f [] = f
head_or f (g ∷ gs) = g

head_of : (f : FieldRow) (fs : List FieldRow) (g : FieldRow) (gs : List FieldRow) → f ∷ fs ≡ g ∷ gs → f ≡ g
unfolding head_or
head_of f fs g gs e = ap (head_or f) e

kept_first : (f g : FieldRow) (o : Option Data) (fs rest : List FieldRow) (d : Data) → value_at g.name d ≡ o
    → (there_in d fs ≡ f ∷ rest → (w : Data) × (value_at f.name d ≡ Some w))
    → cond (is_some o) (g ∷ there_in d fs) (there_in d fs) ≡ f ∷ rest → (w : Data) × (value_at f.name d ≡ Some w)
kept_first f g None fs rest d at later e = later e
kept_first f g (Some w) fs rest d at later e =
    (w, subst (λ (h : FieldRow). value_at h.name d ≡ Some w) (head_of g (there_in d fs) f rest e) at)

first_there : (d : Data) (fs : List FieldRow) (f : FieldRow) (rest : List FieldRow) → there_in d fs ≡ f ∷ rest
    → (v : Data) × (value_at f.name d ≡ Some v)
first_there d [] f rest e = cc
first_there d (g ∷ fs) f rest e = kept_first f g (value_at g.name d) fs rest d refl (first_there d fs f rest) e

unneeded : (b : Bool) → (if b then fault_here Missing else None) ≡ None → b ≡ false
unneeded true e = cc
unneeded false e = refl

or_some : (o : Option Fault) (kind : DocKind) → option_or o (fault_here kind) ≢ None
or_some None kind e = cc
or_some (Some x) kind e = cc

by_those : (rows : List MessageRow) (ms : Members) (level : ℕ) (needed : Bool) (fs those : List FieldRow)
    → there_in (object ms) fs ≡ those
    → one_of_fault (object ms) (member_fault rows ms) level needed fs those ≡ None
    → ((needed ≡ false) × (there_in (object ms) fs ≡ []))
    ⊎ ((f : FieldRow) × (v : Data) × (there_in (object ms) fs ≡ f ∷ []) × (value_at f.name (object ms) ≡ Some v)
    × (fault_of rows v f.form level ≡ None))
by_those rows ms level needed fs [] at e = inl (unneeded needed e, at)
by_those rows ms level needed fs (f ∷ []) at e =
    let there = first_there (object ms) fs f [] at in
    inr (f, there.0, at, there.1, value_read rows ms level f there.0 there.1 e)
by_those rows ms level needed fs (f ∷ g ∷ more) at e = absurd (or_some _ WrongKind e)

-- no member is there, and none has to be, or exactly one is, and nothing is found in it
pub one_of_none : (rows : List MessageRow) (ms : Members) (level : ℕ) (needed : Bool) (fs : List FieldRow)
    → part_fault (object ms) (member_fault rows ms) level (one_of needed fs) ≡ None
    → ((needed ≡ false) × (there_in (object ms) fs ≡ []))
    ⊎ ((f : FieldRow) × (v : Data) × (there_in (object ms) fs ≡ f ∷ []) × (value_at f.name (object ms) ≡ Some v)
    × (fault_of rows v f.form level ≡ None))
one_of_none rows ms level needed fs e = by_those rows ms level needed fs (there_in (object ms) fs) refl e

-- ---- lists and maps

-- nothing is found in any item
abbrev pub AllItems : (Data → Type 0) → Items → Type 0
AllItems P no_items = ⊤
AllItems P (item d ds) = P d × AllItems P ds

abbrev pub AllMembers : (List ℕ → Data → Type 0) → Members → Type 0
AllMembers P no_members = ⊤
AllMembers P (member key d ms) = P key d × AllMembers P ms

items_none : (rows : List MessageRow) (ds : Items) (form : Forms) (level n : ℕ)
    → items_fault rows ds form level n ≡ None
    → AllItems (λ d. fault_of rows d form level ≡ None) ds
unfolding fault_of
items_none rows no_items form level n e = tt
items_none rows (item d ds) form level n e =
    let both = neither (inside (index n) (fault_of rows d form level)) (items_fault rows ds form level (n + 1)) e in
    (nothing_inside (index n) (fault_of rows d form level) both.0, items_none rows ds form level (n + 1) both.1)

entry_none : (found : Option Fault) (b : Bool) → (if b then found else fault_here WrongKind) ≡ None
    → (b ≡ true) × (found ≡ None)
entry_none found true e = (refl, e)
entry_none found false e = cc

entries_none : (rows : List MessageRow) (ms : Members) (keys : Texts) (form : Forms) (level n : ℕ)
    → entries_fault rows ms keys form level n ≡ None
    → AllMembers (λ key d. (fits_texts keys key ≡ true) × (fault_of rows d form level ≡ None)) ms
unfolding fault_of
entries_none rows no_members keys form level n e = tt
entries_none rows (member key d ms) keys form level n e =
    let here = entry_fault (fault_of rows d) keys key form level in
    let both = neither (inside (index n) here) (entries_fault rows ms keys form level (n + 1)) e in (
      entry_none (fault_of rows d form level) (fits_texts keys key) (nothing_inside (index n) here both.0),
      entries_none rows ms keys form level (n + 1) both.1,
    )

-- a list is an array, and nothing is found in its items
pub list_none : (rows : List MessageRow) (d : Data) (kind : Kinds) (l : Level) (level : ℕ)
    → fault_of rows d (record { shape = list; kind = kind; level = l }) level ≡ None
    → (ds : Items) × (d ≡ array ds)
    × AllItems (λ x. fault_of rows x (record { shape = one; kind = kind; level = l }) level ≡ None) ds
list_none rows d kind l level e =
    let form : Forms = record { shape = list; kind = kind; level = l } in
    let parts = own_none rows d form level e in
    let a = is_array d (if_kind (is_some (as_array d)) WrongKind parts.0) in (
      a.0,
      a.1,
      items_none rows a.0 (element_of form) level 0
          (subst (λ x. inner_fault rows x form level ≡ None) a.1 parts.1),
    )

-- a map is an object, its keys have their form, and nothing is found in its values
pub map_none : (rows : List MessageRow) (d : Data) (keys : Texts) (kind : Kinds) (l : Level) (level : ℕ)
    → fault_of rows d (record { shape = map_by keys; kind = kind; level = l }) level ≡ None
    → (ms : Members) × (d ≡ object ms)
    × AllMembers (λ key x. (fits_texts keys key ≡ true)
    × (fault_of rows x (record { shape = one; kind = kind; level = l }) level ≡ None)) ms
map_none rows d keys kind l level e =
    let form : Forms = record { shape = map_by keys; kind = kind; level = l } in
    let parts = own_none rows d form level e in
    let o = is_object d (if_kind (is_some (as_object d)) WrongKind parts.0) in (
      o.0,
      o.1,
      entries_none rows o.0 keys (element_of form) level 0
          (subst (λ x. inner_fault rows x form level ≡ None) o.1 parts.1),
    )
