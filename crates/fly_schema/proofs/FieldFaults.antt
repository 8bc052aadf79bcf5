-- What is found in the fields of a message, and how deep they lie.
use Rattle.std.proofs.Common.{◌≡◌, ℕ, suc, ◌<◌, ◌≤◌, max, zero, List, [], ◌∷◌, map, length, get_or, Bool, true, false, cond, Option, Some, None, is_some, if◌then◌else◌, refl, sym, ap, subst, ◌∙◌, arith}
use Rattle.std.specs.List.{filter}
use Rattle.std.specs.Option.{option_or, option_and_then}
use Rattle.serde_json.specs.Data.{Data, null, boolean, number, string, array, object, Members, depth, items_depth, members_depth}
use Rattle.serde_json.specs.Find.{get_member}
use Rattle.serde_json.specs.View.{view, items_view, members_view}
use Rattle.serde_json.specs.declared.value.Value.{Value}
use Rattle.fly_schema.specs.Table.{Named, Forms, FieldRow, MessageRow, one_of}
use Rattle.fly_schema.specs.declared.table.Field.{Field}
use Rattle.fly_schema.specs.declared.fault.DocKind.TheVariants.{Missing}
use Rattle.fly_schema.specs.Lookups.{key_at, value_at, is_there, unless_null}
use Rattle.fly_schema.specs.declared.fault.DocKind.TheVariants.{WrongKind}
use Rattle.fly_schema.specs.declared.table.LeftOut.{LeftOut}
use Rattle.fly_schema.specs.declared.table.Part.{Part}
use Rattle.fly_schema.specs.declared.table.Row.{Row}
use Rattle.fly_schema.specs.Faults.{Verdict, fault_of, items_fault, entries_fault, member_fault, own_fault, array_fault, object_fault, row_fault, part_fault, one_of_fault, float_fault, left_out_fault, read_fault, field_fault, is_missing}
use Rattle.fly_schema.specs.Places.{Fault, field, inside, fault_here, first_of}
use Rattle.fly_schema.specs.Views.{name_of, field_of, left_out_of, part_of, row_of}
use Rattle.fly_schema.proofs.Viewed.{Entry, member_found, member_depth}

from_null : (o : Option Data) (v : Data) → Some v ≡ option_and_then unless_null o → o ≡ Some v
from_null None v e = cc
from_null (Some null) v e = cc
from_null (Some (boolean b)) v e = sym e
from_null (Some (number n)) v e = sym e
from_null (Some (string s)) v e = sym e
from_null (Some (array ds)) v e = sym e
from_null (Some (object ms)) v e = sym e

-- a field that is there stands under the spelling that counts
pub value_get : (name : Named) (ms : Members) (v : Data) → Some v ≡ value_at name (object ms)
    → get_member (key_at name (object ms)) ms ≡ Some v
value_get name ms v e = from_null (get_member (key_at name (object ms)) ms) v e

pub value_depth : (name : Named) (ms : Members) (v : Data) → Some v ≡ value_at name (object ms)
    → depth v ≤ members_depth ms
value_depth name ms v e = member_depth (key_at name (object ms)) v ms (value_get name ms v e)

pub read_there : (rows : List MessageRow) (ms : Members) (level : ℕ) (f : FieldRow) (v : Data)
    → Some v ≡ value_at f.name (object ms)
    → read_fault (object ms) (member_fault rows ms) level f ≡ inside (field f.name.camel) (fault_of rows v f.form level)
read_there rows ms level f v e =
    ap (λ (b : Bool). if b then inside (field f.name.camel)
    (member_fault rows ms (key_at f.name (object ms)) f.form level) else None)
    (ap is_some (sym e))
    ∙ ap (inside (field f.name.camel))
    (member_found rows (key_at f.name (object ms)) v f.form level ms (value_get f.name ms v e))

pub read_absent : (rows : List MessageRow) (ms : Members) (level : ℕ) (f : FieldRow)
    → None ≡ value_at f.name (object ms)
    → read_fault (object ms) (member_fault rows ms) level f ≡ None
read_absent rows ms level f e =
    ap (λ (b : Bool). if b then inside (field f.name.camel)
    (member_fault rows ms (key_at f.name (object ms)) f.form level) else None)
    (ap is_some (sym e))

pub field_missing : (rows : List MessageRow) (ms : Members) (level : ℕ) (f : FieldRow) (b : Bool)
    → b ≡ is_missing f.need f.name (object ms)
    → field_fault (object ms) (member_fault rows ms) level f
    ≡ (if b then inside (field f.name.camel) (fault_here Missing) else read_fault (object ms)
    (member_fault rows ms) level f)
field_missing rows ms level f b e =
    ap (λ (t : Bool). if t then inside (field f.name.camel) (fault_here Missing) else read_fault (object ms)
    (member_fault rows ms) level f) (sym e)

-- ---- the fields of the code and those of the definition

kept : (d : Data) (f : Field) (fs : List Field) (b : Bool)
    → cond b (field_of f ∷ map field_of fs) (map field_of fs) ≡ map field_of (cond b (f ∷ fs) fs)
kept d f fs true = refl
kept d f fs false = refl

pub filter_fields : (d : Data) (fs : List Field)
    → filter (λ (r : FieldRow). is_there r.name d) (map field_of fs)
    ≡ map field_of (filter (λ (f : Field). is_there (name_of f.name) d) fs)
filter_fields d [] = refl
filter_fields d (f ∷ fs) =
    let here = is_there (name_of f.name) d in
    ap (λ rs. cond here (field_of f ∷ rs) rs) (filter_fields d fs)
    ∙ kept d f (filter (λ (g : Field). is_there (name_of g.name) d) fs) here

-- ---- depths

pub item_depth : (vs : List Value) (n : ℕ) (d : Value) → n < length vs
    → depth (view (get_or vs n d)) ≤ items_depth (items_view vs)
item_depth [] n d h = absurd (omega arith)
item_depth (v ∷ vs) zero d h = omega arith
item_depth (v ∷ vs) (suc n) d h = let later = item_depth vs n d (omega arith) in omega (arith, later)

pub entry_depth : (xs ys : List Entry) (e : Entry) (m : ℕ) → xs ≡ e ∷ ys → members_depth (members_view xs) ≤ m
    → (depth (view e.1) ≤ m) × (members_depth (members_view ys) ≤ m)
entry_depth xs ys e m is h =
    let g : max (depth (view e.1)) (members_depth (members_view ys)) ≤ m =
    subst (λ zs. members_depth (members_view zs) ≤ m) is h in
    (omega (arith, g), omega (arith, g))

-- ---- messages by the rows of the code

map_after : {A B C : Type 0} (g : B → C) (f : A → B) (xs : List A) → map g (map f xs) ≡ map (λ x. g (f x)) xs
map_after g f [] = refl
map_after g f (x ∷ xs) = ap (λ ys. g (f x) ∷ ys) (map_after g f xs)

module _ (d : Data) (found : List ℕ → Verdict) (level : ℕ) where
  -- a `oneof` by those of its members that are there
  pub one_of_by : (needed : Bool) (fs there : List Field)
      → filter (λ (f : Field). is_there (name_of f.name) d) fs ≡ there
      → part_fault d found level (one_of needed (map field_of fs))
      ≡ one_of_fault d found level needed (map field_of fs) (map field_of there)
  one_of_by needed fs there e =
      ap (one_of_fault d found level needed (map field_of fs)) (filter_fields d fs ∙ ap (map field_of) e)

  -- two of its members
  pub two_by : (needed : Bool) (fs : List Field) (f g : Field) (rest : List Field)
      → filter (λ (x : Field). is_there (name_of x.name) d) fs ≡ f ∷ g ∷ rest
      → option_or (first_of (map (λ (x : Field). float_fault d (field_of x)) fs)) (fault_here WrongKind)
      ≡ part_fault d found level (one_of needed (map field_of fs))
  two_by needed fs f g rest e =
      ap (λ xs. option_or (first_of xs) (fault_here WrongKind)) (sym (map_after (float_fault d) field_of fs))
      ∙ sym (one_of_by needed fs (f ∷ g ∷ rest) e)

  -- a row by its two steps
  pub row_by : (row : Row) (a b : Option Fault)
      → first_of (map (λ (l : LeftOut). left_out_fault d (left_out_of l)) row.left_out.now) ≡ a
      → first_of (map (λ (p : Part). part_fault d found level (part_of p)) row.parts.now) ≡ b
      → row_fault d found level (row_of row) ≡ option_or a b
  row_by row a b e f =
      ap (λ o. option_or o (first_of (map (part_fault d found level) (map part_of row.parts.now))))
      (ap first_of (map_after (left_out_fault d) left_out_of row.left_out.now) ∙ e)
      ∙ ap (option_or a) (ap first_of (map_after (part_fault d found level) part_of row.parts.now) ∙ f)

  -- a row of which something is left out
  pub row_left_out : (row : Row) (x : Fault)
      → first_of (map (λ (l : LeftOut). left_out_fault d (left_out_of l)) row.left_out.now) ≡ Some x
      → row_fault d found level (row_of row) ≡ Some x
  row_left_out row x e = row_by row (Some x) _ e refl

-- ---- a value by what it breaks itself

-- what is found inside a value
abbrev pub inner_fault : List MessageRow → Data → Verdict
inner_fault rows (array ds) form level = array_fault (items_fault rows ds) form level form.shape
inner_fault rows (object ms) form level =
    object_fault rows (object ms) (entries_fault rows ms) (member_fault rows ms) form level form.shape
inner_fault rows _ form level = None

or_none : (o : Option Fault) → o ≡ option_or o None
or_none None = refl
or_none (Some x) = refl

-- first its own fault, and then those inside
pub fault_by : (rows : List MessageRow) (d : Data) (form : Forms) (level : ℕ)
    → fault_of rows d form level ≡ option_or (own_fault form level d) (inner_fault rows d form level)
unfolding fault_of
fault_by rows (array ds) form level = refl
fault_by rows (object ms) form level = refl
fault_by rows null form level = or_none (own_fault form level null)
fault_by rows (boolean b) form level = or_none (own_fault form level (boolean b))
fault_by rows (number n) form level = or_none (own_fault form level (number n))
fault_by rows (string s) form level = or_none (own_fault form level (string s))

pub own_found : (rows : List MessageRow) (d : Data) (form : Forms) (level : ℕ) (x : Fault)
    → Some x ≡ own_fault form level d
    → Some x ≡ fault_of rows d form level
own_found rows d form level x e =
    ap (λ o. option_or o (inner_fault rows d form level)) e ∙ sym (fault_by rows d form level)

pub own_passed : (rows : List MessageRow) (d : Data) (form : Forms) (level : ℕ) → None ≡ own_fault form level d
    → inner_fault rows d form level ≡ fault_of rows d form level
own_passed rows d form level e =
    ap (λ o. option_or o (inner_fault rows d form level)) e ∙ sym (fault_by rows d form level)
