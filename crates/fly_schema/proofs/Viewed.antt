-- The values of the code, one level down.
use Rattle.std.proofs.Common.{◌≡◌, ℕ, ◌+◌, ◌≤◌, max, List, [], ◌∷◌, map, Bool, cond, Option, Some, String, Global, string_bytes, Ordering, Less, Equal, Greater, nat_cmp, is_eq, refl, sym, ap, arith}
use Rattle.std.specs.Option.{option_or, unwrap_or}
use Rattle.std.specs.Ordering.{match_ordering}
use Rattle.std.specs.Str.{bytes_eq}
use Rattle.std.specs.Cmp.Lexicographic.{slice_cmp}
use Rattle.std.proofs.lemmas.Map.Text.{is_eq-slice_cmp}
use Rattle.serde_json.specs.Data.{Data, Members, no_members, member, depth, members_depth}
use Rattle.serde_json.specs.Find.{get_member}
use Rattle.serde_json.specs.View.{view, items_view, members_view}
use Rattle.serde_json.specs.declared.value.Value.{Value}
use Rattle.fly_schema.specs.Faults.{fault_of, items_fault, entries_fault, entry_fault, member_fault}
use Rattle.fly_schema.specs.Places.{Fault, inside, index, first_numbered}
use Rattle.fly_schema.specs.Structs.{struct_fault, struct_items_fault, struct_members_fault}
use Rattle.fly_schema.specs.Table.{Texts, Forms, MessageRow}

abbrev pub Entry : Type 0
Entry = String Global × Value

pub struct_items : (vs : List Value) (levels n : ℕ)
    → struct_items_fault (items_view vs) levels n ≡ first_numbered n (map (λ v. struct_fault (view v) levels) vs)
unfolding struct_fault
struct_items [] levels n = refl
struct_items (v ∷ vs) levels n =
    ap (option_or (inside (index n) (struct_fault (view v) levels))) (struct_items vs levels (n + 1))

pub struct_members : (es : List Entry) (levels n : ℕ)
    → struct_members_fault (members_view es) levels n
    ≡ first_numbered n (map (λ (e : Entry). struct_fault (view e.1) levels) es)
unfolding struct_fault
struct_members [] levels n = refl
struct_members (e ∷ es) levels n =
    ap (option_or (inside (index n) (struct_fault (view e.1) levels))) (struct_members es levels (n + 1))

-- ---- items and entries against a form

module _ (rows : List MessageRow) (form : Forms) (level : ℕ) where
  pub items_as_list : (vs : List Value) (n : ℕ)
      → items_fault rows (items_view vs) form level n
      ≡ first_numbered n (map (λ v. fault_of rows (view v) form level) vs)
  unfolding fault_of
  items_as_list [] n = refl
  items_as_list (v ∷ vs) n =
      ap (option_or (inside (index n) (fault_of rows (view v) form level))) (items_as_list vs (n + 1))

-- the first fault of an entry
abbrev pub entry_of : List MessageRow → Texts → Forms → ℕ → Entry → Option Fault
entry_of rows keys form level e = entry_fault (fault_of rows (view e.1)) keys (string_bytes e.0) form level

pub entries_as_list : (rows : List MessageRow) (keys : Texts) (form : Forms) (level : ℕ) (es : List Entry) (n : ℕ)
    → entries_fault rows (members_view es) keys form level n ≡ first_numbered n (map (entry_of rows keys form level) es)
unfolding fault_of
entries_as_list rows keys form level [] n = refl
entries_as_list rows keys form level (e ∷ es) n =
    ap (option_or (inside (index n) (entry_of rows keys form level e)))
    (entries_as_list rows keys form level es (n + 1))

-- ---- a member under a key

member_at_key : (rows : List MessageRow) (key k : List ℕ) (d v : Data) (form : Forms) (level : ℕ) (b : Bool)
    (ms : Members) (o : Ordering)
    → is_eq o ≡ b → match_ordering o (get_member key ms) (Some d) (get_member key ms) ≡ Some v
    → (get_member key ms ≡ Some v → member_fault rows ms key form level ≡ fault_of rows v form level)
    → cond b (fault_of rows d form level) (member_fault rows ms key form level) ≡ fault_of rows v form level
member_at_key rows key k d v form level b ms Less e found later = rw (sym e) (later found)
member_at_key rows key k d v form level b ms Equal e found later =
    rw (sym e) (ap (λ o. fault_of rows (unwrap_or o d) form level) found)
member_at_key rows key k d v form level b ms Greater e found later = rw (sym e) (later found)

-- what is found under a key is what is found in the value there
pub member_found : (rows : List MessageRow) (key : List ℕ) (v : Data) (form : Forms) (level : ℕ) (ms : Members)
    → get_member key ms ≡ Some v → member_fault rows ms key form level ≡ fault_of rows v form level
unfolding fault_of
member_found rows key v form level no_members e = cc
member_found rows key v form level (member k d ms) e =
    member_at_key rows key k d v form level (bytes_eq key k) ms (slice_cmp nat_cmp key k) (is_eq-slice_cmp key k) e
    (member_found rows key v form level ms)

depth_at : (o : Ordering) (d v : Data) (ms : Members) (found : Option Data)
    → match_ordering o found (Some d) found ≡ Some v
    → (found ≡ Some v → depth v ≤ members_depth ms) → depth v ≤ max (depth d) (members_depth ms)
depth_at Less d v ms found e later = let h = later e in omega (arith, h)
depth_at Equal d v ms found e later = let h : depth d ≡ depth v = ap (λ o. depth (unwrap_or o d)) e in omega (arith, h)
depth_at Greater d v ms found e later = let h = later e in omega (arith, h)

-- a value lies less deep than the object that it stands in
pub member_depth : (key : List ℕ) (v : Data) (ms : Members) → get_member key ms ≡ Some v → depth v ≤ members_depth ms
member_depth key v no_members e = cc
member_depth key v (member k d ms) e =
    depth_at (slice_cmp nat_cmp key k) d v ms (get_member key ms) e (member_depth key v ms)
