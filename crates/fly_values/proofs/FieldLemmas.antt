-- What is left of the fields of a message after one was taken.
use Rattle.std.proofs.Common.{◌≡◌, ℕ, List, [], ◌∷◌, ◌++◌, map, Bool, true, false, not, ◌&&◌, cond, bytes_eq, Option, None, Some, option_map, BTreeMap, String, Global, string_bytes, string_cmp, nat_cmp, refl, sym, ap, ap₂, ◌∙◌, true≢false}
use Rattle.std.proofs.lemmas.Map.Text.{btree_map_updates_text}
use Rattle.std.proofs.lemmas.Slice.Eq.{bytes_eq-Decides}
use Rattle.std.specs.BTreeMap.{UpdatesBy}
use Rattle.std.specs.Cmp.Lexicographic.{slice_cmp}
use Rattle.serde_json.specs.Data.{Data, Members}
use Rattle.serde_json.specs.Find.{get_member}
use Rattle.serde_json.specs.View.{view, items_of, members_view}
use Rattle.serde_json.specs.declared.value.Value.{Value}
use Rattle.serde_json.proofs.Views.{Entry, view-lookup}
use Rattle.fly_values.specs.Fields.{first_there, field, unless_null, member_at, original_name, are_apart, listed, entries_of}

map-map : {A B C : Type 0} (f : A → B) (g : B → C) (xs : List A) → map g (map f xs) ≡ map (λ x. g (f x)) xs
map-map f g [] = refl
map-map f g (x ∷ xs) = ap (λ ys. g (f x) ∷ ys) (map-map f g xs)

abbrev pub Map : Type 0
Map = BTreeMap (String Global) Value

-- the second map is the first without the key of these bytes
abbrev pub IsWithout : List ℕ → Map → Map → Type 0
IsWithout name m n = UpdatesBy string_cmp (λ k. slice_cmp nat_cmp name (string_bytes k)) m n None

view-unless : (b : Bool) (o : Option Value) → option_map view (cond b None o) ≡ cond b None (option_map view o)
view-unless true o = refl
view-unless false o = refl

-- what is found without a key
pub member-without : (name : List ℕ) (m n : Map) → IsWithout name m n → (other : List ℕ)
    → get_member other (members_view n.entries) ≡ cond (bytes_eq name other) None (get_member other (members_view m.entries))
member-without name m n h other =
    sym (view-lookup other n.entries) ∙ ap (option_map view) (btree_map_updates_text name m n None h other)
    ∙ view-unless (bytes_eq name other) _ ∙ ap (cond (bytes_eq name other) None) (view-lookup other m.entries)

first-unless : (b : Bool) (o p : Option Data) → (b ≡ true → p ≡ o) → first_there o (cond b None p) ≡ first_there o p
first-unless false o p h = refl
first-unless true None p h = ap (first_there None) (sym (h refl))
first-unless true (Some d) p h = refl

-- a field is what is found under its name and then, that being gone, under its original name
pub field-taken : (name : List ℕ) (m n : Map) (a b : Option Data) → IsWithout name m n
    → a ≡ get_member name (members_view m.entries) → b ≡ get_member (original_name name) (members_view n.entries)
    → first_there a b ≡ field name (members_view m.entries)
unfolding field
field-taken name m n a b h x y =
    ap₂ first_there x (y ∙ member-without name m n h (original_name name))
    ∙ first-unless (bytes_eq name (original_name name)) _ _
    (λ e. ap (λ k. get_member k (members_view m.entries)) (sym ((bytes_eq-Decides name (original_name name)).0 e)))

four_false : (p q r s : Bool) → not p && not q && not r && not s ≡ true → (p ≡ false) × (q ≡ false) × (r ≡ false) × (s ≡ false)
four_false false false false false h = (refl, refl, refl, refl)
four_false false false false true h = absurd (true≢false (sym h))
four_false false false true s h = absurd (true≢false (sym h))
four_false false true r s h = absurd (true≢false (sym h))
four_false true q r s h = absurd (true≢false (sym h))

-- without both names of a field, another key's value is as it was
member-kept : (name : List ℕ) (m n k : Map) → IsWithout name m n → IsWithout (original_name name) n k → (key : List ℕ)
    → bytes_eq name key ≡ false → bytes_eq (original_name name) key ≡ false
    → get_member key (members_view k.entries) ≡ get_member key (members_view m.entries)
member-kept name m n k h j key apart original_apart =
    member-without (original_name name) n k j key
    ∙ ap (λ b. cond b None (get_member key (members_view n.entries))) original_apart
    ∙ member-without name m n h key
    ∙ ap (λ b. cond b None (get_member key (members_view m.entries))) apart

-- the fields with other names stay as they were
pub field-kept : (name : List ℕ) (m n k : Map) → IsWithout name m n → IsWithout (original_name name) n k → (other : List ℕ)
    → are_apart other name ≡ true → field other (members_view k.entries) ≡ field other (members_view m.entries)
unfolding field
field-kept name m n k h j other apart =
    let parts = four_false _ _ _ _ apart in
    ap₂ first_there (member-kept name m n k h j other parts.0 parts.2)
    (member-kept name m n k h j (original_name other) parts.1 parts.3)

-- ---- items and entries

pub listed_items : (vs : List Value) → listed (items_of (map view vs)) ≡ map view vs
listed_items [] = refl
listed_items (v ∷ vs) = ap (λ rest. view v ∷ rest) (listed_items vs)

pub entries-members : (es : List Entry) → entries_of (members_view es) ≡ map (λ e. (string_bytes e.0, view e.1)) es
entries-members [] = refl
entries-members (e ∷ es) = ap (λ rest. (string_bytes e.0, view e.1) ∷ rest) (entries-members es)

-- what each of the items is
pub each-item : {A : Type 0} (of : Data → A) (vs : List Value) (ds : List Data) → map view vs ≡ ds
    → map (λ v. of (view v)) vs ≡ map of ds
each-item of vs ds e = sym (map-map view of vs) ∙ ap (map of) e

-- what each of the entries is
pub each-entry : {A : Type 0} (of : List ℕ × Data → A) (es : List Entry) (ms : Members) → members_view es ≡ ms
    → map (λ e. of (string_bytes e.0, view e.1)) es ≡ map of (entries_of ms)
each-entry of es ms e =
    sym (map-map (λ x. (string_bytes x.0, view x.1)) of es) ∙ ap (map of) (sym (entries-members es))
    ∙ ap (λ m. map of (entries_of m)) e

pub map-more : {A B : Type 0} (f : A → B) (xs : List A) (x : A) → map f (xs ++ x ∷ []) ≡ map f xs ++ f x ∷ []
map-more f [] x = refl
map-more f (y ∷ ys) x = ap (λ rest. f y ∷ rest) (map-more f ys x)

-- a field that is kept is there or not as before
pub member_same : (name : List ℕ) (m n : Members) → field name m ≡ field name n → member_at name m ≡ member_at name n
unfolding member_at
member_same name m n e = ap unless_null e
