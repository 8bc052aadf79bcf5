-- What is read has the keys of each object in order.
use Rattle.std.proofs.Common.{◌≡◌, ℕ, List, [], ◌∷◌, map, Option, Some, None, option_map, option_and_then, Ordering, Less, Equal, Greater, nat_cmp, refl, ap, subst, ◌∙◌}
use Rattle.std.proofs.lemmas.Cmp.{nat_list_cmp_total}
use Rattle.std.specs.Prelude.{⊤}
use Rattle.std.specs.Ordering.{match_ordering, ordering_reverse}
use Rattle.std.specs.List.{AllByRecursion}
use Rattle.std.specs.List.Sorted.{IsStrictlySortedBy}
use Rattle.std.specs.Cmp.Lexicographic.{slice_cmp}
use Rattle.json.specs.Lex.{tokens}
use Rattle.json.specs.Json as json
use Rattle.serde_json.specs.Data.{Data, null, boolean, number, string, array, object, Items, no_items, item, Members, no_members, member, put}
use Rattle.serde_json.specs.Find.{get_member}
use Rattle.serde_json.specs.Read.{number_of, of_json, of_items, of_members, max_depth, read}
use Rattle.fly_values.specs.Fields.{members_in, field, first_there, unless_null, original_name, listed, items_in, entries_of}

abbrev pub keys_of : Members → List (List ℕ)
keys_of ms = map (λ e. e.0) (entries_of ms)

-- the keys ascend by their bytes, so none comes twice
abbrev pub AreKeysInOrder : Members → Type 0
AreKeysInOrder ms = IsStrictlySortedBy (slice_cmp nat_cmp) (keys_of ms)

-- the keys of each object ascend, at any depth
abbrev mutual
  pub IsOrdered : Data → Type 0
  IsOrdered null = ⊤
  IsOrdered (boolean b) = ⊤
  IsOrdered (number n) = ⊤
  IsOrdered (string s) = ⊤
  IsOrdered (array ds) = AreItemsOrdered ds
  IsOrdered (object ms) = AreKeysInOrder ms × AreMembersOrdered ms

  pub AreItemsOrdered : Items → Type 0
  AreItemsOrdered no_items = ⊤
  AreItemsOrdered (item d ds) = IsOrdered d × AreItemsOrdered ds

  pub AreMembersOrdered : Members → Type 0
  AreMembersOrdered no_members = ⊤
  AreMembersOrdered (member key d ms) = IsOrdered d × AreMembersOrdered ms

-- ---- putting a member in

abbrev Below : List ℕ → List (List ℕ) → Type 0
Below k ks = AllByRecursion (λ l. slice_cmp nat_cmp k l ≡ Less) ks

below_too : (k l : List ℕ) (ks : List (List ℕ)) → slice_cmp nat_cmp k l ≡ Less → Below l ks → Below k ks
below_too k l [] e h = tt
below_too k l (x ∷ ks) e h = (nat_list_cmp_total.trans k l x e h.0, below_too k l ks e h.1)

above_is_below : (k l : List ℕ) → slice_cmp nat_cmp k l ≡ Greater → slice_cmp nat_cmp l k ≡ Less
above_is_below k l e = nat_list_cmp_total.antisymm l k ∙ ap ordering_reverse e

match_keys : (P : List (List ℕ) → Type 0) (o : Ordering) (a b c : Members)
    → (o ≡ Less → P (keys_of a)) → (o ≡ Equal → P (keys_of b)) → (o ≡ Greater → P (keys_of c))
    → P (keys_of (match_ordering o a b c))
match_keys P Less a b c f g h = f refl
match_keys P Equal a b c f g h = g refl
match_keys P Greater a b c f g h = h refl

below_put : (l k : List ℕ) (d : Data) (ms : Members) → slice_cmp nat_cmp l k ≡ Less → Below l (keys_of ms)
    → Below l (keys_of (put k d ms))
below_put l k d no_members e h = (e, tt)
below_put l k d (member key x ms) e h =
    match_keys (Below l) (slice_cmp nat_cmp k key) (member k d (member key x ms)) (member key d ms)
    (member key x (put k d ms)) (λ _. (e, h)) (λ _. h) (λ _. (h.0, below_put l k d ms e h.1))

pub keys_put : (k : List ℕ) (d : Data) (ms : Members) → AreKeysInOrder ms → AreKeysInOrder (put k d ms)
unfolding IsStrictlySortedBy
keys_put k d no_members h = (tt, tt)
keys_put k d (member l x ms) h =
    match_keys (IsStrictlySortedBy (slice_cmp nat_cmp)) (slice_cmp nat_cmp k l) (member k d (member l x ms))
    (member l d ms) (member l x (put k d ms))
    (λ e. ((e, below_too k l (keys_of ms) e h.0), h)) (λ _. h)
    (λ e. (below_put l k d ms (above_is_below k l e) h.0, keys_put k d ms h.1))

match_members : (o : Ordering) (a b c : Members) → AreMembersOrdered a → AreMembersOrdered b → AreMembersOrdered c
    → AreMembersOrdered (match_ordering o a b c)
match_members Less a b c f g h = f
match_members Equal a b c f g h = g
match_members Greater a b c f g h = h

pub members_put : (k : List ℕ) (d : Data) (ms : Members) → IsOrdered d → AreMembersOrdered ms
    → AreMembersOrdered (put k d ms)
members_put k d no_members p h = (p, tt)
members_put k d (member l x ms) p h =
    match_members (slice_cmp nat_cmp k l) (member k d (member l x ms)) (member l d ms) (member l x (put k d ms))
    (p, h) (p, h.1) (h.0, members_put k d ms p h.1)

-- ---- reading

abbrev pub WhereSome : {A : Type 0} → (A → Type 0) → Option A → Type 0
WhereSome P None = ⊤
WhereSome P (Some a) = P a

pub where-map : {A B : Type 0} (P : A → Type 0) (Q : B → Type 0) (f : A → B) → ((a : A) → P a → Q (f a))
    → (o : Option A) → WhereSome P o → WhereSome Q (option_map f o)
where-map P Q f h None x = tt
where-map P Q f h (Some a) x = h a x

pub where-then : {A B : Type 0} (P : A → Type 0) (Q : B → Type 0) (f : A → Option B) →
    ((a : A) → P a → WhereSome Q (f a))
    → (o : Option A) → WhereSome P o → WhereSome Q (option_and_then f o)
where-then P Q f h None x = tt
where-then P Q f h (Some a) x = h a x

pub anything : {A : Type 0} (o : Option A) → WhereSome (λ _. ⊤) o
anything None = tt
anything (Some a) = tt

abbrev IsInOrder : Members → Type 0
IsInOrder ms = AreKeysInOrder ms × AreMembersOrdered ms

none_in_order : IsInOrder no_members
unfolding IsStrictlySortedBy
none_in_order = (tt, tt)

mutual
  ordered-json : (j : json.Json) → WhereSome IsOrdered (of_json j)
  ordered-json json.null = tt
  ordered-json (json.boolean b) = tt
  ordered-json (json.number s) = where-map (λ _. ⊤) IsOrdered number (λ n x. tt) (number_of s) (anything _)
  ordered-json (json.string s) = tt
  ordered-json (json.array js) = where-map AreItemsOrdered IsOrdered array (λ ds x. x) (of_items js)
      (ordered-items js)
  ordered-json (json.object ms) =
      where-map IsInOrder IsOrdered object (λ found x. x) (of_members ms no_members)
      (ordered-members ms no_members none_in_order)

  ordered-items : (js : json.Items) → WhereSome AreItemsOrdered (of_items js)
  ordered-items json.no_items = tt
  ordered-items (json.item j js) =
      where-then IsOrdered AreItemsOrdered (λ d. option_map (item d) (of_items js))
      (λ d x. where-map AreItemsOrdered AreItemsOrdered (item d) (λ ds y. (x, y)) (of_items js) (ordered-items js))
      (of_json j) (ordered-json j)

  ordered-members : (ms : json.Members) (found : Members) → IsInOrder found → WhereSome IsInOrder
      (of_members ms found)
  ordered-members json.no_members found h = h
  ordered-members (json.member k j ms) found h =
      where-then IsOrdered IsInOrder (λ d. of_members ms (put k d found))
      (λ d x. ordered-members ms (put k d found) (keys_put k d found h.0, members_put k d found x h.1))
      (of_json j) (ordered-json j)

-- what was read
pub ordered-read : (bytes : List ℕ) (d : Data) → read bytes ≡ Some d → IsOrdered d
ordered-read bytes d e =
    subst (WhereSome IsOrdered) e
    (where-then (λ _. ⊤) IsOrdered of_json (λ j x. ordered-json j)
    (option_and_then (λ p. json.if_last p.0 p.1) (json.value max_depth (tokens bytes))) (anything _))

-- ---- what is inside

pub members_ordered : (d : Data) → IsOrdered d → AreMembersOrdered (members_in d)
members_ordered null h = tt
members_ordered (boolean b) h = tt
members_ordered (number n) h = tt
members_ordered (string s) h = tt
members_ordered (array ds) h = tt
members_ordered (object ms) h = h.1

pub keys_ordered : (d : Data) → IsOrdered d → AreKeysInOrder (members_in d)
unfolding IsStrictlySortedBy
keys_ordered null h = tt
keys_ordered (boolean b) h = tt
keys_ordered (number n) h = tt
keys_ordered (string s) h = tt
keys_ordered (array ds) h = tt
keys_ordered (object ms) h = h.0

match_found : (o : Ordering) (a b : Option Data) → WhereSome IsOrdered a → WhereSome IsOrdered b
    → WhereSome IsOrdered (match_ordering o a b a)
match_found Less a b p q = p
match_found Equal a b p q = q
match_found Greater a b p q = p

member_ordered : (key : List ℕ) (ms : Members) → AreMembersOrdered ms → WhereSome IsOrdered (get_member key ms)
member_ordered key no_members h = tt
member_ordered key (member l x ms) h =
    match_found (slice_cmp nat_cmp key l) (get_member key ms) (Some x) (member_ordered key ms h.1) h.0

first_ordered : (a b : Option Data) → WhereSome IsOrdered a → WhereSome IsOrdered b → IsOrdered (first_there a b)
first_ordered (Some d) b p q = p
first_ordered None (Some d) p q = q
first_ordered None None p q = tt

pub field_ordered : (name : List ℕ) (ms : Members) → AreMembersOrdered ms → IsOrdered (field name ms)
unfolding field
field_ordered name ms h =
    first_ordered (get_member name ms) (get_member (original_name name) ms) (member_ordered name ms h)
    (member_ordered (original_name name) ms h)

-- a value that is there
pub there_ordered : (d : Data) → IsOrdered d → WhereSome IsOrdered (unless_null d)
there_ordered null h = tt
there_ordered (boolean b) h = tt
there_ordered (number n) h = tt
there_ordered (string s) h = tt
there_ordered (array ds) h = h
there_ordered (object ms) h = h

listed_ordered : (ds : Items) → AreItemsOrdered ds → AllByRecursion IsOrdered (listed ds)
listed_ordered no_items h = tt
listed_ordered (item d ds) h = (h.0, listed_ordered ds h.1)

pub items_ordered : (d : Data) → IsOrdered d → AllByRecursion IsOrdered (items_in d)
items_ordered null h = tt
items_ordered (boolean b) h = tt
items_ordered (number n) h = tt
items_ordered (string s) h = tt
items_ordered (array ds) h = listed_ordered ds h
items_ordered (object ms) h = tt

pub entries_ordered : (ms : Members) → AreMembersOrdered ms → AllByRecursion (λ e. IsOrdered e.1) (entries_of ms)
entries_ordered no_members h = tt
entries_ordered (member key d ms) h = (h.0, entries_ordered ms h.1)

-- ---- lists and maps, by what their parts are

pub all-map : {A B : Type 0} (P : A → Type 0) (Q : B → Type 0) (f : A → B) → ((a : A) → P a → Q (f a))
    → (xs : List A) → AllByRecursion P xs → AllByRecursion Q (map f xs)
all-map P Q f h [] x = tt
all-map P Q f h (a ∷ xs) x = (h a x.0, all-map P Q f h xs x.1)

pub fronts-map : {A B : Type 0} (f : A → B) (es : List (List ℕ × A))
    → map (λ (e : List ℕ × B). e.0) (map (λ (e : List ℕ × A). (e.0, f e.1)) es) ≡ map (λ (e : List ℕ × A). e.0) es
fronts-map f [] = refl
fronts-map f (e ∷ es) = ap (λ rest. e.0 ∷ rest) (fronts-map f es)
