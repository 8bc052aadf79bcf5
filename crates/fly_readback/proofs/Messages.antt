-- What is found under the names of a message that was written.
use Rattle.std.proofs.Common.{◌≡◌, ◌⊎◌, inl, inr, ℕ, ◌==◌, ◌&&◌, ◌||◌, not, Bool, true, false, cond, List, [], ◌∷◌, map, Option, Some, None, option_map, unwrap_or, nat_cmp, Less, Greater, refl, sym, ap, ap₂, subst, ◌∙◌, arith}
use Rattle.std.proofs.lemmas.Bool.{false≢true}
use Rattle.std.proofs.lemmas.Bool.Decides.{nat_tests}
use Rattle.std.proofs.lemmas.Cmp.{nat_list_cmp_total}
use Rattle.std.specs.Ordering.{match_ordering, ordering_reverse}
use Rattle.std.specs.List.{AllByRecursion}
use Rattle.std.specs.List.Sorted.{IsStrictlySortedBy}
use Rattle.std.specs.Cmp.Lexicographic.{slice_cmp}
use Rattle.serde_json.specs.Data.{Data, Members, no_members, member, put}
use Rattle.serde_json.specs.Find.{get_member}
use Rattle.serde_json.specs.View.{items_of}
use Rattle.fly_values.specs.Fields.{members_in, field, first_there, unless_null, member_at, original_name, listed, items_in, entries_of, text_value}
use Rattle.fly_writers.specs.Json.{Fields, with_fields, message, unless_empty, optional_text, optional_list, as_fields, optional_map}
use Rattle.fly_writers.proofs.MessageLemmas.{differ, lacks, are_distinct, HasField, member_of_message, no_member_of_message}
use Rattle.fly_idl.proofs.Ordered.{keys_of, AreKeysInOrder}

-- ---- fields

-- the value of the first field that has the name
abbrev pub value_in : List ℕ → Fields → Option Data
value_in name [] = None
value_in name (f ∷ fs) = cond (differ name f.0) (value_in name fs) f.1

either_false : (a b : Bool) → (a || b) ≡ false → (a ≡ false) × (b ≡ false)
either_false false b e = (refl, e)
either_false true b e = absurd (false≢true (sym e))

not_false : (b : Bool) → not b ≡ false → b ≡ true
not_false true e = refl
not_false false e = absurd (false≢true (sym e))

same_name : (a b : List ℕ) → differ a b ≡ false → a ≡ b
same_name [] [] e = refl
same_name [] (b ∷ bs) e = absurd (false≢true (sym e))
same_name (a ∷ rest) [] e = absurd (false≢true (sym e))
same_name (a ∷ rest) (b ∷ bs) e =
    let parts = either_false (not (a == b)) (differ rest bs) e in
    let first = not_false (a == b) parts.0 in
    let same : a ≡ b = grind (arith, nat_tests, first) in
    ap₂ (λ x xs. x ∷ xs) same (same_name rest bs parts.1)

abbrev IsFound : List ℕ → Option Data → Bool → Fields → Type 0
IsFound name o without fs = HasField name o fs ⊎ ((without ≡ true) × (o ≡ None))

found_or_not : (name : List ℕ) (fs : Fields) → IsFound name (value_in name fs) (lacks name fs) fs
found_or_not name [] = inr (refl, refl)
found_or_not name (f ∷ fs) = by (differ name f.0) refl (found_or_not name fs)
  where
    by : (b : Bool) → differ name f.0 ≡ b → IsFound name (value_in name fs) (lacks name fs) fs
        → IsFound name (cond b (value_in name fs) f.1) (b && lacks name fs) (f ∷ fs)
    by true e (inl h) = inl (inr h)
    by true e (inr h) = inr h
    by false e h = inl (inl (sym (same_name name f.0 e), refl))

message-get : (name : List ℕ) (fs : Fields) → are_distinct fs ≡ true
    → get_member name (with_fields no_members fs) ≡ value_in name fs
message-get name fs distinct = by (found_or_not name fs)
  where
    by : IsFound name (value_in name fs) (lacks name fs) fs
        → get_member name (with_fields no_members fs) ≡ value_in name fs
    by (inl h) = member_of_message fs name (value_in name fs) distinct h
    by (inr h) = no_member_of_message fs name h.0 ∙ sym h.1

-- a field of a message
pub message-field : (name : List ℕ) (fs : Fields) → are_distinct fs ≡ true
    → field name (members_in (message fs)) ≡ first_there (value_in name fs) (value_in (original_name name) fs)
unfolding field
message-field name fs distinct =
    ap₂ first_there (message-get name fs distinct) (message-get (original_name name) fs distinct)

pub message-member : (name : List ℕ) (fs : Fields) → are_distinct fs ≡ true
    → member_at name (members_in (message fs))
    ≡ unless_null (first_there (value_in name fs) (value_in (original_name name) fs))
unfolding member_at
message-member name fs distinct = ap unless_null (message-field name fs distinct)

-- ---- the first of several that is there

pub skip : {A B : Type 0} (f : A → B) (o : Option A) (rest : B) → o ≡ None → unwrap_or (option_map f o) rest ≡ rest
skip f o rest e = ap (λ x. unwrap_or (option_map f x) rest) e

pub take : {A B : Type 0} (f : A → B) (o : Option A) (a : A) (rest : B) → o ≡ Some a
    → unwrap_or (option_map f o) rest ≡ f a
take f o a rest e = ap (λ x. unwrap_or (option_map f x) rest) e

-- ---- what may be left out

first_twice : (o : Option Data) → first_there o o ≡ first_there o None
first_twice None = refl
first_twice (Some d) = refl

pub text-kept : (s : List ℕ) → text_value (first_there (optional_text s) None) ≡ s
text-kept [] = refl
text-kept (b ∷ bs) = refl

-- an original name that is the name itself finds the same
abbrev pub first_both : Option Data → Data
first_both o = first_there o o

pub text-twice : (s : List ℕ) → text_value (first_both (optional_text s)) ≡ s
text-twice s = ap text_value (first_twice (optional_text s)) ∙ text-kept s

pub listed_of : (ds : List Data) → listed (items_of ds) ≡ ds
listed_of [] = refl
listed_of (d ∷ ds) = ap (λ rest. d ∷ rest) (listed_of ds)

pub list-twice : (ds : List Data) → items_in (first_both (optional_list ds)) ≡ ds
list-twice [] = refl
list-twice (d ∷ ds) = ap (λ rest. d ∷ rest) (listed_of ds)

-- ---- members, one after another

abbrev pub after : Members → Members → Members
after no_members ms = ms
after (member l x fs) ms = member l x (after fs ms)

pub after_none : (fs : Members) → after fs no_members ≡ fs
after_none no_members = refl
after_none (member l x fs) = ap (member l x) (after_none fs)

pub after_more : (fs : Members) (key : List ℕ) (d : Data) (ms : Members)
    → after (after fs (member key d no_members)) ms ≡ after fs (member key d ms)
after_more no_members key d ms = refl
after_more (member l x fs) key d ms = ap (member l x) (after_more fs key d ms)

below_later : (l key : List ℕ) (d : Data) (fs ms : Members)
    → AllByRecursion (λ k. slice_cmp nat_cmp l k ≡ Less) (keys_of (after fs (member key d ms)))
    → slice_cmp nat_cmp l key ≡ Less
below_later l key d no_members ms h = h.0
below_later l key d (member k x fs) ms h = below_later l key d fs ms h.1

-- a member above all others is put last
pub put_last : (key : List ℕ) (d : Data) (fs ms : Members) → AreKeysInOrder (after fs (member key d ms))
    → put key d fs ≡ after fs (member key d no_members)
unfolding IsStrictlySortedBy
put_last key d no_members ms h = refl
put_last key d (member l x fs) ms h =
    let above : slice_cmp nat_cmp key l ≡ Greater =
    nat_list_cmp_total.antisymm key l ∙ ap ordering_reverse (below_later l key d fs ms h.0) in
    ap (λ o. match_ordering o (member key d (member l x fs)) (member l d fs) (member l x (put key d fs))) above
    ∙ ap (member l x) (put_last key d fs ms h.1)

-- ---- maps

-- the entries as members
abbrev pub as_members : List (List ℕ × Data) → Members
as_members [] = no_members
as_members (e ∷ es) = member e.0 e.1 (as_members es)

pub entries-members : (es : List (List ℕ × Data)) → entries_of (as_members es) ≡ es
entries-members [] = refl
entries-members (e ∷ es) = ap (λ rest. e ∷ rest) (entries-members es)

pub keys-members : (es : List (List ℕ × Data)) → keys_of (as_members es) ≡ map (λ (e : List ℕ × Data). e.0) es
keys-members es = ap (map (λ (e : List ℕ × Data). e.0)) (entries-members es)

put_entries : (fs : Members) (es : List (List ℕ × Data)) → AreKeysInOrder (after fs (as_members es))
    → with_fields fs (as_fields es) ≡ after fs (as_members es)
put_entries fs [] h = sym (after_none fs)
put_entries fs (e ∷ es) h =
    ap (λ ms. with_fields ms (as_fields es)) (put_last e.0 e.1 fs (as_members es) h)
    ∙ put_entries (after fs (member e.0 e.1 no_members)) es
    (subst AreKeysInOrder (sym (after_more fs e.0 e.1 (as_members es))) h)
    ∙ after_more fs e.0 e.1 (as_members es)

abbrev pub AreSorted : List (List ℕ × Data) → Type 0
AreSorted es = IsStrictlySortedBy (slice_cmp nat_cmp) (map (λ (e : List ℕ × Data). e.0) es)

-- a map whose names rise has its entries as they are
pub map-written : (es : List (List ℕ × Data)) → AreSorted es → with_fields no_members (as_fields es) ≡ as_members es
map-written es h =
    put_entries no_members es (subst (IsStrictlySortedBy (slice_cmp nat_cmp)) (sym (keys-members es)) h)

members_left : (ms : Members) → members_in (first_there (unless_empty ms) (unless_empty ms)) ≡ ms
members_left no_members = refl
members_left (member key d ms) = refl

pub map-twice : (es : List (List ℕ × Data)) → AreSorted es
    → entries_of (members_in (first_both (optional_map es))) ≡ es
map-twice es h =
    ap entries_of (members_left (with_fields no_members (as_fields es)) ∙ map-written es h) ∙ entries-members es
