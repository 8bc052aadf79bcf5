-- The members of a message are its fields.
use Rattle.std.proofs.Common.{◌≡◌, ◌≢◌, ℕ, ◌==◌, ◌&&◌, ◌||◌, not, Bool, true, false, List, [], ◌∷◌, Option, Some, None, ◌⊎◌, inl, inr, refl, sym, ap, subst, ◌∙◌, arith, rules}
use Rattle.std.proofs.lemmas.Bool.{false≢true}
use Rattle.std.proofs.lemmas.Bool.Decides.{nat_tests}
use Rattle.serde_json.specs.Data.{Data, Members, no_members}
use Rattle.serde_json.specs.Find.{get, get_member}
use Rattle.serde_json.proofs.Views.{get_member-put, get_member-put_other}
use Rattle.fly_writers.specs.Json.{Fields, with_field, with_fields, message}

-- ---- names

-- the two texts differ, as a test that computes
abbrev pub differ : List ℕ → List ℕ → Bool
differ [] [] = false
differ [] (b ∷ bs) = true
differ (a ∷ rest) [] = true
differ (a ∷ rest) (b ∷ bs) = not (a == b) || differ rest bs

same_differ : (a : List ℕ) → differ a a ≡ false
same_differ [] = refl
same_differ (a ∷ rest) = let same : (a == a) ≡ true = grind (arith, nat_tests) in rw same (same_differ rest)

pub differ_is : (a b : List ℕ) → differ a b ≡ true → a ≢ b
differ_is a b h e = false≢true (sym (same_differ a) ∙ ap (λ x. differ a x) e ∙ h)

-- no field has the name
abbrev pub lacks : List ℕ → Fields → Bool
lacks name [] = true
lacks name (f ∷ fs) = differ name f.0 && lacks name fs

-- no two fields have one name
abbrev pub are_distinct : Fields → Bool
are_distinct [] = true
are_distinct (f ∷ fs) = lacks f.0 fs && are_distinct fs

-- the field of this name has this value, or is left out
abbrev pub HasField : List ℕ → Option Data → Fields → Type 0
HasField name value [] = ⊥
HasField name value (f ∷ fs) = ((f.0 ≡ name) × (f.1 ≡ value)) ⊎ HasField name value fs

both : (a b : Bool) → (a && b) ≡ true → (a ≡ true) × (b ≡ true)
both true b h = (refl, h)
both false b h = absurd (false≢true h)

-- ---- members

other_field : (ms : Members) (name key : List ℕ) (o : Option Data) → name ≢ key → get_member name (with_field ms key o) ≡ get_member name ms
other_field ms name key None apart = refl
other_field ms name key (Some d) apart = get_member-put_other name key d ms apart

untouched : (ms : Members) (name : List ℕ) (fs : Fields) → lacks name fs ≡ true → get_member name (with_fields ms fs) ≡ get_member name ms
untouched ms name [] h = refl
untouched ms name (f ∷ fs) h =
    let split = both (differ name f.0) (lacks name fs) h in
    untouched (with_field ms f.0 f.1) name fs split.1 ∙ other_field ms name f.0 f.1 (differ_is name f.0 split.0)

own_field : (ms : Members) (name : List ℕ) (o : Option Data) → get_member name ms ≡ None → get_member name (with_field ms name o) ≡ o
own_field ms name None none = none
own_field ms name (Some d) none = get_member-put name d ms

later_apart : (name key : List ℕ) (value : Option Data) (fs : Fields) → lacks key fs ≡ true → HasField name value fs → name ≢ key
later_apart name key value [] h has = absurd has
later_apart name key value (f ∷ fs) h (inl has) =
    let split = both (differ key f.0) (lacks key fs) h in
    λ e. differ_is key f.0 split.0 (sym e ∙ sym has.0)
later_apart name key value (f ∷ fs) h (inr has) = let split = both (differ key f.0) (lacks key fs) h in later_apart name key value fs split.1 has

found : (ms : Members) (name : List ℕ) (value : Option Data) (fs : Fields) → are_distinct fs ≡ true → get_member name ms ≡ None → HasField name value fs → get_member name (with_fields ms fs) ≡ value
found ms name value [] distinct none h = absurd h
found ms name value (f ∷ fs) distinct none (inl h) =
    let split = both (lacks f.0 fs) (are_distinct fs) distinct in
    let rest : lacks name fs ≡ true = subst (λ n. lacks n fs ≡ true) h.0 split.0 in
    untouched (with_field ms f.0 f.1) name fs rest ∙ ap (λ n. get_member name (with_field ms n f.1)) h.0 ∙ own_field ms name f.1 none ∙ h.1
found ms name value (f ∷ fs) distinct none (inr h) =
    let split = both (lacks f.0 fs) (are_distinct fs) distinct in
    let apart : name ≢ f.0 = later_apart name f.0 value fs split.0 h in
    found (with_field ms f.0 f.1) name value fs split.1 (other_field ms name f.0 f.1 apart ∙ none) h

-- the member of a field's name in a message is the field's JSON, or none where the field is left out
pub member_of_message : (fs : Fields) (name : List ℕ) (value : Option Data) → are_distinct fs ≡ true → HasField name value fs → get name (message fs) ≡ value
member_of_message fs name value distinct h = found no_members name value fs distinct refl h

-- a message has no member under another name
pub no_member_of_message : (fs : Fields) (name : List ℕ) → lacks name fs ≡ true → get name (message fs) ≡ None
no_member_of_message fs name h = untouched no_members name fs h
