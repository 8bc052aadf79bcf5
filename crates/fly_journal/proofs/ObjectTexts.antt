-- The text of an object by the texts of its fields.
use Rattle.std.proofs.Common.{◌≡◌, ℕ, List, [], ◌∷◌, ◌++◌, Bool, true, false, Option, Some, None, Ordering, Less, Equal, Greater, nat_cmp, refl, sym, ap, ◌∙◌, append_assoc}
use Rattle.std.specs.Cmp.Lexicographic.{slice_cmp}
use Rattle.std.specs.Ordering.{match_ordering}
use Rattle.serde_json.specs.Data.{Data, string, Members, no_members, member, put}
use Rattle.serde_json.specs.Written.{comma_if, compact_text, members_text}
use Rattle.fly_writers.specs.Json.{Fields, with_field, with_fields, message}
use Rattle.fly_journal.specs.Texts.{FieldTexts, with_text, with_value, with_values, member_texts, rest_text, object_text}

placed : (o : Ordering) (a b c : Members)
    → member_texts (match_ordering o a b c) ≡ match_ordering o (member_texts a) (member_texts b) (member_texts c)
placed Less a b c = refl
placed Equal a b c = refl
placed Greater a b c = refl

put_text : (name : List ℕ) (d : Data) (ms : Members)
    → member_texts (put name d ms) ≡ with_text (member_texts ms) name (compact_text d)
put_text name d no_members = refl
put_text name d (member k e ms) =
    placed (slice_cmp nat_cmp name k) (member name d (member k e ms)) (member k d ms) (member k e (put name d ms))
    ∙ ap (λ rest. match_ordering (slice_cmp nat_cmp name k)
    ((name, compact_text d) ∷ (k, compact_text e) ∷ member_texts ms) ((k, compact_text d) ∷ member_texts ms) ((k, compact_text e) ∷ rest)) (put_text name d ms)

one_text : (ms : Members) (name : List ℕ) (o : Option Data)
    → member_texts (with_field ms name o) ≡ with_value (member_texts ms) name o
one_text ms name None = refl
one_text ms name (Some d) = put_text name d ms

all_texts : (ms : Members) (fs : Fields) → member_texts (with_fields ms fs) ≡ with_values (member_texts ms) fs
all_texts ms [] = refl
all_texts ms (f ∷ fs) =
    all_texts (with_field ms f.0 f.1) fs ∙ ap (λ ts. with_values ts fs) (one_text ms f.0 f.1)

regroup : (c k d r : List ℕ) → (c ++ (k ++ 58 ∷ d)) ++ r ≡ c ++ (k ++ 58 ∷ (d ++ r))
regroup c k d r = simp append_assoc

same_rest : (later : Bool) (ms : Members) → rest_text later (member_texts ms) ≡ members_text later ms
same_rest later no_members = refl
same_rest later (member k d ms) =
    regroup (comma_if later) (compact_text (string k)) (compact_text d) (rest_text true (member_texts ms))
    ∙ ap (λ rest. comma_if later ++ (compact_text (string k) ++ 58 ∷ (compact_text d ++ rest))) (same_rest true ms)

-- an object that has these fields has the text of the message of them
pub message_text : (fs : Fields) → object_text (with_values [] fs) ≡ compact_text (message fs)
message_text fs =
    ap object_text (sym (all_texts no_members fs))
    ∙ ap (λ rest. 123 ∷ rest) (same_rest false (with_fields no_members fs))

-- fields after fields
pub values_after : (ts : FieldTexts) (fs gs : Fields) → with_values ts (fs ++ gs) ≡ with_values (with_values ts fs) gs
values_after ts [] gs = refl
values_after ts (f ∷ fs) gs = values_after (with_value ts f.0 f.1) fs gs
