-- What is built has no float.
use Rattle.std.proofs.Common.{◌≡◌, ℕ, List, [], ◌∷◌, ◌++◌, length, Bool, true, false, ◌||◌, Option, option_map, Some, None, Ordering, Less, Equal, Greater, Result, Ok, Err, OnOk, cond, map, refl, ap, ◌∙◌}
use Rattle.std.specs.Result.{OnErr}
use Rattle.serde_json.specs.declared.value.Value.{Value}
use Rattle.std.specs.Ordering.{match_ordering, nat_cmp}
use Rattle.std.specs.Cmp.Lexicographic.{slice_cmp}
use Rattle.serde_json.specs.Data.{Data, object, Members, no_members, member, put}
use Rattle.serde_json.specs.Written.{has_float, items_have_float, members_have_float}
use Rattle.serde_json.specs.View.{items_of, members_view, view}
use Rattle.serde_json.proofs.Views.{Entry}
use Rattle.fly_writers.specs.Json.{unless_empty}

neither : (a b : Bool) → a ≡ false → b ≡ false → (a || b) ≡ false
neither true b h k = h
neither false b h k = k

first_of_neither : (a b : Bool) → (a || b) ≡ false → a ≡ false
first_of_neither true b h = h
first_of_neither false b h = refl

second_of_neither : (a b : Bool) → (a || b) ≡ false → b ≡ false
second_of_neither true b h = Prim.cc
second_of_neither false b h = h

placed : (o : Ordering) (k l : List ℕ) (d e : Data) (ms : Members) → has_float d ≡ false → (has_float e || members_have_float ms) ≡ false → members_have_float (put k d ms) ≡ false
    → members_have_float (match_ordering o (member k d (member l e ms)) (member l d ms) (member l e (put k d ms))) ≡ false
placed Less k l d e ms h rest later = neither (has_float d) _ h rest
placed Equal k l d e ms h rest later = neither (has_float d) _ h (second_of_neither (has_float e) _ rest)
placed Greater k l d e ms h rest later = neither (has_float e) _ (first_of_neither (has_float e) _ rest) later

-- one more member without a float
pub put-no_float : (k : List ℕ) (d : Data) (ms : Members) → has_float d ≡ false → members_have_float ms ≡ false → members_have_float (put k d ms) ≡ false
put-no_float k d no_members h rest = neither (has_float d) _ h refl
put-no_float k d (member l e ms) h rest =
    placed (slice_cmp nat_cmp k l) k l d e ms h rest (put-no_float k d ms h (second_of_neither (has_float e) _ rest))

-- one more element without a float
pub push-no_float : (ds : List Data) (d : Data) → items_have_float (items_of ds) ≡ false → has_float d ≡ false → items_have_float (items_of (ds ++ d ∷ [])) ≡ false
push-no_float [] d rest h = neither (has_float d) _ h refl
push-no_float (e ∷ ds) d rest h = neither (has_float e) _ (first_of_neither (has_float e) _ rest) (push-no_float ds d (second_of_neither (has_float e) _ rest) h)

-- a message with a field is there
pub unless_empty-some : (es : List Entry) → (length es ≡ 0 → ⊥) → Some (object (members_view es)) ≡ unless_empty (members_view es)
unless_empty-some [] h = absurd (h refl)
unless_empty-some (e ∷ es) h = refl

-- ---- what writes leave

pub put_kept : {E : Type 0} (r : Result (Unit {0}) E) (old new : List Entry) (k : List ℕ) (v : Value)
    → OnOk r (members_view new ≡ put k (view v) (members_view old)) → OnErr r (new ≡ old)
    → has_float (view v) ≡ false → members_have_float (members_view old) ≡ false → members_have_float (members_view new) ≡ false
put_kept (Ok u) old new k v ok err h rest = ap members_have_float ok ∙ put-no_float k (view v) (members_view old) h rest
put_kept (Err e) old new k v ok err h rest = ap (λ es. members_have_float (members_view es)) err ∙ rest

view_push : (vs : List Value) (v : Value) → map view (vs ++ v ∷ []) ≡ map view vs ++ view v ∷ []
view_push [] v = refl
view_push (w ∷ vs) v = ap (λ ds. view w ∷ ds) (view_push vs v)

pub push_kept : (b : Bool) (old new : List Value) (v : Value) → new ≡ cond b (old ++ v ∷ []) old
    → has_float (view v) ≡ false → items_have_float (items_of (map view old)) ≡ false → items_have_float (items_of (map view new)) ≡ false
push_kept true old new v e h rest = ap (λ vs. items_have_float (items_of (map view vs))) e ∙ ap (λ ds. items_have_float (items_of ds)) (view_push old v) ∙ push-no_float (map view old) (view v) rest h
push_kept false old new v e h rest = ap (λ vs. items_have_float (items_of (map view vs))) e ∙ rest
