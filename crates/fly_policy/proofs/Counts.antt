-- How the counts of items change, and what they tell.
use Rattle.std.proofs.Common.{◌≡◌, ℕ, ◌+◌, ◌<◌, ◌≤◌, Bool, true, cond, List, [], ◌∷◌, length, get_or, set, refl, ◌∙◌, ap, arith}
use Rattle.std.specs.Prelude.{Option, Some, None}
use Rattle.std.specs.List.{Contains, slice_get}
use Rattle.std.proofs.lemmas.List.{length-set}
use Rattle.std.proofs.lemmas.List.Sums.{sum_by-set, sum_by-cons, count_by-le-length}
use Rattle.std.proofs.lemmas.List.Elements.{Contains-append_right}
use Rattle.std.proofs.lemmas.Option.{slice_get_within, get_or_from_slice_get, slice_get-get_or}
use Rattle.fly_policy.specs.Items.{is_settled, is_success, settled_count, success_count}

-- a test as a number
abbrev pub one_if : Bool → ℕ
one_if b = cond b 1 0

-- one item more is settled
pub settled_more : (items : List (Option Bool)) (i : ℕ) (ok : Bool) → slice_get items i ≡ Some None
    → settled_count (set items i (Some ok)) ≡ settled_count items + 1
settled_more items i ok waits =
    let within : i < length items = slice_get_within items i None waits in
    let was : one_if (is_settled (get_or items i None)) ≡ 0 =
    ap (λ o. one_if (is_settled o)) (get_or_from_slice_get items i None None waits) in
    omega (arith, sum_by-set (λ o. cond (is_settled o) 1 0) items i (Some ok) None within)

pub success_more : (items : List (Option Bool)) (i : ℕ) (ok : Bool) → slice_get items i ≡ Some None
    → success_count (set items i (Some ok)) ≡ success_count items + one_if ok
success_more items i ok waits =
    let within : i < length items = slice_get_within items i None waits in
    let was : one_if (is_success (get_or items i None)) ≡ 0 =
    ap (λ o. one_if (is_success o)) (get_or_from_slice_get items i None None waits) in
    omega (arith, sum_by-set (λ o. cond (is_success o) 1 0) items i (Some ok) None within)

-- while an item isn't settled, neither count is full
pub settled_room : (items : List (Option Bool)) (i : ℕ) → slice_get items i ≡ Some None
    → settled_count items < length items
settled_room items i waits =
    let next : List (Option Bool) = set items i (Some true) in
    omega (arith, settled_more items i true waits, count_by-le-length is_settled next, length-set items i (Some true))

pub success_room : (items : List (Option Bool)) (i : ℕ) → slice_get items i ≡ Some None
    → success_count items < length items
success_room items i waits =
    let next : List (Option Bool) = set items i (Some true) in
    omega (arith, success_more items i true waits, count_by-le-length is_success next, length-set items i (Some true))

-- where the count isn't full, an item isn't settled
pub waiting_item : (items : List (Option Bool)) → settled_count items < length items → Contains items None
waiting_item [] few = absurd (omega arith)
waiting_item (None ∷ items) few = (0, omega arith, refl)
waiting_item (Some ok ∷ items) few =
    Contains-append_right (Some ok ∷ []) items None
    (waiting_item items (omega (arith, sum_by-cons (λ o. cond (is_settled o) 1 0) (Some ok) items)))

-- where the count is full, each is
pub no_waiting_item : (items : List (Option Bool)) → length items ≤ settled_count items → Contains items None → ⊥
no_waiting_item items full has =
    let waits : slice_get items has.0 ≡ Some None = slice_get-get_or items has.0 None has.1 ∙ ap Some has.2 in
    let room : settled_count items < length items = settled_room items has.0 waits in
    absurd (omega arith)

pub some_not_none : (b : Bool) → Some b ≡ None → ⊥
some_not_none b e = cc
