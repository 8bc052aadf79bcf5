-- Counts of the edges that are missing before a number is free.
use Rattle.std.proofs.Common.{◌≡◌, ℕ, ◌+◌, ◌-◌, ◌<◌, ◌≤◌, Bool, true, false, cond, ◌&&◌, ◌||◌, List, length, get_or, set, take, eqb, ltb, count_by, ⊎_elim, refl, sym, ◌∙◌, ap, subst, arith}
use Rattle.std.proofs.lemmas.Bool.{eq-eqb, ne_eqb, cases_eq, or_right, and_from, and_right, lt-ltb}
use Rattle.std.proofs.lemmas.List.{get_or-set_same, get_or-set_other}
use Rattle.std.proofs.lemmas.List.Sums.{sum_by_more, sum_by_more_le}
use Rattle.std.specs.Ordering.{nat_cmp}
use Rattle.std.specs.BTreeMap.{is_at}
use Rattle.std.proofs.lemmas.Bool.Decides.{nat_tests}

-- a test as a number
abbrev pub one_if : Bool → ℕ
one_if b = cond b 1 0

-- how many of the edges lead to v
abbrev pub edges_to : ℕ → List (ℕ × ℕ) → ℕ
edges_to v edges = count_by (λ edge. eqb edge.1 v) edges

pub edges_to_more : (edges : List (ℕ × ℕ)) (i v : ℕ) → i < length edges → edges_to v (take (i + 1) edges) ≡ edges_to v (take i edges) + one_if (eqb (get_or edges i (0, 0)).1 v)
edges_to_more edges i v within = sum_by_more (λ edge. cond (eqb edge.1 v) 1 0) edges i (0, 0) within

-- one more edge is counted
pub count_one : (edges : List (ℕ × ℕ)) (missing : List ℕ) (i x : ℕ) → i < length edges → (get_or edges i (0, 0)).1 < length missing → x ≡ get_or missing (get_or edges i (0, 0)).1 0
    → ((v : ℕ) → v < length missing → get_or missing v 0 ≡ edges_to v (take i edges))
    → (v : ℕ) → v < length missing → get_or (set missing (get_or edges i (0, 0)).1 (x + 1)) v 0 ≡ edges_to v (take (i + 1) edges)
count_one edges missing i x within target value counted v small =
    let w = (get_or edges i (0, 0)).1 in
    ⊎_elim (λ e.
    let yes : one_if (eqb w v) ≡ 1 = ap one_if (eq-eqb w v e) in
    let new : get_or (set missing w (x + 1)) v 0 ≡ x + 1 = ap (λ q. get_or (set missing w (x + 1)) q 0) (sym e) ∙ get_or-set_same missing w (x + 1) 0 target in
    let old : x ≡ edges_to v (take i edges) = value ∙ ap (λ q. get_or missing q 0) e ∙ counted v small in
    omega (arith, edges_to_more edges i v within))
    (λ apart.
    let no : one_if (eqb w v) ≡ 0 = ap one_if (ne_eqb w v apart) in
    let new : get_or (set missing w (x + 1)) v 0 ≡ get_or missing v 0 = get_or-set_other missing w v (x + 1) 0 (λ e. apart (sym e)) in
    omega (arith, edges_to_more edges i v within, counted v small))
    (cases_eq w v)

-- the edge at a place is counted
pub counts_one : (edges : List (ℕ × ℕ)) (i : ℕ) → i < length edges → edges_to (get_or edges i (0, 0)).1 (take i edges) + 1 ≤ edges_to (get_or edges i (0, 0)).1 edges
counts_one edges i within =
    let w = (get_or edges i (0, 0)).1 in
    let yes : one_if (eqb w w) ≡ 1 = ap one_if (eq-eqb w w refl) in
    omega (arith, sum_by_more_le (λ edge. cond (eqb edge.1 w) 1 0) edges i (0, 0) within)

-- one more edge is taken away
pub take_one : (edges : List (ℕ × ℕ)) (missing start : List ℕ) (i : ℕ) → i < length edges → (get_or edges i (0, 0)).1 < length missing → edges_to (get_or edges i (0, 0)).1 edges ≤ get_or start (get_or edges i (0, 0)).1 0
    → ((v : ℕ) → v < length missing → get_or missing v 0 + edges_to v (take i edges) ≡ get_or start v 0)
    → (v : ℕ) → v < length missing → get_or (set missing (get_or edges i (0, 0)).1 (get_or missing (get_or edges i (0, 0)).1 0 - 1)) v 0 + edges_to v (take (i + 1) edges) ≡ get_or start v 0
take_one edges missing start i within target enough taken v small =
    let w = (get_or edges i (0, 0)).1 in
    let x = get_or missing w 0 in
    ⊎_elim (λ e.
    let yes : one_if (eqb w v) ≡ 1 = ap one_if (eq-eqb w v e) in
    let new : get_or (set missing w (x - 1)) v 0 ≡ x - 1 = ap (λ q. get_or (set missing w (x - 1)) q 0) (sym e) ∙ get_or-set_same missing w (x - 1) 0 target in
    let old : get_or missing v 0 ≡ x = ap (λ q. get_or missing q 0) (sym e) in
    let same : edges_to v (take i edges) ≡ edges_to w (take i edges) = ap (λ q. edges_to q (take i edges)) (sym e) in
    omega (arith, edges_to_more edges i v within, taken v small, taken w target, counts_one edges i within, enough))
    (λ apart.
    let no : one_if (eqb w v) ≡ 0 = ap one_if (ne_eqb w v apart) in
    let new : get_or (set missing w (x - 1)) v 0 ≡ get_or missing v 0 = get_or-set_other missing w v (x - 1) 0 (λ e. apart (sym e)) in
    omega (arith, edges_to_more edges i v within, taken v small))
    (cases_eq w v)

-- what a set of numbers has at a number
pub apart_at : (k q : ℕ) → (k ≡ q → ⊥) → is_at (nat_cmp k) q ≡ false
apart_at k q apart = grind (arith, nat_tests)

-- a number becomes free where it was before, or where an edge to it was taken and none is missing
abbrev pub is_freed : Bool → ℕ → ℕ → Bool
is_freed before taken missing = before || (ltb 0 taken && eqb missing 0)

pub freed_at_none : (before : Bool) (taken missing : ℕ) → missing ≡ 0 → 0 < taken → true ≡ is_freed before taken missing
freed_at_none before taken missing none some =
    sym (or_right before _ (and_from _ _ (lt-ltb 0 taken some) (eq-eqb missing 0 none)))

pub freed_at_some : (before : Bool) (taken missing : ℕ) → (missing ≡ 0 → ⊥) → is_freed before taken missing ≡ before
freed_at_some true taken missing some = refl
freed_at_some false taken missing some = and_right _ _ (ne_eqb missing 0 some)

-- one more edge is taken away: another number than its target stays as it was
freed_elsewhere : (edges : List (ℕ × ℕ)) (missing : List ℕ) (i x : ℕ) → i < length edges → (first was : Bool) (v : ℕ) → ((get_or edges i (0, 0)).1 ≡ v → ⊥)
    → was ≡ is_freed first (edges_to v (take i edges)) (get_or missing v 0)
    → was ≡ is_freed first (edges_to v (take (i + 1) edges)) (get_or (set missing (get_or edges i (0, 0)).1 x) v 0)
freed_elsewhere edges missing i x within first was v apart freed =
    let w : ℕ = (get_or edges i (0, 0)).1 in
    let no : one_if (eqb w v) ≡ 0 = ap one_if (ne_eqb w v apart) in
    let count : edges_to v (take i edges) ≡ edges_to v (take (i + 1) edges) = omega (arith, edges_to_more edges i v within) in
    let same : get_or missing v 0 ≡ get_or (set missing w x) v 0 = sym (get_or-set_other missing w v x 0 (λ e. apart (sym e))) in
    freed ∙ ap (λ n. is_freed first n (get_or missing v 0)) count ∙ ap (λ m. is_freed first (edges_to v (take (i + 1) edges)) m) same

-- the last edge to its target is taken away
pub free_last : (edges : List (ℕ × ℕ)) (missing : List ℕ) (i x : ℕ) → i < length edges → (first was now : ℕ → Bool)
    → ((v : ℕ) → was v ≡ is_freed (first v) (edges_to v (take i edges)) (get_or missing v 0))
    → get_or (set missing (get_or edges i (0, 0)).1 x) (get_or edges i (0, 0)).1 0 ≡ 0
    → now (get_or edges i (0, 0)).1 ≡ true → ((v : ℕ) → ((get_or edges i (0, 0)).1 ≡ v → ⊥) → now v ≡ was v)
    → (v : ℕ) → now v ≡ is_freed (first v) (edges_to v (take (i + 1) edges)) (get_or (set missing (get_or edges i (0, 0)).1 x) v 0)
free_last edges missing i x within first was now freed none here elsewhere v =
    let w : ℕ = (get_or edges i (0, 0)).1 in
    ⊎_elim (λ e.
    let yes : one_if (eqb w w) ≡ 1 = ap one_if (eq-eqb w w refl) in
    let some : 0 < edges_to w (take (i + 1) edges) = omega (arith, edges_to_more edges i w within) in
    subst (λ q. now q ≡ is_freed (first q) (edges_to q (take (i + 1) edges)) (get_or (set missing w x) q 0)) e (here ∙ freed_at_none (first w) _ _ none some))
    (λ apart. elsewhere v apart ∙ freed_elsewhere edges missing i x within (first v) (was v) v apart (freed v))
    (cases_eq w v)

-- an edge is taken away, and more lead to its target
pub free_none : (edges : List (ℕ × ℕ)) (missing : List ℕ) (i x : ℕ) → i < length edges → (first was : ℕ → Bool)
    → ((v : ℕ) → was v ≡ is_freed (first v) (edges_to v (take i edges)) (get_or missing v 0))
    → (get_or missing (get_or edges i (0, 0)).1 0 ≡ 0 → ⊥) → (get_or (set missing (get_or edges i (0, 0)).1 x) (get_or edges i (0, 0)).1 0 ≡ 0 → ⊥)
    → (v : ℕ) → was v ≡ is_freed (first v) (edges_to v (take (i + 1) edges)) (get_or (set missing (get_or edges i (0, 0)).1 x) v 0)
free_none edges missing i x within first was freed before after v =
    let w : ℕ = (get_or edges i (0, 0)).1 in
    ⊎_elim (λ e. subst (λ q. was q ≡ is_freed (first q) (edges_to q (take (i + 1) edges)) (get_or (set missing w x) q 0)) e
    (freed w ∙ freed_at_some (first w) _ _ before ∙ sym (freed_at_some (first w) _ _ after)))
    (λ apart. freed_elsewhere edges missing i x within (first v) (was v) v apart (freed v))
    (cases_eq w v)
