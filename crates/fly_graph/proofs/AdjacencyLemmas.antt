-- The edges that leave a number are a part of the sorted list.
use Rattle.std.proofs.Common.{◌≡◌, ℕ, zero, suc, ◌+◌, ◌-◌, ◌<◌, ◌≤◌, Bool, true, false, cond, List, [], ◌∷◌, length, get_or, take, drop, eqb, refl, sym, ◌∙◌, ap, ⊎_elim, arith}
use Rattle.std.specs.List.{filter}
use Rattle.std.proofs.lemmas.Bool.{eq-eqb, ne_eqb, cases_lt}
use Rattle.fly_graph.specs.Adjacency.{edges_leaving, StartsAt}

-- at a place the test fails before the first n from i on, and after them, and passes there
abbrev pub PassesBetween : {X : Type 0} → (X → Bool) → ℕ → ℕ → ℕ → X → Type 0
PassesBetween p i n k x = (k < i → p x ≡ false) × (i ≤ k → k < i + n → p x ≡ true) × (i + n ≤ k → p x ≡ false)

pub filter_between : {X : Type 0} (p : X → Bool) (d : X) (xs : List X) (i n : ℕ) → i + n ≤ length xs → ((k : ℕ) → k < length xs → PassesBetween p i n k (get_or xs k d)) → take n (drop i xs) ≡ filter p xs
filter_between p d [] zero zero fits h = refl
filter_between p d [] zero (suc n) fits h = refl
filter_between p d [] (suc i) zero fits h = refl
filter_between p d [] (suc i) (suc n) fits h = refl
filter_between p d (x ∷ xs) zero zero fits h =
    let no : p x ≡ false = (h 0 (omega arith)).2 (omega arith) in
    filter_between p d xs zero zero (omega arith) (λ k within. (λ before. absurd (omega arith), λ from before. absurd (omega arith), λ _. (h (suc k) (omega arith)).2 (omega arith)))
    ∙ sym (ap (λ b. cond b (x ∷ filter p xs) (filter p xs)) no)
filter_between p d (x ∷ xs) zero (suc n) fits h =
    let yes : p x ≡ true = (h 0 (omega arith)).1 (omega arith) (omega arith) in
    ap (λ ys. x ∷ ys) (filter_between p d xs zero n (omega arith) (λ k within. (λ before. absurd (omega arith), λ from before. (h (suc k) (omega arith)).1 (omega arith) (omega arith), λ past. (h (suc k) (omega arith)).2 (omega arith))))
    ∙ sym (ap (λ b. cond b (x ∷ filter p xs) (filter p xs)) yes)
filter_between p d (x ∷ xs) (suc i) n fits h =
    let no : p x ≡ false = (h 0 (omega arith)).0 (omega arith) in
    filter_between p d xs i n (omega arith) (λ k within. (λ before. (h (suc k) (omega arith)).0 (omega arith), λ from before. (h (suc k) (omega arith)).1 (omega arith) (omega arith), λ past. (h (suc k) (omega arith)).2 (omega arith)))
    ∙ sym (ap (λ b. cond b (x ∷ filter p xs) (filter p xs)) no)

-- the edges between the place of v and that of the next number are those that leave v
pub leaving_between : (edges : List (ℕ × ℕ)) (v start end : ℕ) → StartsAt edges v start → StartsAt edges (v + 1) end → take (end - start) (drop start edges) ≡ edges_leaving edges v
leaving_between edges v start end first second =
    let up : start ≤ end = ordered in
    filter_between (λ edge. eqb edge.0 v) (0, 0) edges start (end - start) (omega (arith, second.within)) (λ k within. (
      λ before. ne_eqb _ _ (λ e. let low : (get_or edges k (0, 0)).0 < v = first.before k before in absurd (omega arith)),
      λ from before. eq-eqb _ _ (let low : v ≤ (get_or edges k (0, 0)).0 = first.after k from within in let high : (get_or edges k (0, 0)).0 < v + 1 = second.before k (omega arith) in omega arith),
      λ past. ne_eqb _ _ (λ e. let high : v + 1 ≤ (get_or edges k (0, 0)).0 = second.after k (omega arith) within in absurd (omega arith)),
    ))
  where
    ordered : start ≤ end
    ordered = ⊎_elim (λ back.
        let low : (get_or edges end (0, 0)).0 < v = first.before end back in
        let high : v + 1 ≤ (get_or edges end (0, 0)).0 = second.after end (omega arith) (omega (arith, first.within)) in
        absurd (omega arith)) (λ up. up) (cases_lt end start)
