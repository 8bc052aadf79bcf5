-- Tests of numbers that follow each other.
use Rattle.std.proofs.Common.{◌≡◌, ℕ, zero, suc, ◌+◌, ◌<◌, ◌≤◌, Bool, true, false, ◌⊎◌, refl, sym, ◌∙◌, ap, arith, inl, inr, ⊎_elim}
use Rattle.std.specs.List.{list_all, list_any, range_with_len}
use Rattle.std.proofs.lemmas.Bool.{and_parts, and_from, or_from, or_parts, cases_lt, cases_Bool, false≢true}

first_or_later : (a b : ℕ) → a ≤ b → (b ≡ a) ⊎ (a + 1 ≤ b)
first_or_later a b le = ⊎_elim (λ lt. inr (omega arith)) (λ ge. inl (omega arith)) (cases_lt a b)

pub all-at : (p : ℕ → Bool) (k n : ℕ) → list_all p (range_with_len k n) ≡ true
    → (v : ℕ) → k ≤ v → v < k + n → p v ≡ true
all-at p k zero all v above below = absurd (omega arith)
all-at p k (suc n) all v above below =
    let parts = and_parts (p k) (list_all p (range_with_len (k + 1) n)) all in
    ⊎_elim (λ here. ap p here ∙ parts.0)
    (λ there. all-at p (k + 1) n parts.1 v there (omega arith))
    (first_or_later k v above)

pub all-from : (p : ℕ → Bool) (k n : ℕ) → ((v : ℕ) → k ≤ v → v < k + n → p v ≡ true)
    → list_all p (range_with_len k n) ≡ true
all-from p k zero each = refl
all-from p k (suc n) each =
    and_from (p k) (list_all p (range_with_len (k + 1) n)) (each k (omega arith) (omega arith))
    (all-from p (k + 1) n (λ v above below. each v (omega arith) (omega arith)))

-- one that fails is enough
pub all-fails : (p : ℕ → Bool) (n v : ℕ) → v < n → p v ≡ false → list_all p (range_with_len 0 n) ≡ false
all-fails p n v small at =
    ⊎_elim (λ all. absurd (false≢true (sym at ∙ all-at p 0 n all v (omega arith) (omega arith)))) (λ fails. fails)
    (cases_Bool (list_all p (range_with_len 0 n)))

any-none-at : (p : ℕ → Bool) (k n : ℕ) → list_any p (range_with_len k n) ≡ false
    → (v : ℕ) → k ≤ v → v < k + n → p v ≡ false
any-none-at p k zero none v above below = absurd (omega arith)
any-none-at p k (suc n) none v above below =
    let parts = or_parts (p k) (list_any p (range_with_len (k + 1) n)) none in
    ⊎_elim (λ here. ap p here ∙ parts.0)
    (λ there. any-none-at p (k + 1) n parts.1 v there (omega arith))
    (first_or_later k v above)

-- one that passes is enough
pub any-at : (p : ℕ → Bool) (n v : ℕ) → v < n → p v ≡ true → list_any p (range_with_len 0 n) ≡ true
any-at p n v small at =
    ⊎_elim (λ passes. passes)
    (λ none. absurd (false≢true (sym (any-none-at p 0 n none v (omega arith) (omega arith)) ∙ at)))
    (cases_Bool (list_any p (range_with_len 0 n)))

pub any-none : (p : ℕ → Bool) (k n : ℕ) → ((v : ℕ) → k ≤ v → v < k + n → p v ≡ false)
    → list_any p (range_with_len k n) ≡ false
any-none p k zero each = refl
any-none p k (suc n) each =
    or_from (p k) (list_any p (range_with_len (k + 1) n)) (each k (omega arith) (omega arith))
    (any-none p (k + 1) n (λ v above below. each v (omega arith) (omega arith)))
