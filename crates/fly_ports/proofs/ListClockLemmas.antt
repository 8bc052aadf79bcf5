-- The moments of a clock in memory.
use Rattle.std.proofs.Common.{◌≡◌, ℕ, zero, suc, ◌+◌, ◌-◌, ◌^◌, ℤ, List, [], ◌∷◌, length, refl, arith, length-append, ltb, inl, inr, true, false}
use Rattle.std.proofs.lemmas.Bool.{cases_lt, lt-ltb, le-ltb}
use Rattle.fly_ports.specs.Faults.{next_count}
use Rattle.fly_ports.specs.Clock.{Gives}
use Rattle.fly_ports.specs.ListClock.{answer_at, first_answers, clock_state}

length-first_answers : (answers : List ℤ) (n : ℕ) → length (first_answers answers n) ≡ n
length-first_answers answers zero = refl
length-first_answers answers (suc n) = omega (arith, length-append (first_answers answers n) (answer_at answers n ∷ []), length-first_answers answers n)

-- one call more
gives-next : (answers : List ℤ) (n : ℕ) → Gives (clock_state (record { answers = answers; calls = n })) (clock_state (record { answers = answers; calls = next_count n })) (answer_at answers n)
gives-next answers n = elim (cases_lt (n + 1) (2 ^ 64 - 1)) [
  | inl below ↦
      let next : next_count n ≡ suc n = omega arith in
      let told : ltb n (2 ^ 64 - 1) ≡ true = lt-ltb _ _ (omega arith) in
      let still : ltb (suc n) (2 ^ 64 - 1) ≡ true = lt-ltb _ _ (omega arith) in
      let fits : ltb (length (first_answers answers n) + 1) (2 ^ 64 - 1) ≡ true = lt-ltb _ _ (omega (arith, length-first_answers answers n)) in
      rw (next, told) (rw (still, fits) refl)
  | inr last ↦
      let past : ltb (next_count n) (2 ^ 64 - 1) ≡ false = le-ltb _ _ (omega arith) in
      elim (cases_lt n (2 ^ 64 - 1)) [
        | inl told ↦
            let now : ltb n (2 ^ 64 - 1) ≡ true = lt-ltb _ _ told in
            let full : ltb (length (first_answers answers n) + 1) (2 ^ 64 - 1) ≡ false = le-ltb _ _ (omega (arith, length-first_answers answers n)) in
            rw (past, now) (rw full refl)
        | inr untold ↦ let now : ltb n (2 ^ 64 - 1) ≡ false = le-ltb _ _ untold in rw (past, now) refl
      ]
]

-- as the call leaves the clock
pub gives-call : (answers : List ℤ) (n m : ℕ) (answer : ℤ) → m ≡ next_count n → answer ≡ answer_at answers n → Gives (clock_state (record { answers = answers; calls = n })) (clock_state (record { answers = answers; calls = m })) answer
gives-call answers n m answer next is = rw (next, is) (gives-next answers n)
