-- The first wrong word of a grammar.
use Rattle.std.proofs.Common.{◌≡◌, ℕ, ◌+◌, List, [], ◌∷◌, ◌++◌, length, take, subst, ap, ◌∙◌, append_assoc, length-append, arith}
use Rattle.std.proofs.Math.Seq.{take-append-add, take-append_seam, take-length}
use Rattle.fly_app.specs.Words.{IsFirstWrong}

-- a word behind which nothing of the grammar stands, where something stands in its place
pub wrong_word : (G : List (List ℕ) → Type 0) (front : List (List ℕ)) (word : List ℕ) (rest some : List (List ℕ))
    → G (front ++ some)
    → ((more : List (List ℕ)) → G (front ++ word ∷ more) → ⊥) → IsFirstWrong G (front ++ word ∷ rest) (length front)
wrong_word G front word rest some is none = record {
  right = (some, rw (take-append_seam front (word ∷ rest)) is);
  within = omega (arith, length-append front (word ∷ rest));
  next = λ more begins. none begins.0 (longer begins.0 begins.1);
  whole = none rest;
}
  where
    longer : (more : List (List ℕ)) → G (take (length front + 1) (front ++ word ∷ rest) ++ more)
        → G (front ++ word ∷ more)
    longer more is = rw (take-append-add front (word ∷ rest) 1, append_assoc front (word ∷ []) more) at is

-- words that are right, behind which more are missing
pub missing_word : (G : List (List ℕ) → Type 0) (words some : List (List ℕ)) → G (words ++ some) → (G words → ⊥)
    → IsFirstWrong G words (length words)
missing_word G words some is none = record {
  right = (some, rw (take-length words) is);
  within = omega arith;
  next = λ more. absurd (omega arith);
  whole = none;
}

-- the words that a grammar has behind these are those of the other
pub wrong_behind : (G H : List (List ℕ) → Type 0) (front rest : List (List ℕ)) (k : ℕ)
    → ((words : List (List ℕ)) → G words → H (front ++ words))
    → ((words : List (List ℕ)) → H (front ++ words) → G words)
    → IsFirstWrong G rest k → IsFirstWrong H (front ++ rest) (length front + k)
wrong_behind G H front rest k onto back wrong = record {
  right = (wrong.right.0, begun);
  within = omega (arith, wrong.within, length-append front rest);
  next = λ more begins. wrong.next (omega (arith, more, length-append front rest))
      (begins.0, shorter begins.0 begins.1);
  whole = λ is. wrong.whole (back rest is);
}
  where
    begun : H (take (length front + k) (front ++ rest) ++ wrong.right.0)
    begun = rw (take-append-add front rest k, append_assoc front (take k rest) wrong.right.0)
        (onto (take k rest ++ wrong.right.0) wrong.right.1)

    seam : take (length front + k + 1) (front ++ rest) ≡ front ++ take (k + 1) rest
    seam = let at : length front + k + 1 ≡ length front + (k + 1) = omega arith in
        ap (λ (n : ℕ). take n (front ++ rest)) at ∙ take-append-add front rest (k + 1)

    shorter : (more : List (List ℕ)) → H (take (length front + k + 1) (front ++ rest) ++ more)
        → G (take (k + 1) rest ++ more)
    shorter more is = back (take (k + 1) rest ++ more)
        (subst H (ap (λ (words : List (List ℕ)). words ++ more) seam ∙ append_assoc front (take (k + 1) rest) more) is)
