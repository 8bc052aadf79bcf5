-- What is written or appended in several parts.
use Rattle.std.proofs.Common.{◌≡◌, ◌+◌, ℕ, zero, suc, List, [], ◌∷◌, ◌++◌, length, take, Option, None, Some, refl, sym, ◌∙◌, ap, inl, inr, append_assoc, length-append, unwrap_or, arith}
use mathlib.Core.Path.{fun_ext}
use Rattle.std.specs.Prelude.{bytes_eq}
use Rattle.std.specs.Io.KnownBytes.{append_known}
use Rattle.std.proofs.Math.Seq.{take-append-add}
use Rattle.std.proofs.lemmas.List.{append-nil}
use Rattle.std.proofs.lemmas.Bool.{cases_Bool}
use Rattle.std.proofs.lemmas.Slice.Eq.{bytes_eq-Decides}
use Rattle.fly_ports.specs.Faults.{Rises}
use Rattle.fly_ports.specs.Files.{Contents, contents_with, known_with, AppendsPart}
use Rattle.fly_ports.specs.Sink.{SinkState, asked_after, Writes, FailsToWrite, FailsWithin}

-- a first part of a list is one of a longer list
pub take-front : (a b : List ℕ) (n : ℕ) → (m : ℕ) × (take m (a ++ b) ≡ take n a)
take-front [] b zero = (0, refl)
take-front [] b (suc n) = (0, refl)
take-front (x ∷ a) b zero = (0, refl)
take-front (x ∷ a) b (suc n) =
    let rest = take-front a b n in
    (suc rest.0, ap (λ (l : List ℕ). x ∷ l) rest.1)

-- so are all of it and a first part of the rest
pub take-past : (a b : List ℕ) (n : ℕ) → (m : ℕ) × (take m (a ++ b) ≡ a ++ take n b)
take-past a b n = (length a + n, take-append-add a b n)

-- ---- sinks

append_known-append : (known : Option (List ℕ)) (a b : List ℕ) → append_known (append_known known a) b ≡ append_known known (a ++ b)
append_known-append None a b = refl
append_known-append (Some xs) a b = ap (λ (l : List ℕ). Some l) (append_assoc xs a b)

-- a count that rose goes on to have risen
pub Rises-later : (old mid new : ℕ) → Rises old mid → mid ≡ new → Rises old new
Rises-later old mid new rise same = record { later = omega (arith, rise.later, same); next = omega (arith, rise.next, same) }

-- two writes are one of all the bytes
asked_after-append : (asked : ℕ) (a b : List ℕ) → asked_after (asked_after asked a) b ≡ asked_after asked (a ++ b)
asked_after-append asked a b = let both = length-append a b in grind (arith, both)

pub Writes-then : (old mid new : SinkState) (a b : List ℕ) → Writes old mid a → Writes mid new b → Writes old new (a ++ b)
Writes-then old mid new a b first then = record {
  written = then.written ∙ ap (λ (known : Option (List ℕ)). append_known known b) first.written ∙ append_known-append old.written a b;
  asked = then.asked ∙ ap (λ (asked : ℕ). asked_after asked b) first.asked ∙ asked_after-append old.asked a b;
  faults = then.faults ∙ first.faults;
}

-- a write of more bytes fails where one of the first of them does
pub FailsWithin-first : (old new : SinkState) (a b : List ℕ) → FailsWithin old new a → FailsWithin old new (a ++ b)
FailsWithin-first old new a b fails = record {
  front = fails.front;
  part = fails.part;
  rest = fails.rest ++ b;
  whole = ap (λ (l : List ℕ). l ++ b) fails.whole ∙ append_assoc fails.front (fails.part ++ fails.rest) b
      ∙ ap (λ (l : List ℕ). fails.front ++ l) (append_assoc fails.part fails.rest b);
  some = fails.some;
  between = fails.between;
  first = fails.first;
  fails = fails.fails;
}

-- or where one of the rest does
pub FailsWithin-then : (old mid new : SinkState) (a b : List ℕ) → Writes old mid a → FailsWithin mid new b → FailsWithin old new (a ++ b)
FailsWithin-then old mid new a b first fails = record {
  front = a ++ fails.front;
  part = fails.part;
  rest = fails.rest;
  whole = ap (λ (l : List ℕ). a ++ l) fails.whole ∙ sym (append_assoc a fails.front (fails.part ++ fails.rest));
  some = fails.some;
  between = fails.between;
  first = Writes-then old mid fails.between a fails.front first fails.first;
  fails = fails.fails;
}

-- ---- files

contents_with-append : (held : Contents) (path a b q : List ℕ) → contents_with (contents_with held path a) path b q ≡ contents_with held path (a ++ b) q
contents_with-append held path a b q = elim (cases_Bool (bytes_eq path q)) [
  | inl hit ↦ rw (hit, (bytes_eq-Decides path path).1 refl) (ap (λ (l : List ℕ). Some l) (append_assoc (unwrap_or (held path) []) a b))
  | inr miss ↦ rw miss refl
]

-- two appends at one path are one of all the bytes
pub known_with-append : (known : Option Contents) (path a b : List ℕ) → known_with (known_with known path a) path b ≡ known_with known path (a ++ b)
known_with-append None path a b = refl
known_with-append (Some held) path a b = ap (λ (h : Contents). Some h) (fun_ext (λ q. contents_with-append held path a b q))

-- a first part of some bytes is one of more bytes
pub AppendsPart-first : (old new : Option Contents) (path a b : List ℕ) → AppendsPart old new path a → AppendsPart old new path (a ++ b)
AppendsPart-first old new path a b (inl none) = inl none
AppendsPart-first old new path a b (inr part) =
    let front = take-front a b part.0 in
    inr (front.0, part.1 ∙ ap (λ (l : List ℕ). known_with old path l) (sym front.1))

-- all of some bytes and a first part of more are a first part of both
pub AppendsPart-then : (old mid new : Option Contents) (path a b : List ℕ) → mid ≡ known_with old path a → AppendsPart mid new path b → AppendsPart old new path (a ++ b)
AppendsPart-then old mid new path a b first (inl none) =
    let all = take-past a b 0 in
    inr (all.0, none ∙ first ∙ ap (λ (l : List ℕ). known_with old path l) (sym (all.1 ∙ append-nil a)))
AppendsPart-then old mid new path a b first (inr part) =
    let all = take-past a b part.0 in
    inr (
      all.0,
      part.1
          ∙ ap (λ (known : Option Contents). known_with known path (take part.0 b)) first
          ∙ known_with-append old path a (take part.0 b)
          ∙ ap (λ (l : List ℕ). known_with old path l) (sym all.1),
    )
