-- What is kept of a program's output while it is read.
use Rattle.std.proofs.Common.{◌≡◌, ◌+◌, ◌-◌, ◌≤◌, ℕ, zero, suc, List, [], ◌∷◌, ◌++◌, length, take, min, ◌<◌, Option, Result, Ok, IfSome, refl, sym, ◌∙◌, ap, subst, arith}
use Rattle.std.specs.Io.KnownBytes.{Consumes, Keeps, ReadConsumes}
use Rattle.std.proofs.KnownBytes.{Consumes-nil, Consumes-trans, Consumes-kept, Consumes-whole}
use Rattle.std.proofs.Math.Seq.{take-nil, take-append-add}
use Rattle.std.proofs.lemmas.List.{take_min, length-take, append-nil}

-- of the bytes that a reader gave so far, the first ones are kept, up to so many
pub record KeepsFront (most : ℕ) (old now : Option (List ℕ)) (kept : List ℕ) : Type 0 where
  pub seen : List ℕ
  pub gone : Consumes old now seen
  pub front : kept ≡ take most seen

-- ---- first parts

-- what there is room for behind a list makes the first part of both
pub take-room : (most : ℕ) (kept bytes : List ℕ) (n : ℕ) → length kept ≤ most → n ≡ min (length bytes) (most - length kept) → kept ++ take n bytes ≡ take most (kept ++ bytes)
take-room most kept bytes n within is =
    let room = most - length kept in
    let most-is : length kept + room ≡ most = omega (arith, within) in
    let n-is : n ≡ min room (length bytes) = omega (arith, is) in
    ap (λ k. kept ++ take k bytes) n-is
    ∙ ap (λ (l : List ℕ). kept ++ l) (take_min room bytes)
    ∙ sym (take-append-add kept bytes room)
    ∙ ap (λ k. take k (kept ++ bytes)) most-is

take-twice : (most : ℕ) (seen bytes : List ℕ) → take most (take most seen ++ bytes) ≡ take most (seen ++ bytes)
take-twice zero seen bytes = refl
take-twice (suc n) [] bytes = refl
take-twice (suc n) (x ∷ seen) bytes = ap (λ (l : List ℕ). x ∷ l) (take-twice n seen bytes)

-- ---- reads

-- nothing was read yet
pub KeepsFront-none : (most : ℕ) (old : Option (List ℕ)) → KeepsFront most old old []
KeepsFront-none most old = record { seen = []; gone = Consumes-nil old; front = sym (take-nil most) }

-- a read gave more
pub KeepsFront-more : (most : ℕ) (old mid new : Option (List ℕ)) (kept bytes after : List ℕ) → KeepsFront most old mid kept → Consumes mid new bytes → after ≡ take most (kept ++ bytes) → KeepsFront most old new after
KeepsFront-more most old mid new kept bytes after so_far gone is = record {
  seen = so_far.seen ++ bytes;
  gone = Consumes-trans old mid new so_far.seen bytes so_far.gone gone;
  front = is ∙ ap (λ (l : List ℕ). take most (l ++ bytes)) so_far.front ∙ take-twice most so_far.seen bytes;
}

-- a read that failed gave nothing
pub KeepsFront-still : (most : ℕ) (old mid new : Option (List ℕ)) (kept : List ℕ) → KeepsFront most old mid kept → Keeps mid new → KeepsFront most old new kept
KeepsFront-still most old mid new kept so_far same = record {
  seen = so_far.seen;
  gone = Consumes-kept old mid new so_far.seen so_far.gone same;
  front = so_far.front;
}

-- a read that gave none, where there was room, was at the end: the first part of all is kept
pub KeepsFront-whole : {E : Type 0} (most : ℕ) (old mid new : Option (List ℕ)) (kept buf : List ℕ) (read : Result ℕ E) (n : ℕ) → KeepsFront most old mid kept → ReadConsumes mid new read buf → read ≡ Ok n → n ≡ 0 → 0 < length buf → IfSome old (λ left. kept ≡ take most left)
KeepsFront-whole {E} most old mid new kept buf read n so_far gone is none room =
    let last : ReadConsumes {E = E} mid new (Ok 0) buf = subst (λ (r : Result ℕ E). ReadConsumes mid new r buf) (is ∙ ap (λ k. Ok k) none) gone in
    let all = subst (λ (l : List ℕ). Consumes old new l) (append-nil so_far.seen) (Consumes-trans old mid new so_far.seen [] so_far.gone last.0) in
    Consumes-whole old new so_far.seen (λ left. kept ≡ take most left) all (last.1 refl room) so_far.front

pub KeepsFront-within : (most : ℕ) (old now : Option (List ℕ)) (kept : List ℕ) → KeepsFront most old now kept → length kept ≤ most
KeepsFront-within most old now kept so_far = omega (arith, ap (λ (l : List ℕ). length l) so_far.front, length-take most so_far.seen)
