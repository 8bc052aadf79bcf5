-- Each step of a search leaves less work.
use Rattle.std.proofs.Common.{◌≡◌, ℕ, zero, suc, ◌+◌, ◌<◌, Bool, true, false, cond, List, [], ◌∷◌, length, get_or, set, drop, count_by, eqb, refl, sym, ◌∙◌, ap, arith, length-take, length-drop, get_or-drop}
use Rattle.std.specs.List.{list_any}
use Rattle.std.proofs.lemmas.List.{get_or_default}
use Rattle.std.proofs.lemmas.List.Sums.{sum_by-set, sum_by-cons}
use Rattle.fly_graph.specs.declared.components.Mark.{Mark}
use Rattle.fly_graph.specs.declared.components.Mark.TheVariants.{Unseen, OnPath, Done}
use Rattle.fly_graph.proofs.Members.{Contains_from_any}
use Rattle.fly_graph.proofs.CountLemmas.{one_if}
use Rattle.fly_graph.specs.Components.{State, mark_of, degree, IsSearch, edges_left, work_left, is_unseen, Closes, KeepsSeen}

-- one more edge followed leaves one less
pub left_less : (edges : List (ℕ × ℕ)) (v : ℕ) (followed : List ℕ) (i k : ℕ) → i < length followed → get_or followed i 0 ≡ k → k < degree edges (v + i) → edges_left edges v (set followed i (k + 1)) + 1 ≡ edges_left edges v followed
left_less edges v [] i k within at more = absurd (omega arith)
left_less edges v (x ∷ xs) zero k within at more =
    let same : degree edges (v + 0) ≡ degree edges v = ap (degree edges) (let e : v + 0 ≡ v = omega arith in e) in
    omega arith
left_less edges v (x ∷ xs) (suc i) k within at more =
    let here : degree edges (v + suc i) ≡ degree edges (suc v + i) = ap (degree edges) (let e : v + suc i ≡ suc v + i = omega arith in e) in
    let rest = left_less edges (suc v) xs i k (omega arith) at (omega arith) in
    omega (arith, rest)

-- a number that goes on the path is no longer unseen
pub unseen_less : (marks : List Mark) (v n : ℕ) → v < length marks → get_or marks v Unseen ≡ Unseen → count_by is_unseen (set marks v (OnPath n)) + 1 ≡ count_by is_unseen marks
unseen_less marks v n within new =
    let was : one_if (is_unseen (get_or marks v Unseen)) ≡ 1 = ap (λ m. one_if (is_unseen m)) new in
    omega (arith, sum_by-set (λ m. cond (is_unseen m) 1 0) marks v (OnPath n) Unseen within)

-- two lists that tell the same at each place have as many unseen
pub unseen_same : (marks others : List Mark) → length marks ≡ length others → ((k : ℕ) → is_unseen (get_or marks k Unseen) ≡ is_unseen (get_or others k Unseen)) → count_by is_unseen marks ≡ count_by is_unseen others
unseen_same [] [] len same = refl
unseen_same [] (y ∷ ys) len same = absurd (omega arith)
unseen_same (x ∷ xs) [] len same = absurd (omega arith)
unseen_same (x ∷ xs) (y ∷ ys) len same =
    let here : one_if (is_unseen x) ≡ one_if (is_unseen y) = ap one_if (same 0) in
    let rest : count_by is_unseen xs ≡ count_by is_unseen ys = unseen_same xs ys (omega arith) (λ k. same (suc k)) in
    omega (arith, sum_by-cons (λ m. cond (is_unseen m) 1 0) x xs, sum_by-cons (λ m. cond (is_unseen m) 1 0) y ys)

seen_on : (m : Mark) (i : ℕ) → m ≡ OnPath i → is_unseen m ≡ false
seen_on m i e = ap is_unseen e

cond_tells : (b : Bool) (m : Mark) → (b ≡ true → is_unseen m ≡ false) → is_unseen (cond b Done m) ≡ is_unseen m
cond_tells true m seen = sym (seen refl)
cond_tells false m seen = refl

module _ (count : ℕ) (edges : List (ℕ × ℕ)) (s t : State) (old : IsSearch count edges s) (bound : ℕ) (closes : Closes bound s t) (within : bound < length s.path) where
  tells : (v : ℕ) → is_unseen (mark_of t v) ≡ is_unseen (mark_of s v)
  tells v = ap is_unseen (closes.marks v) ∙ cond_tells (list_any (eqb v) (drop bound s.path)) (mark_of s v)
      (λ e.
      let has = Contains_from_any (drop bound s.path) v e in
      let short : has.0 < length (drop bound s.path) = has.1 in
      let inside : bound + has.0 < length s.path = omega (arith, length-drop bound s.path) in
      let value : get_or s.path (bound + has.0) 0 ≡ v = get_or_default s.path (bound + has.0) 0 v inside ∙ sym (get_or-drop bound s.path has.0 v) ∙ has.2 in
      seen_on (mark_of s v) (bound + has.0) (ap (mark_of s) (sym value) ∙ old.marked (bound + has.0) inside))

  pub close_keeps_seen : KeepsSeen s t
  close_keeps_seen v seen = tells v ∙ seen

  pub close_less : work_left edges t < work_left edges s
  close_less =
      let unseen : count_by is_unseen t.marks ≡ count_by is_unseen s.marks = unseen_same t.marks s.marks closes.marks_len tells in
      let left : edges_left edges 0 t.followed ≡ edges_left edges 0 s.followed = ap (edges_left edges 0) closes.followed in
      let pending : length t.pending ≡ length s.pending = ap length closes.pending in
      omega (arith, ap length closes.path, length-take bound s.path)
