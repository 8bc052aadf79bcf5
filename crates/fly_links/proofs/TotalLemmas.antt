-- Totals along lists of targets, and what they count.
use Rattle.std.proofs.Common.{◌≡◌, ℕ, zero, suc, ◌+◌, ◌<◌, ◌≤◌, min, Bool, true, false, ◌&&◌, ltb, eqb, List, [], ◌∷◌, map, length, get_or, sum_by, All, Contains, refl, sym, ◌∙◌, ap, subst, ⊎_elim, arith}
use Rattle.std.specs.Cmp.{both_ways}
use Rattle.std.specs.List.{list_any}
use Rattle.std.proofs.lemmas.Bool.{cases_Bool, or_parts, and_parts, and_from, eqb-true, eq-eqb, lt-ltb, ltb-true, ltb-false}
use Rattle.std.proofs.lemmas.List.{get_or-map, length-map}
use Rattle.std.proofs.lemmas.List.Elements.{All-contains, All-head, All-tail}
use Rattle.std.proofs.lemmas.List.Folds.{list_any_at, Any-from_list_any}
use Rattle.std.proofs.lemmas.List.Sums.{sum_by-cons, get_or-le-sum_by}
use Rattle.fly_docs.specs.Reaching.{goes_on}
use Rattle.fly_links.specs.Search.{AreBelow, edges_along}
use Rattle.fly_links.specs.Totals.{total_within}
use Rattle.fly_links.proofs.SearchLemmas.{target_of_edge, edge_of_target}

-- ---- capped totals

capped_step : (a f g s t cap : ℕ) → f ≡ min g cap → ((c : ℕ) → min (c + s) cap ≡ min (c + t) cap) → min (a + (f + s)) cap ≡ min (a + (g + t)) cap
capped_step a f g s t cap e h = omega (arith, e, h (a + f))

capped_alike : (f g : ℕ → ℕ) (cap : ℕ) (ts : List ℕ) → All (λ t. f t ≡ min (g t) cap) ts → (a : ℕ) → min (a + sum_by f ts) cap ≡ min (a + sum_by g ts) cap
capped_alike f g cap [] h a = refl
capped_alike f g cap (t ∷ ts) h a =
    ap (λ s. min (a + s) cap) (sum_by-cons f t ts)
    ∙ capped_step a (f t) (g t) (sum_by f ts) (sum_by g ts) cap (All-head (λ x. f x ≡ min (g x) cap) t ts h)
    (capped_alike f g cap ts (All-tail (λ x. f x ≡ min (g x) cap) t ts h))
    ∙ ap (λ s. min (a + s) cap) (sym (sum_by-cons g t ts))

-- the totals with so many of the levels to go
pub record AreTotals (level levels : ℕ) (targets : List (List ℕ)) (own last : List ℕ) (cap : ℕ) (totals : List ℕ) : Type 0 where
  pub upto : level ≤ levels
  pub len : length totals ≡ length targets
  pub capped : All (λ n. n ≤ cap) totals
  pub each : (v : ℕ) → v < length targets → get_or totals v 0 ≡ min (total_within level targets own last v) cap

pub totals_start : (levels : ℕ) (targets : List (List ℕ)) (own last : List ℕ) (cap : ℕ) (totals : List ℕ) → length last ≡ length targets
    → totals ≡ map (λ n. min n cap) last → AreTotals 0 levels targets own last cap totals
unfolding total_within
totals_start levels targets own last cap totals len is = record {
  upto = omega arith;
  len = ap length is ∙ length-map last (λ n. min n cap) ∙ len;
  capped = subst (All (λ n. n ≤ cap)) (sym is) (λ k d lt.
      let below : k < length last = omega (arith, lt, length-map last (λ n. min n cap)) in
      omega (arith, get_or-map (λ n. min n cap) last k 0 d below));
  each = λ v lt. ap (λ xs. get_or xs v 0) is ∙ get_or-map (λ n. min n cap) last v 0 0 (omega (arith, lt, len));
}

pub totals_more : (level levels : ℕ) (targets : List (List ℕ)) (own last : List ℕ) (cap : ℕ) (totals more : List ℕ) → level < levels → AreBelow (length targets) targets
    → AreTotals level levels targets own last cap totals → length more ≡ length targets → All (λ n. n ≤ cap) more
    → ((v : ℕ) → v < length targets → get_or more v 0 ≡ min (get_or own v 0 + sum_by (λ t. get_or totals t 0) (get_or targets v [])) cap)
    → AreTotals (level + 1) levels targets own last cap more
unfolding total_within
totals_more level levels targets own last cap totals more lt below h len capped each = record {
  upto = omega arith;
  len = len;
  capped = capped;
  each = λ v within.
      let f : ℕ → ℕ = λ t. get_or totals t 0 in
      let next : suc level ≡ level + 1 = omega arith in
      let g : ℕ → ℕ = λ t. total_within level targets own last t in
      each v within
      ∙ capped_alike f g cap (get_or targets v []) (λ k d inside. h.each (get_or (get_or targets v []) k d) (below v [] within k d inside)) (get_or own v 0)
      ∙ ap (λ n. min (total_within n targets own last v) cap) next;
}

-- ---- walks

zero_sum : (f : ℕ → ℕ) (ts : List ℕ) → list_any (λ t. ltb 0 (f t)) ts ≡ false → sum_by f ts ≡ 0
zero_sum f [] e = refl
zero_sum f (t ∷ ts) e =
    let parts = or_parts _ _ e in
    sum_by-cons f t ts ∙ omega (arith, ltb-false 0 (f t) parts.0, zero_sum f ts parts.1)

some_of_sum : (f : ℕ → ℕ) (ts : List ℕ) → 0 < sum_by f ts → list_any (λ t. ltb 0 (f t)) ts ≡ true
some_of_sum f ts some =
    ⊎_elim (λ e. e) (λ none. absurd (omega (arith, some, zero_sum f ts none))) (cases_Bool (list_any (λ t. ltb 0 (f t)) ts))

module _ (targets : List (List ℕ)) (below : AreBelow (length targets) targets) (own last : List ℕ)
    (nothing : (v : ℕ) → v < length targets → get_or own v 0 ≡ 0) (one : (v : ℕ) → v < length targets → get_or last v 0 ≡ 1) where
  abbrev walks : ℕ → ℕ → ℕ
  walks n v = total_within n targets own last v

  pub walks_go_on : (n v : ℕ) → v < length targets → goes_on (edges_along targets) n v ≡ ltb 0 (walks n v)
  unfolding total_within goes_on
  walks_go_on zero v lt = sym (lt-ltb 0 _ (omega (arith, one v lt)))
  walks_go_on (suc n) v lt =
      let edges = edges_along targets in
      let ts = get_or targets v [] in
      let test : ℕ × ℕ → Bool = λ edge. eqb v edge.0 && goes_on edges n edge.1 in
      both_ways (list_any test edges) (ltb 0 (get_or own v 0 + sum_by (walks n) ts))
      (λ e. let found = Any-from_list_any test edges e in
      let parts = and_parts (eqb v found.1.0) (goes_on edges n found.1.1) found.4 in
      let from : v ≡ found.1.0 = eqb-true v found.1.0 parts.0 in
      let there = target_of_edge targets found.1.0 found.1.1 (found.0, found.2, found.3) in
      let target : Contains ts found.1.1 = subst (λ u. Contains (get_or targets u []) found.1.1) (sym from) there.1 in
      let inside : found.1.1 < length targets = All-contains (λ t. t < length targets) ts found.1.1 (below v [] lt) target in
      let more : 0 < walks n found.1.1 = ltb-true 0 _ (sym (walks_go_on n found.1.1 inside) ∙ parts.1) in
      lt-ltb 0 _ (omega (arith, more, get_or-le-sum_by (walks n) ts target.0 found.1.1 target.1, ap (walks n) target.2)))
      (λ e. let some : 0 < sum_by (walks n) ts = omega (arith, ltb-true 0 _ e, nothing v lt) in
      let found = Any-from_list_any (λ t. ltb 0 (walks n t)) ts (some_of_sum (walks n) ts some) in
      let target : Contains ts found.1 = (found.0, found.2, found.3) in
      let inside : found.1 < length targets = All-contains (λ t. t < length targets) ts found.1 (below v [] lt) target in
      let edge = edge_of_target targets v found.1 lt target in
      list_any_at test edges edge.0 (v, found.1) edge.1
      (ap test edge.2 ∙ and_from (eqb v v) (goes_on edges n found.1) (eq-eqb v v refl) (walks_go_on n found.1 inside ∙ found.4)))
