-- The test of reaching is right: it is true exactly where a walk of one or more edges is there.
use Rattle.std.proofs.Common.{◌≡◌, ◌⊎◌, ℕ, Bool, true, ◌&&◌, ◌||◌, eqb, List, [], ◌∷◌, inl, inr, ⊎_elim, refl, sym, ap, subst, arith}
use Rattle.std.specs.Bool.{Decides}
use Rattle.std.proofs.lemmas.Bool.{eqb-true, eq-eqb, or_cases, or_left, or_right, and_parts, and_from, false≢true}
use Rattle.std.proofs.lemmas.List.Elements.{Contains-append_right}
use Rattle.fly_graph.specs.Walks.{IsEdge, IsWalk, Reaches}
use Rattle.fly_graph.proofs.Members.{Contains-nil, Contains-cons_cases}
use Rattle.fly_graph.proofs.WalkLemmas.{reaches_by_edge, reaches_trans, reaches_along}
use Rattle.fly_docs.specs.Reaching.{reaches}

-- u is v, or reaches it
abbrev arrives : List (ℕ × ℕ) → ℕ → ℕ → Bool
arrives edges u v = eqb u v || reaches edges u v

abbrev Arrives : List (ℕ × ℕ) → ℕ → ℕ → Type 0
Arrives edges u v = (u ≡ v) ⊎ Reaches edges u v

-- to an end of an edge, and along it
along : (edges : List (ℕ × ℕ)) (u a b : ℕ) → Arrives edges u a → IsEdge edges a b → Reaches edges u b
along edges u a b start edge =
    ⊎_elim (λ same. subst (λ x. Reaches edges x b) (sym same) (reaches_by_edge edges a b edge))
    (λ walk. reaches_trans edges u a b walk (reaches_by_edge edges a b edge)) start

-- and on from its end
onward : (edges : List (ℕ × ℕ)) (u b v : ℕ) → Reaches edges u b → Arrives edges b v → Reaches edges u v
onward edges u b v walk end = ⊎_elim (λ same. subst (Reaches edges u) same walk) (λ more. reaches_trans edges u b v walk more) end

pub walk_from_reaches : (edges : List (ℕ × ℕ)) (u v : ℕ) → reaches edges u v ≡ true → Reaches edges u v
unfolding reaches
walk_from_reaches [] u v e = absurd (false≢true e)
walk_from_reaches (edge ∷ edges) u v e =
    let all = edge ∷ edges in
    let later : (x y : ℕ) → reaches edges x y ≡ true → Reaches all x y =
    λ x y h. reaches_along edges all (λ a b. Contains-append_right (edge ∷ []) edges (a, b)) x y (walk_from_reaches edges x y h) in
    let arrival : (x y : ℕ) → arrives edges x y ≡ true → Arrives all x y =
    λ x y h. ⊎_elim (λ same. inl (eqb-true x y same)) (λ more. inr (later x y more)) (or_cases _ _ h) in
    let here : IsEdge all edge.0 edge.1 = (0, omega arith, refl) in
    ⊎_elim (λ h. later u v h)
    (λ h. let parts = and_parts _ _ h in
    onward all u edge.1 v (along all u edge.0 edge.1 (arrival u edge.0 parts.0) here) (arrival edge.1 v parts.1))
    (or_cases _ _ e)

-- an edge, and then on
by_new_edge : (edge : ℕ × ℕ) (edges : List (ℕ × ℕ)) (u x v : ℕ) → edge ≡ (u, x) → arrives (edge ∷ edges) x v ≡ true → reaches (edge ∷ edges) u v ≡ true
unfolding reaches
by_new_edge edge edges u x v same h =
    let end : edge.1 ≡ x = ap (λ p. p.1) same in
    let on : arrives edges edge.1 v ≡ true =
    ⊎_elim (λ e. or_left _ _ (eq-eqb _ _ (subst (λ z. z ≡ v) (sym end) (eqb-true x v e))))
    (λ e. ⊎_elim (λ more. or_right _ _ (subst (λ z. reaches edges z v ≡ true) (sym end) more)) (λ more. (and_parts _ _ more).1) (or_cases _ _ e))
    (or_cases _ _ h) in
    or_right _ _ (and_from _ _ (or_left _ _ (eq-eqb _ _ (sym (ap (λ p. p.0) same)))) on)

by_old_edge : (edge : ℕ × ℕ) (edges : List (ℕ × ℕ)) (u x v : ℕ) → ((w : ℕ) → arrives edges x w ≡ true → reaches edges u w ≡ true)
    → arrives (edge ∷ edges) x v ≡ true → reaches (edge ∷ edges) u v ≡ true
unfolding reaches
by_old_edge edge edges u x v before h =
    let to = arrives edges u edge.0 in
    let on = arrives edges edge.1 v in
    let sooner : arrives edges x v ≡ true → reaches (edge ∷ edges) u v ≡ true = λ e. or_left (reaches edges u v) (to && on) (before v e) in
    ⊎_elim (λ e. sooner (or_left (eqb x v) (reaches edges x v) e))
    (λ e. ⊎_elim (λ more. sooner (or_right (eqb x v) (reaches edges x v) more))
    (λ more. let parts = and_parts (arrives edges x edge.0) on more in
    let there : to ≡ true = or_right (eqb u edge.0) (reaches edges u edge.0) (before edge.0 parts.0) in
    or_right (reaches edges u v) (to && on) (and_from to on there parts.1))
    (or_cases (reaches edges x v) (arrives edges x edge.0 && on) e))
    (or_cases (eqb x v) (reaches (edge ∷ edges) x v) h)

reaches_by_first : (edges : List (ℕ × ℕ)) (u x v : ℕ) → IsEdge edges u x → arrives edges x v ≡ true → reaches edges u v ≡ true
reaches_by_first [] u x v edge h = absurd (Contains-nil (u, x) edge)
reaches_by_first (edge ∷ edges) u x v there h =
    ⊎_elim (λ same. by_new_edge edge edges u x v same h)
    (λ more. by_old_edge edge edges u x v (λ w arrived. reaches_by_first edges u x w more arrived) h)
    (Contains-cons_cases edge edges (u, x) there)

reaches_from_walk : (edges : List (ℕ × ℕ)) (u : ℕ) (between : List ℕ) (v : ℕ) → IsWalk edges u between v → reaches edges u v ≡ true
reaches_from_walk edges u [] v edge = reaches_by_first edges u v v edge (or_left _ _ (eq-eqb v v refl))
reaches_from_walk edges u (w ∷ between) v walk =
    reaches_by_first edges u w v walk.0 (or_right _ _ (reaches_from_walk edges w between v walk.1))

pub reaches-Decides : (edges : List (ℕ × ℕ)) (u v : ℕ) → Decides (reaches edges u v) (Reaches edges u v)
reaches-Decides edges u v = (walk_from_reaches edges u v, λ walk. reaches_from_walk edges u walk.0 v walk.1)
