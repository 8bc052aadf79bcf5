-- Where the numbers of a graph look at each other without a cycle, they have an order, and a rule has one solution.
use Rattle.std.proofs.Common.{◌≡◌, ℕ, ◌+◌, ◌<◌, List, [], ◌∷◌, map, flat_map, length, get_or, Contains, refl, sym, ◌∙◌, ap, subst, ⊎_elim, arith}
use Rattle.std.specs.List.{All, range_with_len}
use Rattle.std.proofs.lemmas.List.Elements.{All-nil, All-append, All-map, Contains-get_or, Contains-append_left, Contains-append_right}
use Rattle.std.proofs.lemmas.List.FromFn.{length-range_with_len, get_or-range_with_len}
use Rattle.fly_graph.specs.Orders.{graph_of, EndsBelow, HasEachOnce}
use Rattle.fly_graph.proofs.OrderLemmas.{order_from_acyclic}
use Rattle.fly_graph.proofs.Members.{Contains-cons_cases, Contains-nil}
use Rattle.fly_rules.specs.Rules.{Rule, value_by, IsSolution, look_edges, IsGrounded, solution_of}
use Rattle.fly_rules.proofs.RuleLemmas.{LooksBack, related_along, one_solution_along, solves}

-- an element of a mapped list
pub Contains-map : {X Y : Type 0} (f : X → Y) (xs : List X) (x : X) → Contains xs x → Contains (map f xs) (f x)
Contains-map f [] x has = absurd (Contains-nil x has)
Contains-map f (y ∷ xs) x has =
    ⊎_elim (λ e. (0, omega arith, ap f e)) (λ other. Contains-append_right (f y ∷ []) (map f xs) (f x) (Contains-map f xs x other))
    (Contains-cons_cases y xs x has)

-- an element of what one element gives
pub Contains-flat_map : {X Y : Type 0} (f : X → List Y) (xs : List X) (x : X) (y : Y)
    → Contains xs x → Contains (f x) y → Contains (flat_map f xs) y
Contains-flat_map f [] x y has given = absurd (Contains-nil x has)
Contains-flat_map f (z ∷ xs) x y has given =
    ⊎_elim (λ e. Contains-append_left (f z) (flat_map f xs) y (subst (λ w. Contains (f w) y) (sym e) given))
    (λ other. Contains-append_right (f z) (flat_map f xs) y (Contains-flat_map f xs x y other given))
    (Contains-cons_cases z xs x has)

All-flat_map : {X Y : Type 0} (P : Y → Type 0) (f : X → List Y) (xs : List X)
    → ((x : X) → Contains xs x → All P (f x)) → All P (flat_map f xs)
All-flat_map P f [] each = All-nil P
All-flat_map P f (x ∷ xs) each =
    All-append P (f x) (flat_map f xs) (each x (0, omega arith, refl))
    (All-flat_map P f xs (λ w has. each w (Contains-append_right (x ∷ []) xs w has)))

pub Contains-range : (n v : ℕ) → v < n → Contains (range_with_len 0 n) v
Contains-range n v small =
    let long : length (range_with_len 0 n) ≡ n = length-range_with_len 0 n in
    (v, omega (arith, long), get_or-range_with_len 0 n v v small ∙ omega arith)

below_range : (n v : ℕ) → Contains (range_with_len 0 n) v → v < n
below_range n v has =
    let long : length (range_with_len 0 n) ≡ n = length-range_with_len 0 n in
    let small : has.0 < n = omega (arith, long, has.1) in
    let at : 0 + has.0 ≡ v = sym (get_or-range_with_len 0 n has.0 v small) ∙ has.2 in
    omega arith

module _ (looks : ℕ → List ℕ) (count : ℕ) (grounded : IsGrounded looks count) where
  -- what a number looks at has an edge to it
  pub look_edge : (v u : ℕ) → v < count → Contains (looks v) u → Contains (look_edges looks count) (u, v)
  look_edge v u small looked =
      Contains-flat_map (λ w. map (λ x. (x, w)) (looks w)) (range_with_len 0 count) v (u, v) (Contains-range count v small)
      (Contains-map (λ x. (x, v)) (looks v) u looked)

  pub look_edges_end : EndsBelow count (look_edges looks count)
  look_edges_end =
      All-flat_map (λ edge. (edge.0 < count) × (edge.1 < count)) (λ w. map (λ x. (x, w)) (looks w)) (range_with_len 0 count)
      (λ v has.
      let small = below_range count v has in
      All-map (λ edge. (edge.0 < count) × (edge.1 < count)) (λ x. (x, v)) (looks v) (λ k d within.
      (grounded.within v (get_or (looks v) k d) small (Contains-get_or (looks v) k d within), small)))

  -- the numbers have an order in which each comes after those that it looks at
  pub order_of_looks : (order : List ℕ) × HasEachOnce count order × LooksBack looks order
  order_of_looks =
      let least = order_from_acyclic (graph_of count (look_edges looks count)) look_edges_end grounded.acyclic in
      let each = least.1.once.each in (
        least.0,
        least.1.once,
        λ i u within looked.
            let free = (least.1.least i within).free in
            free.ready u (look_edge (get_or least.0 i 0) u free.below looked),
      )

module _ {V : Type 0} (rule : Rule V) (count : ℕ) (grounded : IsGrounded rule.looks count) where
  -- there is a solution
  pub solution_of-solves : IsSolution rule count (solution_of rule count)
  unfolding solution_of
  solution_of-solves v small =
      let order = order_of_looks rule.looks count grounded in
      solves rule order.0 order.2 count (omega (arith, order.1.len)) v ((order.1.each v).0 small)

  -- and no other
  pub one_solution : (f g : ℕ → V) → IsSolution rule count f → IsSolution rule count g → (v : ℕ) → v < count → f v ≡ g v
  one_solution f g first second v small =
      let order = order_of_looks rule.looks count grounded in
      one_solution_along rule order.0 order.2 f g (λ w has. first w ((order.1.each w).1 has)) (λ w has. second w ((order.1.each w).1 has))
      v ((order.1.each v).0 small)

-- Two rules that look at the same: what passes from the values that are seen to those that the rules give holds of two solutions.
pub related_solutions : {V W : Type 0} (R : ℕ → V → W → Type 0) (rule : Rule V) (other : Rule W) (count : ℕ)
    → IsGrounded rule.looks count
    → ((v : ℕ) → v < count → rule.looks v ≡ other.looks v)
    → (f : ℕ → V) (g : ℕ → W)
    → ((v : ℕ) → v < count → ((u : ℕ) → Contains (rule.looks v) u → R u (f u) (g u))
    → R v (value_by rule f v) (value_by other g v))
    → IsSolution rule count f → IsSolution other count g → (v : ℕ) → v < count → R v (f v) (g v)
related_solutions R rule other count grounded same f g step first second v small =
    let order = order_of_looks rule.looks count grounded in
    let below : (w : ℕ) → Contains order.0 w → w < count = λ w. (order.1.each w).1 in
    related_along R rule other order.0 order.2 (λ w has. same w (below w has)) f g (λ w has. step w (below w has))
    (λ w has. first w (below w has)) (λ w has. second w (below w has)) v ((order.1.each v).0 small)
