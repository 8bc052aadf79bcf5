-- The paths of a plan of task nodes in one workflow tell its nodes apart.
use Rattle.std.proofs.Common.{◌≡◌, ◌≢◌, ℕ, zero, suc, ◌<◌, ◌==◌, cond, Bool, true, false, List, [], ◌∷◌, map, length, get_or, position, AllPairs, Option, Some, None, option_map, refl, sym, ◌∙◌, ap, subst, arith, ⊎_elim}
use Rattle.std.specs.List.{slice_get}
use Rattle.std.proofs.lemmas.Bool.{cases_Bool, cases_order, false≢true, eq-eqb}
use Rattle.std.proofs.lemmas.Map.Views.{exact_unsigned_eq as eqb-eq}
use Rattle.std.proofs.lemmas.List.{length-map}
use Rattle.std.proofs.lemmas.List.Quantifiers.{position-Some}
use Rattle.std.proofs.lemmas.Option.{none-some, same_Some, slice_get-map, slice_get_within, get_or_from_slice_get, slice_get-get_or}
use Rattle.std.proofs.lemmas.Slice.Eq.{bytes_eq-Decides, slice_eq-Decides}
use Rattle.fly_types.specs.declared.text.Text.{Text}
use Rattle.fly_docs.specs.declared.node.Node.{Node}
use Rattle.fly_docs.specs.declared.workflow.Workflow.{Workflow}
use Rattle.fly_docs.specs.Plans.{PlanNode}
use Rattle.fly_state.specs.PlanTables.{IsOuterPlan, outer_node}
use Rattle.fly_state.specs.Plans.{RunPlan, Path, same_path, number_of, node_numbered}
use Rattle.fly_state.proofs.OuterPlans.{numbered-outer}
use Rattle.fly_state.proofs.PlaceLemmas.{position_cons}
use Rattle.fly_state.proofs.PlanLemmas.{nodes_of-plain}

-- the number is this one
abbrev pub is_number : ℕ → Option ℕ → Bool
is_number i (Some j) = i == j
is_number i None = false

pub same-path : (a b : Path) → same_path a b ≡ true → a ≡ b
same-path a b e = (slice_eq-Decides bytes_eq-Decides a b (same_path a b) refl).0 e

path-same : (a b : Path) → a ≡ b → same_path a b ≡ true
path-same a b e = (slice_eq-Decides bytes_eq-Decides a b (same_path a b) refl).1 e

none-more : (o : Option ℕ) → option_map suc o ≡ None → o ≡ None
none-more None e = refl
none-more (Some k) e = absurd (none-some (suc k) (sym e))

-- where no element is found, each fails
position-fails : {X : Type 0} (t : X → Bool) (xs : List X) → position t xs ≡ None → (i : ℕ) (x : X) → slice_get xs i ≡ Some x → t x ≡ false
position-fails t [] none i x at = absurd (none-some x at)
position-fails t (y ∷ ys) none zero x at =
    ⊎_elim (λ yes. absurd (none-some 0 (sym none ∙ position_cons t y ys ∙ ap (λ b. cond b (Some 0) (option_map suc (position t ys))) yes)))
    (λ no. ap t (sym (same_Some _ _ at)) ∙ no) (cases_Bool (t y))
position-fails t (y ∷ ys) none (suc i) x at =
    ⊎_elim (λ yes. absurd (none-some 0 (sym none ∙ position_cons t y ys ∙ ap (λ b. cond b (Some 0) (option_map suc (position t ys))) yes)))
    (λ no. position-fails t ys
    (none-more (position t ys) (sym (position_cons t y ys ∙ ap (λ b. cond b (Some 0) (option_map suc (position t ys))) no) ∙ none)) i x at)
    (cases_Bool (t y))

module _ (plan : RunPlan) (w : Workflow) (outer : IsOuterPlan plan w) where
  ids-distinct : AllPairs (λ (a b : Text). a ≢ b) (map (λ (n : Node). n.id) w.nodes)
  ids-distinct = subst (λ (ns : List Node). AllPairs (λ (a b : Text). a ≢ b) (map (λ (n : Node). n.id) ns))
      (nodes_of-plain w outer.plain) outer.typed.ids

  abbrev ids : List Text
  ids = map (λ (n : Node). n.id) w.nodes

  pub node-at : (i : ℕ) (p : PlanNode) → node_numbered plan i ≡ Some p
      → (n : Node) × (slice_get w.nodes i ≡ Some n) × (outer_node w (i, n) ≡ p)
  node-at i p planned = by (slice_get w.nodes i) refl
    where
      numbered : (o : Option Node) → slice_get w.nodes i ≡ o → option_map (λ m. outer_node w (i, m)) o ≡ Some p
      numbered o there = sym (numbered-outer plan w outer i ∙ ap (option_map (λ m. outer_node w (i, m))) there) ∙ planned

      by : (o : Option Node) → slice_get w.nodes i ≡ o → (n : Node) × (slice_get w.nodes i ≡ Some n) × (outer_node w (i, n) ≡ p)
      by None there = absurd (none-some p (numbered None there))
      by (Some n) there = (n, there, same_Some _ _ (numbered (Some n) there))

  id-at : (i : ℕ) (n : Node) (d : Text) → slice_get w.nodes i ≡ Some n → get_or ids i d ≡ n.id
  id-at i n d there =
      get_or_from_slice_get ids i n.id d (slice_get-map (λ (m : Node). m.id) w.nodes i ∙ ap (option_map (λ (m : Node). m.id)) there)

  id-within : (i : ℕ) (n : Node) → slice_get w.nodes i ≡ Some n → i < length ids
  id-within i n there = omega (arith, length-map w.nodes (λ (m : Node). m.id), slice_get_within w.nodes i n there)

  -- nodes with one path have one number
  same-number : (i j : ℕ) (p q : PlanNode) → node_numbered plan i ≡ Some p → node_numbered plan j ≡ Some q → p.path ≡ q.path → i ≡ j
  same-number i j p q at_i at_j same =
      let n = node-at i p at_i in
      let m = node-at j q at_j in
      let d = n.0.id in
      let one : n.0.id ≡ m.0.id =
      ap (λ path. get_or path 0 d) (ap (λ (r : PlanNode). r.path) n.2 ∙ same ∙ sym (ap (λ (r : PlanNode). r.path) m.2)) in
      let equal : get_or ids i d ≡ get_or ids j d = id-at i n.0 d n.1 ∙ one ∙ sym (id-at j m.0 d m.1) in
      ⊎_elim (λ e. e)
      (⊎_elim (λ before. absurd (ids-distinct i j d before (id-within j m.0 m.1) equal))
      (λ after. absurd (ids-distinct j i d after (id-within i n.0 n.1) (sym equal))))
      (cases_order i j)

  number-at : (i : ℕ) (p : PlanNode) (path : Path) → node_numbered plan i ≡ Some p → (j : ℕ) (q : PlanNode) → node_numbered plan j ≡ Some q
      → path ≡ q.path → (b : Bool) → same_path p.path path ≡ b → (c : Bool) → (i == j) ≡ c → b ≡ c
  number-at i p path planned j q there path_is true is true e = refl
  number-at i p path planned j q there path_is false is false e = refl
  number-at i p path planned j q there path_is true is false e =
      absurd (false≢true (sym e ∙ eq-eqb i j (same-number i j p q planned there (same-path p.path path is ∙ path_is))))
  number-at i p path planned j q there path_is false is true e =
      let one : p ≡ q = same_Some _ _ (sym planned ∙ ap (node_numbered plan) (eqb-eq i j e) ∙ there) in
      absurd (false≢true (sym is ∙ path-same p.path path (ap (λ (r : PlanNode). r.path) one ∙ sym path_is)))

  number-by : (i : ℕ) (p : PlanNode) (path : Path) → node_numbered plan i ≡ Some p → (o : Option ℕ) → number_of plan path ≡ o
      → (b : Bool) → same_path p.path path ≡ b → b ≡ is_number i o
  number-by i p path planned None none true is =
      absurd (false≢true (sym (position-fails (λ (q : PlanNode). same_path path q.path) plan.nodes none i p planned)
      ∙ path-same path p.path (sym (same-path p.path path is))))
  number-by i p path planned None none false is = refl
  number-by i p path planned (Some j) found b is =
      let at = position-Some (λ (q : PlanNode). same_path path q.path) plan.nodes j p found in
      let q = get_or plan.nodes j p in
      number-at i p path planned j q (slice_get-get_or plan.nodes j p at.0) (same-path path q.path at.1) b is (i == j) refl

  -- a path is that of a node just where the plan finds that node's number
  pub path-number : (i : ℕ) (p : PlanNode) (path : Path) → node_numbered plan i ≡ Some p → same_path p.path path ≡ is_number i (number_of plan path)
  path-number i p path planned = number-by i p path planned (number_of plan path) refl (same_path p.path path) refl
