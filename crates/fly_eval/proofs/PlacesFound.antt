-- What is recorded of a node, by its place in the tables.
use Rattle.std.proofs.Common.{◌≡◌, ℕ, ◌==◌, Bool, ◌&&◌, List, map, position, Option, Some, None, option_map, Ordering, Less, Equal, Greater, is_eq, nat_cmp, refl, sym, ◌∙◌, ap, arith, ⊎_elim}
use Rattle.std.specs.Cmp.{nat_cmp_is}
use Rattle.std.specs.List.{slice_get}
use Rattle.std.specs.Option.{option_cmp}
use Rattle.std.specs.Ordering.{ordering_then}
use Rattle.std.proofs.lemmas.Bool.{cases_order, eq-eqb, ne_eqb}
use Rattle.fly_types.specs.declared.literals.LiteralMap.{LiteralMap}
use Rattle.fly_docs.specs.declared.attempt_name.AttemptName.{AttemptName}
use Rattle.fly_docs.specs.declared.workflow.Workflow.{Workflow}
use Rattle.fly_docs.specs.Plans.{PlanNode}
use Rattle.fly_policy.specs.declared.outcome.Outcome.{Outcome}
use Rattle.fly_state.specs.PlanTables.{IsOuterPlan}
use Rattle.fly_state.specs.Plans.{RunPlan, Path, same_path, number_of, node_numbered}
use Rattle.fly_state.proofs.PlaceLemmas.{position_alike, position_map, find_at_place, find_nowhere}
use Rattle.fly_state.proofs.PlanLemmas.{and-true, and-false}
use Rattle.fly_eval.specs.declared.results.Results.{Results}
use Rattle.fly_eval.specs.declared.results.Hits.{Hits}
use Rattle.fly_eval.specs.Evaluation.{node_slot}
use Rattle.fly_eval.specs.Results.{is_attempt_of, result_of, hit_of}
use Rattle.fly_eval.specs.Tables.{key_cmp, attempt_key}
use Rattle.fly_eval.proofs.PathNumbers.{is_number, path-number}

-- ---- keys

tied : (i j : ℕ) → is_eq (nat_cmp i j) ≡ (i == j)
tied i j =
    ⊎_elim (λ same. ap is_eq (sym (nat_cmp_is i j Equal same)) ∙ sym (eq-eqb i j same))
    (⊎_elim (λ lt. ap is_eq (sym (nat_cmp_is i j Less lt)) ∙ sym (ne_eqb i j (λ e. omega (arith, e, lt))))
    (λ gt. ap is_eq (sym (nat_cmp_is i j Greater gt)) ∙ sym (ne_eqb i j (λ e. omega (arith, e, gt)))))
    (cases_order i j)

tied_then : (a b : Ordering) → is_eq (ordering_then a b) ≡ (is_eq a && is_eq b)
tied_then Less b = refl
tied_then Equal b = refl
tied_then Greater b = refl

-- the keys of lists, by their elements
pub keys-placed : {X K : Type 0} (cmp : K → K → Ordering) (f : X → K) (keys : List K) (xs : List X) → keys ≡ map f xs → (key : K)
    → position (λ k. is_eq (cmp key k)) keys ≡ position (λ x. is_eq (cmp key (f x))) xs
keys-placed cmp f keys xs same key = ap (position (λ k. is_eq (cmp key k))) same ∙ position_map (λ k. is_eq (cmp key k)) f xs

module _ (plan : RunPlan) (w : Workflow) (outer : IsOuterPlan plan w) (i : ℕ) (p : PlanNode) (planned : node_numbered plan i ≡ Some p) where
  number-tied : (path : Path) → is_eq (option_cmp nat_cmp (Some i) (number_of plan path)) ≡ same_path p.path path
  number-tied path = by (number_of plan path) ∙ sym (path-number plan w outer i p path planned)
    where
      by : (o : Option ℕ) → is_eq (option_cmp nat_cmp (Some i) o) ≡ is_number i o
      by None = refl
      by (Some j) = tied i j

  -- ---- attempts

  module _ (a : ℕ) where
    own-tied : (path : Path) (attempt : ℕ) → is_eq (option_cmp key_cmp (Some (i, a)) (option_map (λ j. (j, attempt)) (number_of plan path)))
        ≡ same_path p.path path && (a == attempt)
    own-tied path attempt =
        by (number_of plan path) ∙ ap (λ b. b && (a == attempt)) (sym (path-number plan w outer i p path planned))
      where
        by : (o : Option ℕ) → is_eq (option_cmp key_cmp (Some (i, a)) (option_map (λ j. (j, attempt)) o)) ≡ is_number i o && (a == attempt)
        by None = refl
        by (Some j) = tied_then (nat_cmp i j) (nat_cmp a attempt) ∙ (λ k. tied i j k && tied a attempt k)

    abbrev test : AttemptName × Outcome → Bool
    test r = is_eq (option_cmp key_cmp (Some (i, a)) (attempt_key plan r.0))

    name-tied : (name : AttemptName) → is_eq (option_cmp key_cmp (Some (i, a)) (attempt_key plan name)) ≡ is_attempt_of (node_slot p) a name
    name-tied name = by name.item refl
      where
        by : (o : Option ℕ) → name.item ≡ o
            → is_eq (option_cmp key_cmp (Some (i, a)) (attempt_key plan name)) ≡ is_attempt_of (node_slot p) a name
        by None is = rw is (own-tied name.path name.attempt ∙ ap (λ b. b && (a == name.attempt)) (sym (and-true (same_path p.path name.path))))
        by (Some item) is = rw is (sym (ap (λ b. b && (a == name.attempt)) (and-false (same_path p.path name.path))))

    pub outcome-nowhere : (results : Results) → position test results.list ≡ None → None ≡ result_of results (node_slot p) a
    outcome-nowhere results none =
        let own : AttemptName × Outcome → Bool = λ r. is_attempt_of (node_slot p) a r.0 in
        sym (ap (option_map (λ (r : AttemptName × Outcome). r.1))
        (find_nowhere own results.list (sym (position_alike test own results.list (λ r. name-tied r.0)) ∙ none)))

    pub outcome-there : (results : Results) (k : ℕ) → position test results.list ≡ Some k
        → option_map (λ (r : AttemptName × Outcome). r.1) (slice_get results.list k) ≡ result_of results (node_slot p) a
    outcome-there results k at =
        let own : AttemptName × Outcome → Bool = λ r. is_attempt_of (node_slot p) a r.0 in
        sym (ap (option_map (λ (r : AttemptName × Outcome). r.1))
        (find_at_place own results.list k (sym (position_alike test own results.list (λ r. name-tied r.0)) ∙ at)))

  -- ---- the catalog's answers

  abbrev has_path : Path × Option LiteralMap → Bool
  has_path h = is_eq (option_cmp nat_cmp (Some i) (number_of plan h.0))

  pub answer-nowhere : (hits : Hits) → position has_path hits.list ≡ None → None ≡ hit_of hits p.path
  answer-nowhere hits none =
      let own : Path × Option LiteralMap → Bool = λ h. same_path p.path h.0 in
      sym (ap (option_map (λ (h : Path × Option LiteralMap). h.1))
      (find_nowhere own hits.list (sym (position_alike has_path own hits.list (λ h. number-tied h.0)) ∙ none)))

  pub answer-there : (hits : Hits) (k : ℕ) → position has_path hits.list ≡ Some k
      → option_map (λ (h : Path × Option LiteralMap). h.1) (slice_get hits.list k) ≡ hit_of hits p.path
  answer-there hits k at =
      let own : Path × Option LiteralMap → Bool = λ h. same_path p.path h.0 in
      sym (ap (option_map (λ (h : Path × Option LiteralMap). h.1))
      (find_at_place own hits.list k (sym (position_alike has_path own hits.list (λ h. number-tied h.0)) ∙ at)))
