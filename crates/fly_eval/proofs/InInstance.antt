-- The node that an instance has under an id is among the nodes of the instance.
use Rattle.std.proofs.Common.{◌≡◌, ℕ, ◌+◌, ◌-◌, ◌<◌, List, [], ◌∷◌, ◌++◌, length, take, get_or, position, Bool, true, Contains, Some, option_map, refl, sym, ◌∙◌, ap, subst, arith, length-append, ⊎_elim}
use Rattle.std.specs.List.{slice_get, enumerate_from}
use Rattle.std.proofs.lemmas.List.Quantifiers.{position-Some}
use Rattle.std.proofs.lemmas.Option.{none-some, slice_get_within, slice_get_cases, get_or_from_slice_get}
use Rattle.std.proofs.lemmas.Slice.Eq.{bytes_eq-Decides, slice_eq-Decides}
use Rattle.std.proofs.Math.Seq.{take-append_seam}
use Rattle.fly_types.specs.declared.text.Text.{Text}
use Rattle.fly_docs.specs.Plans.{PlanNode}
use Rattle.fly_graph.proofs.Members.{Contains-filter_from}
use Rattle.fly_state.specs.Plans.{RunPlan, Path, same_path, instance_of, nodes_in, number_in}
use Rattle.fly_state.proofs.Lists.{enumerated-at}
use Rattle.fly_state.proofs.OuterSteps.{same-path}

position-within : {X : Type 0} (p : X → Bool) (xs : List X) (i : ℕ) → position p xs ≡ Some i → i < length xs
position-within p [] i e = absurd (none-some i e)
position-within p (x ∷ xs) i e = (position-Some p (x ∷ xs) i x e).0

-- what stands at a place
there-at : {X : Type 0} (xs : List X) (i : ℕ) → i < length xs → (x : X) × (slice_get xs i ≡ Some x)
there-at xs i lt = ⊎_elim (λ h. (h.0, h.2)) (λ h. absurd (omega (arith, lt, h.0))) (slice_get_cases xs i).1

path-itself : (path : Path) → same_path path path ≡ true
path-itself path = (slice_eq-Decides bytes_eq-Decides path path (same_path path path) refl).1 refl

-- a path without its last id
without-last : (instance : Path) (id : Text) → take (length (instance ++ id ∷ []) - 1) (instance ++ id ∷ []) ≡ instance
without-last instance id =
    let long : length (instance ++ id ∷ []) - 1 ≡ length instance = omega (arith, length-append instance (id ∷ [])) in
    ap (λ n. take n (instance ++ id ∷ [])) long ∙ take-append_seam instance (id ∷ [])

at-number : (plan : RunPlan) (i : ℕ) (p : PlanNode) → slice_get plan.nodes i ≡ Some p → Contains (enumerate_from 0 plan.nodes) (i, p)
at-number plan i p there =
    let number : 0 + i ≡ i = omega arith in
    let at : slice_get (enumerate_from 0 plan.nodes) i ≡ Some (i, p) =
    enumerated-at 0 plan.nodes i ∙ ap (option_map (λ (x : PlanNode). (0 + i, x))) there ∙ ap (λ k. Some (k, p)) number in
    (i, slice_get_within (enumerate_from 0 plan.nodes) i (i, p) at, get_or_from_slice_get (enumerate_from 0 plan.nodes) i (i, p) (i, p) at)

pub in-instance : (plan : RunPlan) (instance : Path) (id : Text) (i : ℕ) → number_in plan instance id ≡ Some i
    → (p : PlanNode) × Contains (nodes_in plan instance) (i, p)
in-instance plan instance id i numbered =
    let path : Path = instance ++ id ∷ [] in
    let test : PlanNode → Bool = λ p. same_path path p.path in
    let there = there-at plan.nodes i (position-within test plan.nodes i numbered) in
    let p = there.0 in
    let found : test (get_or plan.nodes i p) ≡ true = (position-Some test plan.nodes i p numbered).1 in
    let passes : same_path path p.path ≡ true = subst (λ (q : PlanNode). test q ≡ true) (get_or_from_slice_get plan.nodes i p p there.1) found in
    let is : path ≡ p.path = same-path path p.path passes in
    let around : instance_of p ≡ instance = ap (λ (q : Path). take (length q - 1) q) (sym is) ∙ without-last instance id in (
      p,
      Contains-filter_from (λ (at : ℕ × PlanNode). same_path instance (instance_of at.1)) (enumerate_from 0 plan.nodes) (i, p)
          (at-number plan i p there.1)
          (ap (same_path instance) around ∙ path-itself instance),
    )
