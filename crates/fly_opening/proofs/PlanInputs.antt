-- In the plan of a bundle in form, the names of the inputs rise.
use Rattle.std.proofs.Common.{◌≡◌, Bool, true, false, cond, List, [], ◌∷◌, find, All, Option, Some, None, refl, sym, ap, subst}
use Rattle.std.specs.Prelude.{option_map}
use Rattle.std.proofs.lemmas.List.Elements.{All-head, All-tail}
use Rattle.std.proofs.lemmas.Option.{none-some, same_Some}
use Rattle.fly_types.specs.Lookup.{AreVariablesSorted}
use Rattle.fly_docs.specs.declared.closure.Closure.{Closure}
use Rattle.fly_docs.specs.declared.workflow.Bundle.{Bundle}
use Rattle.fly_docs.specs.declared.workflow.Workflow.{Workflow}
use Rattle.fly_docs.specs.Closures.{bundle_of, closure_of, closure_with}
use Rattle.fly_docs.specs.Form.{IsBundleInForm, IsWorkflowInForm}
use Rattle.fly_docs.specs.Lookups.{is_same, primary_of}
use Rattle.fly_state.specs.Plans.{plan_for}
use Rattle.fly_state.proofs.PlanLemmas.{is_same-itself}
use Rattle.fly_opening.specs.Submissions.{workflow_inputs}
use Rattle.fly_opening.proofs.Openable.{inputs-of}

-- what is found has what all elements have
found-holds : {X : Type 0} (P : X → Type 0) (p : X → Bool) (xs : List X) (x : X) → find p xs ≡ Some x → All P xs
    → P x
found-holds P p [] x found each = absurd (none-some x found)
found-holds P p (y ∷ ys) x found each =
    elim (p y) as (λ b. cond b (Some y) (find p ys) ≡ Some x → P x) [
      | true ↦ λ here. subst P (same_Some y x here) (All-head P y ys each)
      | false ↦ λ rest. found-holds P p ys x rest (All-tail P y ys each)
    ] found

-- the primary workflow of a closure
primary-there : (c : Closure) → primary_of (bundle_of c) ≡ Some c.primary
primary-there c =
    ap (λ b. cond b (Some c.primary) (find (λ (w : Workflow). is_same w.id c.primary.id) c.subs))
    (is_same-itself c.primary.id)

-- the primary workflow of a bundle's closure is the bundle's
primary-in-form : (b : Bundle) (c : Closure) → IsBundleInForm b → closure_of b ≡ Some c → IsWorkflowInForm c.primary
primary-in-form b c form is = by (primary_of b) (λ w found. found-holds IsWorkflowInForm
    (λ (x : Workflow). is_same x.id b.primary) b.workflows w found form.workflows) is
  where
    by : (o : Option Workflow) → ((w : Workflow) → o ≡ Some w → IsWorkflowInForm w)
        → option_map (closure_with b) o ≡ Some c → IsWorkflowInForm c.primary
    by None each made = absurd (none-some c made)
    by (Some w) each made =
        subst IsWorkflowInForm (ap (λ (d : Closure). d.primary) (same_Some (closure_with b w) c made)) (each w refl)

pub inputs-sorted : (b : Bundle) (c : Closure) → IsBundleInForm b → closure_of b ≡ Some c
    → AreVariablesSorted (workflow_inputs (plan_for c))
inputs-sorted b c form is =
    subst AreVariablesSorted (sym (inputs-of (plan_for c) c.primary (primary-there c)))
    (primary-in-form b c form is).interface.inputs
