-- The closure of a bundle that can be read has a plan that can be driven.
use Rattle.std.proofs.Common.{◌≡◌, ℕ, ◌+◌, ◌≤◌, ◌==◌, false, Bool, List, [], ◌∷◌, map, filter, length, slice_get, All, Contains, Option, Some, option_map, refl, sym, ap, ◌∙◌, subst, inl}
use Rattle.std.specs.List.{enumerate_from, list_any}
use Rattle.std.proofs.lemmas.List.Elements.{All-nil, All-cons, All-head, All-tail, All-map, All-filter, All-contains}
use Rattle.fly_docs.specs.declared.closure.Closure.{Closure}
use Rattle.fly_docs.specs.declared.node.Node.{Node}
use Rattle.fly_docs.specs.declared.node.Target.TheFolds.{every_here-Node}
use Rattle.fly_docs.specs.declared.task.Task.{Task}
use Rattle.fly_docs.specs.declared.workflow.Bundle.{Bundle}
use Rattle.fly_docs.specs.declared.workflow.Workflow.{Workflow}
use Rattle.fly_docs.specs.Closures.{closure_of, closure_with}
use Rattle.fly_docs.specs.Form.{IsTargetLayerInForm, IsCaseLayerInForm, IsNodeLayerInForm, IsNodeInForm, IsWorkflowInForm, IsBundleInForm}
use Rattle.fly_docs.specs.Lookups.{is_same, primary_of}
use Rattle.fly_docs.specs.Names.{IsId}
use Rattle.fly_docs.specs.Readable.{HasTaskNodes, IsReadable}
use Rattle.fly_docs.specs.Reaching.{primary_place, IsReached, reached_tasks, run_task_places}
use Rattle.fly_docs.specs.Typed.{IsTyped}
use Rattle.fly_docs.specs.TypedClosures.{IsTypedClosure}
use Rattle.fly_faults.proofs.Lists.{contains_at, find_position}
use Rattle.fly_state.specs.PlanTables.{IsPlannable}
use Rattle.fly_state.specs.Plans.{plan_for}
use Rattle.fly_work.specs.Drives.{IsUncached}
use Rattle.fly_opening.proofs.PlanInputs.{inputs-sorted}
use Rattle.fly_app.specs.Compiling.{IsRunnable}

-- ---- lists

-- what holds of each holds of each with its number
all-numbered : {X : Type 0} (P : X → Type 0) (n : ℕ) (xs : List X) → All P xs
    → All (λ (at : ℕ × X). P at.1) (enumerate_from n xs)
all-numbered P n [] h = All-nil (λ at. P at.1)
all-numbered P n (x ∷ xs) h =
    All-cons (λ at. P at.1) (n, x) (enumerate_from (n + 1) xs) (All-head P x xs h)
    (all-numbered P (n + 1) xs (All-tail P x xs h))

all-more : {X : Type 0} (P Q : X → Type 0) (xs : List X) → ((x : X) → P x → Q x) → All P xs → All Q xs
all-more P Q [] f h = All-nil Q
all-more P Q (x ∷ xs) f h = All-cons Q x xs (f x (All-head P x xs h)) (all-more P Q xs f (All-tail P x xs h))

-- ---- the primary workflow

-- a node in form has an id as its name
node-id : (n : Node) → IsNodeInForm n → IsId n.id
node-id n form = (every_here-Node IsTargetLayerInForm IsCaseLayerInForm IsNodeLayerInForm n form).id

module _ (b : Bundle) (form : IsBundleInForm b) (readable : IsReadable b) (typed : IsTyped b) where
  primary-place : (i : ℕ) × (primary_place b ≡ Some i) × (slice_get b.workflows i ≡ Some typed.primary)
  primary-place = find_position (λ (w : Workflow). is_same w.id b.primary) b.workflows typed.primary typed.named

  primary-there : Contains b.workflows typed.primary
  primary-there = contains_at b.workflows primary-place.0 typed.primary primary-place.2

  primary-reached : IsReached b typed.primary
  primary-reached =
      record {
        place = primary-place.0;
        there = primary-place.2;
        reached =
            (primary-place.0, primary-place.1, inl refl);
      }

  plannable : IsPlannable (closure_with b typed.primary)
  plannable = record {
    plain = All-contains HasTaskNodes b.workflows typed.primary readable.plain primary-there;
    ids = all-more IsNodeInForm (λ (n : Node). IsId n.id) typed.primary.nodes node-id
        (All-contains IsWorkflowInForm b.workflows typed.primary form.workflows primary-there).nodes;
    few = (typed.typed typed.primary primary-reached).few;
  }

  -- ---- the tasks that are run

  -- a node runs the task at this place
  abbrev is_run : ℕ × Task → Bool
  is_run at = list_any (λ place. place == at.0) (run_task_places b)

  uncached : All (λ (t : Task). t.cached ≡ false) (reached_tasks b)
  uncached =
      let P : Task → Type 0 = λ t. t.cached ≡ false in
      All-map P (λ (at : ℕ × Task). at.1) (filter is_run (enumerate_from 0 b.tasks))
      (All-filter is_run (λ (at : ℕ × Task). P at.1) (enumerate_from 0 b.tasks)
      (all-numbered P 0 b.tasks readable.uncached))

  -- the closure is that of the primary workflow
  closure-is : (c : Closure) → closure_of b ≡ Some c → closure_with b typed.primary ≡ c
  closure-is c is =
      let both : Some (closure_with b typed.primary) ≡ Some c = ap (option_map (closure_with b)) (sym typed.named)
      ∙ is in cc both

pub runnable : (b : Bundle) (c : Closure) → IsBundleInForm b → IsReadable b → IsTyped b → closure_of b ≡ Some c
    → IsTypedClosure c → IsRunnable c
runnable b c form readable typed is closed =
    let same : closure_with b typed.primary ≡ c = closure-is b form readable typed c is in
    record {
      typed = closed;
      plannable = subst IsPlannable same (plannable b form readable typed);
      uncached = subst (λ (d : Closure). IsUncached (plan_for d)) same (uncached b form readable typed);
      sorted = inputs-sorted b c form is;
    }
