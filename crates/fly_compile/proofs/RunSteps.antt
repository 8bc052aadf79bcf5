-- The faults of a bundle and of a run, by places; and the form of what is reached.
use Rattle.std.proofs.Common.{◌≡◌, ℕ, ◌==◌, true, false, List, [], ◌∷◌, map, filter, length, Contains, Some, None, refl, sym, ap, ◌∙◌, subst, arith}
use Rattle.std.specs.List.{All, list_any, flat_map, enumerate_from}
use Rattle.std.specs.Option.{option_map}
use Rattle.std.specs.Borrow.{Bor}
use Rattle.std.proofs.lemmas.Bool.{true≢false, eqb-true}
use Rattle.std.proofs.lemmas.List.Elements.{All-contains}
use Rattle.fly_graph.proofs.Members.{Contains-filter}
use Rattle.std.proofs.lemmas.List.Folds.{flat_map-map}
use Rattle.fly_types.specs.declared.text.Text.{Text}
use Rattle.fly_docs.specs.declared.names.Identifier.{Identifier}
use Rattle.fly_docs.specs.declared.task.Task.{Task}
use Rattle.fly_docs.specs.declared.workflow.Workflow.{Workflow}
use Rattle.fly_docs.specs.declared.workflow.Bundle.{Bundle}
use Rattle.fly_docs.specs.declared.closure.Closure.{Closure}
use Rattle.fly_docs.specs.Closures.{closure_of, closure_with}
use Rattle.fly_docs.specs.TypedClosures.{IsTypedClosure}
use Rattle.fly_docs.specs.Form.{IsBundleInForm, IsWorkflowInForm, IsTaskInForm}
use Rattle.fly_docs.specs.Reaching.{reached_places, reached_workflows, run_task_places, reached_tasks}
use Rattle.fly_closures.specs.Laws.{ClosuresAreTyped}
use Rattle.fly_links.specs.Directory.{repeated_places}
use Rattle.fly_links.specs.Reach.{recursive_places}
use Rattle.fly_faults.specs.declared.fault.Code.TheVariants as code
use Rattle.fly_faults.specs.declared.fault.Fault.{Fault}
use Rattle.fly_faults.specs.Places.{element_place, workflow_name, fault_at}
use Rattle.fly_faults.specs.FaultList.{is_repeated, repeated_faults, faults_of_workflow, template_faults, recursive_faults, or_limits, faults_of}
use Rattle.fly_faults.proofs.FaultListLaw.{no_faults_exactly_where_typed}
use Rattle.fly_faults.proofs.Lists.{all_of, contains_at, in_map, map_none, number_at, of_map}
use Rattle.fly_faults.proofs.Passes.{map-map}
use Rattle.fly_faults.proofs.RunFaultLemmas.{of_reached_workflows, reached_in}

-- ---- ids

pub repeated_by : (list : Text) (ids : List Identifier) (places : List ℕ) → places ≡ repeated_places ids
    → map (λ i. fault_at code.DuplicateId (element_place list i)) places ≡ repeated_faults list ids
repeated_by list ids places e =
    let each = λ (i : ℕ). fault_at code.DuplicateId (element_place list i) in
    ap (map each) e ∙ map-map each (λ (at : ℕ × Identifier). at.0) (filter (λ (at : ℕ × Identifier). is_repeated ids at.0 at.1) (enumerate_from 0 ids))

-- ---- limits

pub or_some : (b : Bundle) (faults : List Fault) → (faults ≡ [] → ⊥) → or_limits b faults ≡ faults
or_some b [] some = absurd (some refl)
or_some b (fault ∷ faults) some = refl

-- the faults of the workflows that reach themselves, of which there are some
pub recursive_by : (b : Bundle) (xs : List (ℕ × Bor Workflow)) → map (λ at. (at.0, at.1.now)) xs ≡ recursive_places b → (length xs == 0) ≡ false
    → map (λ (at : ℕ × Bor Workflow). fault_at code.RecursiveWorkflow (workflow_name at.1.now)) xs ≡ or_limits b (recursive_faults b)
recursive_by b xs e some =
    let each = λ (at : ℕ × Workflow). fault_at code.RecursiveWorkflow (workflow_name at.1) in
    let all = λ (at : ℕ × Bor Workflow). fault_at code.RecursiveWorkflow (workflow_name at.1.now) in
    let same : map all xs ≡ recursive_faults b = sym (map-map each (λ (at : ℕ × Bor Workflow). (at.0, at.1.now)) xs) ∙ ap (map each) e in
    same ∙ sym (or_some b (recursive_faults b) (λ none. true≢false (sym (ap (λ (ys : List (ℕ × Bor Workflow)). length ys == 0) (map_none all xs (same ∙ none))) ∙ some)))

-- ---- form

listed_workflows : (b : Bundle) (xs : List (ℕ × Bor Workflow)) → map (λ at. (at.0, at.1.now)) xs ≡ reached_places b
    → map (λ (at : ℕ × Bor Workflow). at.1.now) xs ≡ reached_workflows b
listed_workflows b xs e =
    sym (map-map (λ (at : ℕ × Workflow). at.1) (λ (at : ℕ × Bor Workflow). (at.0, at.1.now)) xs) ∙ ap (map (λ (at : ℕ × Workflow). at.1)) e

pub workflows_in_form : (b : Bundle) → IsBundleInForm b → (xs : List (ℕ × Bor Workflow)) → map (λ at. (at.0, at.1.now)) xs ≡ reached_places b
    → All (λ (at : ℕ × Bor Workflow). IsWorkflowInForm at.1.now) xs
workflows_in_form b form xs e =
    all_of (λ (at : ℕ × Bor Workflow). IsWorkflowInForm at.1.now) xs (λ at has.
    let there : Contains (reached_workflows b) at.1.now =
    subst (λ ws. Contains ws at.1.now) (listed_workflows b xs e) (in_map (λ (p : ℕ × Bor Workflow). p.1.now) xs at has) in
    All-contains IsWorkflowInForm b.workflows at.1.now form.workflows (reached_in b at.1.now (of_reached_workflows b at.1.now there)))

pub tasks_in_form : (b : Bundle) → IsBundleInForm b → (xs : List (ℕ × Bor Task)) → map (λ at. at.1.now) xs ≡ reached_tasks b
    → All (λ (at : ℕ × Bor Task). IsTaskInForm at.1.now) xs
tasks_in_form b form xs e =
    all_of (λ (at : ℕ × Bor Task). IsTaskInForm at.1.now) xs (λ at has.
    let there : Contains (reached_tasks b) at.1.now =
    subst (λ ts. Contains ts at.1.now) e (in_map (λ (p : ℕ × Bor Task). p.1.now) xs at has) in
    let test = λ (p : ℕ × Task). list_any (λ place. place == p.0) (run_task_places b) in
    let picked = of_map (λ (p : ℕ × Task). p.1) (filter test (enumerate_from 0 b.tasks)) at.1.now there in
    let numbered = (Contains-filter test (enumerate_from 0 b.tasks) picked.0 picked.1).0 in
    All-contains IsTaskInForm b.tasks at.1.now form.tasks
    (contains_at b.tasks picked.0.0 at.1.now (number_at b.tasks picked.0 numbered ∙ ap Some picked.2)))

-- ---- the faults of what is reached

pub faults_of_reached : (b : Bundle) (xs : List (ℕ × Bor Workflow)) → map (λ at. (at.0, at.1.now)) xs ≡ reached_places b
    → flat_map (λ (at : ℕ × Bor Workflow). faults_of_workflow b at.1.now) xs ≡ flat_map (faults_of_workflow b) (reached_workflows b)
faults_of_reached b xs e =
    sym (flat_map-map (faults_of_workflow b) (λ (at : ℕ × Bor Workflow). at.1.now) xs) ∙ ap (flat_map (faults_of_workflow b)) (listed_workflows b xs e)

pub faults_of_tasks : (b : Bundle) (xs : List (ℕ × Bor Task)) → map (λ at. at.1.now) xs ≡ reached_tasks b
    → flat_map (λ (at : ℕ × Bor Task). template_faults at.1.now) xs ≡ flat_map template_faults (reached_tasks b)
faults_of_tasks b xs e = sym (flat_map-map template_faults (λ (at : ℕ × Bor Task). at.1.now) xs) ∙ ap (flat_map template_faults) e

-- ---- the closure

pub no_items : {X : Type 0} (xs : List X) (n : ℕ) → n ≡ length xs → (n == 0) ≡ true → xs ≡ []
no_items [] n e none = refl
no_items (x ∷ xs) n e none = let is : n ≡ 0 = eqb-true n 0 none in absurd (omega arith)

none_some : {X : Type 0} (x : X) → None ≡ Some x → ⊥
none_some x e = cc

-- a bundle without a fault has a closure
pub has_closure : (b : Bundle) → IsBundleInForm b → faults_of b ≡ [] → closure_of b ≡ None → ⊥
has_closure b form e none =
    let typed = ((no_faults_exactly_where_typed b form).0 e).0 in
    none_some (closure_with b typed.primary) (sym none ∙ ap (option_map (closure_with b)) typed.named)

-- its closure's templates are typed and acyclic
pub closure_is_typed : ClosuresAreTyped → (b : Bundle) → IsBundleInForm b → faults_of b ≡ [] → (c : Closure)
    → closure_of b ≡ Some c → IsTypedClosure c
closure_is_typed law b form e c is =
    let both = (no_faults_exactly_where_typed b form).0 e in
    law b c both.0 both.1 is
