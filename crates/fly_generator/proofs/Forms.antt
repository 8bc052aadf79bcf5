-- A generated bundle is in form, and is one of uncached tasks and task nodes.
use Rattle.std.proofs.Common.{◌≡◌, ℕ, ◌-◌, ◌^◌, ◌<◌, ◌≤◌, [], ◌∷◌, codes, pos, zero, suc, false, List, refl, sym, subst, arith}
use Rattle.std.specs.List.Sorted.{IsStrictlySortedBy}
use Rattle.fly_types.specs.declared.literals.Literal.{Literal, out-Literal}
use Rattle.fly_types.specs.declared.literals.Literal.TheVariants as literal
use Rattle.fly_types.specs.declared.literals.Literal.TheViews as literal_view
use Rattle.fly_docs.specs.declared.binding.Binding.{Binding}
use Rattle.fly_docs.specs.declared.binding.Bound.TheVariants as bound
use Rattle.fly_docs.specs.declared.binding.Bound.TheOpen.{Bound-F}
use Rattle.fly_docs.specs.declared.binding.Bound.TheViews as bound_view
use Rattle.fly_docs.specs.declared.binding.Bound.TheFolds.{every_made-Bound}
use Rattle.fly_docs.specs.declared.node.Node.{Node, out-Node}
use Rattle.fly_docs.specs.declared.node.Case.{Case}
use Rattle.fly_docs.specs.declared.node.Target.{Target, out-Target}
use Rattle.fly_docs.specs.declared.node.Target.TheVariants as target
use Rattle.fly_docs.specs.declared.node.Target.TheOpen.{Target-F, Node-F}
use Rattle.fly_docs.specs.declared.node.Target.TheViews as view
use Rattle.fly_docs.specs.declared.node.Target.TheFolds.{every-Target, every-Case, every-Node, every_made-Target, every_made-Node}
use Rattle.fly_docs.specs.declared.task.Task.{Task}
use Rattle.fly_docs.specs.Form.{IsNoContainer, IsBoundLayerInForm, IsBoundInForm, IsTargetLayerInForm, IsCaseLayerInForm, IsNodeLayerInForm, IsNodeInForm, IsTaskInForm, IsWorkflowInForm, IsBundleInForm}
use Rattle.fly_docs.specs.Interfaces.{AreInOrder}
use Rattle.fly_docs.specs.Readable.{IsTaskTarget, HasTaskNodes, IsReadable}
use Rattle.fly_generator.specs.Generated.{add_id, add_task, binding, above, sum_at, node_numbered, generated_workflow, generated}
use Rattle.fly_generator.proofs.Firsts.{each}
use Rattle.fly_generator.proofs.Lists.{all_of_one, all_of_two}
use Rattle.fly_generator.proofs.NodeIds.{ids_are}
use Rattle.fly_generator.proofs.Nodes.{runs_task}

-- ---- bindings

promise_in_form : (node var : List ℕ) → IsBoundInForm (bound.Promise node var)
promise_in_form node var =
    subst IsBoundInForm (bound_view.rolls-Promise node var)
    (every_made-Bound IsBoundLayerInForm (Bound-F.Promise node var) (Bound-F.Promise node var) refl tt)

scalar_in_form : (l : Literal) → IsNoContainer (out-Literal l) → IsBoundInForm (bound.Scalar l)
scalar_in_form l plain =
    subst IsBoundInForm (bound_view.rolls-Scalar l)
    (every_made-Bound IsBoundLayerInForm (Bound-F.Scalar l) (Bound-F.Scalar l) refl plain)

above_in_form : (i : ℕ) → IsBoundInForm (above i)
above_in_form zero = promise_in_form _ _
above_in_form (suc i) = promise_in_form _ _

number_in_form : (i : ℕ) → IsBoundInForm (bound.Scalar (literal.Integer (pos i)))
number_in_form i =
    scalar_in_form (literal.Integer (pos i)) (subst IsNoContainer (sym (literal_view.outs-Integer (pos i))) tt)

abbrev IsBindingInForm : Binding → Type 0
IsBindingInForm b = IsBoundInForm b.bound

-- ---- nodes

abbrev IsTargetInForm : Target → Type 0
IsTargetInForm = every-Target IsTargetLayerInForm IsCaseLayerInForm IsNodeLayerInForm

target_in_form : IsTargetInForm (target.Task add_id)
target_in_form =
    subst IsTargetInForm (view.rolls-Task add_id)
    (every_made-Target IsTargetLayerInForm IsCaseLayerInForm IsNodeLayerInForm (Target-F.Task add_id)
    (Target-F.Task add_id) refl tt)

abbrev BesideTarget : Type 0
BesideTarget = (t : Target) × every-Target IsTargetLayerInForm IsCaseLayerInForm IsNodeLayerInForm t

abbrev BesideCase : Type 0
BesideCase = (c : Case) × every-Case IsTargetLayerInForm IsCaseLayerInForm IsNodeLayerInForm c

abbrev BesideNode : Type 0
BesideNode = (n : Node) × every-Node IsTargetLayerInForm IsCaseLayerInForm IsNodeLayerInForm n

node_in_form : (i : ℕ) → i < 2 ^ 64 → IsNodeInForm (node_numbered i)
node_in_form i small =
    let n = node_numbered i in
    let beside : Node-F BesideTarget BesideCase BesideNode = record {
      id = n.id;
      timeout_ms = n.timeout_ms;
      retries = n.retries;
      inputs = n.inputs;
      upstream = n.upstream;
      target = (n.target, target_in_form);
    } in
    subst IsNodeInForm (view.roll-out-Node n)
    (every_made-Node IsTargetLayerInForm IsCaseLayerInForm IsNodeLayerInForm (out-Node n) beside refl
    (record {
      id = ids_are i small;
      retries = omega arith;
      inputs = all_of_two IsBindingInForm (binding (codes "x") (above i))
          (binding (codes "y") (bound.Scalar (literal.Integer (pos i))))
          (above_in_form i) (number_in_form i);
    }))

-- ---- documents

one_in_order : (name : List ℕ) → AreInOrder (name ∷ [])
unfolding IsStrictlySortedBy
one_in_order name = (tt, tt)

inputs_in_order : AreInOrder (codes "x" ∷ codes "y" ∷ [])
unfolding IsStrictlySortedBy
inputs_in_order = ((refl, tt), (tt, tt))

task_in_form : IsTaskInForm add_task
task_in_form = record {
  retries = omega arith;
  interface = record { inputs = inputs_in_order; outputs = one_in_order (codes "z") };
}

workflow_in_form : (count : ℕ) → count ≤ 2 ^ 64 → IsWorkflowInForm (generated_workflow count)
workflow_in_form count few = record {
  interface = record { inputs = one_in_order (codes "a"); outputs = one_in_order (codes "b") };
  nodes = each node_numbered count IsNodeInForm (λ i small. node_in_form i (omega arith));
  outputs = all_of_one IsBindingInForm (binding (codes "b") (sum_at (count - 1))) (promise_in_form _ _);
}

pub in_form : (count : ℕ) → count ≤ 2 ^ 64 → IsBundleInForm (generated count)
in_form count few = record {
  tasks = all_of_one IsTaskInForm add_task task_in_form;
  workflows = all_of_one IsWorkflowInForm (generated_workflow count) (workflow_in_form count few);
}

-- ---- task nodes

pub has_task_nodes : (count : ℕ) → HasTaskNodes (generated_workflow count)
has_task_nodes count =
    each node_numbered count (λ (n : Node). IsTaskTarget (out-Target n.target))
    (λ i small. subst IsTaskTarget (sym (runs_task i)) tt)

pub readable : (count : ℕ) → IsReadable (generated count)
readable count = record {
  uncached = all_of_one (λ (t : Task). t.cached ≡ false) add_task refl;
  plain = all_of_one HasTaskNodes (generated_workflow count) (has_task_nodes count);
}
