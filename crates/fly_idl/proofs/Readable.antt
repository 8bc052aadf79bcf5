-- A bundle in which nothing is found can be read: its tasks are not cached, and its nodes are task nodes.
use Rattle.std.proofs.Common.{◌≡◌, inl, inr, ℕ, Bool, true, false, List, [], ◌∷◌, None, if◌then◌else◌, refl, sym, ap, subst, ◌∙◌, codes}
use Rattle.std.specs.Prelude.{⊤}
use Rattle.std.specs.List.{AllByRecursion}
use Rattle.std.proofs.lemmas.List.Elements.{All-from_recursion}
use Rattle.serde_json.specs.Data.{Data, null, boolean, number, string, array, object, Members, no_members}
use Rattle.fly_docs.specs.declared.task.Task.{Task}
use Rattle.fly_docs.specs.declared.node.Node.{Node}
use Rattle.fly_docs.specs.declared.node.Target.{Target, out-Target}
use Rattle.fly_docs.specs.declared.node.Target.TheVariants as targets
use Rattle.fly_docs.specs.declared.node.Target.TheOpen.{Target-F}
use Rattle.fly_docs.specs.declared.node.Target.TheViews as views
use Rattle.fly_docs.specs.declared.names.Identifier.{Identifier}
use Rattle.fly_docs.specs.Readable.{IsTaskTarget, HasTaskNodes, IsReadable}
use Rattle.fly_schema.specs.declared.table.Level.TheVariants.{Same}
use Rattle.fly_schema.specs.declared.table.When.TheVariants.{True}
use Rattle.fly_schema.specs.declared.fault.DocKind.TheVariants.{LeftOut}
use Rattle.fly_schema.specs.Table.{message, one, list, optional, MessageRow}
use Rattle.fly_schema.specs.Lookups.{passes, is_true, value_at}
use Rattle.fly_schema.specs.Places.{Step, inside, fault_here}
use Rattle.fly_schema.specs.Faults.{fault_of, row_at, left_out_fault}
use Rattle.fly_schema.specs.Reports.{first_report}
use Rattle.fly_values.specs.Fields.{members_in, field, unless_null, truth_value, items_in, list_value}
use Rattle.fly_values.specs.Documents.{task_value, task_node_value, node_value, workflow_value, bundle_value}
use Rattle.fly_idl.specs.Rows.{plain, field_with, left_out, bundle_number, task_number, task_metadata_number, bundle_row, task_row, task_metadata_row, message_table, bundle_form}
use Rattle.fly_idl.proofs.TableRows.{has-bundle, has-task, has-task_metadata}
use Rattle.fly_idl.proofs.Ordered.{all-map}
use Rattle.fly_idl.proofs.Clear.{IsClear, value-field, field-clear, message-clear, items-clear}
use Rattle.fly_idl.proofs.Form.{unreported}

-- ---- task nodes

abbrev IsForTask : Target → Type 0
IsForTask t = IsTaskTarget (out-Target t)

for_task : (i : Identifier) → IsForTask (targets.Task i)
for_task i =
    subst IsForTask (views.rolls-Task i) (subst IsTaskTarget (sym (views.out-roll-Target (Target-F.Task i))) tt)

node-plain : (d : Data) → IsForTask (node_value d).target
unfolding node_value task_node_value
node-plain d = for_task _

workflow-plain : (d : Data) → HasTaskNodes (workflow_value d)
unfolding workflow_value
workflow-plain d =
    let nodes = field (codes "nodes") (members_in d) in
    All-from_recursion (λ (n : Node). IsForTask n.target) (list_value node_value nodes)
    (all-map (λ _. ⊤) (λ (n : Node). IsForTask n.target) node_value (λ x _. node-plain x) (items_in nodes)
    (any (items_in nodes)))
  where
    any : (ds : List Data) → AllByRecursion (λ _. ⊤) ds
    any [] = tt
    any (x ∷ ds) = (tt, any ds)

-- ---- tasks that are not cached

unless_refused : (b : Bool) (step : Step) → (if b then inside step (fault_here LeftOut) else None) ≡ None → b ≡ false
unless_refused true step e = cc
unless_refused false step e = refl

not_true : (d : Data) → passes is_true (unless_null d) ≡ false → truth_value d ≡ false
not_true null e = refl
not_true (boolean b) e = e
not_true (number n) e = refl
not_true (string s) e = refl
not_true (array ds) e = refl
not_true (object ms) e = refl

not_discoverable : (ms : Members) → left_out_fault (object ms) (left_out (plain (codes "discoverable")) True) ≡ None
    → truth_value (field (codes "discoverable") ms) ≡ false
not_discoverable ms e =
    let name = plain (codes "discoverable") in
    not_true (field (codes "discoverable") ms)
    (ap (passes is_true) (sym (value-field name ms refl)) ∙ unless_refused
    (passes is_true (value_at name (object ms))) _ e)

no_metadata : truth_value (field (codes "discoverable") no_members) ≡ false
unfolding field
no_metadata = refl

module _ (rows : List MessageRow) (has_bundle : row_at rows bundle_number ≡ bundle_row)
    (has_task : row_at rows task_number ≡ task_row) (has_metadata : row_at rows task_metadata_number ≡
    task_metadata_row) where
  metadata-uncached : (level : ℕ) (d : Data)
      → IsClear rows (record { shape = one; kind = message task_metadata_number; level = Same }) level d
      → truth_value (field (codes "discoverable") (members_in d)) ≡ false
  metadata-uncached level d (inl absent) =
      subst (λ x. truth_value (field (codes "discoverable") (members_in x)) ≡ false) (sym absent) no_metadata
  metadata-uncached level d (inr e) =
      let m = message-clear rows task_metadata_row task_metadata_number Same level d has_metadata refl e in
      not_discoverable (members_in d) m.left_out.1.0

  task-uncached : (d : Data) → fault_of rows d (record {
    shape = one;
    kind = message task_number;
    level = Same;
  }) 0 ≡ None
      → (task_value d).cached ≡ false
  unfolding task_value
  task-uncached d e =
      let ms = members_in d in
      let m = message-clear rows task_row task_number Same 0 d has_task refl e in
      metadata-uncached 0 (field (codes "metadata") ms)
      (field-clear rows ms 0 (field_with optional (plain (codes "metadata")) one (message task_metadata_number)
      Same) refl
      m.parts.1.0)

  bundle-readable_by : (d : Data) → fault_of rows d bundle_form 0 ≡ None → IsReadable (bundle_value d)
  unfolding bundle_value
  bundle-readable_by d e =
      let ms = members_in d in
      let m = message-clear rows bundle_row bundle_number Same 0 d has_bundle refl e in
      let tasks = field (codes "tasks") ms in
      let workflows = field (codes "workflows") ms in
      let clear = field-clear rows ms 0 (field_with optional (plain (codes "tasks")) list (message task_number)
      Same) refl
      m.parts.0 in record {
        uncached = All-from_recursion (λ (t : Task). t.cached ≡ false) (list_value task_value tasks)
            (all-map _ (λ (t : Task). t.cached ≡ false) task_value task-uncached (items_in tasks)
            (items-clear rows (message task_number) Same 0 tasks clear));
        plain = All-from_recursion HasTaskNodes (list_value workflow_value workflows)
            (all-map (λ _. ⊤) HasTaskNodes workflow_value (λ x _. workflow-plain x) (items_in workflows)
            (any (items_in workflows)));
      }
    where
      any : (ds : List Data) → AllByRecursion (λ _. ⊤) ds
      any [] = tt
      any (x ∷ ds) = (tt, any ds)

pub bundle-readable : (d : Data) → first_report message_table bundle_form d ≡ None → IsReadable (bundle_value d)
bundle-readable d e =
    bundle-readable_by message_table has-bundle has-task has-task_metadata d
    (unreported (fault_of message_table d bundle_form 0) e)
