-- A bundle that was read, and in which nothing is found, is in form.
use Rattle.std.proofs.Common.{◌≡◌, ℕ, ◌≤◌, Bool, true, false, cond, nat_le, List, [], ◌∷◌, map, Option, Some, None, option_map, nat_cmp, refl, sym, ap, subst, arith, codes}
use Rattle.std.specs.List.{AllByRecursion, All}
use Rattle.std.specs.List.Sorted.{IsStrictlySortedBy}
use Rattle.std.specs.Cmp.Lexicographic.{slice_cmp}
use Rattle.std.proofs.lemmas.Bool.{leb-true}
use Rattle.std.proofs.lemmas.List.Elements.{All-from_recursion}
use Rattle.serde_json.specs.Data.{Data, number, string, null, boolean, array, object}
use Rattle.serde_json.specs.Find.{as_u64}
use Rattle.serde_json.specs.Read.{read}
use Rattle.fly_scalars.specs.Whole.{u32_of}
use Rattle.fly_docs.specs.declared.names.Identifier.{Identifier}
use Rattle.fly_docs.specs.declared.node.Node.{Node, out-Node}
use Rattle.fly_docs.specs.declared.node.Case.{Case}
use Rattle.fly_docs.specs.declared.node.Target.{Target}
use Rattle.fly_docs.specs.declared.node.Target.TheVariants as targets
use Rattle.fly_docs.specs.declared.node.Target.TheOpen.{Target-F, Node-F}
use Rattle.fly_docs.specs.declared.node.Target.TheViews as views
use Rattle.fly_docs.specs.declared.node.Target.TheFolds.{every-Target, every-Case, every-Node, every_made-Target, every_made-Node}
use Rattle.fly_docs.specs.Interfaces.{names_of, AreInOrder}
use Rattle.fly_docs.specs.Form.{most_retries, HasNamesInOrder, AreBindingsInForm, IsTargetLayerInForm, IsCaseLayerInForm, IsNodeLayerInForm, IsNodeInForm, IsTaskInForm, IsWorkflowInForm, IsBundleInForm}
use Rattle.fly_docs.specs.Names.{IsId}
use Rattle.fly_schema.specs.declared.table.Level.TheVariants.{Same}
use Rattle.fly_schema.specs.Table.{message, one, list, optional, Forms, MessageRow}
use Rattle.fly_schema.specs.Faults.{fault_of, row_at}
use Rattle.fly_schema.specs.Reports.{report_of, first_report}
use Rattle.fly_schema.specs.Places.{Fault}
use Rattle.fly_values.specs.Fields.{members_in, field, text_value, items_in, entries_of, list_value}
use Rattle.fly_values.specs.Scalars.{at_most, whole_value}
use Rattle.fly_values.specs.Types.{variable_value, variables_value, interface_value}
use Rattle.fly_values.specs.Documents.{retries_value, task_value, task_node_value, node_value, workflow_value, bundle_value}
use Rattle.fly_idl.specs.Rows.{plain, field_with, id, id_form, bundle_number, workflow_number, node_number, bundle_row, workflow_row, node_row, message_table, bundle_form}
use Rattle.fly_idl.proofs.TableRows.{has-bundle, has-workflow, has-node}
use Rattle.fly_idl.proofs.Ordered.{IsOrdered, members_ordered, keys_ordered, field_ordered, items_ordered, ordered-read, all-map}
use Rattle.fly_idl.proofs.Clear.{IsClear, field-clear, required-clear, message-clear, items-clear, text-clear}
use Rattle.fly_idl.proofs.Ids.{id-fits}
use Rattle.fly_idl.proofs.Bounds.{bindings-form}

-- ---- retries

kept_below : (n most : ℕ) (b : Bool) → nat_le n most ≡ b → cond b n 0 ≤ most
kept_below n most true e = leb-true n most e
kept_below n most false e = omega arith

at_most-below : (most : ℕ) (o : Option ℕ) → at_most most o ≤ most
at_most-below most None = omega arith
at_most-below most (Some n) = kept_below n most (nat_le n most) refl

whole-below : (most : ℕ) (d : Data) → whole_value most d ≤ most
whole-below most null = omega arith
whole-below most (boolean b) = omega arith
whole-below most (number n) = at_most-below most (as_u64 n)
whole-below most (string s) = at_most-below most (u32_of s)
whole-below most (array ds) = omega arith
whole-below most (object ms) = omega arith

retries-below : (d : Data) → retries_value d ≤ most_retries
unfolding retries_value
retries-below d = whole-below most_retries (field (codes "retries") (members_in d))

-- ---- interfaces

names-variables : (es : List (List ℕ × Data)) → names_of (map variable_value es) ≡ map (λ e. e.0) es
unfolding variable_value
names-variables [] = refl
names-variables (e ∷ es) = ap (λ rest. e.0 ∷ rest) (names-variables es)

variables-form : (d : Data) → IsOrdered d → AreInOrder (names_of (variables_value d))
unfolding variables_value
variables-form d h =
    let inside = field (codes "variables") (members_in d) in
    subst (IsStrictlySortedBy (slice_cmp nat_cmp)) (sym (names-variables (entries_of (members_in inside))))
    (keys_ordered inside (field_ordered (codes "variables") (members_in d) (members_ordered d h)))

interface-form : (d : Data) → IsOrdered d → HasNamesInOrder (interface_value d)
unfolding interface_value
interface-form d h =
    let ms = members_ordered d h in record {
      inputs = variables-form (field (codes "inputs") (members_in d)) (field_ordered (codes "inputs")
          (members_in d) ms);
      outputs = variables-form (field (codes "outputs") (members_in d))
          (field_ordered (codes "outputs") (members_in d) ms);
    }

-- ---- tasks

task-form : (d : Data) → IsOrdered d → IsTaskInForm (task_value d)
unfolding task_value
task-form d h = record {
  retries = retries-below _;
  interface = interface-form (field (codes "interface") (members_in d))
      (field_ordered (codes "interface") (members_in d) (members_ordered d h));
}

-- ---- nodes

abbrev IsTargetInForm : Target → Type 0
IsTargetInForm = every-Target IsTargetLayerInForm IsCaseLayerInForm IsNodeLayerInForm

task_target-form : (i : Identifier) → IsTargetInForm (targets.Task i)
task_target-form i =
    subst IsTargetInForm (views.rolls-Task i)
    (every_made-Target IsTargetLayerInForm IsCaseLayerInForm IsNodeLayerInForm (Target-F.Task i)
    (Target-F.Task i) refl tt)

abbrev BesideTarget : Type 0
BesideTarget = (t : Target) × every-Target IsTargetLayerInForm IsCaseLayerInForm IsNodeLayerInForm t

abbrev BesideCase : Type 0
BesideCase = (c : Case) × every-Case IsTargetLayerInForm IsCaseLayerInForm IsNodeLayerInForm c

abbrev BesideNode : Type 0
BesideNode = (n : Node) × every-Node IsTargetLayerInForm IsCaseLayerInForm IsNodeLayerInForm n

made-form : (n : Node) → IsId n.id → n.retries ≤ most_retries → AreBindingsInForm n.inputs → IsTargetInForm n.target
    → IsNodeInForm n
made-form n named few bound target =
    let beside : Node-F BesideTarget BesideCase BesideNode = record {
      id = n.id;
      timeout_ms = n.timeout_ms;
      retries = n.retries;
      inputs = n.inputs;
      upstream = n.upstream;
      target = (n.target, target);
    } in
    subst IsNodeInForm (views.roll-out-Node n)
    (every_made-Node IsTargetLayerInForm IsCaseLayerInForm IsNodeLayerInForm (out-Node n) beside refl
    (record { id = named; retries = few; inputs = bound }))

target-form : (d : Data) → IsTargetInForm (task_node_value d)
unfolding task_node_value
target-form d = task_target-form _

both-all : {A : Type 0} (P Q : A → Type 0) (xs : List A) → AllByRecursion P xs → AllByRecursion Q xs
    → AllByRecursion (λ x. P x × Q x) xs
both-all P Q [] p q = tt
both-all P Q (x ∷ xs) p q = ((p.0, q.0), both-all P Q xs p.1 q.1)

-- ---- in a table that has these rows

module _ (rows : List MessageRow) (has_bundle : row_at rows bundle_number ≡ bundle_row)
    (has_workflow : row_at rows workflow_number ≡ workflow_row) (has_node : row_at rows node_number ≡ node_row) where
  node-id : (d : Data) (level : ℕ)
      → fault_of rows d (record { shape = one; kind = message node_number; level = Same }) level ≡ None
      → IsId (text_value (field (codes "id") (members_in d)))
  node-id d level e =
      let m = message-clear rows node_row node_number Same level d has_node refl e in
      let form : Forms = record { shape = one; kind = id; level = Same } in
      id-fits (text_value (field (codes "id") (members_in d)))
      (text-clear rows id_form Same level (field (codes "id") (members_in d))
      (required-clear rows (members_in d) level (plain (codes "id")) form refl m.parts.0))

  abbrev IsNodeRead : ℕ → Data → Type 0
  IsNodeRead level d =
      IsOrdered d × (fault_of rows d (record { shape = one; kind = message node_number; level = Same }) level ≡ None)

  node-form : (level : ℕ) (d : Data) → IsNodeRead level d → IsNodeInForm (node_value d)
  unfolding node_value
  node-form level d h =
      made-form (node_value d) (node-id d level h.1) (retries-below _)
      (bindings-form (field (codes "inputs") (members_in d))
      (field_ordered (codes "inputs") (members_in d) (members_ordered d h.0)))
      (target-form (field (codes "taskNode") (members_in d)))

  nodes-form : (level : ℕ) (d : Data) → IsOrdered d
      → IsClear rows (record { shape = list; kind = message node_number; level = Same }) level d
      → All IsNodeInForm (list_value node_value d)
  nodes-form level d h e =
      All-from_recursion IsNodeInForm (list_value node_value d)
      (all-map (IsNodeRead level) IsNodeInForm node_value (node-form level) (items_in d)
      (both-all IsOrdered _ (items_in d) (items_ordered d h) (items-clear rows (message node_number) Same level d e)))

  abbrev IsWorkflowRead : ℕ → Data → Type 0
  IsWorkflowRead level d =
      IsOrdered d × (fault_of rows d (record { shape = one; kind = message workflow_number; level = Same })
      level ≡ None)

  workflow-form : (level : ℕ) (d : Data) → IsWorkflowRead level d → IsWorkflowInForm (workflow_value d)
  unfolding workflow_value
  workflow-form level d h =
      let ms = members_in d in
      let ordered = members_ordered d h.0 in
      let m = message-clear rows workflow_row workflow_number Same level d has_workflow refl h.1 in record {
        interface = interface-form (field (codes "interface") ms) (field_ordered (codes "interface") ms ordered);
        nodes = nodes-form level (field (codes "nodes") ms) (field_ordered (codes "nodes") ms ordered)
            (field-clear rows ms level (field_with optional (plain (codes "nodes")) list (message node_number)
            Same) refl
            m.parts.1.1.1.0);
        outputs = bindings-form (field (codes "outputs") ms) (field_ordered (codes "outputs") ms ordered);
      }

  bundle-form_by : (d : Data) → IsOrdered d → fault_of rows d bundle_form 0 ≡ None → IsBundleInForm (bundle_value d)
  unfolding bundle_value
  bundle-form_by d h e =
      let ms = members_in d in
      let ordered = members_ordered d h in
      let m = message-clear rows bundle_row bundle_number Same 0 d has_bundle refl e in
      let tasks = field (codes "tasks") ms in
      let workflows = field (codes "workflows") ms in
      let clear = field-clear rows ms 0 (field_with optional (plain (codes "workflows")) list
      (message workflow_number) Same)
      refl m.parts.1.0 in record {
        tasks = All-from_recursion IsTaskInForm (list_value task_value tasks)
            (all-map IsOrdered IsTaskInForm task_value task-form (items_in tasks)
            (items_ordered tasks (field_ordered (codes "tasks") ms ordered)));
        workflows = All-from_recursion IsWorkflowInForm (list_value workflow_value workflows)
            (all-map (IsWorkflowRead 0) IsWorkflowInForm workflow_value (workflow-form 0) (items_in workflows)
            (both-all IsOrdered _ (items_in workflows)
            (items_ordered workflows (field_ordered (codes "workflows") ms ordered))
            (items-clear rows (message workflow_number) Same 0 workflows clear)));
      }

-- ---- in the table of documents

pub unreported : (o : Option Fault) → option_map report_of o ≡ None → o ≡ None
unreported None e = refl
unreported (Some f) e = cc

pub bundle-in_form : (bytes : List ℕ) (d : Data) → read bytes ≡ Some d → first_report message_table bundle_form
    d ≡ None
    → IsBundleInForm (bundle_value d)
bundle-in_form bytes d was_read e =
    bundle-form_by message_table has-bundle has-workflow has-node d (ordered-read bytes d was_read)
    (unreported (fault_of message_table d bundle_form 0) e)
