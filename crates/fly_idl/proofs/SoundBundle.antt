-- A bundle that is read, and in which nothing is found, is sound.
use Rattle.std.proofs.Common.{◌≡◌, inl, inr, ℕ, zero, suc, ◌+◌, ◌<◌, ◌≤◌, ◌^◌, true, List, [], ◌∷◌, length, map, Option, Some, None, refl, ap, subst, arith, codes}
use Rattle.std.specs.List.{AllByRecursion}
use Rattle.std.proofs.lemmas.List.Elements.{All-from_recursion}
use Rattle.serde_json.specs.Data.{Data, null}
use Rattle.serde_json.specs.Read.{read}
use Rattle.fly_types.specs.declared.text.Text.{Text}
use Rattle.fly_types.specs.declared.literals.Literal.{Literal}
use Rattle.fly_types.specs.declared.variable.Variable.{Variable}
use Rattle.fly_types.specs.Sound.{IsSound, IsSoundType}
use Rattle.fly_docs.specs.declared.names.Identifier.{Identifier}
use Rattle.fly_docs.specs.declared.binding.Binding.{Binding}
use Rattle.fly_docs.specs.declared.binding.Bound.{Bound}
use Rattle.fly_docs.specs.declared.binding.Bound.TheVariants as bounds
use Rattle.fly_docs.specs.declared.binding.Bound.TheOpen.{Bound-F}
use Rattle.fly_docs.specs.declared.binding.Bound.TheViews as bound_views
use Rattle.fly_docs.specs.declared.binding.Bound.TheFolds.{every_made-Bound}
use Rattle.fly_docs.specs.declared.node.Node.{Node, out-Node}
use Rattle.fly_docs.specs.declared.node.Case.{Case}
use Rattle.fly_docs.specs.declared.node.Target.{Target}
use Rattle.fly_docs.specs.declared.node.Target.TheVariants as targets
use Rattle.fly_docs.specs.declared.node.Target.TheOpen.{Target-F, Node-F}
use Rattle.fly_docs.specs.declared.node.Target.TheViews as views
use Rattle.fly_docs.specs.declared.node.Target.TheFolds.{every-Target, every-Case, every-Node, every_made-Target, every_made-Node}
use Rattle.fly_docs.specs.Bindings.{source_node}
use Rattle.fly_docs.specs.SoundDocuments.{HaveSoundTypes, IsSoundInterface, IsBoundLayerSound, IsSoundBound, AreSoundBindings, IsTargetLayerSound, IsCaseLayerSound, IsNodeLayerSound, IsSoundNode, IsSoundTask, IsSoundWorkflow, IsSoundBundle}
use Rattle.fly_schema.specs.declared.table.Level.{Level}
use Rattle.fly_schema.specs.declared.table.Level.TheVariants.{Same, First, Deeper}
use Rattle.fly_schema.specs.Table.{message, one, list, map_by, any_text, optional, FieldRow}
use Rattle.fly_schema.specs.Scalars.{fits_texts}
use Rattle.fly_schema.specs.Faults.{fault_of, level_after}
use Rattle.fly_schema.specs.Reports.{first_report}
use Rattle.fly_values.specs.Fields.{members_in, field, member_at, text_value, items_in, entries_of, list_value}
use Rattle.fly_values.specs.Types.{type_depth, variable_value, variables_value, interface_value}
use Rattle.fly_values.specs.Literals.{scalar_value}
use Rattle.fly_values.specs.Bindings.{promise_value, plain_bound, bound_elements_by, bound_entries_by, bound_by, bound_at, bound_depth, binding_value}
use Rattle.fly_values.specs.Documents.{task_value, task_node_value, node_value, workflow_value, bundle_value}
use Rattle.fly_idl.specs.Rows.{plain, field_with, id_form, bundle_number, bundle_row, task_number, task_row, workflow_number, workflow_row, node_number, node_row, interface_number, interface_row, variable_map_number, variable_map_row, variable_number, variable_row, literal_type_number, binding_number, binding_row, binding_data_number, binding_data_row, binding_list_number, binding_list_row, binding_map_number, binding_map_row, scalar_number, output_reference_number, message_table, bundle_form}
use Rattle.fly_idl.specs.Reading.{document_limit}
use Rattle.fly_idl.proofs.Ordered.{IsOrdered, WhereSome, members_ordered, field_ordered, items_ordered, ordered-read, all-map}
use Rattle.fly_idl.proofs.Bounds.{either, member-there, with, with_names}
use Rattle.fly_idl.proofs.Clear.{IsClear, field-clear, required-clear, message-clear, items-clear, entries-clear, one_of-clear, member-clear, member_field-clear}
use Rattle.fly_idl.proofs.TableRows.{has-bundle, has-task, has-workflow, has-node, has-interface, has-variable_map, has-variable, has-literal_type, has-union_type, has-literal, has-literal_list, has-literal_map, has-scalar, has-union, has-binding, has-binding_data, has-binding_list, has-binding_map}
use Rattle.fly_idl.proofs.Form.{unreported}
use Rattle.fly_idl.proofs.Bounded.{IsDataShort, members_short, field_short, member_short, items_short, data-short}
use Rattle.fly_idl.proofs.SoundTypes.{type-sound}
use Rattle.fly_idl.proofs.SoundTrees.{both-all, entries-kept}
use Rattle.fly_idl.proofs.SoundLiterals.{scalar-sound}

-- more than the bytes of any document
abbrev room : ℕ
room = 2 ^ 24 + 1

room-small : room < 2 ^ 63
room-small = omega arith

room-fits : room < 2 ^ 64
room-fits = omega arith

abbrev IsKept : Data → Type 0
IsKept d = IsDataShort room d × IsOrdered d

-- nothing is found in a message of this row
abbrev IsClearOf : ℕ → Level → ℕ → Data → Type 0
IsClearOf number l level d = fault_of message_table d (record { shape = one; kind = message number; level = l })
    level ≡ None

abbrev IsRead : ℕ → Level → ℕ → Data → Type 0
IsRead number l level d = IsKept d × IsClearOf number l level d

-- the same of a message that may be absent
abbrev IsClearHere : ℕ → Data → Type 0
IsClearHere number d = IsClear message_table (record { shape = one; kind = message number; level = Same }) 0 d

kept-field : (name : List ℕ) (d : Data) → IsKept d → IsKept (field name (members_in d))
kept-field name d h = (
  field_short room name (members_in d) (members_short room d h.0),
  field_ordered name (members_in d)
      (members_ordered d h.1),
)

no_field : (name : List ℕ) (d : Data) → d ≡ null → field name (members_in d) ≡ null
unfolding field
no_field name d e = ap (λ x. field name (members_in x)) e

kept-items : (d : Data) → IsKept d → AllByRecursion IsKept (items_in d)
kept-items d h =
    both-all (IsDataShort room) IsOrdered (items_in d) (items_short room d h.0).1 (items_ordered d h.1)

where_weaker : {A : Type 0} (P Q : A → Type 0) (o : Option A) → ((a : A) → P a → Q a) → WhereSome P o → WhereSome Q o
where_weaker P Q None h p = tt
where_weaker P Q (Some a) h p = h a p

where_any : {A : Type 0} (Q : A → Type 0) (o : Option A) → ((a : A) → Q a) → WhereSome Q o
where_any Q None h = tt
where_any Q (Some a) h = h a

where_both : {A : Type 0} (P Q : A → Type 0) (o : Option A) → WhereSome P o → WhereSome Q o → WhereSome
    (λ a. P a × Q a) o
where_both P Q None p q = tt
where_both P Q (Some a) p q = (p, q)

member-kept : (name : List ℕ) (d : Data) → IsKept d → WhereSome IsKept (member_at name (members_in d))
member-kept name d h =
    where_both (IsDataShort room) IsOrdered (member_at name (members_in d))
    (member_short room name (members_in d) (members_short room d h.0))
    (member-there name (members_in d) (members_ordered d h.1))

second : {A : Type 0} (P Q : A → Type 0) (xs : List A) → AllByRecursion (λ x. P x × Q x) xs → AllByRecursion Q xs
second P Q [] h = tt
second P Q (x ∷ xs) h = (h.0.1, second P Q xs h.1)

-- ---- interfaces

variable-sound : (e : List ℕ × Data) → IsRead variable_number Same 0 e.1 → IsSoundType (variable_value e).kind
unfolding variable_value
variable-sound e h =
    let ms = members_in e.1 in
    let m = message-clear message_table variable_row variable_number Same 0 e.1 has-variable refl h.1 in
    let kind = required-clear message_table ms 0 (plain (codes "type"))
    (record { shape = one; kind = message literal_type_number; level = First }) refl m.parts.0 in
    type-sound message_table has-literal_type has-union_type room room-fits type_depth (field (codes "type") ms) 0
    (kept-field (codes "type") e.1 h.0).0 kind

variables-sound : (d : Data) → IsKept d → IsClearHere variable_map_number d → HaveSoundTypes (variables_value d)
unfolding variables_value
variables-sound d h e =
    let inside = field (codes "variables") (members_in d) in
    let kept = kept-field (codes "variables") d h in
    let es = entries_of (members_in inside) in
    All-from_recursion (λ (v : Variable). IsSoundType v.kind) (map variable_value es)
    (all-map (λ (x : List ℕ × Data). IsRead variable_number Same 0 x.1) (λ (v : Variable). IsSoundType v.kind)
    variable_value
    variable-sound es
    (both-all (λ (x : List ℕ × Data). IsKept x.1) (λ (x : List ℕ × Data). IsClearOf variable_number Same 0 x.1) es
    (entries-kept room room-fits (members_in inside) (members_short room inside kept.0)
    (members_ordered inside kept.1))
    (second _ (λ (x : List ℕ × Data). IsClearOf variable_number Same 0 x.1) es
    (entries-clear message_table id_form (message variable_number) Same 0 inside (by e)))))
  where
    by : IsClearHere variable_map_number d
        → IsClear message_table (record { shape = map_by id_form; kind = message variable_number; level = Same }) 0
        (field (codes "variables") (members_in d))
    by (inl absent) = inl (no_field (codes "variables") d absent)
    by (inr found) =
        field-clear message_table (members_in d) 0
        (field_with optional (plain (codes "variables")) (map_by id_form) (message variable_number) Same) refl
        (message-clear message_table variable_map_row variable_map_number Same 0 d has-variable_map refl found).parts.0

interface-sound : (d : Data) → IsKept d → IsClearHere interface_number d → IsSoundInterface (interface_value d)
unfolding interface_value
interface-sound d h e = record {
  inputs = variables-sound (field (codes "inputs") (members_in d)) (kept-field (codes "inputs") d h) (inputs e);
  outputs = variables-sound (field (codes "outputs") (members_in d)) (kept-field (codes "outputs") d h) (outputs e);
}
  where
    inputs : IsClearHere interface_number d → IsClearHere variable_map_number (field (codes "inputs") (members_in d))
    inputs (inl absent) = inl (no_field (codes "inputs") d absent)
    inputs (inr found) =
        field-clear message_table (members_in d) 0 (field_with optional (plain (codes "inputs")) one
        (message variable_map_number) Same)
        refl (message-clear message_table interface_row interface_number Same 0 d has-interface refl found).parts.0

    outputs : IsClearHere interface_number d → IsClearHere variable_map_number
        (field (codes "outputs") (members_in d))
    outputs (inl absent) = inl (no_field (codes "outputs") d absent)
    outputs (inr found) =
        field-clear message_table (members_in d) 0 (field_with optional (plain (codes "outputs")) one
        (message variable_map_number) Same)
        refl (message-clear message_table interface_row interface_number Same 0 d has-interface refl found).parts.1.0

-- ---- what is bound

sound-scalar : (l : Literal) → IsSound l → IsSoundBound (bounds.Scalar l)
sound-scalar l p =
    subst IsSoundBound (bound_views.rolls-Scalar l)
    (every_made-Bound IsBoundLayerSound (Bound-F.Scalar l) (Bound-F.Scalar l) refl p)

sound-collection : (xs : List Bound) → AllByRecursion IsSoundBound xs → IsSoundBound (bounds.Collection xs)
sound-collection xs h =
    let ys = with IsSoundBound xs h in
    subst IsSoundBound (bound_views.rolls-Collection xs)
    (every_made-Bound IsBoundLayerSound (Bound-F.Collection xs) (Bound-F.Collection ys.0)
    (ap Bound-F.Collection ys.1) tt)

sound-map : (xs : List (Text × Bound)) → AllByRecursion (λ (x : Text × Bound). IsSoundBound x.1) xs →
    IsSoundBound (bounds.Map xs)
sound-map xs h =
    let ys = with_names IsSoundBound xs h in
    subst IsSoundBound (bound_views.rolls-Map xs)
    (every_made-Bound IsBoundLayerSound (Bound-F.Map xs) (Bound-F.Map ys.0) (ap Bound-F.Map ys.1) tt)

sound-promise : (d : Data) → IsSoundBound (promise_value d)
unfolding promise_value
sound-promise d =
    let node = source_node (text_value (field (codes "nodeId") (members_in d))) in
    let var = text_value (field (codes "var") (members_in d)) in
    subst IsSoundBound (bound_views.rolls-Promise node var)
    (every_made-Bound IsBoundLayerSound (Bound-F.Promise node var) (Bound-F.Promise node var) refl tt)

abbrev bound_members : List FieldRow
bound_members =
    field_with optional (plain (codes "scalar")) one (message scalar_number) Same
    ∷ field_with optional (plain (codes "collection")) one (message binding_list_number) Deeper
    ∷ field_with optional (plain (codes "promise")) one (message output_reference_number) Same
    ∷ field_with optional (plain (codes "map")) one (message binding_map_number) Deeper ∷ []

plain-sound : (level : ℕ) (d : Data) → IsKept d
    → IsClear message_table (record { shape = one; kind = message scalar_number; level = Same }) level
    (field (codes "scalar") (members_in d))
    → IsSoundBound (plain_bound (members_in d))
unfolding plain_bound
plain-sound level d h e =
    let scalar = field (codes "scalar") (members_in d) in
    either IsSoundBound promise_value (member_at (codes "promise") (members_in d)) _
    (where_any (λ x. IsSoundBound (promise_value x)) _ sound-promise)
    (sound-scalar (scalar_value scalar)
    (scalar-sound room room-small message_table has-literal_type has-union_type has-literal has-literal_list
    has-literal_map has-scalar has-union level scalar
    (kept-field (codes "scalar") d h) e))

module _ (of : Data → Bound) (each : (l : Level) (level : ℕ) (d : Data) → IsRead binding_data_number l level d →
    IsSoundBound (of d)) where
  elements-sound : (level : ℕ) (d : Data) → IsRead binding_list_number Deeper level d
      → IsSoundBound (bounds.Collection (bound_elements_by of d))
  unfolding bound_elements_by
  elements-sound level d h =
      let m = message-clear message_table binding_list_row binding_list_number Deeper level d has-binding_list refl h.1 in
      let inside = field (codes "bindings") (members_in d) in
      let clear = items-clear message_table (message binding_data_number) Same (level + 1) inside
      (field-clear message_table (members_in d) (level + 1)
      (field_with optional (plain (codes "bindings")) list (message binding_data_number) Same) refl m.parts.0) in
      sound-collection (map of (items_in inside))
      (all-map (IsRead binding_data_number Same (level + 1)) IsSoundBound of (each Same (level + 1)) (items_in inside)
      (both-all IsKept (IsClearOf binding_data_number Same (level + 1)) (items_in inside)
      (kept-items inside (kept-field (codes "bindings") d h.0)) clear))

  entries-sound : (level : ℕ) (d : Data) → IsRead binding_map_number Deeper level d
      → IsSoundBound (bounds.Map (bound_entries_by of d))
  unfolding bound_entries_by
  entries-sound level d h =
      let m = message-clear message_table binding_map_row binding_map_number Deeper level d has-binding_map refl h.1 in
      let inside = field (codes "bindings") (members_in d) in
      let kept = kept-field (codes "bindings") d h.0 in
      let es = entries_of (members_in inside) in
      let clear = entries-clear message_table any_text (message binding_data_number) Same (level + 1) inside
      (field-clear message_table (members_in d) (level + 1)
      (field_with optional (plain (codes "bindings")) (map_by any_text) (message binding_data_number) Same) refl
      m.parts.0) in
      sound-map (map (λ (e : Text × Data). (e.0, of e.1)) es)
      (all-map (λ (x : Text × Data). IsRead binding_data_number Same (level + 1) x.1)
      (λ (x : Text × Bound). IsSoundBound x.1)
      (λ (e : Text × Data). (e.0, of e.1)) (λ x p. each Same (level + 1) x.1 p) es
      (both-all (λ (x : Text × Data). IsKept x.1) (λ (x : Text × Data). IsClearOf binding_data_number Same
      (level + 1) x.1) es
      (entries-kept room room-fits (members_in inside) (members_short room inside kept.0)
      (members_ordered inside kept.1))
      (second (λ (x : Text × Data). fits_texts any_text x.0 ≡ true)
      (λ (x : Text × Data). IsClearOf binding_data_number Same (level + 1) x.1) es clear)))

  by-sound : (level : ℕ) (d : Data) → IsKept d
      → WhereSome (IsClearOf binding_list_number Deeper level) (member_at (codes "collection") (members_in d))
      → WhereSome (IsClearOf binding_map_number Deeper level) (member_at (codes "map") (members_in d))
      → IsSoundBound (plain_bound (members_in d)) → IsSoundBound (bound_by of (members_in d))
  unfolding bound_by
  by-sound level d h collection mapped rest =
      either IsSoundBound (λ x. bounds.Collection (bound_elements_by of x))
      (member_at (codes "collection") (members_in d)) _
      (where_weaker (IsRead binding_list_number Deeper level) (λ x. IsSoundBound
      (bounds.Collection (bound_elements_by of x))) _
      (elements-sound level)
      (where_both IsKept (IsClearOf binding_list_number Deeper level) _ (member-kept (codes "collection") d h)
      collection))
      (either IsSoundBound (λ x. bounds.Map (bound_entries_by of x)) (member_at (codes "map") (members_in d)) _
      (where_weaker (IsRead binding_map_number Deeper level) (λ x. IsSoundBound
      (bounds.Map (bound_entries_by of x))) _
      (entries-sound level)
      (where_both IsKept (IsClearOf binding_map_number Deeper level) _ (member-kept (codes "map") d h) mapped)) rest)

bound-sound : (k : ℕ) (l : Level) (level : ℕ) (d : Data) → IsRead binding_data_number l level d → IsSoundBound
    (bound_at k d)
unfolding bound_at
bound-sound zero l level d h =
    let here = level_after l level in
    let m = message-clear message_table binding_data_row binding_data_number l level d has-binding_data refl h.1 in
    let fields = one_of-clear message_table (members_in d) here true bound_members m.parts.0 in
    plain-sound here d h.0 (member_field-clear message_table (members_in d) here
    (field_with optional (plain (codes "scalar")) one (message scalar_number) Same) refl fields.0)
bound-sound (suc k) l level d h =
    let here = level_after l level in
    let m = message-clear message_table binding_data_row binding_data_number l level d has-binding_data refl h.1 in
    let fields = one_of-clear message_table (members_in d) here true bound_members m.parts.0 in
    by-sound (bound_at k) (bound-sound k) here d h.0
    (member-clear message_table (members_in d) here
    (field_with optional (plain (codes "collection")) one (message binding_list_number) Deeper) refl fields.1.0)
    (member-clear message_table (members_in d) here
    (field_with optional (plain (codes "map")) one (message binding_map_number) Deeper) refl fields.1.1.1.0)
    (plain-sound here d h.0 (member_field-clear message_table (members_in d) here
    (field_with optional (plain (codes "scalar")) one (message scalar_number) Same) refl fields.0))

binding-sound : (d : Data) → IsRead binding_number Same 0 d → IsSoundBound (binding_value d).bound
unfolding binding_value
binding-sound d h =
    let m = message-clear message_table binding_row binding_number Same 0 d has-binding refl h.1 in
    let inside = required-clear message_table (members_in d) 0 (plain (codes "binding"))
    (record { shape = one; kind = message binding_data_number; level = Same }) refl m.parts.1.0 in
    bound-sound bound_depth Same 0 (field (codes "binding") (members_in d))
    (kept-field (codes "binding") d h.0, inside)

bindings-sound : (d : Data) → IsKept d
    → IsClear message_table (record { shape = list; kind = message binding_number; level = Same }) 0 d
    → AreSoundBindings (list_value binding_value d)
bindings-sound d h e =
    All-from_recursion (λ (b : Binding). IsSoundBound b.bound) (list_value binding_value d)
    (all-map (IsRead binding_number Same 0) (λ (b : Binding). IsSoundBound b.bound) binding_value binding-sound
    (items_in d)
    (both-all IsKept (IsClearOf binding_number Same 0) (items_in d) (kept-items d h)
    (items-clear message_table (message binding_number) Same 0 d e)))

-- ---- nodes

abbrev IsSoundTarget : Target → Type 0
IsSoundTarget = every-Target IsTargetLayerSound IsCaseLayerSound IsNodeLayerSound

target-sound : (d : Data) → IsSoundTarget (task_node_value d)
unfolding task_node_value
target-sound d = at_task _
  where
    at_task : (i : Identifier) → IsSoundTarget (targets.Task i)
    at_task i =
        subst IsSoundTarget (views.rolls-Task i)
        (every_made-Target IsTargetLayerSound IsCaseLayerSound IsNodeLayerSound (Target-F.Task i)
        (Target-F.Task i) refl tt)

abbrev BesideTarget : Type 0
BesideTarget = (t : Target) × every-Target IsTargetLayerSound IsCaseLayerSound IsNodeLayerSound t

abbrev BesideCase : Type 0
BesideCase = (c : Case) × every-Case IsTargetLayerSound IsCaseLayerSound IsNodeLayerSound c

abbrev BesideNode : Type 0
BesideNode = (n : Node) × every-Node IsTargetLayerSound IsCaseLayerSound IsNodeLayerSound n

made-sound : (n : Node) → AreSoundBindings n.inputs → IsSoundTarget n.target → IsSoundNode n
made-sound n bound target =
    let beside : Node-F BesideTarget BesideCase BesideNode = record {
      id = n.id;
      timeout_ms = n.timeout_ms;
      retries = n.retries;
      inputs = n.inputs;
      upstream = n.upstream;
      target = (n.target, target);
    } in
    subst IsSoundNode (views.roll-out-Node n)
    (every_made-Node IsTargetLayerSound IsCaseLayerSound IsNodeLayerSound (out-Node n) beside refl bound)

node-sound : (d : Data) → IsRead node_number Same 0 d → IsSoundNode (node_value d)
unfolding node_value
node-sound d h =
    let m = message-clear message_table node_row node_number Same 0 d has-node refl h.1 in
    made-sound (node_value d)
    (bindings-sound (field (codes "inputs") (members_in d)) (kept-field (codes "inputs") d h.0)
    (field-clear message_table (members_in d) 0 (field_with optional (plain (codes "inputs")) list
    (message binding_number) Same) refl
    m.parts.1.1.0))
    (target-sound (field (codes "taskNode") (members_in d)))

-- ---- documents

task-sound : (d : Data) → IsRead task_number Same 0 d → IsSoundTask (task_value d)
unfolding task_value
task-sound d h =
    let m = message-clear message_table task_row task_number Same 0 d has-task refl h.1 in
    interface-sound (field (codes "interface") (members_in d)) (kept-field (codes "interface") d h.0)
    (field-clear message_table (members_in d) 0 (field_with optional (plain (codes "interface")) one
    (message interface_number) Same)
    refl m.parts.1.1.0)

workflow-sound : (d : Data) → IsRead workflow_number Same 0 d → IsSoundWorkflow (workflow_value d)
unfolding workflow_value
workflow-sound d h =
    let ms = members_in d in
    let m = message-clear message_table workflow_row workflow_number Same 0 d has-workflow refl h.1 in
    let nodes = field (codes "nodes") ms in record {
      interface = interface-sound (field (codes "interface") ms) (kept-field (codes "interface") d h.0)
          (field-clear message_table ms 0 (field_with optional (plain (codes "interface")) one
          (message interface_number) Same)
          refl m.parts.1.1.0);
      nodes = All-from_recursion IsSoundNode (list_value node_value nodes)
          (all-map (IsRead node_number Same 0) IsSoundNode node_value node-sound (items_in nodes)
          (both-all IsKept (IsClearOf node_number Same 0) (items_in nodes)
          (kept-items nodes (kept-field (codes "nodes") d h.0))
          (items-clear message_table (message node_number) Same 0 nodes
          (field-clear message_table ms 0 (field_with optional (plain (codes "nodes")) list
          (message node_number) Same) refl
          m.parts.1.1.1.0))));
      outputs = bindings-sound (field (codes "outputs") ms) (kept-field (codes "outputs") d h.0)
          (field-clear message_table ms 0 (field_with optional (plain (codes "outputs")) list
          (message binding_number) Same) refl
          m.parts.1.1.1.1.0);
    }

bundle-sound_by : (d : Data) → IsRead bundle_number Same 0 d → IsSoundBundle (bundle_value d)
unfolding bundle_value
bundle-sound_by d h =
    let ms = members_in d in
    let m = message-clear message_table bundle_row bundle_number Same 0 d has-bundle refl h.1 in
    let tasks = field (codes "tasks") ms in
    let workflows = field (codes "workflows") ms in record {
      tasks = All-from_recursion IsSoundTask (list_value task_value tasks)
          (all-map (IsRead task_number Same 0) IsSoundTask task_value task-sound (items_in tasks)
          (both-all IsKept (IsClearOf task_number Same 0) (items_in tasks)
          (kept-items tasks (kept-field (codes "tasks") d h.0))
          (items-clear message_table (message task_number) Same 0 tasks
          (field-clear message_table ms 0 (field_with optional (plain (codes "tasks")) list
          (message task_number) Same) refl
          m.parts.0))));
      workflows = All-from_recursion IsSoundWorkflow (list_value workflow_value workflows)
          (all-map (IsRead workflow_number Same 0) IsSoundWorkflow workflow_value workflow-sound (items_in workflows)
          (both-all IsKept (IsClearOf workflow_number Same 0) (items_in workflows)
          (kept-items workflows (kept-field (codes "workflows") d h.0))
          (items-clear message_table (message workflow_number) Same 0 workflows
          (field-clear message_table ms 0 (field_with optional (plain (codes "workflows")) list
          (message workflow_number) Same) refl
          m.parts.1.0))));
    }

pub bundle-sound : (bytes : List ℕ) (d : Data) → length bytes ≤ document_limit → read bytes ≡ Some d
    → first_report message_table bundle_form d ≡ None → IsSoundBundle (bundle_value d)
bundle-sound bytes d within was_read e =
    bundle-sound_by d (
      (data-short room bytes d (omega (arith, within)) was_read, ordered-read bytes d was_read),
      unreported (fault_of message_table d bundle_form 0) e,
    )
