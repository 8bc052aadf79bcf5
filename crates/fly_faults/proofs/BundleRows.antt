-- Bundles with promises and templates, and their faults, computed on the definitions.
use Rattle.std.proofs.Common.{◌≡◌, ℕ, true, false, cond, List, [], ◌∷◌, ◌++◌, filter, flat_map, Some, is_some, option_map, length, append-nil, append_assoc, codes, refl, ap, ◌∙◌}
use Rattle.std.specs.List.{enumerate_from, range_with_len}
use Rattle.fly_types.specs.declared.text.Text.{Text}
use Rattle.fly_types.specs.declared.kinds.Simple.TheVariants as simple
use Rattle.fly_types.specs.declared.kinds.LiteralType.{LiteralType}
use Rattle.fly_types.specs.declared.kinds.LiteralType.TheVariants as type
use Rattle.fly_types.specs.declared.kinds.LiteralType.TheViews as type_view
use Rattle.fly_cast.specs.Castable.{sole_element, is_castable}
use Rattle.fly_cast.proofs.Casts.{is_castable-itself}
use Rattle.fly_docs.specs.declared.binding.Binding.{Binding}
use Rattle.fly_docs.specs.declared.task.Task.{Task}
use Rattle.fly_docs.specs.declared.node.Node.{Node}
use Rattle.fly_docs.specs.declared.node.Target.{out-Target}
use Rattle.fly_docs.specs.declared.node.Target.TheViews as view
use Rattle.fly_docs.specs.declared.workflow.Workflow.{Workflow}
use Rattle.fly_docs.specs.declared.workflow.Bundle.{Bundle}
use Rattle.fly_docs.specs.Edges.{edges_of}
use Rattle.fly_docs.specs.Interfaces.{type_of}
use Rattle.fly_docs.specs.NodeInterfaces.{of_type, value, wanted_by, wanted_at, source_of}
use Rattle.fly_docs.specs.Plans.{inner_nodes, nodes_of, plan_within}
use Rattle.fly_docs.specs.Reaching.{reaches, goes_on, reached_workflows, reached_tasks}
use Rattle.fly_docs.proofs.NodeLemmas.{inner_nodes-task, outputs_of-task}
use Rattle.fly_faults.specs.declared.fault.Code.TheVariants as code
use Rattle.fly_faults.specs.declared.fault.Fault.{Fault}
use Rattle.fly_faults.specs.Places.{fault_with}
use Rattle.fly_faults.specs.TypeText.{quoted, text_of_type}
use Rattle.fly_faults.specs.BindingFaults.{bindings_faults}
use Rattle.fly_faults.specs.NodeFaults.{node_site, id_faults, target_faults, upstream_faults, no_condition_faults, input_faults, array_faults_in, has_known_inputs, case_faults, condition_faults, faults_of_node}
use Rattle.fly_faults.specs.FaultList.{bundle_faults, size_faults, nodes_faults, outputs_site, output_faults, cyclic_places, cycle_fault, faults_of_workflow, template_faults, recursive_faults, or_limits, faults_of}
use Rattle.fly_faults.proofs.Lists.{if_nothing}
use Rattle.fly_faults.proofs.Rows.{bundle, id, inc, integer, node, promise, say, task, text, var, workflow}
use Rattle.fly_faults.proofs.PromiseFaults.{by_form, fitting_promise, integer_to_text, misfitting_promise, promised, text_by_layer, text_of_simple}

inside_none : (name runs : Text) (inputs : List Binding) → inner_nodes (node name runs inputs []) ≡ []
inside_none name runs inputs = inner_nodes-task (node name runs inputs []) (id runs) (view.outs-Task (id runs))

-- ---- a number bound where a text is wanted

abbrev adds : Node
adds = node (codes "n0") (codes "inc") (promise (codes "x") (codes "start-node") (codes "a") ∷ []) []

abbrev says : Node
says = node (codes "n1") (codes "say") (promise (codes "s") (codes "n0") (codes "y") ∷ []) []

abbrev speaking : Workflow
speaking = workflow (adds ∷ says ∷ []) (var (codes "a") integer ∷ []) [] []

abbrev speaks : Bundle
speaks = bundle (inc ∷ say ∷ []) speaking

from_input : source_of speaks speaking (codes "start-node", codes "a") ≡ of_type integer
from_input = refl

from_adds : source_of speaks speaking (codes "n0", codes "y") ≡ of_type integer
from_adds = rw (outputs_of-task speaks adds (id (codes "inc")) (view.outs-Task (id (codes "inc")))) refl

adds_site : (node_site speaks speaking adds).wanted ≡ Some (wanted_at speaks adds)
adds_site = rw (view.outs-Task (id (codes "inc"))) refl

says_site : (node_site speaks speaking says).wanted ≡ Some (wanted_at speaks says)
says_site = rw (view.outs-Task (id (codes "say"))) refl

adds_bound : bindings_faults (node_site speaks speaking adds) adds.inputs ≡ []
adds_bound =
    fitting_promise (node_site speaks speaking adds) (wanted_at speaks adds) adds_site (codes "x")
    (codes "start-node") (codes "a") integer integer
    from_input (ap (wanted_by speaks (codes "x")) (view.outs-Task (id (codes "inc")))) (is_castable-itself integer)

abbrev number_for_text : Fault
number_for_text = fault_with code.MismatchedTypes (codes "w/n1.s") (codes "INTEGER to STRING")

says_bound : bindings_faults (node_site speaks speaking says) says.inputs ≡ number_for_text ∷ []
says_bound =
    misfitting_promise (node_site speaks speaking says) (wanted_at speaks says) says_site (codes "s") (codes "n0")
    (codes "y") integer text
    from_adds (ap (wanted_by speaks (codes "s")) (view.outs-Task (id (codes "say")))) integer_to_text
    ∙ (λ i. fault_with code.MismatchedTypes (codes "w/n1.s")
    (text_of_simple simple.Integer i ++ codes " to " ++ text_of_simple simple.Text i) ∷ [])

-- all faults of a task node but those of its bindings
module _ (b : Bundle) (w : Workflow) (place : ℕ) (name runs : Text) (inputs : List Binding) where
  abbrev it : Node
  it = node name runs inputs []

  faults_of_task_node : (faults : List Fault) → id_faults w place it ≡ [] → target_faults b w it ≡ []
      → input_faults b (node_site b w it) it ≡ []
      → bindings_faults (node_site b w it) inputs ≡ faults → faults_of_node b w place it ≡ faults ++ [] ++ [] ++ []
  faults_of_task_node faults ids targets unbound found =
      let site = node_site b w it in
      let out = view.outs-Task (id runs) in
      let arrays : array_faults_in b site it (out-Target it.target) ≡ [] = ap (array_faults_in b site it) out in
      let conditions : no_condition_faults w it ≡ [] = rw out refl in
      let cases : condition_faults site it ≡ [] = if_nothing (has_known_inputs site it) (case_faults site it)
      (rw out refl) in
      λ i. ids i ++ targets i ++ upstream_faults w it ++ conditions i ++ found i ++ unbound i ++ arrays i ++ cases i

-- ---- the rest of the bundle

adds_clean : faults_of_node speaks speaking 0 adds ≡ []
adds_clean =
    faults_of_task_node speaks speaking 0 (codes "n0") (codes "inc") adds.inputs [] refl
    (rw (view.outs-Task (id (codes "inc"))) refl)
    (rw (view.outs-Task (id (codes "inc"))) refl) adds_bound

says_badly : faults_of_node speaks speaking 1 says ≡ number_for_text ∷ []
says_badly =
    faults_of_task_node speaks speaking 1 (codes "n1") (codes "say") says.inputs (number_for_text ∷ []) refl
    (rw (view.outs-Task (id (codes "say"))) refl) (rw (view.outs-Task (id (codes "say"))) refl) says_bound

speaking_nodes : nodes_of speaking ≡ adds ∷ says ∷ []
speaking_nodes =
    rw (inside_none (codes "n0") (codes "inc") adds.inputs, inside_none (codes "n1") (codes "say") says.inputs) refl

speaking_nodes_faults : nodes_faults speaks speaking ≡ number_for_text ∷ []
speaking_nodes_faults =
    ap (λ ns. flat_map (λ (at : ℕ × Node). faults_of_node speaks speaking at.0 at.1) (enumerate_from 0 ns))
    speaking_nodes
    ∙ (λ i. adds_clean i ++ (says_badly i ++ []))

speaking_size : size_faults speaking ≡ []
speaking_size =
    simp (inside_none (codes "n0") (codes "inc") adds.inputs, inside_none (codes "n1") (codes "say") says.inputs) refl

speaking_edges : edges_of speaking ≡ (0, 1) ∷ []
speaking_edges =
    simp (
      inside_none (codes "n0") (codes "inc") adds.inputs,
      inside_none (codes "n1") (codes "say") says.inputs,
      promised (codes "start-node") (codes "a"),
      promised (codes "n0") (codes "y"),
    ) refl

speaking_acyclic : cycle_fault speaking (cyclic_places speaking) ≡ []
unfolding reaches
speaking_acyclic =
    ap (λ (ns : List Node). cycle_fault speaking
    (filter (λ v. reaches (edges_of speaking) v v) (range_with_len 0 (length ns)))) speaking_nodes
    ∙ ap (λ edges. cycle_fault speaking (filter (λ v. reaches edges v v) (0 ∷ 1 ∷ []))) speaking_edges

speaking_outputs : output_faults speaks speaking ≡ []
speaking_outputs = refl

speaks_reaches : reached_workflows speaks ≡ speaking ∷ []
unfolding reaches
speaks_reaches = refl

speaks_within : or_limits speaks (recursive_faults speaks) ≡ []
unfolding reaches goes_on plan_within
speaks_within =
    simp (
      view.outs-Task (id (codes "inc")),
      view.outs-Task (id (codes "say")),
      inside_none (codes "n0") (codes "inc") adds.inputs,
      inside_none (codes "n1") (codes "say") says.inputs,
    ) refl

speaks_templates : flat_map template_faults (reached_tasks speaks) ≡ []
unfolding reaches
speaks_templates =
    simp (
      view.outs-Task (id (codes "inc")),
      view.outs-Task (id (codes "say")),
      inside_none (codes "n0") (codes "inc") adds.inputs,
      inside_none (codes "n1") (codes "say") says.inputs,
    ) refl

speaking_faults : faults_of_workflow speaks speaking ≡ number_for_text ∷ []
speaking_faults = λ i. speaking_size i ++ speaking_nodes_faults i ++ speaking_outputs i ++ speaking_acyclic i

pub mismatched_type : faults_of speaks
    ≡ fault_with code.MismatchedTypes (codes "w/n1.s") (codes "INTEGER to STRING") ∷ []
mismatched_type =
    (λ i. bundle_faults speaks ++ flat_map (faults_of_workflow speaks)
    (speaks_reaches i) ++ speaks_templates i ++ speaks_within i)
    ∙ ap (λ fs. fs ++ [] ++ [] ++ []) speaking_faults

-- ---- a text bound where one of several types is wanted

abbrev red : LiteralType
red = type.Enum (codes "red" ∷ [])

abbrev text_or_red : LiteralType
text_or_red = type.Union (text ∷ red ∷ [])

abbrev text_or_none : LiteralType
text_or_none = type.Union (text ∷ type.Simple simple.None ∷ [])

text_to_red : is_castable text red ≡ true
text_to_red = by_form text red _ _ (type_view.outs-Simple _) (type_view.outs-Enum _) (λ e. cc)

text_to_none : is_castable text (type.Simple simple.None) ≡ false
text_to_none = by_form text (type.Simple simple.None) _ _ (type_view.outs-Simple _) (type_view.outs-Simple _)
    (λ e. cc)

text_to_either : is_castable text text_or_red ≡ false
text_to_either =
    by_form text text_or_red _ _ (type_view.outs-Simple _) (type_view.outs-Union _) (λ e. cc)
    ∙ (λ i. is_some
    (sole_element
    (cond (is_castable-itself text i) (text ∷ cond (text_to_red i) (red ∷ []) [])
    (cond (text_to_red i) (red ∷ []) []))))

text_to_one : is_castable text text_or_none ≡ true
text_to_one =
    by_form text text_or_none _ _ (type_view.outs-Simple _) (type_view.outs-Union _) (λ e. cc)
    ∙ (λ i. is_some
    (sole_element (cond (is_castable-itself text i) (text ∷ cond (text_to_none i) (type.Simple simple.None ∷ []) [])
    (cond (text_to_none i) (type.Simple simple.None ∷ []) []))))

text_of_red : text_of_type red ≡ codes "enum(" ++ quoted (codes "red") ++ codes ")"
text_of_red =
    text_by_layer red _ (type_view.outs-Enum _) ∙ ap (λ values. codes "enum(" ++ values ++ codes ")")
    (append-nil (quoted (codes "red")))

text_of_either : text_of_type text_or_red ≡ codes "union(STRING,enum(" ++ quoted (codes "red") ++ codes "))"
text_of_either =
    text_by_layer text_or_red _ (type_view.outs-Union _)
    ∙ (λ i. codes "union(" ++ (text_of_simple simple.Text i ++ ((codes "," ++ text_of_red i) ++ [])) ++ codes ")")
    ∙ ap (λ variant. codes "union(STRING," ++ (variant ++ codes ")"))
    (append-nil (codes "enum(" ++ quoted (codes "red") ++ codes ")"))
    ∙ ap (λ values. codes "union(STRING,enum(" ++ values)
    (append_assoc (quoted (codes "red")) (codes ")") (codes ")"))

-- a bundle whose node takes a value of this type, to which a text is bound
module _ (wanted : LiteralType) where
  abbrev taker : Task
  taker = task (codes "use") (var (codes "u") wanted ∷ []) [] []

  abbrev uses : Node
  uses = node (codes "n0") (codes "use") (promise (codes "u") (codes "start-node") (codes "c") ∷ []) []

  abbrev giving : Workflow
  giving = workflow (uses ∷ []) (var (codes "c") text ∷ []) [] []

  abbrev gives : Bundle
  gives = bundle (taker ∷ []) giving

  uses_site : (node_site gives giving uses).wanted ≡ Some (wanted_at gives uses)
  uses_site = rw (view.outs-Task (id (codes "use"))) refl

  uses_wants : wanted_at gives uses (codes "u") ≡ Some (value wanted)
  uses_wants = ap (wanted_by gives (codes "u")) (view.outs-Task (id (codes "use")))

  giving_nodes : nodes_of giving ≡ uses ∷ []
  giving_nodes = rw (inside_none (codes "n0") (codes "use") uses.inputs) refl

  giving_edges : edges_of giving ≡ []
  giving_edges =
      simp (inside_none (codes "n0") (codes "use") uses.inputs, promised (codes "start-node") (codes "c")) refl

  giving_acyclic : cycle_fault giving (cyclic_places giving) ≡ []
  unfolding reaches
  giving_acyclic =
      ap (λ (ns : List Node). cycle_fault giving
      (filter (λ v. reaches (edges_of giving) v v) (range_with_len 0 (length ns)))) giving_nodes
      ∙ ap (λ edges. cycle_fault giving (filter (λ v. reaches edges v v) (0 ∷ []))) giving_edges

  giving_size : size_faults giving ≡ []
  giving_size = simp (inside_none (codes "n0") (codes "use") uses.inputs) refl

  gives_reaches : reached_workflows gives ≡ giving ∷ []
  unfolding reaches
  gives_reaches = refl

  gives_within : or_limits gives (recursive_faults gives) ≡ []
  unfolding reaches goes_on plan_within
  gives_within = simp (view.outs-Task (id (codes "use")), inside_none (codes "n0") (codes "use") uses.inputs) refl

  gives_templates : flat_map template_faults (reached_tasks gives) ≡ []
  unfolding reaches
  gives_templates = simp (view.outs-Task (id (codes "use")), inside_none (codes "n0") (codes "use") uses.inputs) refl

  -- its faults are those of the binding
  faults_of_giving : (faults : List Fault) → bindings_faults (node_site gives giving uses) uses.inputs ≡ faults
      → faults_of gives ≡ faults ++ [] ++ [] ++ [] ++ [] ++ [] ++ [] ++ [] ++ [] ++ []
  faults_of_giving faults found =
      let node_is : faults_of_node gives giving 0 uses ≡ faults ++ [] ++ [] ++ [] =
      faults_of_task_node gives giving 0 (codes "n0") (codes "use") uses.inputs faults refl
      (rw (view.outs-Task (id (codes "use"))) refl)
      (rw (view.outs-Task (id (codes "use"))) refl) found in
      let nodes_is : nodes_faults gives giving ≡ faults ++ [] ++ [] ++ [] ++ [] =
      ap (λ ns. flat_map (λ (at : ℕ × Node). faults_of_node gives giving at.0 at.1) (enumerate_from 0 ns))
      giving_nodes ∙ ap (λ fs. fs ++ []) node_is in
      let workflow_is : faults_of_workflow gives giving ≡ faults ++ [] ++ [] ++ [] ++ [] ++ [] ++ [] =
      λ i. giving_size i ++ nodes_is i ++ output_faults gives giving ++ giving_acyclic i in
      (λ i. bundle_faults gives ++ flat_map (faults_of_workflow gives)
      (gives_reaches i) ++ gives_templates i ++ gives_within i)
      ∙ ap (λ fs. fs ++ [] ++ [] ++ []) workflow_is

pub union_and_enum : faults_of (gives text_or_red)
    ≡ fault_with code.MismatchedTypes (codes "w/n0.u")
    (codes "STRING to union(STRING,enum(" ++ quoted (codes "red") ++ codes "))") ∷ []
union_and_enum =
    let wants = text_or_red in
    faults_of_giving wants _
    (misfitting_promise (node_site (gives wants) (giving wants) (uses wants)) (wanted_at (gives wants) (uses wants))
    (uses_site wants) (codes "u") (codes "start-node")
    (codes "c") text wants refl (uses_wants wants) text_to_either)
    ∙ (λ i. fault_with code.MismatchedTypes (codes "w/n0.u")
    (text_of_simple simple.Text i ++ codes " to " ++ text_of_either i) ∷ [])

pub union_with_none : faults_of (gives text_or_none) ≡ []
union_with_none =
    let wants = text_or_none in
    faults_of_giving wants []
    (fitting_promise (node_site (gives wants) (giving wants) (uses wants)) (wanted_at (gives wants) (uses wants))
    (uses_site wants) (codes "u") (codes "start-node")
    (codes "c") text wants refl (uses_wants wants) text_to_one)

-- ---- a template that names no input

abbrev asking : Task
asking = task (codes "inc") (var (codes "x") integer ∷ []) (var (codes "y") integer ∷ []) (codes "{{.inputs.q}}" ∷ [])

abbrev adding : Workflow
adding = workflow (adds ∷ []) (var (codes "a") integer ∷ []) (var (codes "b") integer ∷ [])
    (promise (codes "b") (codes "n0") (codes "y") ∷ [])

abbrev asks : Bundle
asks = bundle (asking ∷ []) adding

from_asking : source_of asks adding (codes "n0", codes "y") ≡ of_type integer
from_asking = rw (outputs_of-task asks adds (id (codes "inc")) (view.outs-Task (id (codes "inc")))) refl

asking_bound : bindings_faults (node_site asks adding adds) adds.inputs ≡ []
asking_bound =
    fitting_promise (node_site asks adding adds) (wanted_at asks adds) (rw (view.outs-Task (id (codes "inc"))) refl)
    (codes "x") (codes "start-node") (codes "a")
    integer integer refl (ap (wanted_by asks (codes "x")) (view.outs-Task (id (codes "inc"))))
    (is_castable-itself integer)

adding_outputs : output_faults asks adding ≡ []
adding_outputs =
    ap (λ fs. fs ++ [])
    (fitting_promise (outputs_site asks adding)
    (λ name. option_map value (type_of name adding.interface.outputs)) refl (codes "b") (codes "n0") (codes "y")
    integer integer from_asking refl (is_castable-itself integer))

asking_clean : faults_of_node asks adding 0 adds ≡ []
asking_clean =
    faults_of_task_node asks adding 0 (codes "n0") (codes "inc") adds.inputs [] refl
    (rw (view.outs-Task (id (codes "inc"))) refl)
    (rw (view.outs-Task (id (codes "inc"))) refl) asking_bound

adding_nodes : nodes_of adding ≡ adds ∷ []
adding_nodes = rw (inside_none (codes "n0") (codes "inc") adds.inputs) refl

adding_nodes_clean : nodes_faults asks adding ≡ []
adding_nodes_clean =
    ap (λ ns. flat_map (λ (at : ℕ × Node). faults_of_node asks adding at.0 at.1) (enumerate_from 0 ns)) adding_nodes ∙
    ap (λ fs. fs ++ []) asking_clean

adding_size : size_faults adding ≡ []
adding_size = simp (inside_none (codes "n0") (codes "inc") adds.inputs) refl

adding_edges : edges_of adding ≡ []
adding_edges =
    simp (inside_none (codes "n0") (codes "inc") adds.inputs, promised (codes "start-node") (codes "a")) refl

adding_acyclic : cycle_fault adding (cyclic_places adding) ≡ []
unfolding reaches
adding_acyclic =
    ap (λ (ns : List Node). cycle_fault adding
    (filter (λ v. reaches (edges_of adding) v v) (range_with_len 0 (length ns)))) adding_nodes
    ∙ ap (λ edges. cycle_fault adding (filter (λ v. reaches edges v v) (0 ∷ []))) adding_edges

adding_clean : faults_of_workflow asks adding ≡ []
adding_clean = λ i. adding_size i ++ adding_nodes_clean i ++ adding_outputs i ++ adding_acyclic i

asks_reaches : reached_workflows asks ≡ adding ∷ []
unfolding reaches
asks_reaches = refl

asks_within : or_limits asks (recursive_faults asks) ≡ []
unfolding reaches goes_on plan_within
asks_within = simp (view.outs-Task (id (codes "inc")), inside_none (codes "n0") (codes "inc") adds.inputs) refl

asks_for_none : flat_map template_faults (reached_tasks asks)
    ≡ fault_with code.TemplateInput (codes "inc") (codes "q") ∷ []
unfolding reaches
asks_for_none = simp (view.outs-Task (id (codes "inc")), inside_none (codes "n0") (codes "inc") adds.inputs) refl

pub template_without_input : faults_of asks ≡ fault_with code.TemplateInput (codes "inc") (codes "q") ∷ []
template_without_input =
    (λ i. bundle_faults asks ++ flat_map (faults_of_workflow asks)
    (asks_reaches i) ++ asks_for_none i ++ asks_within i)
    ∙ ap (λ fs. (fs ++ []) ++ (fault_with code.TemplateInput (codes "inc") (codes "q") ∷ []) ++ []) adding_clean
