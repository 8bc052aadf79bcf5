-- The faults of a workflow by its nodes in plan order, its outputs and its cycles.
use Rattle.std.proofs.Common.{◌≡◌, ℕ, ◌<◌, ◌≤◌, List, [], ◌∷◌, ◌++◌, map, length, get_or, take, Some, codes, refl, sym, ap, ◌∙◌}
use Rattle.std.specs.Borrow.{Bor}
use Rattle.std.specs.List.{flat_map, join_by, enumerate_from, slice_get}
use Rattle.std.specs.Option.{option_to_list, option_map}
use Rattle.std.proofs.lemmas.List.{take_all}
use Rattle.std.proofs.lemmas.Option.{slice_get-get_or, slice_get-map, slice_get_past}
use Rattle.fly_types.specs.declared.text.Text.{Text}
use Rattle.fly_types.specs.declared.variable.Variable.{Variable}
use Rattle.fly_docs.specs.declared.node.Node.{Node}
use Rattle.fly_docs.specs.declared.workflow.Workflow.{Workflow}
use Rattle.fly_docs.specs.declared.workflow.Bundle.{Bundle}
use Rattle.fly_docs.specs.Closures.{ids_at}
use Rattle.fly_docs.specs.Interfaces.{type_of}
use Rattle.fly_docs.specs.NodeInterfaces as interfaces
use Rattle.fly_docs.specs.Plans.{nodes_of}
use Rattle.fly_faults.specs.declared.fault.Code.TheVariants as code
use Rattle.fly_faults.specs.declared.fault.Fault.{Fault}
use Rattle.fly_faults.specs.BindingFaults.{Site}
use Rattle.fly_faults.specs.NodeFaults.{faults_of_node}
use Rattle.fly_faults.specs.Places.{workflow_name, outputs_place, fault_with}
use Rattle.fly_compile.specs.Scopes.{Scope, source_there}
use Rattle.fly_faults.specs.FaultList.{nodes_faults, outputs_site, cycle_fault}
use Rattle.fly_faults.specs.TypeText.{listed}
use Rattle.fly_faults.proofs.Lists.{map_at}
use Rattle.fly_faults.proofs.Passes.{join-map, numbered-map}

-- ---- nodes

pub node_there : (w : Workflow) (nodes : List (Bor Node)) (i : ℕ) (n : Bor Node) → i < length nodes → n ≡ get_or nodes i n
    → map (λ n. n.now) nodes ≡ nodes_of w → slice_get (nodes_of w) i ≡ Some n.now
node_there w nodes i n lt is same =
    sym (ap (λ xs. slice_get xs i) same) ∙ map_at (λ (x : Bor Node). x.now) nodes i n (slice_get-get_or nodes i n lt ∙ ap Some (sym is))

pub nodes_done : (b : Bundle) (w : Workflow) (nodes : List (Bor Node)) (i : ℕ) (old now : List Fault) → length nodes ≤ i
    → map (λ n. n.now) nodes ≡ nodes_of w
    → now ≡ old ++ flat_map (λ (at : ℕ × Bor Node). faults_of_node b w at.0 at.1.now) (enumerate_from 0 (take i nodes))
    → now ≡ old ++ nodes_faults b w
nodes_done b w nodes i old now le same done =
    done
    ∙ ap (λ xs. old ++ flat_map (λ (at : ℕ × Bor Node). faults_of_node b w at.0 at.1.now) (enumerate_from 0 xs)) (take_all i nodes le)
    ∙ ap (λ r. old ++ r) (numbered-map (λ (n : Bor Node). n.now) (λ (at : ℕ × Node). faults_of_node b w at.0 at.1) 0 nodes)
    ∙ ap (λ ns. old ++ flat_map (λ (at : ℕ × Node). faults_of_node b w at.0 at.1) (enumerate_from 0 ns)) same

-- ---- ids

pub id_there : (nodes : List (Bor Node)) (place : ℕ) (n : Bor Node) → place < length nodes → n ≡ get_or nodes place n
    → map (λ (m : Node). m.id) (option_to_list (slice_get (map (λ m. m.now) nodes) place)) ≡ n.now.id ∷ []
id_there nodes place n lt is =
    ap (λ o. map (λ (m : Node). m.id) (option_to_list o))
    (map_at (λ (m : Bor Node). m.now) nodes place n (slice_get-get_or nodes place n lt ∙ ap Some (sym is)))

pub id_nowhere : (nodes : List (Bor Node)) (place : ℕ) → length nodes ≤ place
    → map (λ (m : Node). m.id) (option_to_list (slice_get (map (λ (m : Bor Node). m.now) nodes) place)) ≡ []
id_nowhere nodes place le =
    ap (λ o. map (λ (m : Node). m.id) (option_to_list o))
    (slice_get-map (λ (m : Bor Node). m.now) nodes place ∙ ap (option_map (λ (m : Bor Node). m.now)) (slice_get_past nodes place le))

-- ---- outputs

pub outputs-same : (s : Scope) (place : Text) (outputs : List Variable) → place ≡ outputs_place s.workflow → outputs ≡ s.workflow.interface.outputs
    → ◌≡◌ {A = Site} (record { place = place; source = source_there s; wanted = Some (λ name. option_map interfaces.value (type_of name outputs)) })
    (outputs_site s.bundle s.workflow)
outputs-same s place outputs p q =
    λ i. record { place = p i; source = source_there s; wanted = Some (λ name. option_map interfaces.value (type_of name (q i))) }

-- ---- cycles

pub cycle-by : (w : Workflow) (places : List ℕ) (ids : List (Bor Text)) (detail : Text) → (places ≡ [] → ⊥)
    → map (λ id. id.now) ids ≡ ids_at w places → detail ≡ listed (λ (text : Bor Text). text.now) ids
    → fault_with code.CycleDetected (workflow_name w) detail ∷ [] ≡ cycle_fault w places
cycle-by w [] ids detail some same text = absurd (some refl)
cycle-by w (place ∷ places) ids detail some same text =
    ap (λ d. fault_with code.CycleDetected (workflow_name w) d ∷ [])
    (text ∙ join-map (λ (text : Bor Text). text.now) (codes ",") ids ∙ ap (join_by (λ id. id) (codes ",")) same)
