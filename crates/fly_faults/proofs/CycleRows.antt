-- More bundles and their faults, computed on the definitions.
use Rattle.std.proofs.Common.{ap, ◌∙◌}
use Rattle.std.specs.Prelude.{◌≡◌, refl, List, [], ◌∷◌, ◌++◌, flat_map, filter, length, codes}
use Rattle.std.specs.List.{enumerate_from, range_with_len}
use Rattle.fly_docs.specs.declared.node.Node.{Node}
use Rattle.fly_docs.specs.declared.node.Target.TheViews as view
use Rattle.fly_docs.specs.declared.workflow.Workflow.{Workflow}
use Rattle.fly_docs.specs.declared.workflow.Bundle.{Bundle}
use Rattle.fly_docs.specs.Edges.{edges_of}
use Rattle.fly_docs.specs.Plans.{nodes_of, places_of, plan_within}
use Rattle.fly_docs.specs.Reaching.{reaches, goes_on, reached_workflows, reached_tasks}
use Rattle.fly_faults.specs.declared.fault.Code.TheVariants as code
use Rattle.fly_faults.specs.Places.{fault_with}
use Rattle.fly_faults.specs.NodeFaults.{faults_of_node}
use Rattle.fly_faults.specs.FaultList.{bundle_faults, size_faults, nodes_faults, output_faults, cyclic_places, cycle_fault, faults_of_workflow, template_faults, recursive_faults, or_limits, faults_of}
use Rattle.fly_faults.proofs.Lists.{append_nothing}
use Rattle.fly_faults.proofs.Rows.{after, go, no_inside, steps, workflow}

-- ---- a cycle of two, and a node that needs one of them

abbrev first : Node
first = after (codes "n0") (codes "n1" ∷ [])

abbrev second : Node
second = after (codes "n1") (codes "n0" ∷ [])

abbrev third : Node
third = after (codes "n2") (codes "n1" ∷ [])

abbrev turning : Workflow
turning = workflow (first ∷ second ∷ third ∷ []) [] [] []

abbrev turns : Bundle
turns = steps (first ∷ second ∷ third ∷ [])

three_nodes : nodes_of turning ≡ first ∷ second ∷ third ∷ []
three_nodes =
    rw (
      no_inside (codes "n0") (codes "n1" ∷ []),
      no_inside (codes "n1") (codes "n0" ∷ []),
      no_inside (codes "n2")
          (codes "n1" ∷ []),
    ) refl

first_clean : faults_of_node turns turning 0 first ≡ []
first_clean = rw (view.outs-Task go, no_inside (codes "n0") (codes "n1" ∷ [])) refl

second_clean : faults_of_node turns turning 1 second ≡ []
second_clean = rw (view.outs-Task go) refl

third_clean : faults_of_node turns turning 2 third ≡ []
third_clean = rw (view.outs-Task go, no_inside (codes "n0") (codes "n1" ∷ [])) refl

nodes_clean : nodes_faults turns turning ≡ []
nodes_clean =
    ap (λ ns. flat_map (λ (at : _). faults_of_node turns turning at.0 at.1) (enumerate_from 0 ns)) three_nodes
    ∙ append_nothing (faults_of_node turns turning 0 first) _ first_clean
    (append_nothing (faults_of_node turns turning 1 second) _ second_clean
    (append_nothing (faults_of_node turns turning 2 third) [] third_clean refl))

three_edges : edges_of turning ≡ (1, 0) ∷ (0, 1) ∷ (1, 2) ∷ []
three_edges =
    simp (
      no_inside (codes "n0") (codes "n1" ∷ []),
      no_inside (codes "n1") (codes "n0" ∷ []),
      no_inside (codes "n2")
          (codes "n1" ∷ []),
    ) refl

three_places : places_of turning ≡ 0 ∷ 1 ∷ 2 ∷ []
three_places = ap (λ (ns : List Node). range_with_len 0 (length ns)) three_nodes

two_turn : cyclic_places turning ≡ 0 ∷ 1 ∷ []
unfolding reaches
two_turn =
    ap (λ places. filter (λ v. reaches (edges_of turning) v v) places) three_places
    ∙ ap (λ edges. filter (λ v. reaches edges v v) (0 ∷ 1 ∷ 2 ∷ [])) three_edges

cycle_of_them : cycle_fault turning (cyclic_places turning)
    ≡ fault_with code.CycleDetected (codes "w") (codes "n0,n1") ∷ []
cycle_of_them = ap (cycle_fault turning) two_turn ∙ rw three_nodes refl

one_workflow : reached_workflows turns ≡ turning ∷ []
unfolding reaches
one_workflow = refl

no_limits : or_limits turns (recursive_faults turns) ≡ []
unfolding reaches goes_on plan_within
no_limits =
    simp (
      view.outs-Task go,
      no_inside (codes "n0") (codes "n1" ∷ []),
      no_inside (codes "n1")
          (codes "n0" ∷ []),
      no_inside (codes "n2") (codes "n1" ∷ []),
    ) refl

no_templates : flat_map template_faults (reached_tasks turns) ≡ []
unfolding reaches
no_templates =
    simp (
      view.outs-Task go,
      no_inside (codes "n0") (codes "n1" ∷ []),
      no_inside (codes "n1")
          (codes "n0" ∷ []),
      no_inside (codes "n2") (codes "n1" ∷ []),
    ) refl

of_turning : faults_of_workflow turns turning ≡ fault_with code.CycleDetected (codes "w") (codes "n0,n1") ∷ []
of_turning = λ i. size_is i ++ nodes_clean i ++ outputs_none i ++ cycle_of_them i
  where
    size_is : size_faults turning ≡ []
    size_is =
        simp (
          no_inside (codes "n0") (codes "n1" ∷ []),
          no_inside (codes "n1") (codes "n0" ∷ []),
          no_inside
              (codes "n2") (codes "n1" ∷ []),
        ) refl

    outputs_none : output_faults turns turning ≡ []
    outputs_none = refl

pub cycle_of_two : faults_of turns ≡ fault_with code.CycleDetected (codes "w") (codes "n0,n1") ∷ []
cycle_of_two =
    (λ i. bundle_faults turns ++ flat_map (faults_of_workflow turns)
    (one_workflow i) ++ no_templates i ++ no_limits i)
    ∙ ap (λ fs. fs ++ [] ++ [] ++ []) of_turning
