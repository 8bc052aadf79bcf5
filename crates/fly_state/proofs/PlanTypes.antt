-- What promises in a plan of task nodes are of.
use Rattle.std.proofs.Common.{◌≡◌, ℕ, ◌<◌, Bool, true, false, if◌then◌else◌, List, [], ◌∷◌, map, length, get_or, find, position, bytes_eq, Option, Some, None, option_map, option_and_then, refl, sym, ◌∙◌, ap, subst, arith, inl, ⊎_elim}
use Rattle.std.specs.List.{slice_get}
use Rattle.std.proofs.lemmas.Bool.{false≢true}
use Rattle.std.proofs.lemmas.List.{length-map}
use Rattle.std.proofs.lemmas.List.Elements.{All-get_or}
use Rattle.std.proofs.lemmas.List.Quantifiers.{position-Some}
use Rattle.std.proofs.lemmas.Option.{none-some, slice_get-map, slice_get_cases, get_or_from_slice_get}
use Rattle.std.proofs.lemmas.Slice.Eq.{bytes_eq-Decides}
use Rattle.std.specs.BTreeMap.{BTreeMap}
use Rattle.fly_types.specs.declared.text.Text.{Text}
use Rattle.fly_docs.specs.declared.node.Node.{Node}
use Rattle.fly_docs.specs.declared.node.Target.{out-Target}
use Rattle.fly_docs.specs.declared.task.Task.{Task}
use Rattle.fly_docs.specs.declared.workflow.Workflow.{Workflow}
use Rattle.fly_docs.specs.declared.workflow.Bundle.{Bundle}
use Rattle.fly_docs.specs.Bindings.{Promised, source_node}
use Rattle.fly_docs.specs.Lookups.{is_same}
use Rattle.fly_docs.specs.Names.{start_node}
use Rattle.fly_docs.specs.NodeInterfaces.{Source, of_type, of_anything, no_node, no_variable, Found, outputs_of, source_in, source_by, source_of}
use Rattle.fly_docs.specs.Plans.{nodes_of, node_named, plan_of}
use Rattle.fly_docs.specs.Reaching.{IsReached}
use Rattle.fly_docs.specs.Typed.{IsTypedNode, IsTypedWorkflow}
use Rattle.fly_docs.proofs.NodeLemmas.{outputs_of-task}
use Rattle.fly_state.specs.declared.sites.Site.{Site}
use Rattle.fly_state.specs.Origins.{source_within, source_in_run}
use Rattle.fly_state.specs.PlanTables.{HasTables, outer_node}
use Rattle.fly_state.specs.Plans.{RunPlan, run_plan, number_in, node_numbered, task_of, task_target}
use Rattle.fly_state.specs.Sites.{node_place}
use Rattle.fly_state.proofs.KeyLemmas.{bytes_eq_back}
use Rattle.fly_state.proofs.PlaceLemmas.{position_alike, position_map}
use Rattle.fly_state.proofs.PlanLemmas.{found_by_place, nodes_of-plain, task_layer, number_in-outer, stands, count_is}

-- the workflow that is found first at its place
first_reached : (b : Bundle) (w : Workflow) (o : Option ℕ) → position (λ (x : Workflow). is_same x.id b.primary) b.workflows ≡ o
    → option_and_then (slice_get b.workflows) o ≡ Some w → IsReached b w
first_reached b w None is e = absurd (none-some w e)
first_reached b w (Some place) is e = record { place = place; there = e; reached = (place, is, inl refl) }

module _ (b : Bundle) (numbers : BTreeMap Text ℕ) (sites : List Site) (order : List ℕ) (outputs : List (Option ℕ))
    (tables : HasTables b numbers sites order outputs) where
  abbrev plan : RunPlan
  plan = run_plan b

  abbrev w : Workflow
  w = tables.workflow

  pub reached : IsReached b w
  reached =
      first_reached b w (position (λ (x : Workflow). is_same x.id b.primary) b.workflows) refl
      (sym (found_by_place (λ (x : Workflow). is_same x.id b.primary) b.workflows) ∙ tables.named)

  pub typed_workflow : IsTypedWorkflow b w
  typed_workflow = tables.typed.typed w reached

  pub typed_node : (i : ℕ) (n : Node) → i < length w.nodes → get_or w.nodes i n ≡ n → IsTypedNode b w n
  typed_node i n within is =
      let same = nodes_of-plain w tables.plain in
      let long : i < length (nodes_of w) = omega (arith, ap length same, within) in
      subst (IsTypedNode b w) (ap (λ xs. get_or xs i n) same ∙ is) (All-get_or (IsTypedNode b w) (nodes_of w) i n long typed_workflow.nodes)

  abbrev id_of : Node → Text
  id_of n = n.id

  -- no node has the id of the start
  start-nowhere : (o : Option ℕ) → node_place w.nodes start_node ≡ o → o ≡ None
  start-nowhere None e = refl
  start-nowhere (Some i) e =
      let ids : List Text = map id_of w.nodes in
      let found = position-Some (bytes_eq start_node) ids i start_node e in
      ⊎_elim (λ at.
      let id : get_or ids i start_node ≡ id_of at.0 =
      get_or_from_slice_get ids i (id_of at.0) start_node (slice_get-map id_of w.nodes i ∙ ap (option_map id_of) at.2) in
      absurd ((typed_node i at.0 at.1 at.3).not_start
      (sym ((bytes_eq-Decides start_node (id_of at.0)).0 (sym (ap (bytes_eq start_node) id) ∙ found.1)))))
      (λ past. absurd (omega (arith, past.0, found.0, length-map w.nodes id_of)))
      (slice_get_cases w.nodes i).1

  pub start-no_node : number_in plan [] start_node ≡ None
  start-no_node =
      number_in-outer b numbers sites order outputs tables start_node
      ∙ start-nowhere (node_place w.nodes start_node) refl

  -- the node that an id names has its number
  named-by-number : (id : Text) → node_named w id ≡ option_and_then (slice_get w.nodes) (number_in plan [] id)
  named-by-number id =
      ap (find (λ (n : Node). bytes_eq n.id id)) (nodes_of-plain w tables.plain)
      ∙ found_by_place (λ (n : Node). bytes_eq n.id id) w.nodes
      ∙ ap (option_and_then (slice_get w.nodes))
      (position_alike (λ (n : Node). bytes_eq n.id id) (λ (n : Node). bytes_eq id n.id) w.nodes (λ n. bytes_eq_back n.id id)
      ∙ sym (position_map (bytes_eq id) (λ (n : Node). n.id) w.nodes)
      ∙ sym (number_in-outer b numbers sites order outputs tables id))

  source-within : (promise : Promised) → source_in_run plan promise ≡ source_of b w promise
  source-within promise = ap (λ o. source_within plan o promise) tables.named

  pub source-start : (promise : Promised) → bytes_eq promise.0 start_node ≡ true → source_in promise.1 w.interface.inputs ≡ source_in_run plan promise
  source-start promise e =
      sym (source-within promise
      ∙ ap (λ c. if c then source_in promise.1 w.interface.inputs else source_by b promise.1 (node_named w promise.0)) e)

  source-other : (promise : Promised) → bytes_eq promise.0 start_node ≡ false
      → source_by b promise.1 (option_and_then (slice_get w.nodes) (number_in plan [] promise.0)) ≡ source_in_run plan promise
  source-other promise e =
      sym (source-within promise
      ∙ ap (λ c. if c then source_in promise.1 w.interface.inputs else source_by b promise.1 (node_named w promise.0)) e
      ∙ ap (source_by b promise.1) (named-by-number promise.0))

  pub source-nowhere : (promise : Promised) → bytes_eq promise.0 start_node ≡ false → number_in plan [] promise.0 ≡ None
      → no_node ≡ source_in_run plan promise
  source-nowhere promise other none =
      sym (ap (λ o. source_by b promise.1 (option_and_then (slice_get w.nodes) o)) none) ∙ source-other promise other

  abbrev task_planned : ℕ → Option Task
  task_planned i = option_and_then (task_of plan) (node_numbered plan i)

  abbrev source_found : Text → Found → Source
  source_found name (Some variables) = source_in name variables
  source_found name None = of_anything

  -- the outputs of a task node are its task's
  pub outputs-planned : (i : ℕ) (small : i < length (plan_of b))
      → outputs_of b (stands b numbers sites order outputs tables i small).node ≡ option_map (λ (t : Task). t.interface.outputs) (task_planned i)
  outputs-planned i small =
      let st = stands b numbers sites order outputs tables i small in
      let layer = task_layer (out-Target st.node.target) st.plain in
      outputs_of-task b st.node layer.0 layer.1
      ∙ ap (option_map (λ (t : Task). t.interface.outputs)) (sym (ap (task_target b) layer.1) ∙ sym (ap (option_and_then (task_of plan)) st.planned))

  number-within : (id : Text) (i : ℕ) → number_in plan [] id ≡ Some i → i < length (plan_of b)
  number-within id i e =
      let place : node_place w.nodes id ≡ Some i = sym (number_in-outer b numbers sites order outputs tables id) ∙ e in
      let found = position-Some (bytes_eq id) (map (λ (n : Node). n.id) w.nodes) i id place in
      omega (arith, found.0, length-map w.nodes (λ (n : Node). n.id), count_is b numbers sites order outputs tables)

  source-planned : (promise : Promised) (i : ℕ) → bytes_eq promise.0 start_node ≡ false → number_in plan [] promise.0 ≡ Some i
      → source_found promise.1 (option_map (λ (t : Task). t.interface.outputs) (task_planned i)) ≡ source_in_run plan promise
  source-planned promise i other is =
      let small = number-within promise.0 i is in
      let st = stands b numbers sites order outputs tables i small in
      ap (source_found promise.1) (sym (outputs-planned i small))
      ∙ sym (ap (λ o. source_by b promise.1 (option_and_then (slice_get w.nodes) o)) is ∙ ap (source_by b promise.1) st.there)
      ∙ source-other promise other

  pub source-task : (promise : Promised) (i : ℕ) (t : Task) → bytes_eq promise.0 start_node ≡ false → number_in plan [] promise.0 ≡ Some i
      → task_planned i ≡ Some t → source_in promise.1 t.interface.outputs ≡ source_in_run plan promise
  source-task promise i t other is task =
      sym (ap (λ o. source_found promise.1 (option_map (λ (x : Task). x.interface.outputs) o)) task) ∙ source-planned promise i other is

  pub source-no_task : (promise : Promised) (i : ℕ) → bytes_eq promise.0 start_node ≡ false → number_in plan [] promise.0 ≡ Some i
      → task_planned i ≡ None → of_anything ≡ source_in_run plan promise
  source-no_task promise i other is none =
      sym (ap (λ o. source_found promise.1 (option_map (λ (x : Task). x.interface.outputs) o)) none) ∙ source-planned promise i other is

-- an id that isn't the start stands for itself
pub source_node-other : (node : Text) → bytes_eq (source_node node) start_node ≡ false → source_node node ≡ node
source_node-other [] e = absurd (false≢true (sym e ∙ (bytes_eq-Decides start_node start_node).1 refl))
source_node-other (x ∷ xs) e = refl
