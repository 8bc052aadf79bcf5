-- The nodes of a plan of task nodes in one workflow: their numbers, what they take and give, and when they are ready.
use Rattle.std.proofs.Common.{◌≡◌, ◌≢◌, ℕ, zero, suc, ◌<◌, Bool, true, false, not, if◌then◌else◌, List, [], ◌∷◌, ◌++◌, map, flat_map, length, get_or, bytes_eq, Contains, AllPairs, Option, Some, None, Ok, option_map, option_and_then, option_to_list, unwrap_or, refl, sym, ◌∙◌, ap, subst, arith, append-nil, ⊎_elim, ◌⊎◌, inl, inr}
use Rattle.std.specs.List.{slice_get, list_any}
use Rattle.std.proofs.lemmas.Bool.{and_parts, cases_Bool, cases_order, false≢true, true≢false}
use Rattle.std.proofs.lemmas.List.{length-map}
use Rattle.std.proofs.lemmas.List.Elements.{Contains-append_left, All-get_or}
use Rattle.std.proofs.lemmas.List.Folds.{list_any_at}
use Rattle.std.proofs.lemmas.List.Quantifiers.{position-Some}
use Rattle.std.proofs.lemmas.Option.{none-some, slice_get-map, slice_get_cases, slice_get_within, slice_get_past, get_or_from_slice_get}
use Rattle.std.proofs.lemmas.Slice.Eq.{bytes_eq-Decides}
use Rattle.fly_types.specs.declared.text.Text.{Text}
use Rattle.fly_types.specs.declared.literals.LiteralMap.{LiteralMap}
use Rattle.fly_types.specs.declared.variable.Variable.{Variable}
use Rattle.fly_policy.specs.Outcome.{AreOutputs}
use Rattle.fly_docs.specs.declared.names.Identifier.{Identifier}
use Rattle.fly_docs.specs.declared.node.Node.{Node}
use Rattle.fly_docs.specs.declared.node.Target.{out-Target}
use Rattle.fly_docs.specs.declared.node.Target.TheOpen.{Target-F}
use Rattle.fly_docs.specs.declared.task.Task.{Task}
use Rattle.fly_docs.specs.declared.workflow.Workflow.{Workflow}
use Rattle.fly_docs.specs.Bindings.{sources_of}
use Rattle.fly_docs.specs.Edges.{named_ids}
use Rattle.fly_docs.specs.Lookups.{task_named}
use Rattle.fly_docs.specs.Names.{start_node}
use Rattle.fly_docs.specs.NodeInterfaces.{Found, inputs_of, inputs_by}
use Rattle.fly_docs.specs.Plans.{PlanNode, nodes_of, is_array, is_array_target}
use Rattle.fly_docs.specs.Reaching.{task_id_in}
use Rattle.fly_docs.specs.SlotInputs.{values_of, bound_value}
use Rattle.fly_docs.specs.Typed.{IsTypedNode}
use Rattle.fly_docs.proofs.NodeLemmas.{outputs_of-task}
use Rattle.fly_graph.proofs.Members.{Contains-filter_from}
use Rattle.fly_rules.proofs.GroundLemmas.{Contains-map}
use Rattle.fly_rules.specs.Rules.{values_at, value_within, solution_of}
use Rattle.fly_rules.specs.Standing.{Standing, waiting, blocked, skipped, ready, is_ready_standing, is_skipped_standing, is_waiting_standing, is_blocked_standing, standing_among}
use Rattle.fly_state.specs.declared.phase.Phase.{Phase}
use Rattle.fly_state.specs.declared.phase.Phase.TheVariants as phase
use Rattle.fly_state.specs.declared.slots.ExecState.{ExecState}
use Rattle.fly_state.specs.Inputs.{inputs_of_node}
use Rattle.fly_state.specs.Moves.{task_run_by, is_ready}
use Rattle.fly_state.specs.OfPlan.{IsOfPlan, input_variable, input_variables, output_variables, item_input_variables, item_output_variables, promised_numbers, is_aborted}
use Rattle.fly_state.specs.Origins.{source_in_run}
use Rattle.fly_state.specs.PlanTables.{IsOuterPlan, outer_node}
use Rattle.fly_state.specs.Plans.{RunPlan, number_of, number_in, node_numbered, named_numbers, looks}
use Rattle.fly_state.specs.Sites.{node_place}
use Rattle.fly_state.specs.Standing.{sign_of, signs_at, standing_by, standing_rule}
use Rattle.fly_state.specs.States.{fresh_node, phase_of, is_succeeded, is_broken, known_in}
use Rattle.fly_state.proofs.AskedInputs.{found-one, task-there, fit-variables, sources-same, node-inputs}
use Rattle.fly_state.proofs.Lists.{of_filter_map, in_filter_map}
use Rattle.fly_state.proofs.OuterPlans.{numbered-outer, case-none, count-outer}
use Rattle.fly_state.proofs.OuterTypes.{number_in-plain, known-types}
use Rattle.fly_state.proofs.PlaceLemmas.{find_nowhere}
use Rattle.fly_state.proofs.PlanLemmas.{nodes_of-plain}
use Rattle.fly_state.proofs.StandingLemmas.{by_outer}
use Rattle.fly_state.proofs.TakenTypes.{values-typed}

-- ---- standings

-- a node is ready only by those that are
among-ready : (xs : List Standing) → is_ready_standing (standing_among xs) ≡ true → (x : Standing) → Contains xs x
    → is_ready_standing x ≡ true
among-ready xs ok x has = by x (λ t. list_any-has t xs x has)
  where
    list_any-has : (t : Standing → Bool) (ys : List Standing) (y : Standing) → Contains ys y → t y ≡ true
        → list_any t ys ≡ true
    list_any-has t ys y found passes =
        list_any_at t ys found.0 y found.1 (ap t found.2 ∙ passes)

    none-ready : (a b c : Bool)
        → is_ready_standing (if a then skipped else (if b then waiting else (if c then blocked else ready))) ≡ true
        → (a ≡ false) × (b ≡ false) × (c ≡ false)
    none-ready true b c e = absurd (false≢true e)
    none-ready false true c e = absurd (false≢true e)
    none-ready false false true e = absurd (false≢true e)
    none-ready false false false e = (refl, refl, refl)

    by : (y : Standing) → ((t : Standing → Bool) → t y ≡ true → list_any t xs ≡ true) → is_ready_standing y ≡ true
    by ready any = refl
    by skipped any = absurd (true≢false (sym (any is_skipped_standing refl) ∙ (none-ready _ _ _ ok).0))
    by waiting any = absurd (true≢false (sym (any is_waiting_standing refl) ∙ (none-ready _ _ _ ok).1))
    by blocked any = absurd (true≢false (sym (any is_blocked_standing refl) ∙ (none-ready _ _ _ ok).2))

-- one that counts as ready succeeded or was aborted
sign-ready : (f : Phase) (standing : Standing) → is_ready_standing (sign_of f standing) ≡ true
    → (is_succeeded f ≡ true) ⊎ (is_aborted f ≡ true)
sign-ready phase.Succeeded standing e = inl refl
sign-ready phase.Aborted standing e = inr refl
sign-ready phase.Skipped standing e = absurd (false≢true e)
sign-ready phase.Failed standing e = absurd (false≢true e)
sign-ready phase.TimedOut standing e = absurd (false≢true e)
sign-ready phase.NotYetStarted waiting e = absurd (false≢true e)
sign-ready phase.NotYetStarted blocked e = absurd (false≢true e)
sign-ready phase.NotYetStarted skipped e = absurd (false≢true e)
sign-ready phase.NotYetStarted ready e = absurd (false≢true e)
sign-ready phase.Queued standing e = absurd (false≢true e)
sign-ready phase.Running standing e = absurd (false≢true e)
sign-ready phase.RetryableFailure standing e = absurd (false≢true e)
sign-ready phase.Succeeding standing e = absurd (false≢true e)

in-signs : (s : ExecState) (f : ℕ → Standing) (numbers : List ℕ) (j : ℕ) → Contains numbers j
    → Contains (signs_at s f numbers) (sign_of (phase_of s j) (f j))
in-signs s f numbers j has = Contains-map (λ i. sign_of (phase_of s i) (f i)) numbers j has

module _ (plan : RunPlan) (w : Workflow) (outer : IsOuterPlan plan w) where
  abbrev id_of : Node → Text
  id_of n = n.id

  -- ---- numbers

  -- the node that an id names
  pub numbered-node : (id : Text) (j : ℕ) → number_in plan [] id ≡ Some j
      → (m : Node) × (slice_get w.nodes j ≡ Some m) × (m.id ≡ id)
  numbered-node id j e =
      let ids : List Text = map id_of w.nodes in
      let found = position-Some (bytes_eq id) ids j id (sym (number_in-plain plan w outer id) ∙ e) in
      ⊎_elim (λ at.
      let name : get_or ids j id ≡ id_of at.0 =
      get_or_from_slice_get ids j (id_of at.0) id (slice_get-map id_of w.nodes j ∙ ap (option_map id_of) at.2) in
      (at.0, at.2, sym ((bytes_eq-Decides id (id_of at.0)).0 (sym (ap (bytes_eq id) name) ∙ found.1))))
      (λ past. absurd (omega (arith, past.0, found.0, length-map w.nodes id_of)))
      (slice_get_cases w.nodes j).1

  typed-at : (i : ℕ) (n : Node) → slice_get w.nodes i ≡ Some n → IsTypedNode plan.documents w n
  typed-at i n there =
      let same = nodes_of-plain w outer.plain in
      let long : i < length (nodes_of w) = omega (arith, ap length same, slice_get_within w.nodes i n there) in
      subst (IsTypedNode plan.documents w) (ap (λ xs. get_or xs i n) same ∙ get_or_from_slice_get w.nodes i n n there)
      (All-get_or (IsTypedNode plan.documents w) (nodes_of w) i n long outer.typed.nodes)

  -- the start is no node
  start-unnumbered : (id : Text) (j : ℕ) → number_in plan [] id ≡ Some j → bytes_eq id start_node ≡ false
  start-unnumbered id j e =
      let at = numbered-node id j e in
      ⊎_elim (λ same. absurd ((typed-at j at.0 at.1).not_start (at.2 ∙ (bytes_eq-Decides id start_node).0 same)))
      (λ other. other)
      (cases_Bool (bytes_eq id start_node))

  ids-distinct : AllPairs (λ (a b : Text). a ≢ b) (map id_of w.nodes)
  ids-distinct = subst (λ (ns : List Node). AllPairs (λ (a b : Text). a ≢ b) (map id_of ns))
      (nodes_of-plain w outer.plain) outer.typed.ids

  -- a node is the one that its path names
  pub number_of-own : (i : ℕ) (n : Node) → slice_get w.nodes i ≡ Some n → number_of plan (n.id ∷ []) ≡ Some i
  number_of-own i n there = number_in-plain plan w outer n.id ∙ by (node_place w.nodes n.id) refl
    where
      ids : List Text
      ids = map id_of w.nodes

      own : get_or ids i n.id ≡ n.id
      own = get_or_from_slice_get ids i (id_of n) n.id (slice_get-map id_of w.nodes i ∙ ap (option_map id_of) there)

      within : i < length ids
      within = omega (arith, length-map w.nodes id_of, slice_get_within w.nodes i n there)

      by : (o : Option ℕ) → node_place w.nodes n.id ≡ o → o ≡ Some i
      by None e =
          let found = found-one (bytes_eq n.id) ids n.id (i, within, own) ((bytes_eq-Decides n.id n.id).1 refl) in
          absurd (none-some found.0 (sym (find_nowhere (bytes_eq n.id) ids e) ∙ found.1))
      by (Some j) e =
          let found = position-Some (bytes_eq n.id) ids j n.id e in
          let same : n.id ≡ get_or ids j n.id = (bytes_eq-Decides n.id (get_or ids j n.id)).0 found.1 in
          ⊎_elim (λ equal. ap Some equal)
          (⊎_elim (λ before. absurd (ids-distinct j i n.id before within (sym same ∙ sym own)))
          (λ after. absurd (ids-distinct i j n.id after found.0 (own ∙ same))))
          (cases_order j i)

  -- how a node stands by how others stand
  standing-seen : (s : ExecState) (i count : ℕ) → i < count
      → (f : ℕ → Standing) × (solution_of (standing_rule plan s) count i ≡ standing_by plan s i
      (values_at f (looks plan i)))
  unfolding solution_of value_within
  standing-seen s i zero within = absurd (omega (arith, within))
  standing-seen s i (suc count) within = (value_within (standing_rule plan s) count, refl)

  -- ---- what a task node takes and gives

  module _ (i : ℕ) (n : Node) (there : slice_get w.nodes i ≡ Some n) where
    abbrev pub p : PlanNode
    p = outer_node w (i, n)

    abbrev pub its : (id : Identifier) × (t : Task) × (out-Target n.target ≡ Target-F.Task id) ×
        (task_named plan.documents id ≡ Some t)
    its = task-there plan w outer i n there

    pub planned-at : node_numbered plan i ≡ Some p
    planned-at = numbered-outer plan w outer i ∙ ap (option_map (λ m. outer_node w (i, m))) there

    pub not-array : is_array n ≡ false
    not-array = ap is_array_target its.2

    pub takes : inputs_of plan.documents n ≡ Some its.1.interface.inputs
    takes = ap (inputs_by plan.documents) its.2 ∙ ap (option_map (λ (t : Task). t.interface.inputs)) its.3

    same-variable : (x : Variable) → input_variable plan p x ≡ x
    same-variable x = rw not-array refl

    same-variables : (xs : List Variable) → map (input_variable plan p) xs ≡ xs
    same-variables [] = refl
    same-variables (x ∷ xs) = λ k. same-variable x k ∷ same-variables xs k

    pub inputs-declared : input_variables plan p ≡ its.1.interface.inputs
    inputs-declared =
        ap (λ (f : Found). flat_map (map (input_variable plan p)) (option_to_list f)) takes
        ∙ append-nil (map (input_variable plan p) its.1.interface.inputs)
        ∙ same-variables its.1.interface.inputs

    task-run : task_run_by plan p ≡ Some its.1
    task-run = ap (λ t. option_and_then (task_named plan.documents) (task_id_in t)) its.2 ∙ its.3

    -- an attempt takes and gives what the node does
    pub item_inputs-declared : item_input_variables plan p ≡ input_variables plan p
    item_inputs-declared =
        ap (λ o. flat_map (λ (t : Task). t.interface.inputs) (option_to_list o)) task-run
        ∙ append-nil its.1.interface.inputs
        ∙ sym inputs-declared

    pub item_outputs-declared : item_output_variables plan p ≡ output_variables plan p
    item_outputs-declared =
        ap (λ o. flat_map (λ (t : Task). t.interface.outputs) (option_to_list o)) task-run
        ∙ sym (ap (λ (f : Found). flat_map (λ vs. vs) (option_to_list f))
        (outputs_of-task plan.documents n its.0 its.2 ∙ ap (option_map (λ (t : Task). t.interface.outputs)) its.3))

    -- the values of its bindings
    pub inputs-bound : (s : ExecState)
        → inputs_of_node plan s p None ≡ values_of (bound_value (source_in_run plan) (known_in plan s []))
        its.1.interface.inputs n.inputs
    inputs-bound s =
        node-inputs plan w outer n its.0 its.1.interface.inputs (known_in plan s []) its.2 takes
        ∙ ap (λ source. values_of (bound_value source (known_in plan s [])) its.1.interface.inputs n.inputs)
        (sym (sources-same plan w outer))

    pub inputs-typed : (s : ExecState) → IsOfPlan plan s → (m : LiteralMap) → inputs_of_node plan s p None ≡ Ok m
        → AreOutputs (input_variables plan p) m
    inputs-typed s of_plan m e =
        subst (λ vs. AreOutputs vs m) (sym inputs-declared)
        (values-typed (source_in_run plan) (known_in plan s []) (known-types plan w outer s of_plan) n.inputs
        its.1.interface.inputs m
        (fit-variables plan w outer i n there its.1.interface.inputs takes) (sym (inputs-bound s) ∙ e))

    -- ---- what it promises from

    -- it looks at what it promises from
    promised-looked : (j : ℕ) → Contains (promised_numbers plan p) j → Contains (looks plan i) j
    promised-looked j has =
        let found = of_filter_map (number_in plan []) (sources_of n.inputs) j has in
        let kept = Contains-filter_from (λ id. not (bytes_eq id start_node)) (sources_of n.inputs ++ n.upstream)
        found.0
        (Contains-append_left (sources_of n.inputs) n.upstream found.0 found.1)
        (ap not (start-unnumbered found.0 j found.2)) in
        subst (λ js. Contains js j) (sym looked) (in_filter_map (number_in plan []) (named_ids n) found.0 j kept
        found.2)
      where
        looked : looks plan i ≡ named_numbers plan p
        looked = let none = case-none plan w outer p in let at = planned-at in rw (at, none) refl

    module _ (s : ExecState) (of_plan : IsOfPlan plan s) where
      numbered-phase : (j : ℕ) → is_aborted (phase_of s j) ≡ true → (m : Node) × (slice_get w.nodes j ≡ Some m)
      numbered-phase j e =
          ⊎_elim (λ found. (found.0, found.2))
          (λ past.
          let none : slice_get s.nodes j ≡ None =
          slice_get_past s.nodes j (omega (arith, past.0, of_plan.count, count-outer plan w outer)) in
          absurd (false≢true (sym (ap (λ o. is_aborted (unwrap_or o fresh_node).own.phase) none) ∙ e)))
          (slice_get_cases w.nodes j).1

      -- where it is ready and its instance isn't broken, what it promises from succeeded
      pub ready-sources : is_ready plan s i ≡ true → is_broken plan s [] ≡ false → (j : ℕ)
          → Contains (promised_numbers plan p) j
          → is_succeeded (phase_of s j) ≡ true
      ready-sources go whole j has =
          let stands = standing-seen s i (length plan.nodes) (slice_get_within plan.nodes i p planned-at) in
          let signs = stands.1 ∙ by_outer plan s i p stands.0 planned-at (case-none plan w outer p) in
          let among : is_ready_standing (standing_among (signs_at s stands.0 (looks plan i))) ≡ true =
          sym (ap is_ready_standing signs) ∙ (and_parts _ _ go).1 in
          let sign = among-ready (signs_at s stands.0 (looks plan i)) among (sign_of (phase_of s j) (stands.0 j))
          (in-signs s stands.0 (looks plan i) j (promised-looked j has)) in
          ⊎_elim (λ good. good)
          (λ gone.
          let at = numbered-phase j gone in
          let planned = numbered-outer plan w outer j ∙ ap (option_map (λ m. outer_node w (j, m))) at.1 in
          absurd (false≢true (sym whole ∙ (of_plan.nodes j (outer_node w (j, at.0)) planned).aborted gone)))
          (sign-ready (phase_of s j) (stands.0 j) sign)
