-- The inputs of a slot that may be asked for are known.
use Rattle.std.proofs.Common.{◌≡◌, ◌≢◌, ℕ, ◌<◌, Bool, true, false, ◌||◌, cond, if◌then◌else◌, List, [], ◌∷◌, map, flat_map, length, find, get_or, bytes_eq, Contains, Option, Some, None, is_some, option_map, option_and_then, option_to_list, IfSome, IsTrue, refl, sym, ◌∙◌, ap, subst, arith, append-nil, ⊎_elim, ◌⊎◌, inl, inr}
use Rattle.std.specs.List.{slice_get, list_any}
use Rattle.std.specs.Prelude.{nat_lt}
use Rattle.std.proofs.lemmas.Bool.{cases_Bool, false≢true, le-ltb, or_cases, or_left, or_right, and_parts}
use Rattle.std.proofs.lemmas.List.Elements.{All-get_or}
use Rattle.std.proofs.lemmas.List.Sorted.{Contains-permutation, IsPermutation-sym}
use Rattle.std.proofs.lemmas.Option.{none-some, same_Some, slice_get_within, get_or_from_slice_get}
use Rattle.std.proofs.lemmas.Slice.Eq.{bytes_eq-Decides}
use Rattle.fly_types.specs.declared.text.Text.{Text}
use Rattle.fly_types.specs.declared.kinds.LiteralType.{LiteralType}
use Rattle.fly_types.specs.declared.literals.LiteralMap.{LiteralMap}
use Rattle.fly_types.specs.declared.variable.Variable.{Variable}
use Rattle.fly_policy.specs.Outcome.{AreOutputs}
use Rattle.fly_docs.specs.declared.binding.Binding.{Binding}
use Rattle.fly_docs.specs.declared.names.Identifier.{Identifier}
use Rattle.fly_docs.specs.declared.node.Node.{Node}
use Rattle.fly_docs.specs.declared.node.Target.{out-Target}
use Rattle.fly_docs.specs.declared.node.Target.TheOpen.{Target-F}
use Rattle.fly_docs.specs.declared.task.Task.{Task}
use Rattle.fly_docs.specs.declared.workflow.Workflow.{Workflow}
use Rattle.fly_docs.specs.Bindings.{Promised, promises_of, sources_of}
use Rattle.fly_docs.specs.Fitting.{bound_fits}
use Rattle.fly_docs.specs.Interfaces.{names_of, bound_names, type_of}
use Rattle.fly_docs.specs.Lookups.{task_named}
use Rattle.fly_docs.specs.Names.{start_node}
use Rattle.fly_docs.specs.NodeInterfaces.{Source, of_type, of_anything, no_node, no_variable, Found, outputs_of, inputs_of, inputs_by, source_in, source_by, source_of}
use Rattle.fly_docs.specs.Plans.{PlanNode, nodes_of, is_array, is_array_target}
use Rattle.fly_docs.specs.SlotInputs.{Known, node_inputs, plain_inputs, or_unknown, literal_named, variable_value, values_of, bound_value}
use Rattle.fly_docs.specs.Typed.{IsTypedNode, IsTypedPlain, IsTypedTarget}
use Rattle.fly_docs.proofs.NodeLemmas.{outputs_of-task}
use Rattle.fly_rules.proofs.GroundLemmas.{Contains-map, Contains-flat_map}
use Rattle.fly_state.specs.declared.moves.At.{At}
use Rattle.fly_state.specs.declared.slots.SlotState.{SlotState}
use Rattle.fly_state.specs.declared.slots.NodeState.{NodeState}
use Rattle.fly_state.specs.declared.slots.ExecState.{ExecState}
use Rattle.fly_state.specs.OfPlan.{IsOfPlan, promised_numbers, has_items, may_ask_inputs, may_ask_inputs_at, output_variables}
use Rattle.fly_state.specs.Origins.{source_in_run}
use Rattle.fly_state.specs.PlanTables.{IsOuterPlan, outer_node}
use Rattle.fly_state.specs.Inputs.{inputs_at, inputs_of_node}
use Rattle.fly_state.specs.Plans.{RunPlan, number_in, node_numbered, task_of, task_target}
use Rattle.fly_state.specs.States.{node_state, own_state, phase_of, is_succeeded, outputs_in, known_in}
use Rattle.fly_state.specs.Values.{FitVariables}
use Rattle.fly_cast.specs.Conversion.{each_result}
use Rattle.fly_graph.proofs.Members.{Contains-nil, Contains-cons_cases}
use Rattle.fly_state.proofs.Lists.{of_map, in_filter_map, later_in}
use Rattle.fly_state.proofs.NotUnknown.{IsClear, IsKnownPromise, clear-map, clear-each, clear-value, passes}
use Rattle.fly_state.proofs.OuterPlans.{numbered-outer}
use Rattle.fly_state.proofs.OuterTypes.{gives-named, kinds-in, source-plain, source-chosen, chosen, known-start, known-node}
use Rattle.fly_state.proofs.PlanLemmas.{IsTaskNode, task_layer, nodes_of-plain}
use Rattle.fly_state.proofs.TakenLemmas.{variable-bound}

-- A node whose inputs are asked for, with its task and what its bindings give.
pub record AskedNode (plan : RunPlan) (w : Workflow) (s : ExecState) (i : ℕ) : Type 0 where
  pub node : Node
  pub task : Task
  pub small : i < length plan.nodes
  pub planned : node_numbered plan i ≡ Some (outer_node w (i, node))
  pub runs : option_and_then (task_of plan) (node_numbered plan i) ≡ Some task
  pub fit : FitVariables (source_in_run plan) node.inputs task.interface.inputs
  pub wanted : inputs_at plan s (record { node = Some i; item = None })
      ≡ values_of (bound_value (source_in_run plan) (known_in plan s [])) task.interface.inputs node.inputs
  pub clear : IsClear (values_of (bound_value (source_in_run plan) (known_in plan s [])) task.interface.inputs node.inputs)

-- ---- what is found

pub found-in : {X : Type 0} (p : X → Bool) (xs : List X) (x : X) → find p xs ≡ Some x → Contains xs x × (p x ≡ true)
found-in p [] x e = absurd (none-some x e)
found-in p (y ∷ ys) x e =
    ⊎_elim (λ yes.
    let same : y ≡ x = same_Some _ _ (sym (ap (λ b. cond b (Some y) (find p ys)) yes) ∙ e) in
    ((0, omega arith, same), subst (λ z. p z ≡ true) same yes))
    (λ no. let rest = found-in p ys x (sym (ap (λ b. cond b (Some y) (find p ys)) no) ∙ e) in (later_in y ys x rest.0, rest.1))
    (cases_Bool (p y))

-- something is found where an element passes
pub found-one : {X : Type 0} (p : X → Bool) (xs : List X) (x : X) → Contains xs x → p x ≡ true → (y : X) × (find p xs ≡ Some y)
found-one p [] x has e = absurd (Contains-nil x has)
found-one p (y ∷ ys) x has e =
    ⊎_elim (λ yes. (y, ap (λ b. cond b (Some y) (find p ys)) yes))
    (λ no.
    ⊎_elim (λ same. absurd (false≢true (sym no ∙ ap p same ∙ e)))
    (λ there. let rest = found-one p ys x there e in (rest.0, ap (λ b. cond b (Some y) (find p ys)) no ∙ rest.1))
    (Contains-cons_cases y ys x has))
    (cases_Bool (p y))

typed-kind : (name : Text) (variables : List Variable) → source_in name variables ≢ of_anything
typed-kind name variables e = by (type_of name variables) refl
  where
    by : (o : Option LiteralType) → type_of name variables ≡ o → ⊥
    by None is = let none : source_in name variables ≡ no_variable = rw is refl in let bad : no_variable ≡ of_anything = sym none ∙ e in cc
    by (Some k) is = let some : source_in name variables ≡ of_type k = rw is refl in let bad : of_type k ≡ of_anything = sym some ∙ e in cc

some-from : {X Y : Type 0} (f : X → Y) (o : Option X) (y : Y) → option_map f o ≡ Some y → (x : X) × (o ≡ Some x)
some-from f None y e = absurd (none-some y e)
some-from f (Some x) y e = (x, refl)

pub some-there : {X : Type 0} (o : Option X) → is_some o ≡ true → (x : X) × (o ≡ Some x)
some-there None e = absurd (false≢true e)
some-there (Some x) e = (x, refl)

module _ (plan : RunPlan) (w : Workflow) (outer : IsOuterPlan plan w) where
  -- ---- typed nodes

  pub typed-plain : (i : ℕ) (n : Node) → slice_get w.nodes i ≡ Some n → IsTaskNode n → IsTypedPlain plan.documents w n
  typed-plain i n there plain =
      let same = nodes_of-plain w outer.plain in
      let long : i < length (nodes_of w) = omega (arith, ap length same, slice_get_within w.nodes i n there) in
      let at : get_or (nodes_of w) i n ≡ n = ap (λ xs. get_or xs i n) same ∙ get_or_from_slice_get w.nodes i n n there in
      let node : IsTypedNode plan.documents w n =
      subst (IsTypedNode plan.documents w) at (All-get_or (IsTypedNode plan.documents w) (nodes_of w) i n long outer.typed.nodes) in
      let layer = task_layer (out-Target n.target) plain in
      subst (IsTypedTarget plan.documents w n) layer.1 node.target

  pub plain-at : (i : ℕ) (n : Node) → slice_get w.nodes i ≡ Some n → IsTaskNode n
  plain-at i n there =
      subst IsTaskNode (get_or_from_slice_get w.nodes i n n there)
      (All-get_or IsTaskNode w.nodes i n (slice_get_within w.nodes i n there) outer.plain)

  -- the task of a node is there
  pub task-there : (i : ℕ) (n : Node) → slice_get w.nodes i ≡ Some n → (id : Identifier) × (t : Task) × (out-Target n.target ≡ Target-F.Task id) × (task_named plan.documents id ≡ Some t)
  task-there i n there =
      let plain = plain-at i n there in
      let layer = task_layer (out-Target n.target) plain in
      let typed = typed-plain i n there plain in
      let task = some-from (λ (t : Task). t.interface.inputs) (task_named plan.documents layer.0) typed.inputs
      (sym (ap (inputs_by plan.documents) layer.1) ∙ typed.found) in
      (layer.0, task.0, layer.1, task.1)

  outputs-there : (i : ℕ) (n : Node) → slice_get w.nodes i ≡ Some n → (variables : List Variable) × (outputs_of plan.documents n ≡ Some variables)
  outputs-there i n there =
      let task = task-there i n there in (
        task.1.interface.outputs,
        outputs_of-task plan.documents n task.0 task.2 ∙ ap (option_map (λ (t : Task). t.interface.outputs)) task.3,
      )

  pub sources-same : source_in_run plan ≡ source_of plan.documents w
  sources-same = λ i promise. source-plain plan w outer promise i

  pub fit-variables : (i : ℕ) (n : Node) → slice_get w.nodes i ≡ Some n → (variables : List Variable) → inputs_of plan.documents n ≡ Some variables
      → FitVariables (source_in_run plan) n.inputs variables
  fit-variables i n there variables found v has x bound =
      let typed = typed-plain i n there (plain-at i n there) in
      let same : typed.inputs ≡ variables = same_Some _ _ (sym typed.found ∙ found) in
      let binding = found-in (λ (y : Binding). bytes_eq y.var v.name) n.inputs x bound in
      let name : x.var ≡ v.name = (bytes_eq-Decides x.var v.name).0 binding.1 in
      subst (λ (source : Promised → Source). IsTrue (bound_fits source x.bound v.kind)) (sym sources-same)
      (typed.bound.fits v x (subst (λ vs. Contains vs v) (sym same) has) binding.0 name)

  -- the inputs of a task node are those that its bindings give
  pub node-inputs : (n : Node) (id : Identifier) (variables : List Variable) (known : Known)
      → out-Target n.target ≡ Target-F.Task id → inputs_of plan.documents n ≡ Some variables
      → node_inputs plan.documents w known n ≡ plain_inputs (source_of plan.documents w) known variables n.inputs
  node-inputs n id variables known layer found = rw (found, layer) refl

  -- what a node runs, and what it takes
  pub task-inputs : (s : ExecState) (i : ℕ) (n : Node) → slice_get w.nodes i ≡ Some n
      → (t : Task) × (task_of plan (outer_node w (i, n)) ≡ Some t)
      × (inputs_of plan.documents n ≡ Some t.interface.inputs)
      × (inputs_of_node plan s (outer_node w (i, n)) None
      ≡ values_of (bound_value (source_in_run plan) (known_in plan s [])) t.interface.inputs n.inputs)
  task-inputs s i n there =
      let task = task-there i n there in
      let variables = task.1.interface.inputs in
      let found : inputs_of plan.documents n ≡ Some variables =
      ap (inputs_by plan.documents) task.2 ∙ ap (option_map (λ (t : Task). t.interface.inputs)) task.3 in (
        task.1,
        ap (task_target plan.documents) task.2 ∙ task.3,
        found,
        node-inputs n task.0 variables (known_in plan s []) task.2 found
            ∙ ap (λ source. values_of (bound_value source (known_in plan s [])) variables n.inputs) (sym sources-same),
      )

  module _ (s : ExecState) (of_plan : IsOfPlan plan s) where
    -- ---- what is promised

    -- the node of a promise
    abbrev NodeOf : Promised → Source → Type 0
    NodeOf promise source = (j : ℕ) × (m : Node) × (variables : List Variable) × (number_in plan [] promise.0 ≡ Some j) × (slice_get w.nodes j ≡ Some m)
        × (outputs_of plan.documents m ≡ Some variables) × (source ≡ source_in promise.1 variables)

    node-of : (promise : Promised) → (chosen plan w outer promise false ≡ no_node) ⊎ NodeOf promise (chosen plan w outer promise false)
    node-of promise = by (number_in plan [] promise.0) refl
      where
        at : (j : ℕ) → number_in plan [] promise.0 ≡ Some j → (o : Option Node) → slice_get w.nodes j ≡ o
            → (chosen plan w outer promise false ≡ no_node) ⊎ NodeOf promise (chosen plan w outer promise false)
        at j is None there =
            inl (ap (λ o. source_by plan.documents promise.1 (option_and_then (slice_get w.nodes) o)) is ∙ ap (source_by plan.documents promise.1) there)
        at j is (Some m) there =
            let given = outputs-there j m there in
            let found : source_by plan.documents promise.1 (Some m) ≡ source_in promise.1 given.0 = rw given.1 refl in
            inr (
              j,
              m,
              given.0,
              is,
              there,
              given.1,
              ap (λ o. source_by plan.documents promise.1 (option_and_then (slice_get w.nodes) o)) is ∙ ap (source_by plan.documents promise.1) there ∙ found,
            )

        by : (o : Option ℕ) → number_in plan [] promise.0 ≡ o → (chosen plan w outer promise false ≡ no_node) ⊎ NodeOf promise (chosen plan w outer promise false)
        by None is = inl (ap (λ o. source_by plan.documents promise.1 (option_and_then (slice_get w.nodes) o)) is)
        by (Some j) is = at j is (slice_get w.nodes j) refl

    succeeded-map : (variables : List Variable) (j : ℕ) (m : Node) → node_numbered plan j ≡ Some (outer_node w (j, m)) → outputs_of plan.documents m ≡ Some variables
        → is_succeeded (phase_of s j) ≡ true → (given : LiteralMap) × (outputs_in (own_state s j) ≡ Some given) × AreOutputs variables given
    succeeded-map variables j m planned outputs good =
        let typed = (of_plan.nodes j (outer_node w (j, m)) planned).typed in
        let there = some-there (own_state s j).outputs (typed.complete (or_left _ _ good)) in
        let declared : output_variables plan (outer_node w (j, m)) ≡ variables =
        ap (λ (f : Found). flat_map (λ vs. vs) (option_to_list f)) outputs ∙ append-nil variables in
        let given = subst (λ (o : Option LiteralMap). IfSome o (AreOutputs (output_variables plan (outer_node w (j, m))))) there.1 typed.given in (
          there.0,
          ap (λ b. if b then (own_state s j).outputs else None) good ∙ there.1,
          subst (λ vs. AreOutputs vs there.0) declared given,
        )

    known-promise : (promise : Promised) → ((j : ℕ) → number_in plan [] promise.0 ≡ Some j → is_succeeded (phase_of s j) ≡ true)
        → IsKnownPromise (source_in_run plan) (known_in plan s []) promise
    known-promise promise good =
        ⊎_elim (λ start.
        let source = source-chosen plan w outer promise true start in
        let root = of_plan.root w outer.named in
        let there = some-there s.root.inputs root.has_inputs in
        let given = subst (λ (o : Option LiteralMap). IfSome o (AreOutputs w.interface.inputs)) there.1 root.typed.taken in (
          λ e. typed-kind promise.1 w.interface.inputs (sym source ∙ e),
          λ t is.
              let one = gives-named w.interface.inputs there.0.entries given promise.1 t (kinds-in promise.1 w.interface.inputs t (sym source ∙ is)) in
              (one.0, ap (option_and_then (literal_named promise.1)) (known-start plan w outer s of_plan promise start ∙ there.1) ∙ one.1),
        ))
        (λ other.
        let source = source-chosen plan w outer promise false other in
        ⊎_elim (λ none. (
          λ e. let bad : no_node ≡ of_anything = sym none ∙ sym source ∙ e in cc,
          λ t is. let bad : no_node ≡ of_type t = sym none ∙ sym source ∙ is in cc,
        ))
        (λ node.
        let planned = numbered-outer plan w outer node.0 ∙ ap (option_map (λ m. outer_node w (node.0, m))) node.4 in
        let given = succeeded-map node.2 node.0 node.1 planned node.5 (good node.0 node.3) in (
          λ e. typed-kind promise.1 node.2 (sym node.6 ∙ sym source ∙ e),
          λ t is.
              let one = gives-named node.2 given.0.entries given.2 promise.1 t (kinds-in promise.1 node.2 t (sym node.6 ∙ sym source ∙ is)) in (
                one.0,
                ap (option_and_then (literal_named promise.1)) (known-node plan w outer s of_plan promise other
                    ∙ ap (option_and_then (λ i. outputs_in (own_state s i))) node.3 ∙ given.1) ∙ one.1,
              ),
        ))
        (node-of promise))
        (cases_Bool (bytes_eq promise.0 start_node))

    -- ---- what is asked for

    succeeded-sources : (i : ℕ) (n : Node) → node_numbered plan i ≡ Some (outer_node w (i, n)) → may_ask_inputs plan s i (outer_node w (i, n)) ≡ true
        → (j : ℕ) → Contains (promised_numbers plan (outer_node w (i, n))) j → is_succeeded (phase_of s j) ≡ true
    succeeded-sources i n planned asked j has =
        let p = outer_node w (i, n) in
        ⊎_elim (λ ready.
        passes (λ source. is_succeeded (phase_of s source)) (promised_numbers plan p) j (and_parts _ _ ready).1 has)
        (λ started.
        (of_plan.nodes i p planned).promised j (or_right (has_items (node_state s i)) _ started) has)
        (or_cases _ _ asked)

    pub clear-inputs : (i : ℕ) (n : Node) → slice_get w.nodes i ≡ Some n → may_ask_inputs plan s i (outer_node w (i, n)) ≡ true
        → (variables : List Variable) → inputs_of plan.documents n ≡ Some variables
        → IsClear (values_of (bound_value (source_in_run plan) (known_in plan s [])) variables n.inputs)
    clear-inputs i n there asked variables found =
        let planned = numbered-outer plan w outer i ∙ ap (option_map (λ m. outer_node w (i, m))) there in
        let typed = typed-plain i n there (plain-at i n there) in
        let same : typed.inputs ≡ variables = same_Some _ _ (sym typed.found ∙ found) in
        let fit = fit-variables i n there variables found in
        let value = bound_value (source_in_run plan) (known_in plan s []) in
        clear-map _ (each_result (variable_value value n.inputs) variables)
        (clear-each (variable_value value n.inputs) variables (λ v has.
        let name : Contains (names_of variables) v.name = Contains-map (λ (x : Variable). x.name) variables v has in
        let bound : Contains (bound_names n.inputs) v.name =
        Contains-permutation (names_of typed.inputs) (bound_names n.inputs) v.name
        (IsPermutation-sym (bound_names n.inputs) (names_of typed.inputs) typed.bound.once)
        (subst (λ vs. Contains (names_of vs) v.name) (sym same) name) in
        let which = of_map (λ (x : Binding). x.var) n.inputs v.name bound in
        let binding = found-one (λ (x : Binding). bytes_eq x.var v.name) n.inputs which.0 which.1 ((bytes_eq-Decides which.0.var v.name).1 which.2) in
        let inside = (found-in (λ (x : Binding). bytes_eq x.var v.name) n.inputs binding.0 binding.1).0 in
        subst IsClear (sym (variable-bound value n.inputs v binding.0 binding.1))
        (clear-map (λ l. (v.name, l)) (value binding.0.bound v.kind)
        (clear-value (source_in_run plan) (known_in plan s []) binding.0.bound v.kind (fit v has binding.0 binding.1) (λ promise promised.
        known-promise promise (λ j is.
        succeeded-sources i n planned asked j
        (in_filter_map (number_in plan []) (sources_of n.inputs) promise.0 j
        (Contains-flat_map (λ (x : Binding). map (λ (q : Promised). q.0) (promises_of x.bound)) n.inputs binding.0 promise.0 inside
        (Contains-map (λ (q : Promised). q.0) (promises_of binding.0.bound) promise promised)) is)))))))

    -- ---- a node whose inputs are asked for

    asked-inputs : (i : ℕ) (p : PlanNode) → node_numbered plan i ≡ Some p
        → inputs_at plan s (record { node = Some i; item = None }) ≡ inputs_of_node plan s p None
    asked-inputs i p planned = rw planned refl

    or_last : (b : Bool) → (b || false) ≡ true → b ≡ true
    or_last true e = refl
    or_last false e = e

    pub asked-node : (i : ℕ) → list_any (may_ask_inputs plan s i) (option_to_list (node_numbered plan i)) ≡ true → AskedNode plan w s i
    asked-node i asked = by (slice_get w.nodes i) refl
      where
        by : (o : Option Node) → slice_get w.nodes i ≡ o → AskedNode plan w s i
        by None there =
            let none : node_numbered plan i ≡ None = numbered-outer plan w outer i ∙ ap (option_map (λ m. outer_node w (i, m))) there in
            absurd (false≢true (sym (ap (λ o. list_any (may_ask_inputs plan s i) (option_to_list o)) none) ∙ asked))
        by (Some n) there =
            let planned = numbered-outer plan w outer i ∙ ap (option_map (λ m. outer_node w (i, m))) there in
            let task = task-inputs s i n there in
            let may : may_ask_inputs plan s i (outer_node w (i, n)) ≡ true =
            or_last (may_ask_inputs plan s i (outer_node w (i, n))) (sym (ap (λ o. list_any (may_ask_inputs plan s i) (option_to_list o)) planned) ∙ asked) in
            record {
              node = n;
              task = task.0;
              small = slice_get_within plan.nodes i (outer_node w (i, n)) planned;
              planned = planned;
              runs = ap (option_and_then (task_of plan)) planned ∙ task.1;
              fit = fit-variables i n there task.0.interface.inputs task.2;
              wanted = asked-inputs i (outer_node w (i, n)) planned ∙ task.3;
              clear = clear-inputs i n there may task.0.interface.inputs task.2;
            }

    -- ---- slots that have none, and answers

    -- no task node has items
    some-items : (n : NodeState) (k : ℕ) (items : List SlotState) → n.items ≡ items → nat_lt k (length items) ≡ true → has_items n ≡ true
    some-items n k [] is within = absurd (false≢true (sym (le-ltb k 0 (omega arith)) ∙ within))
    some-items n k (item ∷ items) is within = rw is refl

    pub no-items : (i item : ℕ) → may_ask_inputs_at plan s (record { node = Some i; item = Some item }) ≡ true → ⊥
    no-items i item asked =
        let parts = and_parts (is_some (node_numbered plan i)) (nat_lt item (length (node_state s i).items)) asked in
        let numbered = some-there (node_numbered plan i) parts.0 in
        let found = some-from (λ m. outer_node w (i, m)) (slice_get w.nodes i) numbered.0 (sym (numbered-outer plan w outer i) ∙ numbered.1) in
        let planned = numbered-outer plan w outer i ∙ ap (option_map (λ m. outer_node w (i, m))) found.1 in
        let layer = task_layer (out-Target found.0.target) (plain-at i found.0 found.1) in
        let none : is_array found.0 ≡ false = ap is_array_target layer.1 in
        false≢true (sym none ∙ (of_plan.nodes i (outer_node w (i, found.0)) planned).array
        (some-items (node_state s i) item (node_state s i).items refl parts.1))

    pub at-root : (at : At) → at.node ≡ None → inputs_at plan s at ≡ or_unknown s.root.inputs
    at-root at none = rw none refl
