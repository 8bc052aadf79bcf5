-- The plan of task nodes: no node stands inside another, so that each path is one id.
use Rattle.std.proofs.Common.{◌≡◌, ℕ, suc, ◌+◌, ◌<◌, ◌≤◌, Bool, true, false, ◌&&◌, cond, List, [], ◌∷◌, ◌++◌, map, flat_map, filter_map, length, get_or, find, position, bytes_eq, is_some, Contains, Option, Some, None, option_map, option_and_then, option_to_list, refl, sym, ◌∙◌, ap, subst, arith, ⊎_elim}
use Rattle.std.specs.List.{AllByRecursion, slice_get, slice_index, enumerate_from}
use Rattle.std.proofs.lemmas.List.{length-map}
use Rattle.std.proofs.lemmas.List.Elements.{recursion_from_All, All-get_or, Contains-get_or}
use Rattle.std.proofs.lemmas.List.FromFn.{length-enumerate_from}
use Rattle.std.proofs.lemmas.Slice.Eq.{bytes_eq-Decides}
use Rattle.std.proofs.lemmas.Bool.{and_from}
use Rattle.std.proofs.lemmas.Option.{slice_get-map, slice_get_cases, slice_get_within, get_or_from_slice_get, same_Some, none-some}
use Rattle.std.specs.BTreeMap.{BTreeMap}
use Rattle.fly_types.specs.declared.text.Text.{Text}
use Rattle.fly_docs.specs.declared.names.Identifier.{Identifier}
use Rattle.fly_docs.specs.declared.node.Node.{Node}
use Rattle.fly_docs.specs.declared.node.Case.{Case}
use Rattle.fly_docs.specs.declared.node.Target.{Target, out-Target}
use Rattle.fly_docs.specs.declared.node.Target.TheOpen.{Target-F}
use Rattle.fly_docs.specs.declared.task.Task.{Task}
use Rattle.fly_docs.specs.declared.workflow.Workflow.{Workflow}
use Rattle.fly_docs.specs.declared.workflow.Bundle.{Bundle}
use Rattle.fly_docs.specs.declared.closure.Closure.{Closure}
use Rattle.fly_docs.specs.Lookups.{is_same, task_named, workflow_named, primary_of}
use Rattle.fly_docs.specs.Closures.{bundle_of}
use Rattle.fly_docs.specs.Edges.{named_ids}
use Rattle.fly_docs.specs.Plans.{PlanNode, nodes_of, inner_nodes, subworkflow_of, workflow_id_in, plan_within, plan_of, max_nesting}
use Rattle.fly_docs.specs.Readable.{IsTaskTarget, HasTaskNodes}
use Rattle.fly_docs.specs.Reaching.{task_id_in}
use Rattle.fly_docs.proofs.NodeLemmas.{inner_nodes-task}
use Rattle.fly_state.specs.declared.sites.Site.{Site}
use Rattle.fly_graph.specs.Orders.{HasEachOnce}
use Rattle.fly_state.specs.Plans.{RunPlan, CaseOf, Path, run_plan, same_path, number_of, number_in, node_numbered, instance_of, case_number, case_nodes_in, is_case_of, case_of, case_of_at, named_numbers, looked_at, looks, task_target, task_of}
use Rattle.fly_state.specs.Looks.{IsLookOrder}
use Rattle.fly_state.specs.Sites.{binding_place, node_place, task_place, place_of_target, site_of, looks_at}
use Rattle.fly_state.specs.PlanTables.{HasTables, outer_node}
use Rattle.fly_state.proofs.PlaceLemmas.{position_cons, position_map, position_alike, find_at_place, find_nowhere}
use Rattle.fly_state.proofs.Lists.{enumerated-at}

-- ---- task nodes

pub task_layer : (t : Target-F Target Case Node) → IsTaskTarget t → (id : Identifier) × (t ≡ Target-F.Task id)
task_layer (Target-F.Task id) plain = (id, refl)
task_layer (Target-F.Workflow id) plain = absurd plain
task_layer (Target-F.Branch cases otherwise error) plain = absurd plain
task_layer (Target-F.Array task min_successes) plain = absurd plain

abbrev pub IsTaskNode : Node → Type 0
IsTaskNode n = IsTaskTarget (out-Target n.target)

inner_nodes-plain : (n : Node) → IsTaskNode n → inner_nodes n ≡ []
inner_nodes-plain n plain =
    let layer = task_layer (out-Target n.target) plain in
    inner_nodes-task n layer.0 layer.1

subworkflow_of-plain : (b : Bundle) (n : Node) → IsTaskNode n → subworkflow_of b n ≡ None
subworkflow_of-plain b n plain =
    let layer = task_layer (out-Target n.target) plain in
    ap (λ t. option_and_then (workflow_named b) (workflow_id_in t)) layer.1

nodes-plain : (nodes : List Node) → AllByRecursion IsTaskNode nodes → flat_map (λ n. n ∷ inner_nodes n) nodes ≡ nodes
nodes-plain [] plain = refl
nodes-plain (n ∷ nodes) plain =
    ap (λ inside. n ∷ (inside ++ flat_map (λ m. m ∷ inner_nodes m) nodes)) (inner_nodes-plain n plain.0)
    ∙ ap (λ rest. n ∷ rest) (nodes-plain nodes plain.1)

pub nodes_of-plain : (w : Workflow) → HasTaskNodes w → nodes_of w ≡ w.nodes
nodes_of-plain w plain = nodes-plain w.nodes (recursion_from_All IsTaskNode w.nodes plain)

abbrev planned : (Path → Node → List PlanNode) → Workflow → ℕ × Node → List PlanNode
planned inside w at =
    let path = [] ++ at.1.id ∷ [] in
    record { path = path; workflow = w; place = at.0; node = at.1 } ∷ inside path at.1

outer-plain : (b : Bundle) (levels : ℕ) (w : Workflow) (place : ℕ) (nodes : List Node) → AllByRecursion IsTaskNode nodes
    → flat_map (planned (λ path node. flat_map (plan_within levels b path) (option_to_list (subworkflow_of b node))) w) (enumerate_from place nodes)
    ≡ map (outer_node w) (enumerate_from place nodes)
outer-plain b levels w place [] plain = refl
outer-plain b levels w place (n ∷ nodes) plain =
    let inside : Option Workflow → List PlanNode = λ o. flat_map (plan_within levels b (n.id ∷ [])) (option_to_list o) in
    let behind = flat_map (planned (λ path node. flat_map (plan_within levels b path) (option_to_list (subworkflow_of b node))) w)
    (enumerate_from (place + 1) nodes) in
    ap (λ o. outer_node w (place, n) ∷ (inside o ++ behind)) (subworkflow_of-plain b n plain.0)
    ∙ ap (λ rest. outer_node w (place, n) ∷ rest) (outer-plain b levels w (place + 1) nodes plain.1)

-- the plan of a workflow of task nodes
plan_within-plain : (b : Bundle) (levels : ℕ) (w : Workflow) → HasTaskNodes w
    → plan_within (suc levels) b [] w ≡ map (outer_node w) (enumerate_from 0 w.nodes)
unfolding plan_within
plan_within-plain b levels w plain =
    ap (λ nodes. flat_map (planned (λ path node. flat_map (plan_within levels b path) (option_to_list (subworkflow_of b node))) w)
    (enumerate_from 0 nodes)) (nodes_of-plain w plain)
    ∙ outer-plain b levels w 0 w.nodes (recursion_from_All IsTaskNode w.nodes plain)

-- ---- closures

pub is_same-itself : (i : Identifier) → is_same i i ≡ true
is_same-itself i =
    let same : (text : List ℕ) → bytes_eq text text ≡ true = λ text. (bytes_eq-Decides text text).1 refl in
    and_from _ _ (and_from _ _ (and_from _ _ (same i.project) (same i.domain)) (same i.name)) (same i.version)

-- the primary workflow of a closure's templates is that of the closure
pub primary_of-bundle : (c : Closure) → primary_of (bundle_of c) ≡ Some c.primary
primary_of-bundle c =
    ap (λ same. cond same (Some c.primary) (find (λ (w : Workflow). is_same w.id c.primary.id) c.subs)) (is_same-itself c.primary.id)

plan_of-bundle : (c : Closure) → plan_of (bundle_of c) ≡ plan_within max_nesting (bundle_of c) [] c.primary ++ []
plan_of-bundle c = ap (λ o. flat_map (plan_within max_nesting (bundle_of c) []) (option_to_list o)) (primary_of-bundle c)

append-none : {X : Type 0} (xs : List X) → xs ++ [] ≡ xs
append-none [] = refl
append-none (x ∷ xs) = ap (λ rest. x ∷ rest) (append-none xs)

pub plan_of-closure : (c : Closure) → HasTaskNodes c.primary
    → plan_of (bundle_of c) ≡ map (outer_node c.primary) (enumerate_from 0 c.primary.nodes)
plan_of-closure c plain =
    plan_of-bundle c ∙ append-none (plan_within max_nesting (bundle_of c) [] c.primary) ∙ plan_within-plain (bundle_of c) 7 c.primary plain

-- ---- tables

position-never : {X : Type 0} (p : X → Bool) (xs : List X) → ((x : X) → p x ≡ false) → position p xs ≡ None
position-never p [] never = refl
position-never p (x ∷ xs) never =
    position_cons p x xs ∙ ap (λ b. cond b (Some 0) (option_map suc (position p xs))) (never x) ∙ ap (option_map suc) (position-never p xs never)

pub and-false : (b : Bool) → b && false ≡ false
and-false true = refl
and-false false = refl

pub and-true : (b : Bool) → b && true ≡ b
and-true true = refl
and-true false = refl

abbrev id_of : Node → Text
id_of n = n.id

pub paths-outer : (w : Workflow) (place : ℕ) (nodes : List Node)
    → map (λ (p : PlanNode). p.path) (map (outer_node w) (enumerate_from place nodes)) ≡ map (λ id. id ∷ []) (map id_of nodes)
paths-outer w place [] = refl
paths-outer w place (n ∷ nodes) = ap (λ rest. (n.id ∷ []) ∷ rest) (paths-outer w (place + 1) nodes)

-- no task node is a case
pub never_case : (w : Workflow) (p : PlanNode) (place : ℕ) (nodes : List Node) → AllByRecursion IsTaskNode nodes
    → position (λ q. is_case_of q p) (map (outer_node w) (enumerate_from place nodes)) ≡ None
never_case w p place [] plain = refl
never_case w p place (n ∷ nodes) plain =
    let q = outer_node w (place, n) in
    let layer = task_layer (out-Target n.target) plain.0 in
    let none : case_number q p ≡ None = ap (λ t. position (λ (m : Node). bytes_eq p.node.id m.id) (case_nodes_in t)) layer.1 in
    let other : is_case_of q p ≡ false = ap (λ o. same_path (instance_of q) (instance_of p) && is_some o) none ∙ and-false _ in
    position_cons (λ x. is_case_of x p) q (map (outer_node w) (enumerate_from (place + 1) nodes))
    ∙ ap (λ b. cond b (Some 0) (option_map suc (position (λ x. is_case_of x p) (map (outer_node w) (enumerate_from (place + 1) nodes))))) other
    ∙ ap (option_map suc) (never_case w p (place + 1) nodes plain.1)

-- what is at the first place that passes
pub found_by_place : {X : Type 0} (p : X → Bool) (xs : List X) → find p xs ≡ option_and_then (slice_get xs) (position p xs)
found_by_place p xs = by (position p xs) refl
  where
    by : (o : Option ℕ) → position p xs ≡ o → find p xs ≡ option_and_then (slice_get xs) o
    by None e = find_nowhere p xs e
    by (Some i) e = find_at_place p xs i e

-- The node of a number, in the plan, in its workflow and among the sites.
pub record Stands (b : Bundle) (w : Workflow) (sites : List Site) (i : ℕ) : Type 0 where
  pub node : Node
  pub there : slice_get w.nodes i ≡ Some node
  pub planned : node_numbered (run_plan b) i ≡ Some (outer_node w (i, node))
  pub sited : slice_get sites i ≡ Some (site_of b.tasks w.nodes node)
  pub plain : IsTaskNode node

module _ (b : Bundle) (numbers : BTreeMap Text ℕ) (sites : List Site) (order : List ℕ) (outputs : List (Option ℕ))
    (tables : HasTables b numbers sites order outputs) where
  abbrev plan : RunPlan
  plan = run_plan b

  abbrev w : Workflow
  w = tables.workflow

  pub paths_are : map (λ (p : PlanNode). p.path) (plan_of b) ≡ map (λ id. id ∷ []) (map id_of w.nodes)
  paths_are = ap (map (λ (p : PlanNode). p.path)) tables.nodes_are ∙ paths-outer w 0 w.nodes

  by_ids : (path : Path) → number_of plan path ≡ position (λ id. same_path path (id ∷ [])) (map id_of w.nodes)
  by_ids path =
      sym (position_map (same_path path) (λ (p : PlanNode). p.path) (plan_of b))
      ∙ ap (position (same_path path)) paths_are
      ∙ position_map (same_path path) (λ id. id ∷ []) (map id_of w.nodes)

  pub number_of-single : (id : Text) → number_of plan (id ∷ []) ≡ node_place w.nodes id
  number_of-single id =
      by_ids (id ∷ []) ∙ position_alike (λ other. same_path (id ∷ []) (other ∷ [])) (bytes_eq id) (map id_of w.nodes) (λ other. and-true (bytes_eq id other))

  number_of-empty : number_of plan [] ≡ None
  number_of-empty = by_ids [] ∙ position-never (λ id. same_path [] (id ∷ [])) (map id_of w.nodes) (λ id. refl)

  number_of-longer : (first second : Text) (path : Path) → number_of plan (first ∷ second ∷ path) ≡ None
  number_of-longer first second path =
      by_ids (first ∷ second ∷ path)
      ∙ position-never (λ id. same_path (first ∷ second ∷ path) (id ∷ [])) (map id_of w.nodes) (λ id. and-false (bytes_eq first id))

  pub number_of-none : (path : Path) → (length path ≡ 1 → ⊥) → number_of plan path ≡ None
  number_of-none [] other = number_of-empty
  number_of-none (id ∷ []) other = absurd (other (omega arith))
  number_of-none (first ∷ second ∷ path) other = number_of-longer first second path

  pub number_of-first : (path : Path) (d : Text) → length path ≡ 1 → number_of plan path ≡ node_place w.nodes (get_or path 0 d)
  number_of-first [] d one = absurd (omega arith)
  number_of-first (id ∷ []) d one = number_of-single id
  number_of-first (first ∷ second ∷ path) d one = absurd (omega arith)

  pub number_in-outer : (id : Text) → number_in plan [] id ≡ node_place w.nodes id
  number_in-outer = number_of-single

  pub count_is : length (plan_of b) ≡ length w.nodes
  count_is = ap length tables.nodes_are ∙ length-map (enumerate_from 0 w.nodes) (outer_node w) ∙ length-enumerate_from 0 w.nodes

  pub sites_count : length sites ≡ length w.nodes
  sites_count = ap length tables.sites_are ∙ length-map w.nodes (site_of b.tasks w.nodes)

  -- the node of a number, and its site
  pub node_numbered-outer : (i : ℕ) → node_numbered plan i ≡ option_map (λ n. outer_node w (i, n)) (slice_get w.nodes i)
  node_numbered-outer i =
      let zero_more : 0 + i ≡ i = omega arith in
      ap (λ ps. slice_get ps i) tables.nodes_are
      ∙ slice_get-map (outer_node w) (enumerate_from 0 w.nodes) i
      ∙ ap (option_map (outer_node w)) (enumerated-at 0 w.nodes i ∙ ap (λ k. option_map (λ n. (k, n)) (slice_get w.nodes i)) zero_more)
      ∙ twice (slice_get w.nodes i)
    where
      twice : (o : Option Node) → option_map (outer_node w) (option_map (λ n. (i, n)) o) ≡ option_map (λ n. outer_node w (i, n)) o
      twice None = refl
      twice (Some n) = refl

  pub site_numbered : (i : ℕ) → slice_get sites i ≡ option_map (site_of b.tasks w.nodes) (slice_get w.nodes i)
  site_numbered i = ap (λ xs. slice_get xs i) tables.sites_are ∙ slice_get-map (site_of b.tasks w.nodes) w.nodes i

  pub case_of-none : (p : PlanNode) → case_of plan p ≡ None
  case_of-none p =
      ap (option_and_then (λ branch. option_and_then (λ q. case_of_at branch q p) (node_numbered plan branch)))
      (ap (position (λ q. is_case_of q p)) tables.nodes_are ∙ never_case w p 0 w.nodes (recursion_from_All IsTaskNode w.nodes tables.plain))

  -- each number has a node
  pub stands : (i : ℕ) → i < length (plan_of b) → Stands b w sites i
  stands i small =
      ⊎_elim (λ found. record {
        node = found.0;
        there = found.2;
        planned = node_numbered-outer i ∙ ap (option_map (λ n. outer_node w (i, n))) found.2;
        sited = site_numbered i ∙ ap (option_map (site_of b.tasks w.nodes)) found.2;
        plain = subst IsTaskNode found.3 (All-get_or IsTaskNode w.nodes i found.0 found.1 tables.plain);
      }) (λ past. absurd (omega (arith, past.0, count_is, small))) (slice_get_cases w.nodes i).1

  -- what is read at a number is its node, or its site
  pub node_is : (i : ℕ) (small : i < length (plan_of b)) (nodes : List Node) (n : Node) → nodes ≡ w.nodes → n ≡ get_or nodes i n → n ≡ (stands i small).node
  node_is i small nodes n same is =
      is ∙ ap (λ xs. get_or xs i n) same ∙ get_or_from_slice_get w.nodes i (stands i small).node n (stands i small).there

  pub site_is : (i : ℕ) (small : i < length (plan_of b)) (site : Site) → site ≡ get_or sites i site
      → site ≡ site_of b.tasks w.nodes (stands i small).node
  site_is i small site is =
      is ∙ get_or_from_slice_get sites i (site_of b.tasks w.nodes (stands i small).node) site (stands i small).sited

  -- the first workflow is the one of the tables
  pub workflow_is : (ws : List Workflow) (x : Workflow) → ws ≡ b.workflows → x ≡ get_or ws 0 x → x ≡ w
  workflow_is ws x same is = is ∙ ap (λ xs. get_or xs 0 x) same ∙ get_or_from_slice_get b.workflows 0 w x tables.first

  pub some_workflow : 0 < length b.workflows
  some_workflow = slice_get_within b.workflows 0 w tables.first

  abbrev named_among : Node → List ℕ
  named_among n = filter_map (node_place w.nodes) (named_ids n)

  looked_at-outer : (i : ℕ) (n : Node) → looked_at plan (outer_node w (i, n)) ≡ named_among n
  looked_at-outer i n =
      ap (λ o. map (λ (c : CaseOf). c.branch) (option_to_list o) ++ named_numbers plan (outer_node w (i, n))) (case_of-none (outer_node w (i, n)))
      ∙ (λ j. filter_map (λ id. number_in-outer id j) (named_ids n))

  looks-planned : (i : ℕ) (p : PlanNode) → node_numbered plan i ≡ Some p → looks plan i ≡ looked_at plan p
  looks-planned i p e = rw e refl

  looks-outer : (i : ℕ) (small : i < length (plan_of b)) → looks plan i ≡ named_among (stands i small).node
  looks-outer i small =
      let st = stands i small in
      looks-planned i (outer_node w (i, st.node)) st.planned ∙ looked_at-outer i st.node

  -- what the sites have is what nodes look at
  pub looks-site : (i : ℕ) (small : i < length (plan_of b)) (site : Site) → site ≡ get_or sites i site → site.looks ≡ looks plan i
  looks-site i small site is = ap (λ (x : Site). x.looks) (site_is i small site is) ∙ sym (looks-outer i small)

  looks-sites : (i : ℕ) → i < length (plan_of b) → looks_at sites i ≡ looks plan i
  looks-sites i small =
      ap (λ o. flat_map (λ (x : Site). x.looks) (option_to_list o)) (stands i small).sited
      ∙ append-none (named_among (stands i small).node)
      ∙ sym (looks-outer i small)

  pub order-of-plan : IsLookOrder (looks plan) (length (plan_of b)) order
  order-of-plan =
      let count : length sites ≡ length (plan_of b) = sites_count ∙ sym count_is in
      record {
        once = subst (λ n. HasEachOnce n order) count tables.order_is.once;
        back = λ i u within looked.
            let v = slice_index order i in
            let small : v < length (plan_of b) =
            subst (λ n. v < n) count ((tables.order_is.once.each v).1 (Contains-get_or order i 0 within)) in
            tables.order_is.back i u within (subst (λ xs. Contains xs u) (sym (looks-sites v small)) looked);
      }

  -- the path of a node
  pub path-site : (i : ℕ) (small : i < length (plan_of b)) (site : Site) → site ≡ get_or sites i site
      → option_map (λ (p : PlanNode). p.path) (node_numbered plan i) ≡ Some site.path
  path-site i small site is =
      ap (option_map (λ (p : PlanNode). p.path)) (stands i small).planned
      ∙ ap (λ (x : Site). Some x.path) (sym (site_is i small site is))

  pub node-planned : (i : ℕ) (small : i < length (plan_of b)) (nodes : List Node) (n : Node) → nodes ≡ w.nodes → n ≡ get_or nodes i n
      → option_map (λ (p : PlanNode). p.node) (node_numbered plan i) ≡ Some n
  node-planned i small nodes n same is =
      ap (option_map (λ (p : PlanNode). p.node)) (stands i small).planned
      ∙ ap Some (sym (node_is i small nodes n same is))

  -- the task that a node runs
  pub task_of-site : (n : Node) → IsTaskNode n → (i : ℕ)
      → option_and_then (slice_get b.tasks) (place_of_target b.tasks (out-Target n.target)) ≡ task_of plan (outer_node w (i, n))
  task_of-site n plain i =
      let layer = task_layer (out-Target n.target) plain in
      ap (λ t. option_and_then (slice_get b.tasks) (place_of_target b.tasks t)) layer.1
      ∙ sym (found_by_place (λ (t : Task). is_same t.id layer.0) b.tasks)
      ∙ ap (task_target b) (sym layer.1)

  abbrev task_planned : ℕ → Option Task
  task_planned i = option_and_then (task_of plan) (node_numbered plan i)

  -- what is kept of the task, where the number has a site, and where it has none
  task-place : (i : ℕ) (small : i < length (plan_of b)) (site : Site) → slice_get sites i ≡ Some site
      → option_and_then (slice_get b.tasks) site.task ≡ task_planned i
  task-place i small site there =
      let st = stands i small in
      let same : site ≡ site_of b.tasks w.nodes st.node = same_Some _ _ (sym there ∙ st.sited) in
      ap (λ (x : Site). option_and_then (slice_get b.tasks) x.task) same
      ∙ task_of-site st.node st.plain i
      ∙ sym (ap (option_and_then (task_of plan)) st.planned)

  pub task-of_place : (i : ℕ) (site : Site) (o : Option ℕ) → slice_get sites i ≡ Some site → site.task ≡ o
      → option_and_then (slice_get b.tasks) o ≡ task_planned i
  task-of_place i site o there is =
      let within : i < length (plan_of b) = omega (arith, slice_get_within sites i site there, sites_count, count_is) in
      ap (option_and_then (slice_get b.tasks)) (sym is) ∙ task-place i within site there

  pub task-past : (i : ℕ) → slice_get sites i ≡ None → None ≡ task_planned i
  task-past i none =
      ⊎_elim (λ found. absurd (none-some (site_of b.tasks w.nodes found.0)
      (sym none ∙ site_numbered i ∙ ap (option_map (site_of b.tasks w.nodes)) found.2)))
      (λ past. sym (ap (option_and_then (task_of plan)) (node_numbered-outer i ∙ ap (option_map (λ n. outer_node w (i, n))) past.1)))
      (slice_get_cases w.nodes i).1

  -- where the inputs of its task are bound
  pub bindings-site : (i : ℕ) (small : i < length (plan_of b)) (site : Site) (p : PlanNode) (t : Task) → site ≡ get_or sites i site
      → node_numbered plan i ≡ Some p → task_of plan p ≡ Some t → site.bindings ≡ map (binding_place p.node.inputs) t.interface.inputs
  bindings-site i small site p t is planned task =
      let st = stands i small in
      let same : outer_node w (i, st.node) ≡ p = same_Some _ _ (sym st.planned ∙ planned) in
      let runs : option_and_then (slice_get b.tasks) (place_of_target b.tasks (out-Target st.node.target)) ≡ Some t =
      task_of-site st.node st.plain i ∙ ap (task_of plan) same ∙ task in
      ap (λ (x : Site). x.bindings) (site_is i small site is)
      ∙ ap (λ o. flat_map (λ (x : Task). map (binding_place st.node.inputs) x.interface.inputs) (option_to_list o)) runs
      ∙ append-none (map (binding_place st.node.inputs) t.interface.inputs)
      ∙ ap (λ (q : PlanNode). map (binding_place q.node.inputs) t.interface.inputs) same
