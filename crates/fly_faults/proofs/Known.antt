-- Where each node of a workflow runs what is there, the outputs of each are known.
use Rattle.std.proofs.Common.{◌≡◌, true, List, [], ◌∷◌, ◌++◌, map, flat_map, Contains, Option, Some, None, is_some, refl, sym, ap, ◌∙◌, subst, ⊎_elim}
use Rattle.std.proofs.lemmas.List.Elements.{Contains-append_left, Contains-append_right, Contains-append_cases}
use Rattle.fly_cast.specs.Fitting.{each_value}
use Rattle.fly_cast.proofs.Options.{is_some-map, each_value-tests}
use Rattle.fly_docs.specs.declared.task.Task.{Task}
use Rattle.fly_docs.specs.declared.node.Node.{Node, roll-Node, out-Node}
use Rattle.fly_docs.specs.declared.node.Case.{Case, roll-Case}
use Rattle.fly_docs.specs.declared.node.Target.{Target, roll-Target, out-Target}
use Rattle.fly_docs.specs.declared.node.Target.TheOpen.{Target-F, Case-F, Node-F}
use Rattle.fly_docs.specs.declared.node.Target.TheFolds.{ind-Node, fold-Target, fold-Case, fold-roll-Target, fold-roll-Case, fold-roll-Node, map-Node, map-Target, map-Case}
use Rattle.fly_docs.specs.declared.node.Target.TheViews as view
use Rattle.fly_docs.specs.declared.workflow.Workflow.{Workflow}
use Rattle.fly_docs.specs.declared.workflow.Bundle.{Bundle}
use Rattle.fly_docs.specs.Interfaces.{common_variables}
use Rattle.fly_docs.specs.Layer.{TargetParts, CaseParts, NodeParts, target_of_parts, case_of_parts, node_of_parts}
use Rattle.fly_docs.specs.Lookups.{task_named, workflow_named}
use Rattle.fly_docs.specs.NodeInterfaces.{Found, outputs_by, case_outputs, node_outputs, outputs_of, inputs_by, is_found}
use Rattle.fly_docs.specs.Plans.{inside_target, inside_case, inside_node, inner_nodes}
use Rattle.fly_docs.proofs.NodeLemmas.{target_parts, case_parts, node_parts}
use Rattle.fly_graph.proofs.Members.{Contains-nil, Contains-cons_cases}
use Rattle.fly_faults.proofs.Lists.{all_from, first_in, in_flat_map, in_one, later_in, of_flat_map}

-- ---- a node is the first of its parts

abbrev parts_of_target : Target → Target × List Node
parts_of_target = target_parts (List Node) inside_target inside_case inside_node

abbrev parts_of_case : Case → Case × List Node
parts_of_case = case_parts (List Node) inside_target inside_case inside_node

abbrev parts_of_node : Node → Node × List Node
parts_of_node = node_parts (List Node) inside_target inside_case inside_node

abbrev target_with : Target-F Target Case Node → TargetParts (List Node)
target_with = map-Target Target Case Node (Target × List Node) (Case × List Node)
    (Node × List Node) parts_of_target parts_of_case parts_of_node

abbrev case_with : Case-F Target Case Node → CaseParts (List Node)
case_with = map-Case Target Case Node (Target × List Node) (Case × List Node)
    (Node × List Node) parts_of_target parts_of_case parts_of_node

abbrev node_with : Node-F Target Case Node → NodeParts (List Node)
node_with = map-Node Target Case Node (Target × List Node) (Case × List Node)
    (Node × List Node) parts_of_target parts_of_case parts_of_node

abbrev target_step_of : TargetParts (List Node) → Target × List Node
target_step_of layer = (target_of_parts layer, inside_target layer)

abbrev case_step_of : CaseParts (List Node) → Case × List Node
case_step_of layer = (case_of_parts layer, inside_case layer)

abbrev node_step_of : NodeParts (List Node) → Node × List Node
node_step_of layer = (node_of_parts layer, inside_node layer)

target_roll : (x : Target-F Target Case Node) → parts_of_target (roll-Target x) ≡ target_step_of (target_with x)
target_roll x = fold-roll-Target (Target × List Node) (Case × List Node)
    (Node × List Node) target_step_of case_step_of node_step_of x

case_roll : (x : Case-F Target Case Node) → parts_of_case (roll-Case x) ≡ case_step_of (case_with x)
case_roll x = fold-roll-Case (Target × List Node) (Case × List Node)
    (Node × List Node) target_step_of case_step_of node_step_of x

node_roll : (x : Node-F Target Case Node) → parts_of_node (roll-Node x) ≡ node_step_of (node_with x)
node_roll x = fold-roll-Node (Target × List Node) (Case × List Node)
    (Node × List Node) target_step_of case_step_of node_step_of x

abbrev SameTarget : Target → Type 0
SameTarget t = (parts_of_target t).0 ≡ t

abbrev SameCase : Case → Type 0
SameCase c = (parts_of_case c).0 ≡ c

abbrev SameNode : Node → Type 0
SameNode n = (parts_of_node n).0 ≡ n

abbrev fronts : {A : Type 0} {P : A → Type 0} → List ((a : A) × P a) → List A
fronts xs = map (λ e. e.0) xs

same_cases : (cs : List ((c : Case) × SameCase c))
    → map (λ (part : Case × List Node). part.0) (map parts_of_case (map (λ e. e.0) cs)) ≡ map (λ e. e.0) cs
same_cases [] = refl
same_cases (c ∷ cs) = λ i. c.1 i ∷ same_cases cs i

abbrev target_fronts : Target-F ((t : Target) × SameTarget t) ((c : Case) × SameCase c) ((n : Node) × SameNode n)
    → Target-F Target Case Node
target_fronts = map-Target ((t : Target) × SameTarget t) ((c : Case) × SameCase c)
    ((n : Node) × SameNode n) Target Case Node (λ e. e.0) (λ e. e.0) (λ e. e.0)

abbrev first_parts : TargetParts (List Node) → Target-F Target Case Node
first_parts = map-Target (Target × List Node) (Case × List Node) (Node × List Node) Target Case Node (λ part. part.0)
    (λ part. part.0) (λ part. part.0)

same_layer : (y : Target-F ((t : Target) × SameTarget t) ((c : Case) × SameCase c) ((n : Node) × SameNode n))
    → first_parts (target_with (target_fronts y)) ≡ target_fronts y
same_layer (Target-F.Task id) = refl
same_layer (Target-F.Workflow id) = refl
same_layer (Target-F.Array id min_successes) = refl
same_layer (Target-F.Branch cases None error) = λ i. Target-F.Branch (same_cases cases i) None error
same_layer (Target-F.Branch cases (Some n) error) = λ i. Target-F.Branch (same_cases cases i) (Some (n.1 i)) error

abbrev case_fronts : Case-F ((t : Target) × SameTarget t) ((c : Case) × SameCase c) ((n : Node) × SameNode n)
    → Case-F Target Case Node
case_fronts = map-Case ((t : Target) × SameTarget t) ((c : Case) × SameCase c)
    ((n : Node) × SameNode n) Target Case Node (λ e. e.0) (λ e. e.0) (λ e. e.0)

abbrev first_case_parts : CaseParts (List Node) → Case-F Target Case Node
first_case_parts = map-Case (Target × List Node) (Case × List Node) (Node × List Node) Target Case Node
    (λ part. part.0) (λ part. part.0) (λ part. part.0)

same_case_layer : (y : Case-F ((t : Target) × SameTarget t) ((c : Case) × SameCase c) ((n : Node) × SameNode n))
    → first_case_parts (case_with (case_fronts y)) ≡ case_fronts y
same_case_layer y = λ i. record { condition = y.condition; then = y.then.1 i }

abbrev node_fronts : Node-F ((t : Target) × SameTarget t) ((c : Case) × SameCase c) ((n : Node) × SameNode n)
    → Node-F Target Case Node
node_fronts = map-Node ((t : Target) × SameTarget t) ((c : Case) × SameCase c)
    ((n : Node) × SameNode n) Target Case Node (λ e. e.0) (λ e. e.0) (λ e. e.0)

abbrev first_node_parts : NodeParts (List Node) → Node-F Target Case Node
first_node_parts = map-Node (Target × List Node) (Case × List Node) (Node × List Node) Target Case Node
    (λ part. part.0) (λ part. part.0) (λ part. part.0)

same_node_layer : (y : Node-F ((t : Target) × SameTarget t) ((c : Case) × SameCase c) ((n : Node) × SameNode n))
    → first_node_parts (node_with (node_fronts y)) ≡ node_fronts y
same_node_layer y =
    λ i. record {
      id = y.id;
      timeout_ms = y.timeout_ms;
      retries = y.retries;
      inputs = y.inputs;
      upstream =
          y.upstream;
      target = y.target.1 i;
    }

pub same_node : (n : Node) → SameNode n
same_node = ind-Node SameTarget SameCase SameNode
    (λ x y is. ap (λ parts. parts.0) (target_roll x)
    ∙ ap roll-Target (subst (λ z. first_parts (target_with z) ≡ z) is (same_layer y)))
    (λ x y is. ap (λ parts. parts.0) (case_roll x)
    ∙ ap roll-Case (subst (λ z. first_case_parts (case_with z) ≡ z) is (same_case_layer y)))
    (λ x y is. ap (λ parts. parts.0) (node_roll x)
    ∙ ap roll-Node (subst (λ z. first_node_parts (node_with z) ≡ z) is (same_node_layer y)))

-- ---- known outputs

some_each : {Y : Type 0} (xs : List (Option Y)) → ((o : Option Y) → Contains xs o → is_some o ≡ true)
    → is_some (each_value (λ o. o) xs) ≡ true
some_each xs h = each_value-tests (λ o. o) is_some xs (λ o. refl) ∙ all_from is_some xs h

module _ (b : Bundle) where
  abbrev outputs_of_target : Target → Found
  outputs_of_target = fold-Target Found Found Found (outputs_by b) case_outputs node_outputs

  abbrev outputs_of_case : Case → Found
  outputs_of_case = fold-Case Found Found Found (outputs_by b) case_outputs node_outputs

  abbrev target_outputs : Target-F Target Case Node → Target-F Found Found Found
  target_outputs = map-Target Target Case Node Found Found Found outputs_of_target outputs_of_case (outputs_of b)

  abbrev AllFound : List Node → Type 0
  AllFound ns = (m : Node) → Contains ns m → is_found b m ≡ true

  abbrev pub AllKnown : List Node → Type 0
  AllKnown ns = (m : Node) → Contains ns m → is_some (outputs_of b m) ≡ true

  abbrev KnownTarget : Target → Type 0
  KnownTarget t = is_some (inputs_by b (out-Target t)) ≡ true → AllFound (parts_of_target t).1 →
      (is_some (outputs_of_target t) ≡ true) × AllKnown (parts_of_target t).1

  abbrev KnownCase : Case → Type 0
  KnownCase c = AllFound (parts_of_case c).1 → (is_some (outputs_of_case c) ≡ true) × AllKnown (parts_of_case c).1

  abbrev KnownNode : Node → Type 0
  KnownNode n = is_found b n ≡ true → AllFound (parts_of_node n).1 → (is_some (outputs_of b n) ≡ true) × AllKnown
      (parts_of_node n).1

  -- a node with the nodes inside it
  abbrev whole : Node × List Node → List Node
  whole part = part.0 ∷ part.1

  known_whole : (n : Node) → KnownNode n → AllFound (whole (parts_of_node n))
      → (is_some (outputs_of b n) ≡ true) × AllKnown (whole (parts_of_node n))
  known_whole n known found =
      let own : is_found b n ≡ true = subst (λ m. is_found b m ≡ true) (same_node n)
      (found (parts_of_node n).0 (first_in (parts_of_node n).0 (parts_of_node n).1)) in
      let rest = known own (λ m has. found m (later_in (parts_of_node n).0 (parts_of_node n).1 m has)) in (
        rest.0,
        λ m has. ⊎_elim (λ same. subst (λ z. is_some (outputs_of b z) ≡ true) (sym (same_node n) ∙ same) rest.0)
            (λ more. rest.1 m more)
            (Contains-cons_cases (parts_of_node n).0 (parts_of_node n).1 m has),
      )

  abbrev inside_cases : List Case → List Node
  inside_cases cases = flat_map (λ (part : Case × List Node). part.1) (map parts_of_case cases)

  known_cases : (cs : List ((c : Case) × KnownCase c)) → AllFound (inside_cases (map (λ e. e.0) cs))
      → ((o : Found) → Contains (map outputs_of_case (map (λ e. e.0) cs)) o → is_some o ≡ true)
      × AllKnown (inside_cases (map (λ e. e.0) cs))
  known_cases [] found = (λ o has. absurd (Contains-nil o has), λ m has. absurd (Contains-nil m has))
  known_cases (c ∷ cs) found =
      let here =
      c.1 (λ m has. found m (Contains-append_left (parts_of_case c.0).1 (inside_cases (map (λ e. e.0) cs)) m has)) in
      let rest =
      known_cases cs
      (λ m has. found m (Contains-append_right (parts_of_case c.0).1 (inside_cases (map (λ e. e.0) cs)) m has)) in (
        λ o has. ⊎_elim (λ same. subst (λ p. is_some p ≡ true) same here.0) (λ more. rest.0 o more)
            (Contains-cons_cases (outputs_of_case c.0) (map outputs_of_case (map (λ e. e.0) cs)) o has),
        λ m has. ⊎_elim (λ first. here.1 m first) (λ more. rest.1 m more)
            (Contains-append_cases (parts_of_case c.0).1 (inside_cases (map (λ e. e.0) cs)) m has),
      )

  abbrev known_fronts : Target-F ((t : Target) × KnownTarget t) ((c : Case) × KnownCase c) ((n : Node) × KnownNode n)
      → Target-F Target Case Node
  known_fronts = map-Target ((t : Target) × KnownTarget t) ((c : Case) × KnownCase c)
      ((n : Node) × KnownNode n) Target Case Node (λ e. e.0) (λ e. e.0) (λ e. e.0)

  abbrev KnownLayer : Target-F Target Case Node → Type 0
  KnownLayer x =
      is_some (inputs_by b x) ≡ true → AllFound (inside_target (target_with x)) →
      (is_some (outputs_by b (target_outputs x)) ≡ true) × AllKnown (inside_target (target_with x))

  none_inside : AllKnown []
  none_inside m has = absurd (Contains-nil m has)

  known_layer : (y : Target-F ((t : Target) × KnownTarget t) ((c : Case) × KnownCase c) ((n : Node) × KnownNode n))
      → KnownLayer (known_fronts y)
  known_layer (Target-F.Task id) some found = (
    is_some-map (λ (t : Task). t.interface.outputs) (task_named b id) ∙ sym
        (is_some-map (λ (t : Task). t.interface.inputs) (task_named b id)) ∙ some,
    none_inside,
  )
  known_layer (Target-F.Workflow id) some found = (
    is_some-map (λ (t : Workflow). t.interface.outputs) (workflow_named b id) ∙ sym
        (is_some-map (λ (t : Workflow). t.interface.inputs) (workflow_named b id)) ∙ some,
    none_inside,
  )
  known_layer (Target-F.Array id min_successes) some found = (
    is_some-map _ (task_named b id) ∙ sym (is_some-map (λ (t : Task). t.interface.inputs) (task_named b id))
        ∙ some,
    none_inside,
  )
  known_layer (Target-F.Branch cases None error) some found =
      let fronts = map (λ (e : (c : Case) × KnownCase c). e.0) cases in
      let known = known_cases cases (λ m has. found m (Contains-append_left (inside_cases fronts) [] m has)) in (
        is_some-map common_variables (each_value (λ o. o) (map outputs_of_case fronts ++ []))
            ∙ some_each (map outputs_of_case fronts ++ []) (λ o has.
            ⊎_elim (λ first. known.0 o first) (λ more. absurd (Contains-nil o more))
            (Contains-append_cases (map outputs_of_case fronts) [] o has)),
        λ m has. ⊎_elim (λ first. known.1 m first) (λ more. absurd (Contains-nil m more))
            (Contains-append_cases (inside_cases fronts) [] m has),
      )
  known_layer (Target-F.Branch cases (Some n) error) some found =
      let fronts = map (λ (e : (c : Case) × KnownCase c). e.0) cases in
      let last = whole (parts_of_node n.0) ++ [] in
      let known = known_cases cases (λ m has. found m (Contains-append_left (inside_cases fronts) last m has)) in
      let other = known_whole n.0 n.1 (λ m has.
      found m (Contains-append_right (inside_cases fronts) last m
      (Contains-append_left (whole (parts_of_node n.0)) [] m has))) in (
        is_some-map common_variables (each_value (λ o. o) (map outputs_of_case fronts ++ outputs_of b n.0 ∷ []))
            ∙ some_each (map outputs_of_case fronts ++ outputs_of b n.0 ∷ []) (λ o has.
            ⊎_elim (λ first. known.0 o first)
            (λ more. subst (λ p. is_some p ≡ true) (in_one (outputs_of b n.0) o more) other.0)
            (Contains-append_cases (map outputs_of_case fronts) (outputs_of b n.0 ∷ []) o has)),
        λ m has. ⊎_elim (λ first. known.1 m first)
            (λ more. ⊎_elim (λ own. other.1 m own) (λ none. absurd (Contains-nil m none))
            (Contains-append_cases (whole (parts_of_node n.0)) [] m more))
            (Contains-append_cases (inside_cases fronts) last m has),
      )

  known_target_roll : (x : Target-F Target Case Node) → KnownLayer x → KnownTarget (roll-Target x)
  known_target_roll x known some found =
      let own = known (subst (λ z. is_some (inputs_by b z) ≡ true) (view.out-roll-Target x) some)
      (λ m has. found m (subst (λ (p : Target × List Node). Contains p.1 m) (sym (target_roll x)) has)) in (
        ap is_some (fold-roll-Target Found Found Found (outputs_by b) case_outputs node_outputs x) ∙ own.0,
        λ m has. own.1 m (subst (λ (p : Target × List Node). Contains p.1 m) (target_roll x) has),
      )

  known_case_roll : (x : Case-F Target Case Node) → KnownNode x.then → KnownCase (roll-Case x)
  known_case_roll x known found =
      let own =
      known_whole x.then known
      (λ m has. found m (subst (λ (p : Case × List Node). Contains p.1 m) (sym (case_roll x)) has)) in (
        ap is_some (fold-roll-Case Found Found Found (outputs_by b) case_outputs node_outputs x) ∙ own.0,
        λ m has. own.1 m (subst (λ (p : Case × List Node). Contains p.1 m) (case_roll x) has),
      )

  known_node_roll : (x : Node-F Target Case Node) → KnownTarget x.target → KnownNode (roll-Node x)
  known_node_roll x known some found =
      let target : (out-Node (roll-Node x)).target ≡ x.target = ap (λ (l : Node-F Target Case Node). l.target)
      (view.out-roll-Node x) in
      let own = known (subst (λ t. is_some (inputs_by b (out-Target t)) ≡ true) target some)
      (λ m has. found m (subst (λ (p : Node × List Node). Contains p.1 m) (sym (node_roll x)) has)) in (
        ap is_some (fold-roll-Node Found Found Found (outputs_by b) case_outputs node_outputs x) ∙ own.0,
        λ m has. own.1 m (subst (λ (p : Node × List Node). Contains p.1 m) (node_roll x) has),
      )

  known_node : (n : Node) → KnownNode n
  known_node = ind-Node KnownTarget KnownCase KnownNode
      (λ x y is. known_target_roll x (subst KnownLayer is (known_layer y)))
      (λ x y is. known_case_roll x (subst KnownNode (ap (λ (l : Case-F Target Case Node). l.then) is) y.then.1))
      (λ x y is. known_node_roll x (subst KnownTarget (ap (λ (l : Node-F Target Case Node). l.target) is) y.target.1))

  -- where each of the nodes runs what is there, the outputs of each are known
  pub all_known : (ns : List Node) → AllFound (flat_map (λ n. n ∷ inner_nodes n) ns)
      → AllKnown (flat_map (λ n. n ∷ inner_nodes n) ns)
  all_known ns found m has =
      let from = of_flat_map (λ n. n ∷ inner_nodes n) ns m has in
      let all : AllFound (from.0 ∷ inner_nodes from.0) =
      λ k there. found k (in_flat_map (λ n. n ∷ inner_nodes n) ns from.0 k from.1 there) in
      let known = known_node from.0 (all from.0 (first_in from.0 (inner_nodes from.0)))
      (λ k there. all k (later_in from.0 (inner_nodes from.0) k there)) in
      ⊎_elim (λ same. subst (λ z. is_some (outputs_of b z) ≡ true) same known.0) (λ more. known.1 m more)
      (Contains-cons_cases from.0 (inner_nodes from.0) m from.2)
