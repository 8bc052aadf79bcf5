-- What is known in a state of a plan of task nodes is of the promised types.
use Rattle.std.proofs.Common.{◌≡◌, ℕ, ◌<◌, Bool, true, false, cond, if◌then◌else◌, List, [], ◌∷◌, ◌++◌, map, flat_map, length, find, position, bytes_eq, Option, Some, None, is_some, option_map, option_and_then, option_to_list, IfSome, IsTrue, refl, sym, ◌∙◌, ap, subst, arith, append-nil, ⊎_elim}
use Rattle.std.specs.List.{slice_get, enumerate_from, AllZip}
use Rattle.std.proofs.lemmas.Bool.{cases_Bool, false≢true}
use Rattle.std.proofs.lemmas.Option.{none-some, same_Some}
use Rattle.fly_types.specs.declared.text.Text.{Text}
use Rattle.fly_types.specs.declared.kinds.LiteralType.{LiteralType}
use Rattle.fly_types.specs.declared.literals.Literal.{Literal}
use Rattle.fly_types.specs.declared.literals.LiteralMap.{LiteralMap}
use Rattle.fly_types.specs.declared.variable.Variable.{Variable}
use Rattle.fly_types.specs.Membership.{IsMember}
use Rattle.fly_policy.specs.Outcome.{Gives, AreOutputs}
use Rattle.fly_docs.specs.declared.node.Node.{Node}
use Rattle.fly_docs.specs.declared.workflow.Workflow.{Workflow}
use Rattle.fly_docs.specs.Bindings.{Promised}
use Rattle.fly_docs.specs.Interfaces.{type_of}
use Rattle.fly_docs.specs.Names.{start_node}
use Rattle.fly_docs.specs.NodeInterfaces.{Source, of_type, of_anything, no_node, no_variable, Found, outputs_of, source_in, source_by, source_of}
use Rattle.fly_docs.specs.Plans.{PlanNode, node_named}
use Rattle.fly_docs.specs.SlotInputs.{literal_named, known_literal}
use Rattle.fly_state.specs.declared.phase.Phase.{Phase}
use Rattle.fly_state.specs.declared.slots.SlotState.{SlotState}
use Rattle.fly_state.specs.declared.slots.ExecState.{ExecState}
use Rattle.fly_state.specs.OfPlan.{IsOfPlan, IsNodeOfPlan, IsTypedSlot, output_variables}
use Rattle.fly_state.specs.Origins.{source_within, source_in_run}
use Rattle.fly_state.specs.PlanTables.{IsOuterPlan, outer_node}
use Rattle.fly_state.specs.Plans.{RunPlan, same_path, number_in, node_numbered}
use Rattle.fly_state.specs.Sites.{node_place}
use Rattle.fly_state.specs.States.{own_state, phase_of, is_succeeded, outputs_in, known_in}
use Rattle.fly_state.specs.Values.{HasKnownTypes}
use Rattle.fly_state.proofs.KeyLemmas.{bytes_eq_back}
use Rattle.fly_state.proofs.OuterPlans.{numbered-outer}
use Rattle.fly_state.proofs.PlaceLemmas.{position_alike, position_map}
use Rattle.fly_state.proofs.PlanLemmas.{found_by_place, nodes_of-plain, paths-outer, and-true}

-- ---- maps of declared types

-- a map that gives declared outputs has a literal of each, of its type
pub gives-named : (variables : List Variable) (entries : List (Text × Literal)) → AllZip Gives variables entries → (name : Text) (t : LiteralType)
    → option_map (λ (v : Variable). v.kind) (find (λ (v : Variable). bytes_eq v.name name) variables) ≡ Some t
    → (l : Literal) × (option_map (λ (e : Text × Literal). e.1) (find (λ (e : Text × Literal). bytes_eq e.0 name) entries) ≡ Some l) × IsMember t l
gives-named [] [] zips name t is = absurd (none-some t is)
gives-named [] (e ∷ es) zips name t is = absurd zips
gives-named (v ∷ vs) [] zips name t is = absurd zips
gives-named (v ∷ vs) (e ∷ es) zips name t is =
    let same : bytes_eq e.0 name ≡ bytes_eq v.name name = ap (λ n. bytes_eq n name) zips.0.0 in
    let first : Bool → Option LiteralType = λ b. option_map (λ (x : Variable). x.kind) (cond b (Some v) (find (λ (x : Variable). bytes_eq x.name name) vs)) in
    let given : Bool → Option Literal = λ b. option_map (λ (x : Text × Literal). x.1) (cond b (Some e) (find (λ (x : Text × Literal). bytes_eq x.0 name) es)) in
    ⊎_elim (λ yes.
    let kind : v.kind ≡ t = same_Some _ _ (sym (ap first yes) ∙ is) in
    (e.1, ap given (same ∙ yes), subst (λ u. IsMember u e.1) kind zips.0.1))
    (λ no.
    let rest = gives-named vs es zips.1 name t (sym (ap first no) ∙ is) in
    (rest.0, ap given (same ∙ no) ∙ rest.1, rest.2))
    (cases_Bool (bytes_eq v.name name))

-- a source of a type is a variable of that type
pub kinds-in : (name : Text) (variables : List Variable) (t : LiteralType) → source_in name variables ≡ of_type t → type_of name variables ≡ Some t
kinds-in name variables t e = by (type_of name variables) refl
  where
    by : (o : Option LiteralType) → type_of name variables ≡ o → type_of name variables ≡ Some t
    by None is = let none : source_in name variables ≡ no_variable = rw is refl in let bad : no_variable ≡ of_type t = sym none ∙ e in cc
    by (Some k) is = let some : source_in name variables ≡ of_type k = rw is refl in let good : of_type k ≡ of_type t = sym some ∙ e in is ∙ (cc)

module _ (plan : RunPlan) (w : Workflow) (outer : IsOuterPlan plan w) where
  abbrev id_of : Node → Text
  id_of n = n.id

  pub number_in-plain : (id : Text) → number_in plan [] id ≡ node_place w.nodes id
  number_in-plain id =
      sym (position_map (same_path (id ∷ [])) (λ (p : PlanNode). p.path) plan.nodes)
      ∙ ap (position (same_path (id ∷ []))) (ap (map (λ (p : PlanNode). p.path)) outer.nodes_are ∙ paths-outer w 0 w.nodes)
      ∙ position_map (same_path (id ∷ [])) (λ i. i ∷ []) (map id_of w.nodes)
      ∙ position_alike (λ other. same_path (id ∷ []) (other ∷ [])) (bytes_eq id) (map id_of w.nodes) (λ other. and-true (bytes_eq id other))

  named-plain : (id : Text) → node_named w id ≡ option_and_then (slice_get w.nodes) (number_in plan [] id)
  named-plain id =
      ap (find (λ (n : Node). bytes_eq n.id id)) (nodes_of-plain w outer.plain)
      ∙ found_by_place (λ (n : Node). bytes_eq n.id id) w.nodes
      ∙ ap (option_and_then (slice_get w.nodes))
      (position_alike (λ (n : Node). bytes_eq n.id id) (λ (n : Node). bytes_eq id n.id) w.nodes (λ n. bytes_eq_back n.id id)
      ∙ sym (position_map (bytes_eq id) (λ (n : Node). n.id) w.nodes)
      ∙ sym (number_in-plain id))

  pub source-plain : (promise : Promised) → source_in_run plan promise ≡ source_of plan.documents w promise
  source-plain promise = ap (λ o. source_within plan o promise) outer.named

  abbrev pub chosen : Promised → Bool → Source
  chosen promise b =
      if b then source_in promise.1 w.interface.inputs
      else source_by plan.documents promise.1 (option_and_then (slice_get w.nodes) (number_in plan [] promise.0))

  pub source-chosen : (promise : Promised) (b : Bool) → bytes_eq promise.0 start_node ≡ b → source_in_run plan promise ≡ chosen promise b
  source-chosen promise b e =
      source-plain promise
      ∙ ap (λ c. if c then source_in promise.1 w.interface.inputs else source_by plan.documents promise.1 (node_named w promise.0)) e
      ∙ ap (λ o. if b then source_in promise.1 w.interface.inputs else source_by plan.documents promise.1 o) (named-plain promise.0)

  module _ (s : ExecState) (of_plan : IsOfPlan plan s) where
    pub known-start : (promise : Promised) → bytes_eq promise.0 start_node ≡ true → known_in plan s [] promise.0 ≡ s.root.inputs
    known-start promise e =
        ap (λ b. if b then s.root.inputs else option_and_then (λ i. outputs_in (own_state s i)) (number_in plan [] promise.0)) e

    pub known-node : (promise : Promised) → bytes_eq promise.0 start_node ≡ false
        → known_in plan s [] promise.0 ≡ option_and_then (λ i. outputs_in (own_state s i)) (number_in plan [] promise.0)
    known-node promise e =
        ap (λ b. if b then s.root.inputs else option_and_then (λ i. outputs_in (own_state s i)) (number_in plan [] promise.0)) e

    -- what stands in a slot of declared outputs
    literal-typed : (variables : List Variable) (o : Option LiteralMap) → IfSome o (AreOutputs variables) → (name : Text) (t : LiteralType) (l : Literal)
        → type_of name variables ≡ Some t → option_and_then (literal_named name) o ≡ Some l → IsMember t l
    literal-typed variables None given name t l kind is = absurd (none-some l is)
    literal-typed variables (Some m) given name t l kind is =
        let found = gives-named variables m.entries given name t kind in
        subst (IsMember t) (same_Some _ _ (sym found.1 ∙ is)) found.2

    pub outputs-typed : (variables : List Variable) (slot : SlotState) → IfSome slot.outputs (AreOutputs variables) → IfSome (outputs_in slot) (AreOutputs variables)
    outputs-typed variables slot given = by (is_succeeded slot.phase) refl
      where
        by : (b : Bool) → is_succeeded slot.phase ≡ b → IfSome (outputs_in slot) (AreOutputs variables)
        by true e = subst (λ c. IfSome (if c then slot.outputs else None) (AreOutputs variables)) (sym e) given
        by false e = subst (λ c. IfSome (if c then slot.outputs else None) (AreOutputs variables)) (sym e) tt

    -- the variables that the node of a number gives
    abbrev IsSourceAt : Promised → LiteralType → Option ℕ → Type 0
    IsSourceAt promise t o = source_by plan.documents promise.1 (option_and_then (slice_get w.nodes) o) ≡ of_type t

    node-typed : (promise : Promised) (t : LiteralType) (l : Literal) (o : Option ℕ) → IsSourceAt promise t o
        → option_and_then (literal_named promise.1) (option_and_then (λ i. outputs_in (own_state s i)) o) ≡ Some l → IsMember t l
    node-typed promise t l None source is = absurd (none-some l is)
    node-typed promise t l (Some i) source is = by (slice_get w.nodes i) refl
      where
        by : (n : Option Node) → slice_get w.nodes i ≡ n → IsMember t l
        by None there =
            let bad : no_node ≡ of_type t = sym (ap (source_by plan.documents promise.1) there) ∙ source in cc
        by (Some n) there = found (outputs_of plan.documents n) refl
          where
            planned : node_numbered plan i ≡ Some (outer_node w (i, n))
            planned = numbered-outer plan w outer i ∙ ap (option_map (λ m. outer_node w (i, m))) there

            found : (f : Found) → outputs_of plan.documents n ≡ f → IsMember t l
            found None e =
                let at : source_by plan.documents promise.1 (Some n) ≡ of_anything = rw e refl in
                let bad : of_anything ≡ of_type t = sym at ∙ sym (ap (source_by plan.documents promise.1) there) ∙ source in cc
            found (Some variables) e =
                let at : source_by plan.documents promise.1 (Some n) ≡ source_in promise.1 variables = rw e refl in
                let kind = kinds-in promise.1 variables t (sym at ∙ sym (ap (source_by plan.documents promise.1) there) ∙ source) in
                let given = (of_plan.nodes i (outer_node w (i, n)) planned).typed.given in
                let declared : output_variables plan (outer_node w (i, n)) ≡ variables =
                ap (λ (f : Found). flat_map (λ vs. vs) (option_to_list f)) e ∙ append-nil variables in
                literal-typed variables (outputs_in (own_state s i))
                (outputs-typed variables (own_state s i) (subst (λ vs. IfSome (own_state s i).outputs (AreOutputs vs)) declared given))
                promise.1 t l kind is

    -- what is known is of the promised types
    pub known-types : HasKnownTypes plan s
    known-types promise t l source is =
        ⊎_elim (λ start.
        literal-typed w.interface.inputs s.root.inputs (of_plan.root w outer.named).typed.taken promise.1 t l
        (kinds-in promise.1 w.interface.inputs t (sym (source-chosen promise true start) ∙ source))
        (sym (ap (option_and_then (literal_named promise.1)) (known-start promise start)) ∙ is))
        (λ other.
        node-typed promise t l (number_in plan [] promise.0) (sym (source-chosen promise false other) ∙ source)
        (sym (ap (option_and_then (literal_named promise.1)) (known-node promise other)) ∙ is))
        (cases_Bool (bytes_eq promise.0 start_node))
