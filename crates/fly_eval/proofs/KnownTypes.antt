-- What is known in a state is of the promised types, where what its slots hold is of the declared ones.
use Rattle.std.proofs.Common.{◌≡◌, ℕ, Bool, true, false, if◌then◌else◌, List, [], flat_map, bytes_eq, Option, Some, None, option_map, option_and_then, option_to_list, IfSome, refl, sym, ◌∙◌, ap, subst, append-nil, ⊎_elim}
use Rattle.std.specs.List.{slice_get}
use Rattle.std.proofs.lemmas.Bool.{cases_Bool}
use Rattle.std.proofs.lemmas.Option.{none-some, same_Some}
use Rattle.fly_types.specs.declared.text.Text.{Text}
use Rattle.fly_types.specs.declared.kinds.LiteralType.{LiteralType}
use Rattle.fly_types.specs.declared.literals.Literal.{Literal}
use Rattle.fly_types.specs.declared.literals.LiteralMap.{LiteralMap}
use Rattle.fly_types.specs.declared.variable.Variable.{Variable}
use Rattle.fly_types.specs.Membership.{IsMember}
use Rattle.fly_policy.specs.Outcome.{AreOutputs}
use Rattle.fly_docs.specs.declared.node.Node.{Node}
use Rattle.fly_docs.specs.declared.workflow.Workflow.{Workflow}
use Rattle.fly_docs.specs.Bindings.{Promised}
use Rattle.fly_docs.specs.Interfaces.{type_of}
use Rattle.fly_docs.specs.Names.{start_node}
use Rattle.fly_docs.specs.NodeInterfaces.{of_type, of_anything, no_node, Found, outputs_of, source_in, source_by}
use Rattle.fly_docs.specs.Plans.{PlanNode}
use Rattle.fly_docs.specs.SlotInputs.{literal_named}
use Rattle.fly_state.specs.declared.slots.SlotState.{SlotState}
use Rattle.fly_state.specs.declared.slots.ExecState.{ExecState}
use Rattle.fly_state.specs.OfPlan.{output_variables}
use Rattle.fly_state.specs.PlanTables.{IsOuterPlan, outer_node}
use Rattle.fly_state.specs.Plans.{RunPlan, number_in, node_numbered}
use Rattle.fly_state.specs.States.{own_state, is_succeeded, outputs_in, known_in}
use Rattle.fly_state.specs.Values.{HasKnownTypes}
use Rattle.fly_state.proofs.OuterPlans.{numbered-outer}
use Rattle.fly_state.proofs.OuterTypes.{gives-named, kinds-in, source-chosen}

-- what stands in a slot of declared outputs
literal-typed : (variables : List Variable) (o : Option LiteralMap) → IfSome o (AreOutputs variables) → (name : Text) (t : LiteralType) (l : Literal)
    → type_of name variables ≡ Some t → option_and_then (literal_named name) o ≡ Some l → IsMember t l
literal-typed variables None given name t l kind is = absurd (none-some l is)
literal-typed variables (Some m) given name t l kind is =
    let found = gives-named variables m.entries given name t kind in
    subst (IsMember t) (same_Some _ _ (sym found.1 ∙ is)) found.2

outputs-typed : (variables : List Variable) (slot : SlotState) → IfSome slot.outputs (AreOutputs variables) → IfSome (outputs_in slot) (AreOutputs variables)
outputs-typed variables slot given = by (is_succeeded slot.phase) refl
  where
    by : (b : Bool) → is_succeeded slot.phase ≡ b → IfSome (outputs_in slot) (AreOutputs variables)
    by true e = subst (λ c. IfSome (if c then slot.outputs else None) (AreOutputs variables)) (sym e) given
    by false e = subst (λ c. IfSome (if c then slot.outputs else None) (AreOutputs variables)) (sym e) tt

module _ (plan : RunPlan) (w : Workflow) (outer : IsOuterPlan plan w) (s : ExecState)
    (taken : IfSome s.root.inputs (AreOutputs w.interface.inputs))
    (given : (i : ℕ) (p : PlanNode) → node_numbered plan i ≡ Some p → IfSome (own_state s i).outputs (AreOutputs (output_variables plan p))) where
  known-start : (promise : Promised) → bytes_eq promise.0 start_node ≡ true → known_in plan s [] promise.0 ≡ s.root.inputs
  known-start promise e =
      ap (λ b. if b then s.root.inputs else option_and_then (λ i. outputs_in (own_state s i)) (number_in plan [] promise.0)) e

  known-node : (promise : Promised) → bytes_eq promise.0 start_node ≡ false
      → known_in plan s [] promise.0 ≡ option_and_then (λ i. outputs_in (own_state s i)) (number_in plan [] promise.0)
  known-node promise e =
      ap (λ b. if b then s.root.inputs else option_and_then (λ i. outputs_in (own_state s i)) (number_in plan [] promise.0)) e

  -- the variables that the node of a number gives
  abbrev IsSourceAt : Promised → LiteralType → Option ℕ → Type 0
  IsSourceAt promise t o = source_by plan.documents promise.1 (option_and_then (slice_get w.nodes) o) ≡ of_type t

  node-typed : (promise : Promised) (t : LiteralType) (l : Literal) (o : Option ℕ) → IsSourceAt promise t o
      → option_and_then (literal_named promise.1) (option_and_then (λ i. outputs_in (own_state s i)) o) ≡ Some l → IsMember t l
  node-typed promise t l None source is = absurd (none-some l is)
  node-typed promise t l (Some i) source is = by (slice_get w.nodes i) refl
    where
      by : (n : Option Node) → slice_get w.nodes i ≡ n → IsMember t l
      by None there =
          let bad : no_node ≡ of_type t = sym (ap (source_by plan.documents promise.1) there) ∙ source in cc
      by (Some n) there = found (outputs_of plan.documents n) refl
        where
          planned : node_numbered plan i ≡ Some (outer_node w (i, n))
          planned = numbered-outer plan w outer i ∙ ap (option_map (λ m. outer_node w (i, m))) there

          found : (f : Found) → outputs_of plan.documents n ≡ f → IsMember t l
          found None e =
              let at : source_by plan.documents promise.1 (Some n) ≡ of_anything = rw e refl in
              let bad : of_anything ≡ of_type t = sym at ∙ sym (ap (source_by plan.documents promise.1) there) ∙ source in cc
          found (Some variables) e =
              let at : source_by plan.documents promise.1 (Some n) ≡ source_in promise.1 variables = rw e refl in
              let kind = kinds-in promise.1 variables t (sym at ∙ sym (ap (source_by plan.documents promise.1) there) ∙ source) in
              let declared : output_variables plan (outer_node w (i, n)) ≡ variables =
              ap (λ (f : Found). flat_map (λ vs. vs) (option_to_list f)) e ∙ append-nil variables in
              literal-typed variables (outputs_in (own_state s i))
              (outputs-typed variables (own_state s i)
              (subst (λ vs. IfSome (own_state s i).outputs (AreOutputs vs)) declared (given i (outer_node w (i, n)) planned)))
              promise.1 t l kind is

  pub known-typed : HasKnownTypes plan s
  known-typed promise t l source is =
      ⊎_elim (λ start.
      literal-typed w.interface.inputs s.root.inputs taken promise.1 t l
      (kinds-in promise.1 w.interface.inputs t (sym (source-chosen plan w outer promise true start) ∙ source))
      (sym (ap (option_and_then (literal_named promise.1)) (known-start promise start)) ∙ is))
      (λ other.
      node-typed promise t l (number_in plan [] promise.0) (sym (source-chosen plan w outer promise false other) ∙ source)
      (sym (ap (option_and_then (literal_named promise.1)) (known-node promise other)) ∙ is))
      (cases_Bool (bytes_eq promise.0 start_node))
