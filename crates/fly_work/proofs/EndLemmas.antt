-- A settled run of a plan of task nodes in one workflow closes.
use Rattle.std.proofs.Common.{◌≡◌, ◌≢◌, ℕ, ◌<◌, Bool, true, false, not, ◌&&◌, ◌||◌, if◌then◌else◌, List, [], ◌∷◌, map, flat_map, length, bytes_eq, Contains, Option, Some, None, option_map, option_and_then, option_to_list, is_some, Ok, Err, IfSome, refl, sym, ◌∙◌, ap, subst, arith, append-nil, ⊎_elim}
use Rattle.std.specs.List.{slice_get, list_any}
use Rattle.std.proofs.lemmas.Bool.{and_from, and_parts, cases_Bool, false≢true, true≢false, or_cases, or_left, or_right}
use Rattle.std.proofs.lemmas.List.Folds.{list_any_at}
use Rattle.std.proofs.lemmas.List.Sorted.{Contains-permutation, IsPermutation-sym}
use Rattle.std.proofs.lemmas.Option.{slice_get_within}
use Rattle.std.proofs.lemmas.Slice.Eq.{bytes_eq-Decides}
use Rattle.fly_types.specs.declared.text.Text.{Text}
use Rattle.fly_types.specs.declared.kinds.LiteralType.{LiteralType}
use Rattle.fly_types.specs.declared.literals.LiteralMap.{LiteralMap}
use Rattle.fly_types.specs.declared.variable.Variable.{Variable}
use Rattle.fly_policy.specs.Outcome.{AreOutputs}
use Rattle.fly_docs.specs.declared.binding.Binding.{Binding}
use Rattle.fly_docs.specs.declared.task.Task.{Task}
use Rattle.fly_docs.specs.declared.workflow.Workflow.{Workflow}
use Rattle.fly_docs.specs.Bindings.{Promised, promises_of, sources_of}
use Rattle.fly_docs.specs.Interfaces.{names_of, bound_names, type_of}
use Rattle.fly_docs.specs.Names.{start_node}
use Rattle.fly_docs.specs.NodeInterfaces.{Source, of_type, of_anything, no_node, no_variable, Found, outputs_of, source_in, source_by}
use Rattle.fly_docs.specs.SlotInputs as docs
use Rattle.fly_docs.specs.SlotInputs.{Taken, bound_value, values_of, variable_value, literal_named, workflow_outputs}
use Rattle.fly_docs.proofs.NodeLemmas.{outputs_of-task}
use Rattle.fly_cast.specs.Conversion.{each_result}
use Rattle.fly_rules.proofs.GroundLemmas.{Contains-map, Contains-flat_map}
use Rattle.fly_rules.proofs.RuleLemmas.{holds_along_order}
use Rattle.fly_rules.specs.Standing.{Standing, waiting, blocked, skipped, ready, is_waiting_standing, is_blocked_standing, is_skipped_standing, standing_among}
use Rattle.fly_state.specs.declared.phase.Phase.{Phase}
use Rattle.fly_state.specs.declared.phase.Phase.TheVariants as phase
use Rattle.fly_state.specs.declared.slots.SlotState.{SlotState}
use Rattle.fly_state.specs.declared.slots.ExecState.{ExecState}
use Rattle.fly_state.specs.Moves.{has_failure, misses_output, slot_with_outputs, closed_instance_slot}
use Rattle.fly_state.specs.OfPlan.{IsOfPlan, is_aborted, output_variables}
use Rattle.fly_state.specs.Origins.{source_in_run}
use Rattle.fly_state.specs.PlanTables.{IsOuterPlan, outer_node}
use Rattle.fly_state.specs.Plans.{RunPlan, number_in, looks}
use Rattle.fly_state.specs.Standing.{sign_of, signs_at, standing_of, is_at_rest, is_settled}
use Rattle.fly_state.specs.States.{own_state, phase_of, is_final, is_failure, is_not_yet_started, is_succeeded, is_skipped, is_broken, outputs_in, known_in}
use Rattle.fly_state.proofs.AskedInputs.{found-in, found-one, some-there, sources-same}
use Rattle.fly_state.proofs.EffectNodes.{fit-outputs}
use Rattle.fly_state.proofs.Lists.{first_in, later_in, of_map}
use Rattle.fly_state.proofs.MoveLemmas.{closed-there}
use Rattle.fly_state.proofs.NotUnknown.{IsClear, IsKnownPromise, clear-map, clear-each, clear-value}
use Rattle.fly_state.proofs.OuterNodes.{its, planned-at, numbered-node}
use Rattle.fly_state.proofs.OuterPlans.{all-nodes, broken-outer, case-none, count-outer, failure-outer, planned-outer}
use Rattle.fly_state.proofs.OuterTypes.{gives-named, kinds-in, source-chosen, known-start, known-node}
use Rattle.fly_state.proofs.Ranges.{all-at, any-at}
use Rattle.fly_state.proofs.StandingLemmas.{by_outer, standing-fixed}
use Rattle.fly_state.proofs.TakenLemmas.{variable-bound}

-- ---- signs

-- a node stands blocked only by one that blocks it
unblocked-among : (xs : List Standing) → list_any is_blocked_standing xs ≡ false
    → is_blocked_standing (standing_among xs) ≡ false
unblocked-among xs none =
    by (list_any is_skipped_standing xs) (list_any is_waiting_standing xs) (list_any is_blocked_standing xs) none
  where
    by : (a b c : Bool) → c ≡ false
        → is_blocked_standing (if a then skipped else (if b then waiting else (if c then blocked else ready))) ≡ false
    by true b c e = refl
    by false true c e = refl
    by false false false e = refl
    by false false true e = absurd (true≢false e)

-- one that did not fail blocks nothing, unless it is blocked itself
unblocked-sign : (f : Phase) (x : Standing) → is_failure f ≡ false
    → (is_not_yet_started f ≡ true → is_blocked_standing x ≡ false) → is_blocked_standing (sign_of f x) ≡ false
unblocked-sign phase.Failed x good fresh = absurd (true≢false good)
unblocked-sign phase.TimedOut x good fresh = absurd (true≢false good)
unblocked-sign phase.NotYetStarted blocked good fresh = absurd (true≢false (fresh refl))
unblocked-sign phase.NotYetStarted waiting good fresh = refl
unblocked-sign phase.NotYetStarted skipped good fresh = refl
unblocked-sign phase.NotYetStarted ready good fresh = refl
unblocked-sign phase.Queued x good fresh = refl
unblocked-sign phase.Running x good fresh = refl
unblocked-sign phase.RetryableFailure x good fresh = refl
unblocked-sign phase.Succeeding x good fresh = refl
unblocked-sign phase.Succeeded x good fresh = refl
unblocked-sign phase.Skipped x good fresh = refl
unblocked-sign phase.Aborted x good fresh = refl

unblocked-fresh : (f : Phase) (x : Standing) → is_not_yet_started f ≡ true → is_blocked_standing (sign_of f x) ≡ false
    → is_blocked_standing x ≡ false
unblocked-fresh phase.NotYetStarted blocked fresh e = e
unblocked-fresh phase.NotYetStarted waiting fresh e = refl
unblocked-fresh phase.NotYetStarted skipped fresh e = refl
unblocked-fresh phase.NotYetStarted ready fresh e = refl
unblocked-fresh phase.Queued x fresh e = absurd (false≢true fresh)
unblocked-fresh phase.Running x fresh e = absurd (false≢true fresh)
unblocked-fresh phase.RetryableFailure x fresh e = absurd (false≢true fresh)
unblocked-fresh phase.Succeeding x fresh e = absurd (false≢true fresh)
unblocked-fresh phase.Succeeded x fresh e = absurd (false≢true fresh)
unblocked-fresh phase.Failed x fresh e = absurd (false≢true fresh)
unblocked-fresh phase.TimedOut x fresh e = absurd (false≢true fresh)
unblocked-fresh phase.Skipped x fresh e = absurd (false≢true fresh)
unblocked-fresh phase.Aborted x fresh e = absurd (false≢true fresh)

-- no sign passes a test that fails at each
pub no-sign : (test : Standing → Bool) (s : ExecState) (f : ℕ → Standing) (us : List ℕ)
    → ((u : ℕ) → Contains us u → test (sign_of (phase_of s u) (f u)) ≡ false) → list_any test (signs_at s f us) ≡ false
no-sign test s f [] each = refl
no-sign test s f (u ∷ us) each =
    ap (λ b. b || list_any test (signs_at s f us)) (each u (first_in u us))
    ∙ no-sign test s f us (λ v has. each v (later_in u us v has))

-- ---- phases

-- what ended otherwise in no way succeeded
succeeded-left : (f : Phase) → is_final f ≡ true → is_failure f ≡ false → is_skipped f ≡ false → is_aborted f ≡ false
    → is_succeeded f ≡ true
succeeded-left phase.Succeeded final good there whole = refl
succeeded-left phase.Failed final good there whole = absurd (true≢false good)
succeeded-left phase.TimedOut final good there whole = absurd (true≢false good)
succeeded-left phase.Skipped final good there whole = absurd (true≢false there)
succeeded-left phase.Aborted final good there whole = absurd (true≢false whole)
succeeded-left _ final good there whole = absurd (false≢true final)

-- ---- promises

typed-kind : (name : Text) (variables : List Variable) → source_in name variables ≢ of_anything
typed-kind name variables e = by (type_of name variables) refl
  where
    by : (o : Option LiteralType) → type_of name variables ≡ o → ⊥
    by None is =
        let none : source_in name variables ≡ no_variable = rw is refl in
        let bad : no_variable ≡ of_anything = sym none ∙ e in cc
    by (Some k) is =
        let some : source_in name variables ≡ of_type k = rw is refl in
        let bad : of_type k ≡ of_anything = sym some ∙ e in cc

-- a test that no element passes
fails-at : {X : Type 0} (p : X → Bool) (xs : List X) (x : X) → list_any p xs ≡ false → Contains xs x → p x ≡ false
fails-at p xs x none has =
    ⊎_elim (λ passes. absurd (true≢false (sym (list_any_at p xs has.0 x has.1 (ap p has.2 ∙ passes)) ∙ none)))
    (λ fails. fails)
    (cases_Bool (p x))

-- what comes of values that are known closes a slot
closes-clear : (slot : SlotState) (taken : Taken LiteralMap) → IsClear taken
    → is_some (slot_with_outputs slot taken) ≡ true
closes-clear slot (Ok outputs) clear = refl
closes-clear slot (Err (docs.enum_outside text)) clear = refl
closes-clear slot (Err (docs.unequal_lengths first second)) clear = absurd clear
closes-clear slot (Err (docs.too_many_items count)) clear = absurd clear
closes-clear slot (Err docs.unknown) clear = absurd clear

module _ (plan : RunPlan) (w : Workflow) (outer : IsOuterPlan plan w) (s : ExecState) (of_plan : IsOfPlan plan s) where
  -- ---- what is known of promises

  abbrev IsKnown : Promised → Type 0
  IsKnown promise = IsKnownPromise (source_in_run plan) (known_in plan s []) promise

  -- a promise of one of these variables, of which each has a literal
  known-among : (promise : Promised) (variables : List Variable) (m : LiteralMap)
      → source_in_run plan promise ≡ source_in promise.1 variables
      → known_in plan s [] promise.0 ≡ Some m → AreOutputs variables m → IsKnown promise
  known-among promise variables m source known given = (
    λ e. typed-kind promise.1 variables (sym source ∙ e),
    λ t is.
        let kind = kinds-in promise.1 variables t (sym source ∙ is) in
        let one = gives-named variables m.entries given promise.1 t kind in
        (one.0, ap (option_and_then (literal_named promise.1)) known ∙ one.1),
  )

  known-first : (promise : Promised) → bytes_eq promise.0 start_node ≡ true → IsKnown promise
  known-first promise start =
      let root = of_plan.root w outer.named in
      let there = some-there s.root.inputs root.has_inputs in
      known-among promise w.interface.inputs there.0 (source-chosen plan w outer promise true start)
      (known-start plan w outer s of_plan promise start ∙ there.1)
      (subst (λ (o : Option LiteralMap). IfSome o (AreOutputs w.interface.inputs)) there.1 root.typed.taken)

  -- a node that succeeded
  known-given : (promise : Promised) → bytes_eq promise.0 start_node ≡ false
      → (j : ℕ) → number_in plan [] promise.0 ≡ Some j → is_succeeded (phase_of s j) ≡ true → IsKnown promise
  known-given promise other j is good =
      let node = numbered-node plan w outer promise.0 j is in
      let m = node.0 in
      let task = its plan w outer j m node.1 in
      let variables = task.1.interface.outputs in
      let found : outputs_of plan.documents m ≡ Some variables =
      outputs_of-task plan.documents m task.0 task.2 ∙ ap (option_map (λ (t : Task). t.interface.outputs)) task.3 in
      let at : source_by plan.documents promise.1 (Some m) ≡ source_in promise.1 variables = rw found refl in
      let typed = (of_plan.nodes j (outer_node w (j, m)) (planned-at plan w outer j m node.1)).typed in
      let there = some-there (own_state s j).outputs (typed.complete (or_left _ _ good)) in
      let declared : output_variables plan (outer_node w (j, m)) ≡ variables =
      ap (λ (f : Found). flat_map (λ vs. vs) (option_to_list f)) found ∙ append-nil variables in
      let given =
      subst (λ (o : Option LiteralMap). IfSome o (AreOutputs (output_variables plan (outer_node w (j, m)))))
      there.1 typed.given in
      known-among promise variables there.0
      (source-chosen plan w outer promise false other
      ∙ ap (λ o. source_by plan.documents promise.1 (option_and_then (slice_get w.nodes) o)) is
      ∙ ap (source_by plan.documents promise.1) node.1 ∙ at)
      (known-node plan w outer s of_plan promise other
      ∙ ap (option_and_then (λ i. outputs_in (own_state s i))) is
      ∙ ap (λ b. if b then (own_state s j).outputs else None) good ∙ there.1)
      (subst (λ vs. AreOutputs vs there.0) declared given)

  -- what is promised from no node of the plan
  known-nowhere : (promise : Promised) → bytes_eq promise.0 start_node ≡ false → number_in plan [] promise.0 ≡ None
      → IsKnown promise
  known-nowhere promise other none =
      let source : source_in_run plan promise ≡ no_node =
      source-chosen plan w outer promise false other
      ∙ ap (λ o. source_by plan.documents promise.1 (option_and_then (slice_get w.nodes) o)) none in (
        λ e. let bad : no_node ≡ of_anything = sym source ∙ e in cc,
        λ t is. let bad : no_node ≡ of_type t = sym source ∙ is in cc,
      )

  known-promise : (promise : Promised)
      → ((j : ℕ) → number_in plan [] promise.0 ≡ Some j → is_succeeded (phase_of s j) ≡ true) → IsKnown promise
  known-promise promise good =
      ⊎_elim (known-first promise) (λ other. by other (number_in plan [] promise.0) refl)
      (cases_Bool (bytes_eq promise.0 start_node))
    where
      by : bytes_eq promise.0 start_node ≡ false → (o : Option ℕ) → number_in plan [] promise.0 ≡ o → IsKnown promise
      by other None none = known-nowhere promise other none
      by other (Some j) is = known-given promise other j is (good j is)

  -- ---- what is bound to the outputs of the run

  -- where all that they promise from succeeded, their values are known
  clear-outputs : ((id : Text) (j : ℕ) → Contains (sources_of w.outputs) id → number_in plan [] id ≡ Some j
      → is_succeeded (phase_of s j) ≡ true)
      → IsClear (values_of (bound_value (source_in_run plan) (known_in plan s [])) w.interface.outputs w.outputs)
  clear-outputs good =
      let variables = w.interface.outputs in
      let bindings = w.outputs in
      let bound = outer.typed.outputs in
      let value = bound_value (source_in_run plan) (known_in plan s []) in
      clear-map _ (each_result (variable_value value bindings) variables)
      (clear-each (variable_value value bindings) variables (λ v has.
      let named : Contains (bound_names bindings) v.name =
      Contains-permutation (names_of variables) (bound_names bindings) v.name
      (IsPermutation-sym (bound_names bindings) (names_of variables) bound.once)
      (Contains-map (λ (x : Variable). x.name) variables v has) in
      let which = of_map (λ (x : Binding). x.var) bindings v.name named in
      let binding = found-one (λ (x : Binding). bytes_eq x.var v.name) bindings which.0 which.1
      ((bytes_eq-Decides which.0.var v.name).1 which.2) in
      let inside = (found-in (λ (x : Binding). bytes_eq x.var v.name) bindings binding.0 binding.1).0 in
      subst IsClear (sym (variable-bound value bindings v binding.0 binding.1))
      (clear-map (λ l. (v.name, l)) (value binding.0.bound v.kind)
      (clear-value (source_in_run plan) (known_in plan s []) binding.0.bound v.kind
      (fit-outputs plan w outer v has binding.0 binding.1) (λ promise promised.
      known-promise promise (λ j is.
      good promise.0 j
      (Contains-flat_map (λ (x : Binding). map (λ (q : Promised). q.0) (promises_of x.bound)) bindings binding.0
      promise.0 inside (Contains-map (λ (q : Promised). q.0) (promises_of binding.0.bound) promise promised)) is))))))

  -- ---- a run without failures

  module _ (good : has_failure plan s [] ≡ false) where
    no-failure : (v : ℕ) → v < length plan.nodes → is_failure (phase_of s v) ≡ false
    no-failure v small =
        ⊎_elim (λ fails.
        absurd (true≢false (sym (failure-outer plan w outer s
        ∙ any-at (λ i. is_failure (phase_of s i)) (length plan.nodes) v small fails) ∙ good))) (λ passes. passes)
        (cases_Bool (is_failure (phase_of s v)))

    unbroken : is_broken plan s [] ≡ false
    unbroken = broken-outer plan w outer s ∙ ap (λ b. not w.fail_late && b) good ∙ none (not w.fail_late)
      where
        none : (b : Bool) → b && false ≡ false
        none true = refl
        none false = refl

    -- no node of it is blocked
    no-block : (v : ℕ) → v < length plan.nodes → is_not_yet_started (phase_of s v) ≡ true
        → is_blocked_standing (standing_of plan s v) ≡ false
    no-block v small fresh =
        unblocked-fresh (phase_of s v) (standing_of plan s v) fresh
        (holds_along_order (looks plan) outer.order outer.order_is.back Unblocked (λ u has known.
        let below : u < length plan.nodes = (outer.order_is.once.each u).1 has in
        unblocked-sign (phase_of s u) (standing_of plan s u) (no-failure u below) (λ _. unblocked-by u below known))
        v ((outer.order_is.once.each v).0 small))
      where
        Unblocked : ℕ → Type 0
        Unblocked u = is_blocked_standing (sign_of (phase_of s u) (standing_of plan s u)) ≡ false

        unblocked-by : (u : ℕ) → u < length plan.nodes → ((x : ℕ) → Contains (looks plan u) x → Unblocked x)
            → is_blocked_standing (standing_of plan s u) ≡ false
        unblocked-by u below known =
            let node = planned-outer plan w outer u below in
            ap is_blocked_standing (standing-fixed plan s outer.order outer.order_is u below
            ∙ by_outer plan s u (outer_node w (u, node.0)) (standing_of plan s) node.1
            (case-none plan w outer (outer_node w (u, node.0))))
            ∙ unblocked-among (signs_at s (standing_of plan s) (looks plan u))
            (no-sign is_blocked_standing s (standing_of plan s) (looks plan u) known)

    -- a settled node is final
    rested-final : (v : ℕ) → v < length plan.nodes → is_at_rest plan s v ≡ true → is_final (phase_of s v) ≡ true
    rested-final v small rests =
        ⊎_elim (λ final. final)
        (λ stays.
        let parts = and_parts (is_not_yet_started (phase_of s v)) (is_blocked_standing (standing_of plan s v)) stays in
        absurd (false≢true (sym (no-block v small parts.0) ∙ parts.1)))
        (or_cases (is_final (phase_of s v)) _ rests)

    module _ (settled : is_settled plan s [] ≡ true) (whole : misses_output plan s [] w ≡ false) where
      -- what the outputs promise from succeeded
      sources-good : (id : Text) (j : ℕ) → Contains (sources_of w.outputs) id → number_in plan [] id ≡ Some j
          → is_succeeded (phase_of s j) ≡ true
      sources-good id j has is =
          let node = numbered-node plan w outer id j is in
          let small : j < length plan.nodes =
          omega (arith, count-outer plan w outer, slice_get_within w.nodes j node.0 node.1) in
          let rests = all-at (is_at_rest plan s) 0 (length plan.nodes)
          (sym (all-nodes plan w outer (is_at_rest plan s)) ∙ settled) j (omega arith) (omega (arith, small)) in
          let skips : Option ℕ → Bool = λ o. list_any (λ i. is_skipped (phase_of s i)) (option_to_list o) in
          let there : is_skipped (phase_of s j) ≡ false =
          first (is_skipped (phase_of s j)) (sym (ap skips is)
          ∙ fails-at (λ x. skips (number_in plan [] x)) (sources_of w.outputs) id whole has) in
          let of_node = of_plan.nodes j (outer_node w (j, node.0)) (planned-at plan w outer j node.0 node.1) in
          let kept : is_aborted (phase_of s j) ≡ false =
          ⊎_elim (λ gone. absurd (false≢true (sym unbroken ∙ of_node.aborted gone))) (λ stays. stays)
          (cases_Bool (is_aborted (phase_of s j))) in
          succeeded-left (phase_of s j) (rested-final j small rests) (no-failure j small) there kept
        where
          first : (b : Bool) → b || false ≡ false → b ≡ false
          first true e = absurd (true≢false e)
          first false e = refl

      outputs-close : is_some (slot_with_outputs s.root (workflow_outputs plan.documents w (known_in plan s [])))
          ≡ true
      outputs-close =
          closes-clear s.root (workflow_outputs plan.documents w (known_in plan s []))
          (subst (λ (source : Promised → Source).
          IsClear (values_of (bound_value source (known_in plan s [])) w.interface.outputs w.outputs))
          (sources-same plan w outer) (clear-outputs sources-good))

  -- ---- the end of a run

  pub settled-closes : is_settled plan s [] ≡ true → is_some (closed_instance_slot plan s []) ≡ true
  settled-closes settled =
      closed-there plan s w outer.named
      ∙ and_from (is_settled plan s []) (has_failure plan s [] || (misses_output plan s [] w || outputs_there)) settled
      (⊎_elim (λ fails. or_left (has_failure plan s []) _ fails)
      (λ good.
      ⊎_elim (λ misses. or_right (has_failure plan s []) _ (or_left (misses_output plan s [] w) outputs_there misses))
      (λ whole.
      or_right (has_failure plan s []) _
      (or_right (misses_output plan s [] w) outputs_there (outputs-close good settled whole)))
      (cases_Bool (misses_output plan s [] w)))
      (cases_Bool (has_failure plan s [])))
    where
      outputs_there : Bool
      outputs_there = is_some (slot_with_outputs s.root (workflow_outputs plan.documents w (known_in plan s [])))
