use Rattle.std.proofs.Common.{◌≡◌, ◌∙◌, Some, None, Ok, Err, [], sym, ap}
use Rattle.std.specs.Option.{option_copied}
use Rattle.fly_cast.specs.Conversion.{result_map}
use Rattle.fly_docs.specs.Bindings.{binding_of}
use Rattle.fly_docs.specs.SlotInputs.{bound_value}
use Rattle.fly_state.specs.Origins.{source_in_run}
use Rattle.fly_state.specs.States.{known_in}
use Rattle.fly_state.proofs.TakenLemmas.{taken-same, taken-map, variable-unbound, variable-bound, binding-at, binding-nowhere}
use Rattle.fly_state.proofs.values.take_variable.Goals as goal

pub returns-in_default : goal.returns-in_default
returns-in_default c =
    variable-unbound (bound_value (source_in_run c.args.plan.now) (known_in c.args.plan.now c.args.state.now [])) c.args.bindings.now c.args.variable.now
    (binding-nowhere c.args.bindings.now c.args.variable.now (sym c.in_default.is ∙ c.requires.place))

pub take_bound-requires : goal.take_bound-requires
take_bound-requires c =
    let x = c.in-Some-get.binding.now in (
      c.requires.known,
      c.requires.fit x
          (binding-at c.args.bindings.now c.args.variable.now c.in-Some.place (Some x) (sym c.in-Some.is ∙ c.requires.place)
          (sym (ap option_copied c.in-Some-get.is) ∙ c.get.ensures)),
    )

pub returns-in_ok-copy-in-Ok : goal.returns-in_ok-copy-in-Ok
returns-in_ok-copy-in-Ok c =
    let value = bound_value (source_in_run c.args.plan.now) (known_in c.args.plan.now c.args.state.now []) in
    let v = c.args.variable.now in
    let x = c.in-Some-get.binding.now in
    variable-bound value c.args.bindings.now v x
    (binding-at c.args.bindings.now v c.in-Some.place (Some x) (sym c.in-Some.is ∙ c.requires.place)
    (sym (ap option_copied c.in-Some-get.is) ∙ c.get.ensures))
    ∙ ap (result_map (λ l. (v.name, l))) c.in-Ok.ensures
    ∙ ap (λ n. Ok (n, c.in-Ok.value)) (sym c.in_ok-copy-in-Ok.ensures)

pub returns-in-Err : goal.returns-in-Err
returns-in-Err c =
    let value = bound_value (source_in_run c.args.plan.now) (known_in c.args.plan.now c.args.state.now []) in
    let v = c.args.variable.now in
    let x = c.in-Some-get.binding.now in
    taken-same _ (result_map (λ l. (v.name, l)) (value x.bound v.kind)) (Err c.in-Err.fault)
    (variable-bound value c.args.bindings.now v x
    (binding-at c.args.bindings.now v c.in-Some.place (Some x) (sym c.in-Some.is ∙ c.requires.place)
    (sym (ap option_copied c.in-Some-get.is) ∙ c.get.ensures)))
    (taken-map (λ l. (v.name, l)) (value x.bound v.kind) c.in-Err.fault c.in-Err.ensures)
