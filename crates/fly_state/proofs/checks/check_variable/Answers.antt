use Rattle.std.proofs.Common.{◌∙◌, Some, None, Err, [], sym, ap}
use Rattle.std.specs.Option.{option_copied}
use Rattle.fly_cast.specs.Conversion.{result_map}
use Rattle.fly_docs.specs.SlotInputs.{unknown, bound_value}
use Rattle.fly_state.specs.declared.checks.Taking.TheVariants as taking
use Rattle.fly_state.specs.Origins.{source_in_run}
use Rattle.fly_state.specs.States.{known_in}
use Rattle.fly_state.proofs.TakenLemmas.{variable-unbound, variable-bound, binding-at, binding-nowhere}
use Rattle.fly_state.proofs.TakingLemmas.{taking-same, taking-map}
use Rattle.fly_state.proofs.checks.check_variable.Goals as goal

pub returns-in_default : goal.returns-in_default
returns-in_default c =
    let value = bound_value (source_in_run c.args.plan.now) (known_in c.args.plan.now c.args.state.now []) in
    taking-same _ (Err unknown) taking.Unknown
    (variable-unbound value c.args.bindings.now c.args.variable.now
    (binding-nowhere c.args.bindings.now c.args.variable.now (sym c.in_default.is ∙ c.requires.place))) tt

pub returns-in-None : goal.returns-in-None
returns-in-None c =
    let value = bound_value (source_in_run c.args.plan.now) (known_in c.args.plan.now c.args.state.now []) in
    taking-same _ (Err unknown) taking.Unknown
    (variable-unbound value c.args.bindings.now c.args.variable.now
    (binding-at c.args.bindings.now c.args.variable.now c.in-Some.place None (sym c.in-Some.is ∙ c.requires.place)
    (sym (ap option_copied c.in-None.is) ∙ c.get.ensures))) tt

pub returns-in-Some-get : goal.returns-in-Some-get
returns-in-Some-get c =
    let value = bound_value (source_in_run c.args.plan.now) (known_in c.args.plan.now c.args.state.now []) in
    let v = c.args.variable.now in
    let x = c.in-Some-get.binding.now in
    taking-same _ (result_map (λ l. (v.name, l)) (value x.bound v.kind)) c.check_bound.result
    (variable-bound value c.args.bindings.now v x
    (binding-at c.args.bindings.now v c.in-Some.place (Some x) (sym c.in-Some.is ∙ c.requires.place)
    (sym (ap option_copied c.in-Some-get.is) ∙ c.get.ensures)))
    (taking-map (λ l. (v.name, l)) (value x.bound v.kind) c.check_bound.result c.check_bound.ensures)
