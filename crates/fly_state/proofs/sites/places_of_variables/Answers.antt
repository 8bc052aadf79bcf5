use Rattle.std.proofs.Common.{◌∙◌, ◌++◌, [], ◌∷◌, ap, position, bytes_eq}
use Rattle.fly_docs.specs.declared.binding.Binding.{Binding}
use Rattle.fly_state.specs.Sites.{binding_place}
use Rattle.fly_state.proofs.Loops.{mapped_more}
use Rattle.fly_state.proofs.sites.places_of_variables.Goals as goal

pub loop-variable-preserved : goal.loop-variable-preserved
loop-variable-preserved c =
    let bindings = c.args.bindings.now in
    let before = c.loop-variable.places.items in
    mapped_more (binding_place bindings) c.args.variables.now c.loop-variable.variable-index c.variable-item.result before c.push.new.self.items
    c.loop-variable-test.true c.variable-item.is c.loop-variable.invariant
    (c.in_ok-push.ensures.items
    ∙ ap (λ o. before ++ o ∷ []) (c.copied.ensures ∙ c.get.ensures.value ∙ c.in_ok-table.ensures c.as_str.result
    ∙ ap (λ name. position (λ (y : Binding). bytes_eq y.var name) bindings) c.as_str.ensures))
