use Rattle.std.proofs.Common.{◌≡◌, map, ap, ◌∙◌, string_bytes, arith}
use Rattle.std.proofs.lemmas.Grind.{common_steps}
use Rattle.serde_json.specs.View.{view}
use Rattle.fly_values.specs.Types.{variable_value, variables_value}
use Rattle.fly_values.proofs.FieldLemmas.{each-entry}
use Rattle.fly_values.proofs.interfaces.variables_from.Goals as goal

pub returns : goal.returns
unfolding variables_value
returns c =
    let whole : c.loop-name.yielded ≡ c.fields_of-entries.result.entries = grind (arith, common_steps) in
    rw (← c.fields_of-fields.ensures, ← c.take.ensures.value)
    (c.from_vec.ensures.value ∙ c.loop-name.invariant.done
    ∙ ap (map (λ e. variable_value (string_bytes e.0, view e.1))) whole
    ∙ each-entry variable_value _ _ c.fields_of-entries.ensures)
