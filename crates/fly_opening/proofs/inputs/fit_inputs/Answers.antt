use Rattle.std.proofs.Common.{◌≡◌, ◌++◌, ◌∷◌, [], length, Some, None, string_bytes, sym, ◌∙◌, ap, append_assoc, arith}
use Rattle.std.specs.Option.{option_map, option_to_list}
use Rattle.std.proofs.lemmas.List.{append-nil}
use Rattle.std.specs.Vec.Iter.{into_iter_items}
use Rattle.fly_types.specs.declared.text.Text.{Text}
use Rattle.fly_types.specs.declared.literals.Literal.{Literal}
use Rattle.fly_opening.specs.Submissions.{input_faults, fitting_input, fitting_value}
use Rattle.fly_opening.proofs.LineLemmas.{lines-more}
use Rattle.fly_opening.proofs.Parts.{chosen-more, nothing-else}
use Rattle.fly_opening.proofs.inputs.fit_inputs.Goals as goal

pub loop-name-preserved-in-Continue-branch-4 : goal.loop-name-preserved-in-Continue-branch-4
loop-name-preserved-in-Continue-branch-4 c =
    let at = c.loop-name in
    let variables = c.args.variables.now in
    let entry : Text × Literal = (c.in-Some.name, c.in-Some.value) in
    let steps : into_iter_items at.name-iterator ≡ entry ∷ into_iter_items c.next.new.self = c.in-Some.ensures.steps.0 in
    let fits : fitting_value variables entry ≡ Some c.in-Some-2.value =
    sym c.in_ok-value.ensures.value ∙ c.in-Some-2.is in
    record {
      all = append_assoc at.yielded (entry ∷ []) _ ∙ rw (← steps) at.invariant.all;
      left = let was = at.invariant.left in let gone = c.in-Some.ensures.steps.1 in let short = ap length steps in
          omega arith;
      lines = lines-more (input_faults variables c.args.exec.now) at.yielded entry (string_bytes c.args.lines.now)
          (string_bytes at.lines) (string_bytes c.fit_input.new.lines) at.invariant.lines c.in_ok-value.ensures.lines;
      done = chosen-more (fitting_input variables) at.yielded entry at.fitted.items c.push.new.self.items
          at.invariant.done
          (c.in_ok-push.ensures.items
          ∙ ap (λ o. at.fitted.items ++ option_to_list (option_map (λ (value : Literal). (c.in-Some.name, value)) o))
          (sym fits));
    }

pub loop-name-preserved : goal.loop-name-preserved
loop-name-preserved c =
    let at = c.loop-name in
    let variables = c.args.variables.now in
    let entry : Text × Literal = (c.in-Some.name, c.in-Some.value) in
    let steps : into_iter_items at.name-iterator ≡ entry ∷ into_iter_items c.next.new.self = c.in-Some.ensures.steps.0 in
    let misfits : fitting_value variables entry ≡ None =
    sym c.in_ok-value.ensures.value ∙ nothing-else c.in_ok-value.field-0 c.in_default.not-Some in
    record {
      all = append_assoc at.yielded (entry ∷ []) _ ∙ rw (← steps) at.invariant.all;
      left = let was = at.invariant.left in let gone = c.in-Some.ensures.steps.1 in let short = ap length steps in
          omega arith;
      lines = lines-more (input_faults variables c.args.exec.now) at.yielded entry (string_bytes c.args.lines.now)
          (string_bytes at.lines) (string_bytes c.fit_input.new.lines) at.invariant.lines c.in_ok-value.ensures.lines;
      done = chosen-more (fitting_input variables) at.yielded entry at.fitted.items at.fitted.items
          at.invariant.done
          (sym (append-nil at.fitted.items)
          ∙ ap (λ o. at.fitted.items ++ option_to_list (option_map (λ (value : Literal). (c.in-Some.name, value)) o))
          (sym misfits));
    }
