use Rattle.std.proofs.Common.{[], ◌&&◌, ◌||◌, is_some, sym, ◌∙◌}
use Rattle.fly_docs.specs.SlotInputs.{workflow_outputs}
use Rattle.fly_state.specs.Moves.{misses_output, slot_with_outputs}
use Rattle.fly_state.specs.States.{known_in}
use Rattle.fly_state.proofs.MoveLemmas.{closed-there}
use Rattle.fly_state.proofs.closing.can_close.Goals as goal

pub returns-then-has_failure : goal.returns-then-has_failure
returns-then-has_failure c =
    let plan = c.args.plan.now in
    let s = c.args.state.now in
    let w = c.primary-primary.result.now in
    let outputs = is_some (slot_with_outputs s.root (workflow_outputs plan.documents w (known_in plan s []))) in
    sym (closed-there plan s w c.primary-primary.ensures.named
    ∙ (λ k. (sym c.is_settled.ensures ∙ c.if-not-is_settled.false) k
    && ((sym c.has_failure.ensures ∙ c.if-has_failure.true) k || (misses_output plan s [] w || outputs))))
