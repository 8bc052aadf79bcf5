use Rattle.std.proofs.Common.{◌∷◌, ◌∙◌, ap, arith}
use Rattle.std.proofs.lemmas.List.{take_all}
use Rattle.fly_state.proofs.plan.templates.Goals as goal

pub returns : goal.returns
returns c =
    let subs = c.as_slice-sub-items.result.now in
    let workflows =
    c.from_vec.ensures.value ∙ c.loop-sub.invariant
    ∙ ap (λ others. c.args.c.now.primary ∷ others) (take_all c.loop-sub.sub-index subs (omega arith) ∙ c.as_slice-sub-items.ensures) in
    λ i. record { tasks = c.in_ok-copy-3.ensures i; workflows = workflows i; primary = c.in_ok-copy-4.ensures i }
