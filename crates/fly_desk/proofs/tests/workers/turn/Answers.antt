use Rattle.std.proofs.Common.{rules, ◌++◌, ◌∷◌, [], length, ap, sym, ◌∙◌}
use Rattle.fly_desk.specs.Pass.{list_out}
use Rattle.fly_desk.proofs.WorkersLemmas.{before_end}
use Rattle.fly_desk.proofs.tests.workers.turn.Goals as goal

pub returns-clause-own : goal.returns-clause-own
returns-clause-own g c =
    let place = length (list_out c.enter-turn.new.pass) in
    let kept = ap (λ l. l ++ (place, c.args.mark) ∷ []) c.enter-turn.ensures.kept.own_is in
    let long = ap (λ l. length l) (sym c.enter-turn.ensures.list) in
    (place, c.leave.ensures.own c.args.mark (search rules) ∙ kept, before_end _ _ _ c.enter-turn.ensures.placed long)
