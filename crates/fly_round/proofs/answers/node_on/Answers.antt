use Rattle.std.proofs.Common.{true, ◌≡◌, ◌&&◌, bytes_eq, sym, ◌∙◌, ap}
use Rattle.fly_state.specs.Plans.{same_path}
use Rattle.fly_round.specs.Attempts.{is_number}
use Rattle.fly_round.proofs.AnswerLemmas.{not-other}
use Rattle.fly_round.proofs.PathLemmas.{path-number}
use Rattle.fly_round.proofs.answers.node_on.Goals as goal

pub returns-clause-on : goal.returns-clause-on
returns-clause-on c = λ i p planned.
    let same : bytes_eq c.args.v.now.name c.args.exec.now ≡ true = not-other _ (sym c.ne.ensures ∙ c.if-ne.false) in
    ap (λ b. b && same_path p.path c.args.path.now) same
    ∙ path-number c.args.plan.now c.primary-primary.result.now c.primary-primary.ensures i p c.args.path.now planned
    ∙ ap (is_number i) (sym c.node_at.ensures)
