use Rattle.std.proofs.Common.{◌≡◌, Option, None, [], true, sym, subst, ◌∙◌}
use Rattle.fly_state.specs.States.{is_broken}
use Rattle.fly_round.specs.Questions.{Question, AsksWhere, next_question}
use Rattle.fly_round.specs.Rounds.{RoundState}
use Rattle.fly_round.proofs.ComeLemmas.{next-broken}
use Rattle.fly_round.proofs.round.Round.ask.Goals as goal

pub returns-then-self-clause-question : goal.returns-then-self-clause-question
returns-then-self-clause-question c =
    let plan = c.self.inside.plan.now in
    let v = c.self.inside.view in
    let told = c.self.inside.told.items in
    let broken : is_broken plan v.state [] ≡ true = sym c.self.invariant.0.broken_is ∙ c.if-self.true in
    let none = next-broken plan c.primary.result.now c.primary.ensures v broken told in
    let asks = subst (λ (o : Option Question). AsksWhere v.name o None) (sym none) tt in
    subst (λ (s : RoundState). AsksWhere s.view.name (next_question s.plan s.view s.told) None) c.self.view_is asks
