use Rattle.std.proofs.Common.{◌≡◌, List, IfOk, subst}
use Rattle.fly_round.specs.declared.told.Told.{Told}
use Rattle.fly_round.specs.Moves.{round_moves}
use Rattle.fly_round.specs.Rounds.{RoundState}
use Rattle.fly_round.proofs.round.Round.finish.Goals as goal

pub returns : goal.returns
returns c =
    let inside = c.self.inside in
    let made = subst (λ (told : List Told). IfOk c.round_moves.result (λ moves. moves ≡ round_moves inside.plan.now inside.view told))
    c.deref-2.ensures.value c.round_moves.ensures in
    subst (λ (s : RoundState). IfOk c.round_moves.result (λ moves. moves ≡ round_moves s.plan s.view s.told)) c.self.view_is made
