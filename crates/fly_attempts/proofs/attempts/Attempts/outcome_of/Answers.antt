use Rattle.std.proofs.Common.{◌≡◌, arith, sym, ◌∙◌, ap, slice_get}
use Rattle.std.specs.Option.{option_copied, option_and_then}
use Rattle.std.proofs.lemmas.Grind.{common_steps}
use Rattle.std.proofs.lemmas.Option.{gets}
use Rattle.fly_attempts.proofs.TableLemmas.{ending_told}
use Rattle.fly_attempts.proofs.attempts.Attempts.outcome_of.Goals as goal

pub returns-in-Some : goal.returns-in-Some
returns-in-Some c =
    let f = c.self.inside in
    let got : option_copied c.get.result ≡ slice_get f.endings.items c.in-Some.at =
    grind (arith, common_steps, gets, c.get.ensures, c.deref-in-Some.ensures) in
    let end = rw c.deref.ensures.value at c.in-Some.ensures in
    rw (← c.self.view_is) (got ∙ ap (option_and_then (slice_get f.endings.items)) end
    ∙ sym (ending_told _ _ _ _ _ c.self.invariant.tables c.args.number))

pub returns-in-None : goal.returns-in-None
returns-in-None c =
    let f = c.self.inside in
    let end = rw c.deref.ensures.value at c.in-None.ensures in
    rw (← c.self.view_is) (ap (option_and_then (slice_get f.endings.items)) end
    ∙ sym (ending_told _ _ _ _ _ c.self.invariant.tables c.args.number))
