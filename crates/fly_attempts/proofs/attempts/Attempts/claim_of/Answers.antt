use Rattle.std.proofs.Common.{◌≡◌, arith, sym, ◌∙◌, slice_get}
use Rattle.std.specs.Option.{option_copied}
use Rattle.std.proofs.lemmas.Grind.{common_steps}
use Rattle.std.proofs.lemmas.Option.{gets}
use Rattle.fly_attempts.proofs.TableLemmas.{claim_told}
use Rattle.fly_attempts.proofs.attempts.Attempts.claim_of.Goals as goal

pub returns : goal.returns
returns c =
    let got : option_copied c.get.result ≡ slice_get c.self.inside.handouts.items c.args.number =
    grind (arith, common_steps, gets, c.get.ensures, c.deref.ensures) in
    rw (← c.self.view_is) (got ∙ sym (claim_told _ _ _ _ _ c.self.invariant.tables c.args.number))
