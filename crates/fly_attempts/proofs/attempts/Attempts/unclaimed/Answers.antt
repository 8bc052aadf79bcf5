use Rattle.std.proofs.Common.{sym, ◌∙◌, ap, slice_get}
use Rattle.fly_attempts.proofs.TableLemmas.{unclaimed_told}
use Rattle.fly_attempts.proofs.attempts.Attempts.unclaimed.Goals as goal

pub returns : goal.returns
returns c =
    let f = c.self.inside in
    rw (← c.self.view_is) (c.get.ensures
    ∙ ap (slice_get f.launches) (c.len.ensures ∙ f.handouts.ok.0)
    ∙ sym (unclaimed_told _ _ _ _ _ c.self.invariant.tables))
