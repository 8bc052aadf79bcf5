use Rattle.std.proofs.Common.{true≢false, sym, ◌∙◌, arith}
use Rattle.fly_app.proofs.StatusLemmas.{one-fails, all-succeed}
use Rattle.fly_app.proofs.running.status_of.Goals as goal

pub returns-then-ne : goal.returns-then-ne
returns-then-ne c =
    one-fails c.versions_are_shaped.ensures c.args.world.now c.legal_journal.ensures c.requires c.loop-number.number
    c.last.result.now c.last.ensures (λ same. let is = sym c.if-ne.true ∙ c.ne.ensures in true≢false (rw same at is))

pub returns : goal.returns
returns c =
    all-succeed c.versions_are_shaped.ensures c.args.world.now c.legal_journal.ensures c.requires
    (λ i within x there.
    c.loop-number.invariant i (omega (arith, within, c.loop-number-test.false, c.executions-number-end.ensures)) x there)
