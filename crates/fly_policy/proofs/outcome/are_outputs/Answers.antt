use Rattle.std.proofs.Common.{length, sym, ◌∙◌, ap, subst, arith}
use Rattle.std.specs.List.{AllZip}
use Rattle.std.proofs.lemmas.Bool.{false≢true}
use Rattle.std.proofs.lemmas.Slice.Zip.{AllZip-long}
use Rattle.fly_policy.specs.Outcome.{Gives}
use Rattle.fly_policy.proofs.Places.{at_read, front_more}
use Rattle.fly_policy.proofs.outcome.are_outputs.Goals as goal

pub returns-then-entries-outputs : goal.returns-then-entries-outputs
returns-then-entries-outputs c = (
  λ e. absurd (false≢true e),
  λ zips. absurd (c.if-entries-outputs.true (ap length c.as_slice-entries.ensures ∙ AllZip-long Gives _ _ zips)),
)

pub returns-then-not-gives : goal.returns-then-not-gives
returns-then-not-gives c = (
  λ e. absurd (false≢true e),
  λ zips.
      let outputs = c.args.outputs.now in
      let entries = c.as_slice-entries.result.now in
      let over : AllZip Gives outputs entries = subst (AllZip Gives outputs) (sym c.as_slice-entries.ensures) zips in
      absurd (false≢true (sym c.if-not-gives.true
      ∙ c.gives.ensures.1 (at_read Gives outputs entries c.loop-i.i c.index-outputs-i.result c.index-entries-i.result
      c.loop-i-test.true c.index-outputs-i.is c.index-entries-i.is over))),
)

pub loop-i-preserved : goal.loop-i-preserved
loop-i-preserved c = record {
  len = c.loop-i.invariant.len;
  front = front_more Gives c.args.outputs.now c.as_slice-entries.result.now c.loop-i.i
      c.index-outputs-i.result c.index-entries-i.result c.loop-i-test.true
      (omega (arith, c.loop-i.invariant.len)) c.index-outputs-i.is c.index-entries-i.is c.loop-i.invariant.front
      (c.gives.ensures.0 c.if-not-gives.false);
}
