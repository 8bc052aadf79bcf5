use Rattle.std.proofs.Common.{◌+◌, sym, subst, ◌∙◌, arith}
use Rattle.fly_state.specs.PlanTables.{IsOuterPlan}
use Rattle.fly_work.proofs.WorkedLemmas.{HasKeepLaws}
use Rattle.fly_work.proofs.PassedTurns.{goes-longer}
use Rattle.fly_work.proofs.DrivenRuns.{passed-none, passes-few, passed-next, drives}
use Rattle.fly_work.proofs.driving.drive_alone.Given.{Over}
use Rattle.fly_work.proofs.driving.drive_alone.Goals as goal

laws : (g : Over) → HasKeepLaws g.K.Keep.kept g.K.Keep.kept_part
laws g = record { none = g.met.K.Keep.keeps_none; both = g.met.K.Keep.keeps_both; first = g.met.K.Keep.keeps_first }

pub loop-end-init : goal.loop-end-init
loop-end-init g c = record {
  passed = passed-none g.K.Keep.kept g.K.Keep.kept_part g.K.Keep.faults (laws g) c.args.lag c.primary.result.now
      c.args.w.now _
      (subst (λ p. IsOuterPlan p c.primary.result.now) (sym c.requires.own) c.primary.ensures) c.legal_journal.ensures
      c.requires.some c.args.steps.now c.requires.settled;
  takes = λ plan takes. takes;
}

pub pass-requires-clause-own : goal.pass-requires-clause-own
pass-requires-clause-own g c = c.loop-end.invariant.passed.goes.did.entries.plan ∙ c.requires.own

pub pass-requires-clause-some : goal.pass-requires-clause-some
pass-requires-clause-some g c = omega (arith, c.loop-end.invariant.passed.goes.executions, c.requires.some)

pub pass-requires-clause-takes : goal.pass-requires-clause-takes
pass-requires-clause-takes g c = c.loop-end.invariant.takes c.args.p.now c.requires.takes

pub pass-requires-clause-settled : goal.pass-requires-clause-settled
pass-requires-clause-settled g c = c.loop-end.invariant.passed.goes.settled

pub pass-requires-clause-later : goal.pass-requires-clause-later
pass-requires-clause-later g c =
    omega (
      arith,
      goes-longer g.K.Keep.kept g.K.Keep.kept_part g.K.Keep.faults (laws g) c.args.lag 0 c.loop-end.first c.args.w.now
          c.loop-end.w _ _ c.loop-end.invariant.passed.goes,
    )

pub returns-in-Some-clause-drives : goal.returns-in-Some-clause-drives
returns-in-Some-clause-drives g c =
    drives g.K.Keep.kept g.K.Keep.kept_part g.K.Keep.faults (laws g) c.args.lag c.primary.result.now c.args.w.now _
    (subst (λ p. IsOuterPlan p c.primary.result.now) (sym c.requires.own) c.primary.ensures) c.legal_journal.ensures
    c.requires.some c.args.steps.now c.loop-end.invariant.passed c.in-Some.ensures.passes c.tick.new.self
    c.tick.ensures

pub returns-in-Some-clause-takes : goal.returns-in-Some-clause-takes
returns-in-Some-clause-takes g c = λ plan takes. c.pass.ensures.takes plan (c.loop-end.invariant.takes plan takes)

pub loop-end-smaller : goal.loop-end-smaller
loop-end-smaller g c =
    let few = passes-few g.K.Keep.kept g.K.Keep.kept_part g.K.Keep.faults (laws g) c.args.lag c.primary.result.now
    c.args.w.now _
    (subst (λ p. IsOuterPlan p c.primary.result.now) (sym c.requires.own) c.primary.ensures) c.legal_journal.ensures
    c.requires.some c.args.steps.now c.loop-end.invariant.passed in
    omega (arith, few, c.loop-end.invariant.passed.counted, c.tick.ensures)

pub loop-end-preserved : goal.loop-end-preserved
loop-end-preserved g c = record {
  passed = passed-next g.K.Keep.kept g.K.Keep.kept_part g.K.Keep.faults (laws g) c.args.lag c.primary.result.now
      c.args.w.now _
      (subst (λ p. IsOuterPlan p c.primary.result.now) (sym c.requires.own) c.primary.ensures) c.legal_journal.ensures
      c.requires.some c.args.steps.now c.loop-end.invariant.passed (c.loop-end.first + c.from-first.result)
      c.tick.new.self
      (omega (arith, c.from-first.ensures, c.executions.ensures)) c.tick.ensures c.in_default.ensures.passes;
  takes = λ plan takes. c.pass.ensures.takes plan (c.loop-end.invariant.takes plan takes);
}
