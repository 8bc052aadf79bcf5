use Rattle.std.proofs.Common.{length, Ok, Err, subst, refl, ◌∙◌, arith, sym}
use Rattle.fly_state.specs.PlanTables.{IsOuterPlan}
use Rattle.fly_work.specs.declared.driving.DriveFault.TheVariants as fault
use Rattle.fly_work.specs.declared.turn_end.TurnEnd.TheVariants as end
use Rattle.fly_work.specs.Drives.{IsUncached}
use Rattle.fly_work.proofs.WorkedLemmas.{HasKeepLaws}
use Rattle.fly_work.proofs.PassedTurns.{pass-none, pass-more, pass-counted, pass-ends}
use Rattle.fly_work.proofs.driving.pass.Given.{Over}
use Rattle.fly_work.proofs.driving.pass.Goals as goal

laws : (g : Over) → HasKeepLaws g.K.Keep.kept g.K.Keep.kept_part
laws g = record { none = g.met.K.Keep.keeps_none; both = g.met.K.Keep.keeps_both; first = g.met.K.Keep.keeps_first }

pub loop-number-init : goal.loop-number-init
loop-number-init g c = record {
  goes = pass-none g.K.Keep.kept g.K.Keep.kept_part g.K.Keep.faults (laws g) c.args.lag c.args.first c.args.w.now _
      c.legal_journal.ensures c.requires.settled;
  takes = λ plan takes. takes;
}

pub turn_alone-requires-clause-own : goal.turn_alone-requires-clause-own
turn_alone-requires-clause-own g c = c.loop-number.invariant.goes.goes.did.entries.plan ∙ c.requires.own

pub turn_alone-requires-clause-some : goal.turn_alone-requires-clause-some
turn_alone-requires-clause-some g c = omega (arith, c.loop-number.invariant.goes.goes.executions, c.requires.some)

pub turn_alone-requires-clause-takes : goal.turn_alone-requires-clause-takes
turn_alone-requires-clause-takes g c = c.loop-number.invariant.takes c.args.p.now c.requires.takes

pub returns-in-Idle-clause-passes : goal.returns-in-Idle-clause-passes
returns-in-Idle-clause-passes g c =
    pass-ends g.K.Keep.kept g.K.Keep.kept_part g.K.Keep.faults (laws g) c.args.lag c.args.first c.loop-number.number
    c.loop-number.auto.number c.loop-number.invariant.goes (Ok tt) end.Idle
    (omega (arith, c.loop-number-test.true, c.from.ensures, c.executions.ensures)) refl c.in-Idle.ensures.plays

pub returns-in-Idle-clause-takes : goal.returns-in-Idle-clause-takes
returns-in-Idle-clause-takes g c =
    λ plan takes. c.turn_alone.ensures.takes plan (c.loop-number.invariant.takes plan takes)

pub returns-in-Keep-clause-passes : goal.returns-in-Keep-clause-passes
returns-in-Keep-clause-passes g c =
    pass-ends g.K.Keep.kept g.K.Keep.kept_part g.K.Keep.faults (laws g) c.args.lag c.args.first c.loop-number.number
    c.loop-number.auto.number c.loop-number.invariant.goes (Err fault.Keep) end.Keep
    (omega (arith, c.loop-number-test.true, c.from.ensures, c.executions.ensures)) refl c.in-Keep.ensures.plays

pub returns-in-Keep-clause-takes : goal.returns-in-Keep-clause-takes
returns-in-Keep-clause-takes g c =
    λ plan takes. c.turn_alone.ensures.takes plan (c.loop-number.invariant.takes plan takes)

pub returns-in-NoMemory-clause-passes : goal.returns-in-NoMemory-clause-passes
returns-in-NoMemory-clause-passes g c =
    pass-ends g.K.Keep.kept g.K.Keep.kept_part g.K.Keep.faults (laws g) c.args.lag c.args.first c.loop-number.number
    c.loop-number.auto.number c.loop-number.invariant.goes (Err fault.NoMemory) end.NoMemory
    (omega (arith, c.loop-number-test.true, c.from.ensures, c.executions.ensures)) refl c.in-NoMemory.ensures.plays

pub returns-in-NoMemory-clause-takes : goal.returns-in-NoMemory-clause-takes
returns-in-NoMemory-clause-takes g c =
    λ plan takes. c.turn_alone.ensures.takes plan (c.loop-number.invariant.takes plan takes)

pub loop-number-preserved : goal.loop-number-preserved
loop-number-preserved g c = record {
  goes = pass-more g.K.Keep.kept g.K.Keep.kept_part g.K.Keep.faults (laws g) c.args.lag c.args.first
      c.loop-number.number
      c.loop-number.auto.number c.loop-number.invariant.goes c.primary.result.now
      (subst (λ p. IsOuterPlan p c.primary.result.now) (sym c.requires.own) c.primary.ensures)
      (subst IsUncached (sym c.requires.own) c.requires.uncached) c.legal_journal.ensures c.in-Went.ensures.plays;
  takes = λ plan takes. c.turn_alone.ensures.takes plan (c.loop-number.invariant.takes plan takes);
}

pub returns-clause-passes : goal.returns-clause-passes
returns-clause-passes g c =
    pass-counted g.K.Keep.kept g.K.Keep.kept_part g.K.Keep.faults (laws g) c.args.lag
    (length c.args.w.now.world.executions)
    (omega (arith, c.loop-number-test.false, c.loop-number.auto.number-end, c.from.ensures, c.executions.ensures))
    c.loop-number.invariant.goes

pub returns-clause-takes : goal.returns-clause-takes
returns-clause-takes g c = c.loop-number.invariant.takes
