use Rattle.std.proofs.Common.{refl, sym}
use Rattle.std.proofs.lemmas.Result.{err_from_is_err_and}
use Rattle.fly_work.proofs.AloneLemmas.{KeepLaws}
use Rattle.fly_work.proofs.AttendLemmas.{some_turn, acts-longer, end-may-stand, attends-unheard, attends-cut, attends-unkept, attends-all}
use Rattle.fly_work.proofs.turn.attend.Given.{Over}
use Rattle.fly_work.proofs.turn.attend.Goals as goal

laws_of : (g : Over) → KeepLaws g.K.Keep.kept g.K.Keep.kept_part
laws_of g = record {
  none = g.met.K.Keep.keeps_none;
  both = g.met.K.Keep.keeps_both;
  first =
      g.met.K.Keep.keeps_first;
}

pub settle-requires-clause-stands : goal.settle-requires-clause-stands
settle-requires-clause-stands g c =
    end-may-stand c.args.p.now c.args.w.now.plan _ c.args.work c.in_ok-name.name _ _ c.in_ok-outcome.outcome
    c.primary-task_nodes.ensures
    c.requires.of_plan c.in_ok-outcome.ensures c.requires.own c.in_ok-name.ensures

pub keep-requires-clause-takes : goal.keep-requires-clause-takes
keep-requires-clause-takes g c =
    let s = c.settle.ensures.settles some_turn c.args.work refl (sym c.in_ok-name.ensures) in
    rw (s.part.acts.plan, c.requires.own) c.requires.takes

pub keep-requires-clause-within : goal.keep-requires-clause-within
keep-requires-clause-within g c =
    let s = c.settle.ensures.settles some_turn c.args.work refl (sym c.in_ok-name.ensures) in
    rw c.len-claimed.ensures (acts-longer s.part.acts)

pub returns-in_err-outcome-clause-attends : goal.returns-in_err-outcome-clause-attends
returns-in_err-outcome-clause-attends g c =
    let r = c.from_residual-in_err-outcome in
    let short = err_from_is_err_and r.result r.ensures.1 in
    λ t own. rw (short.1, short.2)
    (attends-unheard g.K.Keep.faults (laws_of g) t c.args.work c.args.w.now _ _ _ c.args.keep.now
    c.in_err-outcome.field-0.0 c.in_err-outcome.ensures)

pub returns-in_err-settle-clause-attends : goal.returns-in_err-settle-clause-attends
returns-in_err-settle-clause-attends g c =
    let r = c.from_residual-in_err-settle in
    let short = err_from_is_err_and r.result r.ensures.1 in
    λ t own.
    let s = c.settle.ensures.settles t c.args.work own (sym c.in_ok-name.ensures) in
    rw (short.1, short.2) (attends-cut g.K.Keep.faults (laws_of g) s _ _ c.args.keep.now c.in_ok-outcome.ensures)

pub returns-in_err-keep-clause-attends : goal.returns-in_err-keep-clause-attends
returns-in_err-keep-clause-attends g c =
    let r = c.from_residual-in_err-keep in
    let short = err_from_is_err_and r.result r.ensures.1 in
    λ t own.
    let s = c.settle.ensures.settles t c.args.work own (sym c.in_ok-name.ensures) in
    rw (short.1, short.2)
    (attends-unkept g.K.Keep.faults (laws_of g) s c.len-claimed.result _ _ c.args.keep.now c.keep.new.self
    c.in_err-keep.field-0.0 c.len-claimed.ensures
    c.in_ok-outcome.ensures c.in_err-keep.ensures.kept)

pub returns-clause-attends : goal.returns-clause-attends
returns-clause-attends g c =
    λ t own.
    let s = c.in_ok-settle.ensures.settles t c.args.work own (sym c.in_ok-name.ensures) in
    attends-all g.K.Keep.faults (laws_of g) s c.len-claimed.result _ _ c.args.keep.now c.keep.new.self
    c.in_ok-keep.field-0 c.len-claimed.ensures
    c.in_ok-outcome.ensures c.in_ok-keep.ensures.kept
