use Rattle.std.proofs.Common.{length, Ok, refl}
use Rattle.std.proofs.lemmas.Result.{err_from_is_err_and}
use Rattle.fly_work.specs.Alone.{Reaches}
use Rattle.fly_work.specs.Drives.{turn_numbered}
use Rattle.fly_work.specs.Playing.{worker_outside}
use Rattle.fly_work.proofs.AloneLemmas.{KeepLaws, reaches-wider, reaches-nothing, plays-cut, plays-unkept, plays-idle, plays-done, plays-claimed}
use Rattle.fly_work.proofs.turn.play.Given.{Over}
use Rattle.fly_work.proofs.turn.play.Goals.{In_ok-reached}
use Rattle.fly_work.proofs.turn.play.Goals as goal

laws_of : (g : Over) → KeepLaws g.K.Keep.kept g.K.Keep.kept_part
laws_of g = record {
  none = g.met.K.Keep.keeps_none;
  both = g.met.K.Keep.keeps_both;
  first =
      g.met.K.Keep.keeps_first;
}

reaches : (g : Over) (c : In_ok-reached g)
    → Reaches (turn_numbered (length c.args.w.now.world.executions) c.args.lag c.args.number) c.args.w.now
    c.reach.new.w
    (g.C.Clock.state c.args.hand.now.clock) (g.C.Clock.state c.reach.new.clock) (Ok c.in_ok-reached.reached)
reaches g c = reaches-wider c.args.lag c.args.number 41_000 c.in_ok-reserve.ensures.ok c.in_ok-reached.ensures

pub returns-in_err-reserve-clause-plays : goal.returns-in_err-reserve-clause-plays
returns-in_err-reserve-clause-plays g c =
    let t = turn_numbered (length c.args.w.now.world.executions) c.args.lag c.args.number in
    let short = err_from_is_err_and c.from_residual.result c.from_residual.ensures.1 in
    let none = reaches-nothing t c.args.w.now (g.C.Clock.state c.args.hand.now.clock) c.in_err-reserve.field-0.0 in
    rw (short.1, short.2, c.in_err-reserve.ensures.err) (plays-cut g.K.Keep.faults (laws_of g) none _ c.args.keep.now)

pub returns-in_err-reached-clause-plays : goal.returns-in_err-reached-clause-plays
returns-in_err-reached-clause-plays g c =
    let r = c.from_residual-in_err-reached in
    let short = err_from_is_err_and r.result r.ensures.1 in
    let cut = reaches-wider c.args.lag c.args.number 41_000 c.in_ok-reserve.ensures.ok c.in_err-reached.ensures in
    rw (short.1, short.2) (plays-cut g.K.Keep.faults (laws_of g) {old = c.args.w.now} cut _ c.args.keep.now)

pub returns-in_err-keep-clause-plays : goal.returns-in_err-keep-clause-plays
returns-in_err-keep-clause-plays g c =
    let r = c.from_residual-in_err-keep in
    let short = err_from_is_err_and r.result r.ensures.1 in
    let so_far = reaches g (goal.at.returns-in_err-keep-clause-plays g c).In_ok-reached in
    rw (short.1, short.2)
    (plays-unkept g.K.Keep.faults (laws_of g) so_far c.len-first.result _ c.args.keep.now c.keep.new.self
    c.in_err-keep.field-0.0 c.len-first.ensures
    c.in_err-keep.ensures.kept)

pub returns-in-Idle-clause-plays : goal.returns-in-Idle-clause-plays
returns-in-Idle-clause-plays g c =
    let so_far = reaches g (goal.at.returns-in-Idle-clause-plays g c).In_ok-reached in
    plays-idle g.K.Keep.faults (laws_of g) (rw c.in-Idle.is at so_far) c.len-first.result _ c.args.keep.now
    c.keep.new.self c.in_ok-keep.field-0 c.len-first.ensures
    c.in_ok-keep.ensures.kept

pub returns-in-Done-clause-plays : goal.returns-in-Done-clause-plays
returns-in-Done-clause-plays g c =
    let so_far = reaches g (goal.at.returns-in-Done-clause-plays g c).In_ok-reached in
    plays-done g.K.Keep.faults (laws_of g) (rw c.in-Done.is at so_far) c.len-first.result _ c.args.keep.now
    c.keep.new.self c.in_ok-keep.field-0 c.len-first.ensures
    c.in_ok-keep.ensures.kept

pub returns-in_err-attend-in-Claimed-clause-plays : goal.returns-in_err-attend-in-Claimed-clause-plays
returns-in_err-attend-in-Claimed-clause-plays g c =
    let behind = worker_outside (g.C.Clock.state c.attend.new.hand.clock)
    (g.S.Spawner.state c.attend.new.hand.spawner) c.attend.new.keep in
    let t = turn_numbered (length c.args.w.now.world.executions) c.args.lag c.args.number in
    let r = c.from_residual-in_err-attend-in-Claimed in
    let short = err_from_is_err_and r.result r.ensures.1 in
    let so_far = reaches g (goal.at.returns-in_err-attend-in-Claimed-clause-plays g c).In_ok-reached in
    rw (short.1, short.2)
    (plays-claimed g.K.Keep.faults (laws_of g) {after = behind} (rw c.in-Claimed.is at so_far) c.len-first.result _
    c.args.keep.now c.keep.new.self c.in_ok-keep.field-0
    c.len-first.ensures c.in_ok-keep.ensures.kept (c.in_err-attend-in-Claimed.ensures.attends t refl))

pub returns-in_ok-attend-in-Claimed-clause-plays : goal.returns-in_ok-attend-in-Claimed-clause-plays
returns-in_ok-attend-in-Claimed-clause-plays g c =
    let behind = worker_outside (g.C.Clock.state c.attend.new.hand.clock)
    (g.S.Spawner.state c.attend.new.hand.spawner) c.attend.new.keep in
    let t = turn_numbered (length c.args.w.now.world.executions) c.args.lag c.args.number in
    let so_far = reaches g (goal.at.returns-in_ok-attend-in-Claimed-clause-plays g c).In_ok-reached in
    plays-claimed g.K.Keep.faults (laws_of g) {after = behind} (rw c.in-Claimed.is at so_far) c.len-first.result _
    c.args.keep.now c.keep.new.self c.in_ok-keep.field-0
    c.len-first.ensures c.in_ok-keep.ensures.kept (c.in_ok-attend-in-Claimed.ensures.attends t refl)
