use Rattle.std.proofs.Common.{length, Some, Ok, refl, ◌∙◌, arith}
use Rattle.std.proofs.lemmas.Result.{err_from_is_err_and}
use Rattle.fly_work.specs.Drives.{turn_numbered}
use Rattle.fly_work.specs.Parts.{Opens, AsksAll}
use Rattle.fly_work.proofs.ReachLemmas.{turn-reads, room-left, reaches-opened, reaches-idle, reaches-asked, asks-all, round-of, reaches-unclosed, reaches-done, reaches-claimed}
use Rattle.fly_work.proofs.turn.reach.Given.{Over}
use Rattle.fly_work.proofs.turn.reach.Goals.{In-Some, In_ok-moves}
use Rattle.fly_work.proofs.turn.reach.Goals as goal

-- over a view
opened : (g : Over) (c : In-Some g)
    → Opens (Unit {0}) (turn_numbered (length c.args.w.now.world.executions) c.args.lag c.args.number) c.args.w.now
    c.open.new.service
    (g.C.Clock.state c.args.clock.now) (g.C.Clock.state c.open.new.clock) (Ok (Some c.in-Some.view))
opened g c =
    let t = turn_numbered (length c.args.w.now.world.executions) c.args.lag c.args.number in
    let at = turn-reads c.args.number (length c.args.w.now.world.executions) c.args.lag c.from-executions.result
    c.from.result
    (c.from-executions.ensures ∙ c.executions.ensures) c.from.ensures in
    rw c.in-Some.is at (c.in_ok-view.ensures.opens t refl at.0 at.1)

-- with the moves of its round
asked : (g : Over) (c : In_ok-moves g)
    → AsksAll (Unit {0}) (turn_numbered (length c.args.w.now.world.executions) c.args.lag c.args.number)
    c.in-Some.view c.open.new.service c.ask_all.new.service
    (g.C.Clock.state c.open.new.clock) (Ok c.in_ok-moves.moves)
asked g c =
    c.in_ok-moves.ensures.asks (turn_numbered (length c.args.w.now.world.executions) c.args.lag c.args.number)
    (g.C.Clock.state c.open.new.clock) refl

pub returns-in_err-view : goal.returns-in_err-view
returns-in_err-view g c =
    let t = turn_numbered (length c.args.w.now.world.executions) c.args.lag c.args.number in
    let at = turn-reads c.args.number (length c.args.w.now.world.executions) c.args.lag c.from-executions.result
    c.from.result
    (c.from-executions.ensures ∙ c.executions.ensures) c.from.ensures in
    let short = err_from_is_err_and c.from_residual.result c.from_residual.ensures.1 in
    rw short.1 (reaches-opened (c.open.ensures.opens t refl at.0 at.1) short.0)

pub returns-in_default : goal.returns-in_default
returns-in_default g c =
    let t = turn_numbered (length c.args.w.now.world.executions) c.args.lag c.args.number in
    let at = turn-reads c.args.number (length c.args.w.now.world.executions) c.args.lag c.from-executions.result
    c.from.result
    (c.from-executions.ensures ∙ c.executions.ensures) c.from.ensures in
    reaches-idle (rw c.in_default.is at (c.in_ok-view.ensures.opens t refl at.0 at.1))

pub returns-in_err-exec : goal.returns-in_err-exec
returns-in_err-exec g c =
    let o = opened g (goal.at.returns-in_err-exec g c).In-Some in
    let r = c.from_residual-in_err-exec in
    let short = err_from_is_err_and r.result r.ensures.1 in
    rw short.1 (reaches-opened o short.0)

pub ask_all-requires-clause-own : goal.ask_all-requires-clause-own
ask_all-requires-clause-own g c =
    let o = opened g (goal.at.ask_all-requires-clause-own g c).In-Some in
    o.part.acts.plan ∙ c.requires.own

pub ask_all-requires-clause-of_plan : goal.ask_all-requires-clause-of_plan
ask_all-requires-clause-of_plan g c =
    let o = opened g (goal.at.ask_all-requires-clause-of_plan g c).In-Some in
    rw c.requires.own at o.opened.1

pub ask_all-requires-clause-room : goal.ask_all-requires-clause-room
ask_all-requires-clause-room g c =
    let o = opened g (goal.at.ask_all-requires-clause-room g c).In-Some in
    room-left o.part 3 2_048 o.few (omega (arith, c.requires.room))

pub returns-in_err-moves : goal.returns-in_err-moves
returns-in_err-moves g c =
    let o = opened g (goal.at.returns-in_err-moves g c).In-Some in
    let t = turn_numbered (length c.args.w.now.world.executions) c.args.lag c.args.number in
    let q = c.ask_all.ensures.asks t (g.C.Clock.state c.open.new.clock) refl in
    let r = c.from_residual-in_err-moves in
    let short = err_from_is_err_and r.result r.ensures.1 in
    rw short.1 (reaches-asked o q short.0)

pub close-requires-clause-own : goal.close-requires-clause-own
close-requires-clause-own g c =
    let o = opened g (goal.at.close-requires-clause-own g c).In-Some in
    let q = asked g (goal.at.close-requires-clause-own g c).In_ok-moves in
    q.part.acts.plan ∙ o.part.acts.plan ∙ c.requires.own

pub close-requires-clause-round : goal.close-requires-clause-round
close-requires-clause-round g c =
    let o = opened g (goal.at.close-requires-clause-round g c).In-Some in
    let q = asked g (goal.at.close-requires-clause-round g c).In_ok-moves in
    (c.in-Some.view, q.asked.0, round-of c.args.p.now c.in_ok-exec.exec o q c.requires.own c.in_ok-exec.ensures)

pub close-requires-clause-room : goal.close-requires-clause-room
close-requires-clause-room g c =
    let o = opened g (goal.at.close-requires-clause-room g c).In-Some in
    let q = asked g (goal.at.close-requires-clause-room g c).In_ok-moves in
    room-left q.part 2_048 2 q.few (room-left o.part 3 2_050 o.few (omega (arith, c.requires.room)))

pub returns-in_err-work : goal.returns-in_err-work
returns-in_err-work g c =
    let o = opened g (goal.at.returns-in_err-work g c).In-Some in
    let q = asked g (goal.at.returns-in_err-work g c).In_ok-moves in
    let t = turn_numbered (length c.args.w.now.world.executions) c.args.lag c.args.number in
    let k = c.close.ensures.closes t (g.C.Clock.state c.open.new.clock) c.in-Some.view q.asked.0 refl
    (round-of c.args.p.now c.in_ok-exec.exec o q c.requires.own c.in_ok-exec.ensures) in
    let r = c.from_residual-in_err-work in
    let short = err_from_is_err_and r.result r.ensures.1 in
    rw short.1 (reaches-unclosed (asks-all o q) k short.0)

pub returns-in-Some-2 : goal.returns-in-Some-2
returns-in-Some-2 g c =
    let o = opened g (goal.at.returns-in-Some-2 g c).In-Some in
    let q = asked g (goal.at.returns-in-Some-2 g c).In_ok-moves in
    let t = turn_numbered (length c.args.w.now.world.executions) c.args.lag c.args.number in
    let k = c.in_ok-work.ensures.closes t (g.C.Clock.state c.open.new.clock) c.in-Some.view q.asked.0 refl
    (round-of c.args.p.now c.in_ok-exec.exec o q c.requires.own c.in_ok-exec.ensures) in
    reaches-claimed (asks-all o q) (rw c.in-Some-2.is at k)

pub returns-in-None : goal.returns-in-None
returns-in-None g c =
    let o = opened g (goal.at.returns-in-None g c).In-Some in
    let q = asked g (goal.at.returns-in-None g c).In_ok-moves in
    let t = turn_numbered (length c.args.w.now.world.executions) c.args.lag c.args.number in
    let k = c.in_ok-work.ensures.closes t (g.C.Clock.state c.open.new.clock) c.in-Some.view q.asked.0 refl
    (round-of c.args.p.now c.in_ok-exec.exec o q c.requires.own c.in_ok-exec.ensures) in
    reaches-done (asks-all o q) (rw c.in-None.is at k)
