use Rattle.std.proofs.Common.{◌≡◌, ℕ, ◌+◌, List, refl, sym, subst, arith}
use Rattle.fly_desk.specs.Pass.{own, calls_left}
use Rattle.fly_desk.specs.Workers.{HasTurns}
use Rattle.fly_desk.proofs.WorkersLemmas.{no_turns, one_more_turn}
use Rattle.fly_desk.proofs.tests.workers.work.Goals as goal

pub loop-number-init : goal.loop-number-init
loop-number-init g c =
    let Turns : List (ℕ × (ℕ × ℕ)) → Type 0 = λ l. HasTurns c.args.job.now.worker 0 l in
    (c.requires.place, c.requires.idle, subst Turns (sym c.requires.own_is) (no_turns _), omega arith, refl)

pub loop-number-preserved : goal.loop-number-preserved
loop-number-preserved g c =
    let at = c.loop-number in
    let turn = c.turn-met.ensures in
    let Turns : List (ℕ × (ℕ × ℕ)) → Type 0 = λ l. HasTurns at.job.worker (at.number + 1) l in
    let count = at.invariant.3 in
    let left = turn.left in (
      turn.desk,
      turn.idle,
      subst Turns (sym turn.own.1) (one_more_turn _ _ _ _ at.invariant.2 turn.own.2),
      omega arith,
      at.invariant.4,
    )

pub returns-clause-pass : goal.returns-clause-pass
returns-clause-pass g c =
    let at = c.loop-number in
    let end = c.loop-number-test.false in
    let last = at.auto.number-end in
    let calls = c.left-calls.ensures in
    let count = at.invariant.3 in
    let all : at.number ≡ calls_left c.args.job.now.pass = omega arith in
    let Many : ℕ → Type 0 = λ n. HasTurns at.job.worker n (own at.job.pass) in
    let By : ℕ → Type 0 = λ w. HasTurns w (calls_left c.args.job.now.pass) (own at.job.pass) in record {
      spent = record { place = at.invariant.0; idle = at.invariant.1; left_is = omega arith };
      turns_are = subst By at.invariant.4 (subst Many all at.invariant.2);
    }
