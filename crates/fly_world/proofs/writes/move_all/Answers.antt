use Rattle.std.proofs.Common.{◌≡◌, ◌<◌, option_map, length, take, get_or, map, ap, sym, subst, ◌∙◌, arith}
use Rattle.std.proofs.lemmas.Bool.{eqb-false}
use Rattle.std.proofs.lemmas.List.{get_or_default, take_all}
use Rattle.fly_state.specs.Rounds.{state_after}
use Rattle.fly_world.specs.Effects.{effect_in}
use Rattle.fly_world.specs.Steps.{cited_move}
use Rattle.fly_world.proofs.MoveLists.{no_move, slots_more, repeated, first_time, AreGood, bad_here, bad_nowhere, good_more, repeats-bad, illegal-bad, legal-good, state_more}
use Rattle.fly_world.proofs.writes.move_all.Goals as goal

pub returns-then-not-branch : goal.returns-then-not-branch
returns-then-not-branch c =
    let s = c.args.store.now in
    let v = c.args.view.now in
    let moves = c.args.moves.now in
    let i = c.loop-index.index in
    let m = get_or moves i no_move in
    bad_here s.plan s.world v moves i m c.loop-index-test.true
    (get_or_default moves i no_move m c.loop-index-test.true) c.loop-index.invariant.good
    (repeats-bad s.plan s.world v (take i moves) m
    (repeated (take i moves) m c.loop-index.slots c.in_ok-insert.field-0 c.loop-index.invariant.slots
    c.in_ok-insert.ensures.added c.if-not-branch.true))

pub returns-in_default : goal.returns-in_default
returns-in_default c =
    let s = c.args.store.now in
    let v = c.args.view.now in
    let moves = c.args.moves.now in
    let i = c.loop-index.index in
    let m = get_or moves i no_move in
    bad_here s.plan s.world v moves i m c.loop-index-test.true
    (get_or_default moves i no_move m c.loop-index-test.true) c.loop-index.invariant.good
    (illegal-bad s.plan s.world v (take i moves) m
    (sym c.in_ok-effect.ensures ∙ ap (option_map effect_in) c.in_default.is))

pub loop-index-preserved : goal.loop-index-preserved
loop-index-preserved c =
    let s = c.args.store.now in
    let v = c.args.view.now in
    let moves = c.args.moves.now in
    let i = c.loop-index.index in
    let m = get_or moves i no_move in
    let is = get_or_default moves i no_move m c.loop-index-test.true in
    let old = c.loop-index.invariant in
    let e = effect_in c.in-Some.effect in
    let effect = sym c.in_ok-effect.ensures ∙ ap (option_map effect_in) c.in-Some.is in
    let first = first_time (take i moves) m c.loop-index.slots c.in_ok-insert.field-0 old.slots
    c.in_ok-insert.ensures.added c.if-not-branch.false in
    record {
      slots = slots_more moves i m c.loop-index.slots c.insert.new.self c.loop-index-test.true is old.slots
          c.in_ok-insert.ensures.updates;
      good = good_more s.plan s.world v moves i m is c.loop-index-test.true old.good
          (legal-good s.plan s.world v (take i moves) m e first effect);
      state = state_more s.plan s.world v moves i m e c.loop-index.state c.put.new.state c.loop-index-test.true is
          effect old.state c.in_ok-put.ensures;
    }

pub returns : goal.returns
returns c =
    let s = c.args.store.now in
    let v = c.args.view.now in
    let moves = c.args.moves.now in
    let i = c.loop-index.index in
    let all : i ≡ length moves = omega arith in
    let some : 0 < length moves =
    omega (arith, eqb-false (length moves) 0 (sym c.is_empty.ensures ∙ c.if-is_empty.false)) in (
      bad_nowhere s.plan s.world v moves no_move some
          (subst (λ n. AreGood s.plan s.world v moves n) all c.loop-index.invariant.good),
      c.loop-index.invariant.state
          ∙ ap (λ xs. state_after s.plan v (map (cited_move s.world) xs)) (take_all i moves (omega arith)),
    )
