use Rattle.std.proofs.Common.{◌≡◌, ◌<◌, length, get_or, rules, ap, sym, subst, ◌∙◌, arith}
use Rattle.std.proofs.lemmas.List.{length-set}
use Rattle.std.proofs.lemmas.List.Elements.{Contains-get_or}
use Rattle.fly_rules.specs.Rules.{values_at}
use Rattle.fly_state.specs.Plans.{looks}
use Rattle.fly_state.specs.Standing.{known_standing, standing_by, AreStandings}
use Rattle.fly_state.proofs.StandingLemmas.{known_more, all_known}
use Rattle.fly_state.proofs.standing.standings.Goals as goal

pub loop-number-init : goal.loop-number-init
loop-number-init c = record { len = search rules; done = λ j lt. absurd (omega arith) }

pub standing_by-requires : goal.standing_by-requires
standing_by-requires c =
    let order = c.order-number-items.result.now in
    (c.order-number-items.ensures.once.each (get_or order c.loop-number.number-index 0)).1
    (Contains-get_or order c.loop-number.number-index 0 c.loop-number-test.true)

pub index_mut-requires : goal.index_mut-requires
index_mut-requires c =
    let order = c.order-number-items.result.now in
    let small = (c.order-number-items.ensures.once.each (get_or order c.loop-number.number-index 0)).1
    (Contains-get_or order c.loop-number.number-index 0 c.loop-number-test.true) in
    let long = c.loop-number.invariant.len in
    omega arith

pub loop-number-preserved : goal.loop-number-preserved
loop-number-preserved c =
    let plan = c.args.plan.now in
    let s = c.args.state.now in
    let order = c.order-number-items.result.now in
    let k = c.loop-number.number-index in
    let v = get_or order k 0 in
    let known = c.loop-number.known.items in
    record {
      len = length-set known v c.standing_by.result ∙ c.loop-number.invariant.len;
      done =
          known_more plan s order c.order-number-items.ensures k known c.standing_by.result c.loop-number-test.true c.loop-number.invariant.len
          c.loop-number.invariant.done
          (c.standing_by.ensures ∙ ap (λ ks. standing_by plan s v (values_at (known_standing ks) (looks plan v))) c.deref.ensures.value);
    }

pub returns : goal.returns
returns c =
    let plan = c.args.plan.now in
    let s = c.args.state.now in
    let order = c.order-number-items.result.now in
    let known = c.loop-number.known.items in
    subst (AreStandings plan s) (sym c.from_vec.ensures.value)
    (all_known plan s order c.order-number-items.ensures known c.loop-number.invariant.len (λ j lt. c.loop-number.invariant.done j (omega arith)))
