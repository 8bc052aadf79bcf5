use Rattle.std.proofs.Common.{◌<◌, ◌≤◌, length, sym, ◌∙◌, arith}
use Rattle.fly_attempts.proofs.TableLemmas.{unsettled_past, unsettled_told}
use Rattle.fly_attempts.proofs.attempts.Attempts.unsettled.Goals as goal

pub returns-then-self-len : goal.returns-then-self-len
returns-then-self-len c =
    let f = c.self.inside in
    let long = c.len.ensures ∙ f.handouts.ok.0 in
    let past : length f.handouts.items ≤ f.first_open = omega (arith, long, c.if-self-len.true) in
    rw (← c.self.view_is) (sym (unsettled_past _ _ _ _ _ c.self.invariant.tables past))

pub item-requires : goal.item-requires
item-requires c =
    let f = c.self.inside in
    let long = c.len.ensures ∙ f.handouts.ok.0 in
    let short : length f.handouts.items ≤ length f.launches = c.self.invariant.tables.claimed in
    omega (arith, long, c.if-self-len.false, short)

pub returns : goal.returns
returns c =
    let f = c.self.inside in
    let long = c.len.ensures ∙ f.handouts.ok.0 in
    let inside : f.first_open < length f.handouts.items = omega (arith, long, c.if-self-len.false) in
    rw (← c.self.view_is)
    (sym (unsettled_told _ _ _ _ _ c.self.invariant.tables inside c.item.result.now c.item.ensures))
