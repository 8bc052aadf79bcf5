use Rattle.std.proofs.Common.{[], take, sym, ap, ap₂, ◌∙◌, subst, All, ◌<◌, arith}
use Rattle.std.proofs.lemmas.List.{take_all, length-take-le}
use Rattle.std.proofs.lemmas.List.FromFn.{fill_by_all}
use Rattle.fly_links.specs.Rows.{has_place, rows_with, with_place}
use Rattle.fly_links.proofs.RowLemmas.{rows_more, rows_before}
use Rattle.fly_links.proofs.SearchLemmas.{if_ok}
use Rattle.fly_links.proofs.rows.transposed.Goals as goal

pub push_to_each-requires : goal.push_to_each-requires
push_to_each-requires c = λ u lt.
    let i = c.loop-place.place in
    let within : u < c.args.count = omega (arith, lt, c.loop-place.invariant.len) in
    subst (All (λ v. v < i)) (sym (c.loop-place.invariant.each u within))
    (rows_before (take i c.args.rows.now) i u (length-take-le i c.args.rows.now (omega arith)))

pub loop-place-preserved : goal.loop-place-preserved
loop-place-preserved c =
    let i = c.loop-place.place in
    let pushed = c.in_ok-push_to_each.ensures in
    record {
      len = pushed.len ∙ c.loop-place.invariant.len;
      each = λ u lt.
          pushed.each u (omega (arith, lt, c.loop-place.invariant.len))
          ∙ ap₂ (λ row before. with_place (has_place row u) before i) c.as_slice.ensures (c.loop-place.invariant.each u lt)
          ∙ sym (rows_more c.args.rows.now i u c.index-rows-place.result c.loop-place-test.true c.index-rows-place.is);
    }

pub returns : goal.returns
returns c =
    if_ok c.into_lists.result
    (λ lists is. is ∙ fill_by_all (rows_with c.args.rows.now) c.loop-place.others.items c.args.count [] c.loop-place.invariant.len
    (λ u lt. c.loop-place.invariant.each u lt ∙ ap (λ rs. rows_with rs u) (take_all c.loop-place.place c.args.rows.now (omega arith))))
    c.into_lists.ensures
