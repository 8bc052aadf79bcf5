use Rattle.std.proofs.Common.{◌≡◌, ◌+◌, [], not, get_or, set, refl, sym, ap, ◌∙◌, subst, arith, length}
use Rattle.std.proofs.lemmas.List.{length-set, get_or_default}
use Rattle.fly_links.specs.Rows.{with_place, ends_in}
use Rattle.fly_links.proofs.RowLemmas.{IsPushed, pushed_past, pushed_at}
use Rattle.fly_links.proofs.rows.push_to_each.Goals as goal
use Rattle.fly_links.proofs.rows.push_to_each.Goals.{then-target-len+in_ok-push_once, else-target-len}

pub loop-target-preserved : goal.loop-target-preserved
loop-target-preserved c =
    let place = c.args.place in
    let ts = c.args.targets.now in
    let i = c.loop-target.target-index in
    let old = c.args.rows.now.items in
    let now = c.loop-target.rows.items in
    let t = get_or ts i 0 in
    let lt = c.loop-target-test.true in
    elim c.if-target-len.branch [
      | then-target-len+in_ok-push_once w ↦
          let items : c.if-target-len.rows.items ≡ set now t w.push_once.new.self = ap (λ v. v.items) w.rows-is in
          let row = w.index_mut.result.now in
          let here : row ≡ get_or now t [] =
          w.index_mut.ensures.value ∙ get_or_default now t row [] (omega (arith, w.if-target-len.true, c.len.ensures)) in
          record {
            len = ap length items ∙ length-set now t w.push_once.new.self ∙ c.loop-target.invariant.len;
            each = subst (IsPushed place ts i old lt (i + 1)) (sym items)
                (pushed_at place ts i old lt now w.push_once.new.self t refl c.requires c.loop-target.invariant.len
                (omega (arith, w.if-target-len.true, c.len.ensures, c.loop-target.invariant.len))
                (w.in_ok-push_once.ensures ∙ ap (λ r. with_place (not (ends_in r place)) r place) here) c.loop-target.invariant.each);
          }
      | else-target-len w ↦
          let items : c.if-target-len.rows.items ≡ now = ap (λ v. v.items) w.rows-is in
          record {
            len = ap length items ∙ c.loop-target.invariant.len;
            each = subst (IsPushed place ts i old lt (i + 1)) (sym items) (pushed_past place ts i old lt now c.loop-target.invariant.each (omega (arith, w.if-target-len.false, c.len.ensures, c.loop-target.invariant.len)));
          }
    ]
