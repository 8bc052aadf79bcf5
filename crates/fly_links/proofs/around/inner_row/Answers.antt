use Rattle.std.proofs.Common.{◌≡◌, ◌≤◌, ◌+◌, ◌-◌, suc, [], ◌∷◌, ◌++◌, sym, ap, ◌∙◌, arith}
use Rattle.std.specs.List.{range_with_len}
use Rattle.fly_links.proofs.RowLemmas.{range_more}
use Rattle.fly_links.proofs.around.inner_row.Goals as goal

pub loop-inner-preserved : goal.loop-inner-preserved
loop-inner-preserved c =
    let a = c.args.place + 1 in
    let inner = c.loop-inner.inner in
    let from : a ≤ inner = c.loop-inner.auto.inner in
    let n = inner - a in
    let at : inner ≡ a + n = omega (arith, from) in
    let next : suc n ≡ (inner + 1) - a = omega (arith, from) in
    c.in_ok-push.ensures.items
    ∙ ap (λ r. r ++ inner ∷ []) c.loop-inner.invariant
    ∙ ap (λ k. range_with_len a n ++ k ∷ []) at
    ∙ sym (range_more a n)
    ∙ ap (range_with_len a) next
