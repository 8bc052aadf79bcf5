use Rattle.std.proofs.Common.{ℕ, List, [], ◌∷◌, ◌++◌, map, sym, ap, ◌∙◌, arith}
use Rattle.std.specs.List.{range_with_len}
use Rattle.std.proofs.lemmas.List.FromFn.{map-range_with_len_more}
use Rattle.fly_links.specs.Links.{joined_row}
use Rattle.fly_links.proofs.links.joined_rows.Goals as goal

pub loop-place-preserved : goal.loop-place-preserved
loop-place-preserved c =
    let i = c.loop-place.place in
    let f : ℕ → List ℕ = joined_row c.args.names.now c.args.cases.now c.args.around.now in
    c.in_ok-push.ensures.items
    ∙ ap (λ r. r ++ c.in_ok-joined_row.field-0 ∷ []) c.loop-place.invariant
    ∙ ap (λ r. map f (range_with_len 0 i) ++ r ∷ []) c.in_ok-joined_row.ensures
    ∙ sym (map-range_with_len_more f 0 i i (omega arith))
