use Rattle.std.proofs.Common.{◌≡◌, true, false, leb, [], length, sym, ap, ◌∙◌}
use Rattle.std.proofs.lemmas.List.{append-nil, get_or_default}
use Rattle.fly_links.specs.Links.{is_empty_row}
use Rattle.fly_links.proofs.EdgeLemmas.{kept_more, empty_is}
use Rattle.fly_links.proofs.links.empty_places.Goals as goal
use Rattle.fly_links.proofs.links.empty_places.Goals.{then-is_empty+in_ok-push, else-is_empty}

pub loop-place-preserved : goal.loop-place-preserved
loop-place-preserved c =
    let rows = c.args.rows.now in
    let i = c.loop-place.place in
    let row = c.index-rows-place.result in
    let test : is_empty_row rows i ≡ c.is_empty.result =
    ap (λ r. leb (length r) 0) (get_or_default rows i [] row c.loop-place-test.true ∙ sym c.index-rows-place.is) ∙ empty_is c.is_empty.result row c.is_empty.ensures in
    elim c.if-is_empty.branch [
      | then-is_empty+in_ok-push w ↦
          kept_more (is_empty_row rows) i true _ _ (test ∙ w.if-is_empty.true) c.loop-place.invariant
          (ap (λ v. v.items) w.places-is ∙ w.in_ok-push.ensures.items)
      | else-is_empty w ↦
          kept_more (is_empty_row rows) i false _ _ (test ∙ w.if-is_empty.false) c.loop-place.invariant
          (ap (λ v. v.items) w.places-is ∙ sym (append-nil c.loop-place.places.items))
    ]
