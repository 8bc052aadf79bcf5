use Rattle.std.proofs.Common.{ℕ, Bool, true, false, get_or, sym, ap, ◌∙◌}
use Rattle.std.proofs.lemmas.List.{append-nil}
use Rattle.fly_links.proofs.EdgeLemmas.{kept_more}
use Rattle.fly_links.proofs.links.marked_places.Goals as goal
use Rattle.fly_links.proofs.links.marked_places.Goals.{then-mark+in_ok-push, else-mark}

pub loop-place-preserved : goal.loop-place-preserved
loop-place-preserved c =
    let i = c.loop-place.place in
    let p : ℕ → Bool = λ v. get_or c.args.marks.now v false in
    elim c.if-mark.branch [
      | then-mark+in_ok-push w ↦
          kept_more p i true _ _ w.if-mark.true c.loop-place.invariant (ap (λ v. v.items) w.places-is ∙ w.in_ok-push.ensures.items)
      | else-mark w ↦
          kept_more p i false _ _ w.if-mark.false c.loop-place.invariant (ap (λ v. v.items) w.places-is ∙ sym (append-nil c.loop-place.places.items))
    ]
