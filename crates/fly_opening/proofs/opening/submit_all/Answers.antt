use Rattle.std.proofs.Common.{◌≡◌, ◌++◌, ◌∷◌, [], List, length, refl, sym, ◌∙◌, ap, subst, append_assoc, arith}
use Rattle.std.specs.Vec.Iter.{into_iter_items}
use Rattle.fly_docs.specs.declared.submission.Submission.{Submission}
use Rattle.fly_world.specs.Kept.{Kept}
use Rattle.fly_opening.specs.Opening.{IsTaken, opened_store, with_submission}
use Rattle.fly_opening.proofs.Opened.{taken, opened-first, opened-more, opened-last, room-left}
use Rattle.fly_opening.proofs.Parts.{all-came, behind-front}
use Rattle.fly_opening.proofs.opening.submit_all.Goals as goal

pub submit-requires-clause-room : goal.submit-requires-clause-room
submit-requires-clause-room c =
    let at = c.loop-submission in
    let k = c.args.world.now in
    let all = c.args.submissions in
    let whole : all ≡ at.yielded ++ c.in-Some.submission ∷ into_iter_items c.next.new.self =
    behind-front all at.yielded c.in-Some.submission (into_iter_items c.next.new.self)
    (into_iter_items at.submission-iterator)
    (at.invariant.all ∙ c.into_iter-submission-iterator.ensures.into_iter_gives.0 ∙ c.into_vec-submission-items.ensures)
    c.in-Some.ensures.steps.0 in
    room-left at.world k.plan k.closure all at.yielded c.in-Some.submission (into_iter_items c.next.new.self)
    at.invariant.opened whole

pub submit-requires-clause-stands : goal.submit-requires-clause-stands
submit-requires-clause-stands c =
    let at = c.loop-submission in
    let k = c.args.world.now in
    let all = c.args.submissions in
    let whole : all ≡ at.yielded ++ c.in-Some.submission ∷ into_iter_items c.next.new.self =
    behind-front all at.yielded c.in-Some.submission (into_iter_items c.next.new.self)
    (into_iter_items at.submission-iterator)
    (at.invariant.all ∙ c.into_iter-submission-iterator.ensures.into_iter_gives.0 ∙ c.into_vec-submission-items.ensures)
    c.in-Some.ensures.steps.0 in
    subst (λ (q : Kept). IsTaken q.plan q.world c.in-Some.submission) (sym at.invariant.opened)
    (taken k.plan k.closure all at.yielded c.in-Some.submission (into_iter_items c.next.new.self) c.requires.opens
    whole)

pub loop-submission-init : goal.loop-submission-init
loop-submission-init c =
    let gives = c.into_iter-submission-iterator.ensures.into_iter_gives in
    record {
      all = refl;
      left = gives.1 ∙ c.into_vec-submission-items.result.ok.0 ∙ sym (ap length gives.0);
      opened = opened-first c.args.world.now c.reserve.new.self _ (length c.args.submissions) c.requires.begins
          c.in_ok-reserve.ensures.ok c.len.ensures.value;
    }

pub loop-submission-preserved : goal.loop-submission-preserved
loop-submission-preserved c =
    let at = c.loop-submission in
    let k = c.args.world.now in
    let x = c.in-Some.submission in
    let steps : into_iter_items at.submission-iterator ≡ x ∷ into_iter_items c.next.new.self =
    c.in-Some.ensures.steps.0 in
    record {
      all = append_assoc at.yielded (x ∷ []) _ ∙ rw (← steps) at.invariant.all;
      left = let was = at.invariant.left in let gone = c.in-Some.ensures.steps.1 in let short = ap length steps in
          omega arith;
      opened = c.in_ok-submit.ensures ∙ ap (λ (q : Kept). with_submission q x) at.invariant.opened
          ∙ opened-more k.plan k.closure (length c.args.submissions) at.yielded x;
    }

pub returns : goal.returns
returns c =
    let at = c.loop-submission in
    let k = c.args.world.now in
    let all = c.args.submissions in
    let came : at.yielded ≡ all =
    all-came at.yielded (into_iter_items at.submission-iterator) all
    (at.invariant.all ∙ c.into_iter-submission-iterator.ensures.into_iter_gives.0 ∙ c.into_vec-submission-items.ensures)
    (sym at.invariant.left ∙ c.in-None.ensures.steps.0) in
    opened-last at.world k.plan k.closure (length all) all
    (at.invariant.opened
    ∙ ap (λ (ss : List Submission). opened_store k.plan k.closure (length all) ss) came)
