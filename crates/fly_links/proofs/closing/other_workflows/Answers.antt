use Rattle.std.proofs.Common.{◌≡◌, ℕ, Bool, List, [], ◌∷◌, ◌++◌, cond, not, map, filter, take, true, false, sym, ap, ◌∙◌}
use Rattle.std.specs.Borrow.{Bor}
use Rattle.std.proofs.lemmas.List.{append-nil, map_push}
use Rattle.fly_docs.specs.declared.workflow.Workflow.{Workflow}
use Rattle.fly_docs.specs.declared.workflow.Bundle.{Bundle}
use Rattle.fly_docs.specs.Reaching.{workflow_place, is_primary_place}
use Rattle.fly_links.proofs.LoopLemmas.{passed_more}
use Rattle.fly_links.proofs.ConnectLemmas.{primary_is}
use Rattle.fly_links.proofs.closing.other_workflows.Goals as goal
use Rattle.fly_links.proofs.closing.other_workflows.Goals.{then-not-is_at+in_ok-push, else-not-is_at}

pub loop-place-preserved : goal.loop-place-preserved
loop-place-preserved c =
    let b = c.args.directory.now in
    let ws = c.workflows-workflows.result.now in
    let i = c.loop-place.place-index in
    let item = c.loop-place-item.result in
    let g : ℕ × Bor Workflow → ℕ × Workflow = λ at. (at.0, at.1.now) in
    let p : ℕ × Workflow → Bool = λ at. not (is_primary_place b at.0) in
    let f : ℕ × Workflow → Workflow = λ at. at.1 in
    let before : List Workflow = map f (filter p (map g (take i ws))) in
    let more = passed_more g p f ws i item c.loop-place-test.true c.loop-place-item.is in
    let test : is_primary_place b item.0 ≡ c.is_at.result =
    primary_is b c.workflow_place-primary.result item.0 c.is_at.result
    (c.workflow_place-primary.ensures
    ∙ ap (λ (x : Bundle). workflow_place b x.primary) c.bundle.ensures) c.is_at.ensures in
    elim c.if-not-is_at.branch [
      | then-not-is_at+in_ok-push w ↦
          let pass : not c.is_at.result ≡ true = ap not w.if-not-is_at.true in
          ap (λ v. map (λ (x : Bor Workflow). x.now) v.items) w.others-is
          ∙ ap (map (λ (x : Bor Workflow). x.now)) w.in_ok-push.ensures.items
          ∙ map_push (λ (x : Bor Workflow). x.now) c.loop-place.others.items _
          ∙ ap (λ ys. ys ++ item.1.now ∷ []) c.loop-place.invariant
          ∙ sym (more ∙ ap (λ t. before ++ cond t (item.1.now ∷ []) []) (ap not test ∙ pass))
      | else-not-is_at w ↦
          let pass : not c.is_at.result ≡ false = ap not w.if-not-is_at.false in
          ap (λ v. map (λ (x : Bor Workflow). x.now) v.items) w.others-is ∙ c.loop-place.invariant
          ∙ sym (append-nil before)
          ∙ sym (more ∙ ap (λ t. before ++ cond t (item.1.now ∷ []) []) (ap not test ∙ pass))
    ]
