use Rattle.std.proofs.Common.{ℕ, Bool, false, List, [], ◌∷◌, ◌++◌, cond, map, filter, take, get_or, sym, ap, ◌∙◌}
use Rattle.std.specs.Borrow.{Bor}
use Rattle.std.specs.List.{enumerate_from}
use Rattle.std.proofs.lemmas.List.{append-nil, map_push}
use Rattle.fly_links.proofs.Numbered.{picked_more}
use Rattle.fly_links.proofs.marks.picked.Goals as goal
use Rattle.fly_links.proofs.marks.picked.Goals.{then-marks-place+in_ok-push, else-marks-place}

pub loop-place-preserved : goal.loop-place-preserved
loop-place-preserved g c =
    let T = g.row.T.Denot in
    let i = c.loop-place.place in
    let xs = c.args.items.now in
    let item = c.index-items-place.result in
    let test : ℕ × T → Bool = λ at. get_or c.args.marks.now at.0 false in
    let f : ℕ × Bor T → ℕ × T = λ at. (at.0, at.1.now) in
    let before : List (ℕ × T) = filter test (enumerate_from 0 (take i xs)) in
    let more = picked_more test xs i item c.loop-place-test.true in
    elim c.if-marks-place.branch [
      | then-marks-place+in_ok-push w ↦
          ap (λ v. map f v.items) w.picked-is ∙ ap (map f) w.in_ok-push.ensures.items ∙ map_push f c.loop-place.picked.items _
          ∙ ap (λ ys. ys ++ (i, item) ∷ []) c.loop-place.invariant
          ∙ ap (λ x. before ++ (i, x) ∷ []) c.index-items-place.is
          ∙ sym (more ∙ ap (λ b. before ++ cond b ((i, get_or xs i item) ∷ []) []) w.if-marks-place.true)
      | else-marks-place w ↦
          ap (λ v. map f v.items) w.picked-is ∙ c.loop-place.invariant ∙ sym (append-nil before)
          ∙ sym (more ∙ ap (λ b. before ++ cond b ((i, get_or xs i item) ∷ []) []) w.if-marks-place.false)
    ]
