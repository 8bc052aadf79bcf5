use Rattle.std.proofs.Common.{◌≡◌, ◌<◌, ℕ, ◌+◌, Bool, List, get_or, ◌++◌, ◌∷◌, [], length, map, take, string_bytes, sym, ◌∙◌, ap, append_assoc, arith, vec_len}
use Rattle.std.specs.List.{enumerate_from, flat_map}
use Rattle.std.specs.Vec.Iter.{into_iter_items}
use Rattle.std.proofs.lemmas.List.{length-map}
use Rattle.fly_docs.specs.declared.submission.Submission.{Submission}
use Rattle.fly_opening.specs.Submissions.{faults_behind, faults_of, is_repeated, repetitions, with_fitting_inputs}
use Rattle.fly_opening.specs.Lines.{submission_lines}
use Rattle.fly_opening.proofs.LineLemmas.{lines-more}
use Rattle.fly_opening.proofs.NameTables.{length-repetitions, repetition-here, within-front}
use Rattle.fly_opening.proofs.Parts.{enumerate-push, mapped-more, behind-front}
use Rattle.fly_opening.proofs.submissions.fit_all.Goals as goal

pub index-is_repeated-requires : goal.index-is_repeated-requires
index-is_repeated-requires c =
    let at = c.loop-submission in
    let all = c.args.submissions in
    let whole : all ≡ at.yielded ++ c.in-Some.submission ∷ into_iter_items c.next.new.self =
    behind-front all at.yielded c.in-Some.submission (into_iter_items c.next.new.self)
    (into_iter_items at.submission-iterator)
    (at.invariant.all ∙ c.into_iter-submission-iterator.ensures.into_iter_gives.0 ∙ c.into_vec-submission-items.ensures)
    c.in-Some.ensures.steps.0 in
    let long : length (repetitions all) ≡ length all = length-repetitions all in
    let table : length c.in_ok-repeated.repeated.items ≡ length (repetitions all) =
    ap length (c.in_ok-repeated.ensures ∙ ap repetitions c.as_slice.ensures) in
    let count : vec_len c.in_ok-repeated.repeated ≡ length c.in_ok-repeated.repeated.items =
    c.in_ok-repeated.repeated.ok.0 in
    let place : c.len-in-loop-submission.result ≡ length at.yielded =
    c.len-in-loop-submission.ensures ∙ at.fitted.ok.0 ∙ ap length at.invariant.done
    ∙ length-map at.yielded (with_fitting_inputs c.args.variables.now) in
    let within : length at.yielded < length all =
    within-front all at.yielded c.in-Some.submission (into_iter_items c.next.new.self) whole in
    omega arith

pub loop-submission-preserved : goal.loop-submission-preserved
loop-submission-preserved c =
    let at = c.loop-submission in
    let all = c.args.submissions in
    let variables = c.args.variables.now in
    let x = c.in-Some.submission in
    let rest = into_iter_items c.next.new.self in
    let steps : into_iter_items at.submission-iterator ≡ x ∷ rest = c.in-Some.ensures.steps.0 in
    let whole : all ≡ at.yielded ++ x ∷ rest =
    behind-front all at.yielded x rest (into_iter_items at.submission-iterator)
    (at.invariant.all ∙ c.into_iter-submission-iterator.ensures.into_iter_gives.0 ∙ c.into_vec-submission-items.ensures)
    steps in
    let place : c.len-in-loop-submission.result ≡ length at.yielded =
    c.len-in-loop-submission.ensures ∙ at.fitted.ok.0 ∙ ap length at.invariant.done
    ∙ length-map at.yielded (with_fitting_inputs variables) in
    let behind : 0 + length at.yielded ≡ length at.yielded = omega arith in
    let here : ℕ × Submission = (0 + length at.yielded, x) in
    let old = string_bytes c.push_count_lines.new.lines in
    let repeated = c.index-is_repeated.result.now in
    let table : c.in_ok-repeated.repeated.items ≡ repetitions all =
    c.in_ok-repeated.ensures ∙ ap repetitions c.as_slice.ensures in
    let seen : repeated ≡ is_repeated (take (0 + length at.yielded) all) x =
    repetition-here all at.yielded x rest repeated c.len-in-loop-submission.result whole place
    (c.index-is_repeated.ensures
    ∙ ap (λ (bs : List Bool). get_or bs c.len-in-loop-submission.result repeated) table)
    ∙ ap (λ (k : ℕ). is_repeated (take k all) x) (sym behind) in
    record {
      all = append_assoc at.yielded (x ∷ []) _ ∙ rw (← steps) at.invariant.all;
      left = let was = at.invariant.left in let gone = c.in-Some.ensures.steps.1 in let short = ap length steps in
          omega arith;
      lines = lines-more (faults_behind variables all) (enumerate_from 0 at.yielded) here old (string_bytes at.lines)
          (string_bytes c.fit_submission.new.lines) at.invariant.lines
          (c.in_ok-fit_submission.ensures.lines
          ∙ ap (λ (b : Bool). string_bytes at.lines ++ submission_lines (faults_of variables b x)) seen)
          ∙ ap (λ (ps : List (ℕ × Submission)). old ++ submission_lines (flat_map (faults_behind variables all) ps))
          (sym (enumerate-push 0 at.yielded x));
      done = mapped-more (with_fitting_inputs variables) at.yielded x at.fitted.items c.push.new.self.items
          at.invariant.done
          (c.in_ok-push.ensures.items
          ∙ ap (λ (s : Submission). at.fitted.items ++ s ∷ []) c.in_ok-fit_submission.ensures.value);
    }
