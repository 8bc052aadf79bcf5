use Rattle.std.proofs.Common.{◌++◌, ℕ, Bool, cond, List, length, flat_map, string_bytes, sym, subst, ap, ◌∙◌, arith}
use Rattle.std.proofs.lemmas.Option.{slice_get_within}
use Rattle.fly_types.specs.declared.text.Text.{Text}
use Rattle.fly_eval.specs.declared.seen.Evaluated.{Evaluated}
use Rattle.fly_world.specs.Journals.{IsHistory}
use Rattle.fly_world.specs.World.{Execution}
use Rattle.fly_report.specs.Launches.{launch_count}
use Rattle.fly_report.specs.Lines.{Section, section_text}
use Rattle.fly_report.proofs.Places.{texts-next, count-next}
use Rattle.fly_verdicts.specs.EvaluationReport.{evaluated_section, evaluation_section, numbered_counts, succeeds}
use Rattle.fly_verdicts.specs.Grouped.{settled_at, answered_at}
use Rattle.fly_verdicts.specs.Verdicts.{is_success}
use Rattle.fly_verdicts.proofs.ExecutionLemmas.{execution-at, numbers-below}
use Rattle.fly_verdicts.proofs.EvaluatedLemmas.{within-lists, are-typed, evaluated-own}
use Rattle.fly_verdicts.proofs.SeenLemmas.{section-counted}
use Rattle.fly_verdicts.proofs.report.report_text.Goals as goal
use Rattle.fly_verdicts.proofs.report.report_text.Goals.{then-is_success, else-is_success}

pub settled_lists-requires : goal.settled_lists-requires
settled_lists-requires c = numbers-below c.args.world.now.world c.in_ok-numbers.numbers c.in_ok-numbers.ensures

pub answered_lists-requires : goal.answered_lists-requires
answered_lists-requires c = numbers-below c.args.world.now.world c.in_ok-numbers.numbers c.in_ok-numbers.ensures

pub take_list-requires : goal.take_list-requires
take_list-requires c =
    let w = c.args.world.now.world in
    let at = c.loop-number.number in
    let x = execution-at w.executions at c.named-submission.result.now c.named-submission.ensures in
    within-lists at (length w.executions) c.loop-number.settled.len
    (λ i. settled_at c.in_ok-numbers.numbers i w.entries)
    c.loop-number.settled.items c.loop-number.settled.ok.0 c.loop-number.invariant.3
    (slice_get_within w.executions at x.0 x.1)

pub take_list-requires-in-loop-number : goal.take_list-requires-in-loop-number
take_list-requires-in-loop-number c =
    let w = c.args.world.now.world in
    let at = c.loop-number.number in
    let x = execution-at w.executions at c.named-submission.result.now c.named-submission.ensures in
    within-lists at (length w.executions) c.loop-number.answered.len
    (λ i. answered_at w.entries c.in_ok-numbers.numbers i w.entries)
    c.loop-number.answered.items c.loop-number.answered.ok.0 c.loop-number.invariant.4
    (slice_get_within w.executions at x.0 x.1)

pub evaluate_by_plan-requires : goal.evaluate_by_plan-requires
evaluate_by_plan-requires c =
    let plan = c.args.plan.now in
    let k = c.args.world.now in
    let w = k.world in
    let numbers = c.in_ok-numbers.numbers in
    let at = c.loop-number.number in
    let x = execution-at w.executions at c.named-submission.result.now c.named-submission.ensures in
    let history : IsHistory plan k.closure w.entries w =
    subst (λ q. IsHistory q k.closure w.entries w) c.requires.own c.legal_journal.ensures in
    record {
      typed = are-typed plan k.closure w history (c.names_are_of_plan.ensures plan k.closure w.entries w history)
          (c.records_are_typed.ensures plan k.closure w.entries w history)
          (c.worlds_tell_journals.ensures plan k.closure w.entries w history) numbers c.in_ok-numbers.ensures at x.0 x.1
          c.named-submission.result.now.inputs x.3 (record { list = c.take_list.result })
          (record { list = c.take_list-in-loop-number.result })
          (c.take_list.ensures (length w.executions) (λ i. settled_at numbers i w.entries) c.loop-number.invariant.3).0
          (c.take_list-in-loop-number.ensures (length w.executions)
          (λ i. answered_at w.entries numbers i w.entries) c.loop-number.invariant.4).0;
    }

pub loop-number-preserved : goal.loop-number-preserved
loop-number-preserved c =
    let plan = c.args.plan.now in
    let k = c.args.world.now in
    let w = k.world in
    let numbers = c.in_ok-numbers.numbers in
    let at = c.loop-number.number in
    let told = string_bytes c.loop-number.text in
    let e = c.in_ok-evaluated.evaluated in
    let x = execution-at w.executions at c.named-submission.result.now c.named-submission.ensures in
    let history : IsHistory plan k.closure w.entries w =
    subst (λ q. IsHistory q k.closure w.entries w) c.requires.own c.legal_journal.ensures in
    let settled = c.take_list.ensures (length w.executions)
    (λ i. settled_at numbers i w.entries) c.loop-number.invariant.3 in
    let answered = c.take_list-in-loop-number.ensures (length w.executions)
    (λ i. answered_at w.entries numbers i w.entries)
    c.loop-number.invariant.4 in
    let own = evaluated-own plan k.closure w history (c.names_are_of_plan.ensures plan k.closure w.entries w history)
    (c.records_are_typed.ensures plan k.closure w.entries w history)
    (c.worlds_tell_journals.ensures plan k.closure w.entries w history) numbers c.in_ok-numbers.ensures at x.0 x.1
    c.named-submission.result.now.inputs x.3 (record { list = c.take_list.result })
    (record { list = c.take_list-in-loop-number.result })
    settled.0 answered.0 e c.in_ok-evaluated.ensures in
    let text : Execution → List ℕ = λ y. section_text (evaluation_section plan w y) in
    let launches = c.in_ok-of.field-0 in
    let added = c.in_ok-push_execution.ensures
    ∙ ap (λ (n : Text). told ++ section_text (evaluated_section (numbered_counts plan launches at) plan n e)) (sym x.2)
    ∙ ap (λ (s : Section). told ++ section_text s) (section-counted plan w launches c.in_ok-of.ensures at x.0 x.1 e)
    ∙ ap (λ (v : Evaluated). told ++ section_text (evaluated_section (launch_count w x.0.name) plan x.0.name v)) own in
    let texts = texts-next text w.executions at x.0 told (string_bytes c.push_execution.new.text)
    (flat_map text w.executions) x.1 added c.loop-number.invariant.0 in
    let next = count-next (succeeds plan w) w.executions at x.0 x.1 in
    let tested = ap (λ (v : Evaluated). is_success v.root) (sym own) ∙ sym c.is_success.ensures in
    let one : Bool → ℕ = λ b. cond b 1 0 in
    elim c.if-is_success.branch [
      | then-is_success b ↦ let counted = ap one (tested ∙ b.if-is_success.true) in
          (texts, omega (arith, next, counted), omega arith, settled.1, answered.1)
      | else-is_success b ↦ let counted = ap one (tested ∙ b.if-is_success.false) in
          (texts, omega (arith, next, counted), omega arith, settled.1, answered.1)
    ]
