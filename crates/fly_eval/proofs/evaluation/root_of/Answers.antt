use Rattle.std.proofs.Common.{[], not, ◌&&◌, sym, ap, subst, ◌∙◌}
use Rattle.std.specs.Prelude.{Ok, Err}
use Rattle.std.specs.List.{list_any}
use Rattle.fly_docs.specs.Bindings.{sources_of}
use Rattle.fly_docs.specs.SlotInputs as docs
use Rattle.fly_state.specs.Closing.{skips_one}
use Rattle.fly_state.specs.States.{known_in}
use Rattle.fly_state.specs.Values.{IsTaken}
use Rattle.fly_state.specs.declared.values.ValueFault.{ValueFault}
use Rattle.fly_state.proofs.Loops.{if_ok}
use Rattle.fly_eval.specs.declared.seen.Seen.{Seen}
use Rattle.fly_eval.specs.Evaluation.{is_pending}
use Rattle.fly_eval.proofs.RootTold.{root-at-once, root-open, root-failed, root-missing, root-given}
use Rattle.fly_eval.proofs.evaluation.root_of.Goals as goal

pub returns-then-ends_at_once : goal.returns-then-ends_at_once
returns-then-ends_at_once c = λ inputs results hits all.
    let plan = c.args.plan.now in
    let w = c.primary-primary.result.now in
    let s = c.args.pass.now.state in
    let fails = sym c.has_failure-fails.ensures in
    let once = sym (ap (λ b. not w.fail_late && b) c.has_failure-fails.ensures) ∙ sym c.ends_at_once.ensures ∙ c.if-ends_at_once.true in
    if_ok c.failed.result (λ v is. is ∙ root-at-once plan w c.primary-primary.ensures inputs results hits c.args.pass.now all once) c.failed.ensures

pub returns-then-has_pending : goal.returns-then-has_pending
returns-then-has_pending c = λ inputs results hits all.
    let plan = c.args.plan.now in
    let w = c.primary-primary.result.now in
    let s = c.args.pass.now.state in
    let fails = sym c.has_failure-fails.ensures in
    let once = sym (ap (λ b. not w.fail_late && b) c.has_failure-fails.ensures) ∙ sym c.ends_at_once.ensures ∙ c.if-ends_at_once.false in
    let opened = ap (list_any (λ (x : Seen). is_pending x.verdict)) (sym c.as_slice.ensures) ∙ sym c.has_pending.ensures ∙ c.if-has_pending.true in
    root-open plan w c.primary-primary.ensures inputs results hits c.args.pass.now all once opened

pub returns-then-fails : goal.returns-then-fails
returns-then-fails c = λ inputs results hits all.
    let plan = c.args.plan.now in
    let w = c.primary-primary.result.now in
    let s = c.args.pass.now.state in
    let fails = sym c.has_failure-fails.ensures in
    let once = sym (ap (λ b. not w.fail_late && b) c.has_failure-fails.ensures) ∙ sym c.ends_at_once.ensures ∙ c.if-ends_at_once.false in
    let opened = ap (list_any (λ (x : Seen). is_pending x.verdict)) (sym c.as_slice.ensures) ∙ sym c.has_pending.ensures ∙ c.if-has_pending.false in
    if_ok c.failed-then-fails.result
    (λ v is. is ∙ root-failed plan w c.primary-primary.ensures inputs results hits c.args.pass.now all once opened (fails ∙ c.if-fails.true))
    c.failed-then-fails.ensures

pub returns-then-misses_output : goal.returns-then-misses_output
returns-then-misses_output c = λ inputs results hits all.
    let plan = c.args.plan.now in
    let w = c.primary-primary.result.now in
    let s = c.args.pass.now.state in
    let fails = sym c.has_failure-fails.ensures in
    let once = sym (ap (λ b. not w.fail_late && b) c.has_failure-fails.ensures) ∙ sym c.ends_at_once.ensures ∙ c.if-ends_at_once.false in
    let opened = ap (list_any (λ (x : Seen). is_pending x.verdict)) (sym c.as_slice.ensures) ∙ sym c.has_pending.ensures ∙ c.if-has_pending.false in
    let misses = ap (λ xs. skips_one plan s (sources_of xs)) (sym c.as_slice-2.ensures) ∙ sym c.misses_output.ensures ∙ c.if-misses_output.true in
    if_ok c.failed-then-misses_output.result
    (λ v is. is ∙ root-missing plan w c.primary-primary.ensures inputs results hits c.args.pass.now all once opened (fails ∙ c.if-fails.false) misses)
    c.failed-then-misses_output.ensures

pub returns-in-Ok : goal.returns-in-Ok
returns-in-Ok c = λ inputs results hits all.
    let plan = c.args.plan.now in
    let w = c.primary-primary.result.now in
    let s = c.args.pass.now.state in
    let fails = sym c.has_failure-fails.ensures in
    let once = sym (ap (λ b. not w.fail_late && b) c.has_failure-fails.ensures) ∙ sym c.ends_at_once.ensures ∙ c.if-ends_at_once.false in
    let opened = ap (list_any (λ (x : Seen). is_pending x.verdict)) (sym c.as_slice.ensures) ∙ sym c.has_pending.ensures ∙ c.if-has_pending.false in
    let misses = ap (λ xs. skips_one plan s (sources_of xs)) (sym c.as_slice-2.ensures) ∙ sym c.misses_output.ensures ∙ c.if-misses_output.false in
    root-given plan w c.primary-primary.ensures inputs results hits c.args.pass.now all once opened (fails ∙ c.if-fails.false) misses
    (Ok c.in-Ok.outputs) (c.in-Ok.ensures w c.primary-primary.ensures.named)

pub returns-in-Err-Outside : goal.returns-in-Err-Outside
returns-in-Err-Outside c = λ inputs results hits all.
    let plan = c.args.plan.now in
    let w = c.primary-primary.result.now in
    let s = c.args.pass.now.state in
    let fails = sym c.has_failure-fails.ensures in
    let once = sym (ap (λ b. not w.fail_late && b) c.has_failure-fails.ensures) ∙ sym c.ends_at_once.ensures ∙ c.if-ends_at_once.false in
    let opened = ap (list_any (λ (x : Seen). is_pending x.verdict)) (sym c.as_slice.ensures) ∙ sym c.has_pending.ensures ∙ c.if-has_pending.false in
    let misses = ap (λ xs. skips_one plan s (sources_of xs)) (sym c.as_slice-2.ensures) ∙ sym c.misses_output.ensures ∙ c.if-misses_output.false in
    if_ok c.failed-in-Err-Outside.result
    (λ v is. is ∙ root-given plan w c.primary-primary.ensures inputs results hits c.args.pass.now all once opened (fails ∙ c.if-fails.false) misses
    (Err (docs.enum_outside c.in-Err-Outside.field-0-0))
    (subst (λ (d : ValueFault). IsTaken (docs.workflow_outputs plan.documents w (known_in plan s [])) (Err d)) c.in-Err-Outside.field-0-is
    (c.in-Err-Outside.ensures w c.primary-primary.ensures.named)))
    c.failed-in-Err-Outside.ensures

pub returns-in-Err-Unknown : goal.returns-in-Err-Unknown
returns-in-Err-Unknown c = λ inputs results hits all.
    let plan = c.args.plan.now in
    let w = c.primary-primary.result.now in
    let s = c.args.pass.now.state in
    let fails = sym c.has_failure-fails.ensures in
    let once = sym (ap (λ b. not w.fail_late && b) c.has_failure-fails.ensures) ∙ sym c.ends_at_once.ensures ∙ c.if-ends_at_once.false in
    let opened = ap (list_any (λ (x : Seen). is_pending x.verdict)) (sym c.as_slice.ensures) ∙ sym c.has_pending.ensures ∙ c.if-has_pending.false in
    let misses = ap (λ xs. skips_one plan s (sources_of xs)) (sym c.as_slice-2.ensures) ∙ sym c.misses_output.ensures ∙ c.if-misses_output.false in
    if_ok c.failed-in-Err-Unknown.result
    (λ v is. is ∙ root-given plan w c.primary-primary.ensures inputs results hits c.args.pass.now all once opened (fails ∙ c.if-fails.false) misses
    (Err docs.unknown)
    (subst (λ (d : ValueFault). IsTaken (docs.workflow_outputs plan.documents w (known_in plan s [])) (Err d)) c.in-Err-Unknown.field-0-is
    (c.in-Err-Unknown.ensures w c.primary-primary.ensures.named)))
    c.failed-in-Err-Unknown.ensures
