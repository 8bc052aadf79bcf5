use mathlib.Core.Bool.{true≢false, false≢true}
use Rattle.std.proofs.Common.{refl, sym, ap, ◌∙◌}
use Rattle.fly_docs.specs.declared.node.Target.{out-Target}
use Rattle.fly_docs.specs.declared.node.Target.TheOpen.{Target-F}
use Rattle.fly_docs.specs.declared.node.Target.TheViews as view
use Rattle.fly_forms.proofs.NodeLayers.{answers_node, answers_case, answers_target, others_in_form}
use Rattle.fly_forms.proofs.nodes.+node_in_form.Goals as goal

pub is_node_in_form-returns-then-is_own_part_in_form : goal.is_node_in_form-returns-then-is_own_part_in_form
is_node_in_form-returns-then-is_own_part_in_form t c =
    answers_node c.args.node.now (
      λ r. (c.is_own_part_in_form.ensures.0 c.if-is_own_part_in_form.true, c.is_target_in_form.ensures.0 r),
      λ h.
          c.is_target_in_form.ensures.1 h.1,
    )

pub is_node_in_form-returns-else-is_own_part_in_form : goal.is_node_in_form-returns-else-is_own_part_in_form
is_node_in_form-returns-else-is_own_part_in_form t c =
    answers_node c.args.node.now
    (λ r. absurd (true≢false (sym r ∙ c.if-is_own_part_in_form.false)), λ h. c.is_own_part_in_form.ensures.1 h.0)

pub is_case_in_form-returns-then-is_condition_in_form : goal.is_case_in_form-returns-then-is_condition_in_form
is_case_in_form-returns-then-is_condition_in_form t c =
    answers_case c.args.case.now (
      λ r. (c.is_condition_in_form.ensures.0 c.if-is_condition_in_form.true, c.is_node_in_form.ensures.0 r),
      λ h.
          c.is_node_in_form.ensures.1 h.1,
    )

pub is_case_in_form-returns-else-is_condition_in_form : goal.is_case_in_form-returns-else-is_condition_in_form
is_case_in_form-returns-else-is_condition_in_form t c =
    answers_case c.args.case.now
    (λ r. absurd (true≢false (sym r ∙ c.if-is_condition_in_form.false)), λ h. c.is_condition_in_form.ensures.1 h.0)

pub is_target_in_form-returns-then-not-has_ways : goal.is_target_in_form-returns-then-not-has_ways
is_target_in_form-returns-then-not-has_ways t c =
    answers_target c.args.target.now (Target-F.Branch c.in-Branch.cases c.in-Branch.otherwise c.in-Branch.error)
    (ap out-Target c.in-Branch.is ∙ view.outs-Branch _ _ _) (
      λ r. absurd (false≢true r),
      λ h. absurd (true≢false (sym (c.has_ways.ensures.1 (rw c.as_slice.ensures h.0)) ∙ c.if-not-has_ways.true)),
    )

pub is_target_in_form-returns-then-are_cases_in_form : goal.is_target_in_form-returns-then-are_cases_in_form
is_target_in_form-returns-then-are_cases_in_form t c =
    answers_target c.args.target.now (Target-F.Branch c.in-Branch.cases c.in-Branch.otherwise c.in-Branch.error)
    (ap out-Target c.in-Branch.is ∙ view.outs-Branch _ _ _) (
      λ r. (
        rw c.as_slice.ensures at c.has_ways.ensures.0 c.if-not-has_ways.false,
        (
          rw c.as_slice-2.ensures at c.are_cases_in_form.ensures.0 c.if-are_cases_in_form.true,
          c.is_otherwise_in_form.ensures.0 r,
        ),
      ),
      λ h. c.is_otherwise_in_form.ensures.1 h.1.1,
    )

pub is_target_in_form-returns-else-are_cases_in_form : goal.is_target_in_form-returns-else-are_cases_in_form
is_target_in_form-returns-else-are_cases_in_form t c =
    answers_target c.args.target.now (Target-F.Branch c.in-Branch.cases c.in-Branch.otherwise c.in-Branch.error)
    (ap out-Target c.in-Branch.is ∙ view.outs-Branch _ _ _) (
      λ r. absurd (true≢false (sym r ∙ c.if-are_cases_in_form.false)),
      λ h. c.are_cases_in_form.ensures.1 (rw c.as_slice-2.ensures h.1.0),
    )

pub is_target_in_form-returns-in_default : goal.is_target_in_form-returns-in_default
is_target_in_form-returns-in_default t c = (λ _. others_in_form c.args.target.now c.in_default.not-Branch, λ _. refl)
