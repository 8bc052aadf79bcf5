use Rattle.std.proofs.Common.{true, false, ◌++◌, ◌∙◌, ap, sym, append-nil}
use Rattle.fly_faults.proofs.Loops.{on_ok}
use Rattle.fly_faults.proofs.TemplateSteps.{name_faults_at}
use Rattle.fly_faults.proofs.template_faults.push_template_fault.Goals as goal

pub returns-then-is_some : goal.returns-then-is_some
returns-then-is_some c =
    sym (append-nil c.args.faults.now.items)
    ∙ ap (λ r. c.args.faults.now.items ++ r)
    (name_faults_at c.args.task.now c.args.text.now c.in-Some.name c.is_some.result c.find_variable.result true (sym c.in-Some.is ∙ c.in_ok-name.ensures)
    c.is_some.ensures c.find_variable.ensures c.if-is_some.true)

pub returns : goal.returns
returns c =
    on_ok c.report_with.result
    (λ last. last
    ∙ ap (λ r. c.args.faults.now.items ++ r)
    (name_faults_at c.args.task.now c.args.text.now c.in-Some.name c.is_some.result c.find_variable.result false (sym c.in-Some.is ∙ c.in_ok-name.ensures)
    c.is_some.ensures c.find_variable.ensures c.if-is_some.false))
    c.report_with.ensures
