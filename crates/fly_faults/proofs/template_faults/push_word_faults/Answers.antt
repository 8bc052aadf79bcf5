use Rattle.std.proofs.Common.{ℕ, List, ◌++◌, ◌∙◌, ap, option_to_list}
use Rattle.fly_docs.specs.Templates.{template_name}
use Rattle.fly_faults.specs.TemplateFaults.{name_faults}
use Rattle.fly_faults.proofs.TemplateSteps.{rest_of, word_more}
use Rattle.fly_faults.proofs.template_faults.push_word_faults.Goals as goal

pub loop-start-preserved : goal.loop-start-preserved
loop-start-preserved c =
    let t = c.args.task.now in
    let now = c.loop-start.faults.items in
    word_more t c.args.word.now c.loop-start.start c.args.faults.now.items now c.push_template_fault.new.faults.items c.loop-start-test.true
    c.loop-start.invariant
    (c.in_ok-push_template_fault.ensures
    ∙ ap (λ (rest : List ℕ). now ++ name_faults t (option_to_list (template_name rest))) (rest_of c.args.word.now c.loop-start.start))
