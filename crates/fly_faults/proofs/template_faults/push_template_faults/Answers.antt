use Rattle.std.proofs.Common.{List, ◌++◌, ◌∙◌, ap}
use Rattle.std.specs.List.{flat_map}
use Rattle.fly_types.specs.declared.text.Text.{Text}
use Rattle.fly_docs.specs.Templates.{template_names}
use Rattle.fly_faults.specs.TemplateFaults.{name_faults}
use Rattle.fly_faults.proofs.Loops.{on_ok}
use Rattle.fly_faults.proofs.Passes.{two}
use Rattle.fly_faults.proofs.TemplateSteps.{both_lists}
use Rattle.fly_faults.proofs.template_faults.push_template_faults.Goals as goal

pub returns : goal.returns
returns c =
    let t = c.args.task.now in
    let old = c.args.faults.now.items in
    let middle = c.push_words_faults.new.faults.items in
    let faults = λ (ws : List Text). flat_map (λ word. name_faults t (template_names word)) ws in
    on_ok c.push_words_faults-2.result
    (λ last. two old middle c.push_words_faults-2.new.faults.items (faults t.command) (faults t.args)
    (c.in_ok-push_words_faults.ensures ∙ ap (λ ws. old ++ faults ws) c.as_slice.ensures)
    (last ∙ ap (λ ws. middle ++ faults ws) c.as_slice-2.ensures)
    ∙ ap (λ r. old ++ r) (both_lists t))
    c.push_words_faults-2.ensures
