use Rattle.std.proofs.Common.{◌≡◌, ◌++◌, drop}
use Rattle.fly_docs.specs.Templates.{template_names}
use Rattle.fly_faults.specs.TemplateFaults.{name_faults}
use Rattle.fly_faults.proofs.template_faults.push_word_faults.Given as goal

abbrev pub invariant-loop-start : goal.invariant-loop-start
invariant-loop-start l =
    l.faults.items ++ name_faults l.task (template_names (drop l.start l.word)) ≡ l.initial.faults.items ++ name_faults l.task (template_names l.word)
