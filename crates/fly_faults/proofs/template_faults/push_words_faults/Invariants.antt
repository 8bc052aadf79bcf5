use Rattle.std.proofs.Common.{◌≡◌, ◌++◌, take}
use Rattle.std.specs.List.{flat_map}
use Rattle.fly_docs.specs.Templates.{template_names}
use Rattle.fly_faults.specs.TemplateFaults.{name_faults}
use Rattle.fly_faults.proofs.template_faults.push_words_faults.Given as goal

abbrev pub invariant-loop-word : goal.invariant-loop-word
invariant-loop-word l =
    l.faults.items ≡ l.initial.faults.items ++ flat_map (λ word. name_faults l.task (template_names word)) (take l.word-index l.words)
