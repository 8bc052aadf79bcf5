use Rattle.std.proofs.Common.{◌≡◌, take}
use Rattle.fly_docs.proofs.node.+copy_node.Given as goal

-- what is copied so far are the cases so far
abbrev pub invariant-copy_cases-loop-case : goal.invariant-copy_cases-loop-case
invariant-copy_cases-loop-case l = l.copied.items ≡ take l.case-index l.cases
