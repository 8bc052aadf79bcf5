use Rattle.std.proofs.Common.{◌≡◌, ◌++◌, take, string_bytes}
use Rattle.fly_docs.proofs.NameTexts.{slashed}
use Rattle.fly_docs.proofs.naming.print_name.Given as goal

-- the execution, and the ids so far, each behind a slash
abbrev pub invariant-loop-id : goal.invariant-loop-id
invariant-loop-id l = string_bytes l.text ≡ l.n.exec ++ slashed (take l.id-index l.id-items)
