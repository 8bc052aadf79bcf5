use Rattle.std.proofs.Common.{◌≡◌, ◌++◌, take, string_bytes}
use Rattle.fly_docs.proofs.NameTexts.{slashed}
use Rattle.fly_catalog.proofs.cached.owner_of.Given as goal

-- the execution, and the ids so far, each behind a slash
abbrev pub invariant-loop-id : goal.invariant-loop-id
invariant-loop-id l = string_bytes l.text ≡ l.exec ++ slashed (take l.id-index l.id-items)
