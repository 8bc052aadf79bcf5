use Rattle.std.proofs.Common.{◌≡◌, false, take}
use Rattle.std.specs.List.{list_any}
use Rattle.fly_eval.specs.declared.seen.Seen.{Seen}
use Rattle.fly_eval.specs.Evaluation.{is_pending}
use Rattle.fly_eval.proofs.evaluation.has_pending.Given as goal

abbrev pub invariant-loop-node : goal.invariant-loop-node
invariant-loop-node l = list_any (λ (s : Seen). is_pending s.verdict) (take l.node-index l.seen) ≡ false
