use Rattle.std.proofs.Common.{◌≡◌, find, None, take}
use Rattle.fly_docs.specs.Plans.{PlanNode}
use Rattle.fly_state.specs.Moves.{is_attempt}
use Rattle.fly_state.specs.declared.view.Known.{Known}
use Rattle.fly_state.proofs.settling.outcome_in.Given as goal

abbrev pub invariant-loop-known : goal.invariant-loop-known
invariant-loop-known l =
    (p : PlanNode) → p.path ≡ l.own
    → find (λ (k : Known). is_attempt l.v p l.item l.attempt k.name) (take l.known-index l.known-items) ≡ None
