use Rattle.std.proofs.Common.{inl, inr, sym, ◌∙◌}
use Rattle.fly_writers.proofs.ClosureTexts.{none-put, some-put}
use Rattle.fly_writers.proofs.closures.put_subs.Goals as goal
use Rattle.fly_writers.proofs.closures.put_subs.Goals.{then-is_empty-via-then-is_empty, then-is_empty-via-else-is_empty+then-is_empty-2}

pub returns-then-is_empty : goal.returns-then-is_empty
returns-then-is_empty c = elim c.then-is_empty.branch [
  | then-is_empty-via-then-is_empty w ↦
      none-put _ c.args.later _ c.args.workflows.now c.args.connections.now
      (inl (sym c.is_empty.ensures ∙ w.if-is_empty.true))
  | then-is_empty-via-else-is_empty+then-is_empty-2 w ↦
      none-put _ c.args.later _ c.args.workflows.now c.args.connections.now
      (inr (sym w.is_empty-else-is_empty.ensures ∙ w.if-is_empty-2.true))
]

pub returns : goal.returns
returns c =
    some-put _ _ _ _ c.args.later _ c.args.workflows.now c.args.connections.now
    (sym c.is_empty.ensures ∙ c.if-is_empty.false) (sym c.is_empty-else-is_empty.ensures ∙ c.if-is_empty-2.false)
    c.in_ok-put_name.ensures c.in_ok-push.ensures.items c.in_ok-put_workflows.ensures
