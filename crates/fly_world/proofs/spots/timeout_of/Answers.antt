use Rattle.std.proofs.Common.{◌≡◌, None, sym, ◌∙◌, ap}
use Rattle.std.specs.Option.{option_map, option_and_then, option_copied}
use Rattle.std.proofs.lemmas.Option.{same_Some}
use Rattle.fly_docs.specs.declared.node.Node.{Node}
use Rattle.fly_docs.specs.Plans.{PlanNode}
use Rattle.fly_state.specs.Moves.{task_run_by}
use Rattle.fly_state.specs.Plans.{task_of}
use Rattle.fly_world.proofs.SpotLemmas.{run_by-outer, no_timeout}
use Rattle.fly_world.proofs.spots.timeout_of.Goals as goal

pub returns-in-None : goal.returns-in-None
returns-in-None c p here =
    let plan = c.args.plan.now in
    let node : p.node ≡ c.node.result.now =
    same_Some p.node c.node.result.now (ap (option_map (λ (q : PlanNode). q.node)) (sym here) ∙ c.node.ensures) in
    let own : p.node.timeout_ms ≡ 0 = ap (λ (n : Node). n.timeout_ms) node ∙ c.if-own-ne0.false in
    let task : task_of plan p ≡ None =
    ap (option_and_then (task_of plan)) (sym here) ∙ sym c.task.ensures ∙ ap option_copied c.in-None.is in
    no_timeout plan p own (run_by-outer plan c.primary-task_nodes.result.now c.primary-task_nodes.ensures c.args.number p here ∙ task)
