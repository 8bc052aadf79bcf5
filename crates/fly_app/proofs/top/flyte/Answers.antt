use Rattle.fly_app.proofs.CrewLemmas.{by-first}
use Rattle.fly_app.proofs.top.flyte.Goals as goal

pub returns-then-is_run_line-clause-run : goal.returns-then-is_run_line-clause-run
returns-then-is_run_line-clause-run g c = λ on.
    by-first (λ hand. g.C.Clock.state hand.clock) (λ hand. g.S.Spawner.state hand.spawner) c.args.words.now _ _
    c.args.crew.now.items c.index_mut.result.now c.run_line.new.hand c.run_line.result c.requires c.index_mut.ensures.value
    c.run_line.ensures
