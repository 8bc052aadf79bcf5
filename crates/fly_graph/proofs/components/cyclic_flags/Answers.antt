use Rattle.std.proofs.Common.{length, sym, ◌∙◌, ap, arith}
use Rattle.std.proofs.lemmas.Bool.{false≢true}
use Rattle.fly_graph.specs.Components.{state_of, is_unseen}
use Rattle.fly_graph.proofs.SearchCloses.{cyclic_when_done}
use Rattle.fly_graph.proofs.components.cyclic_flags.Goals as goal

pub returns-clause-cyclic : goal.returns-clause-cyclic
returns-clause-cyclic c = λ v small.
    cyclic_when_done _ _ (state_of c.loop-v.search) c.loop-v.invariant.search (ap length c.loop-v.invariant.empty) v
    (λ unseen. false≢true (sym (c.loop-v.invariant.seen v (omega arith)) ∙ ap is_unseen unseen))
