use Rattle.std.proofs.Common.{rules, ◌∷◌, Some, ap, sym, ◌∙◌}
use Rattle.atomic_table.specs.Table.{rest}
use Rattle.fly_desk.proofs.Keeps.{looks}
use Rattle.fly_desk.proofs.PlayLemmas.{served}
use Rattle.fly_desk.proofs.steps.wait_for.Goals as goal

pub load-serving-requires : goal.load-serving-requires
load-serving-requires g c = let a = g.O.Annals in let same = c.loop.invariant.4 in (
  search rules,
  search rules,
  looks a.entries a.spare a.basis _ _ _ _ c.args.ticket _ (ap (λ m. m.0.ticket) same ∙ c.requires.waits.0) (ap (λ m. m.0.turn) same ∙ c.requires.waits.1),
)

pub exchange-requires : goal.exchange-requires
exchange-requires g c = let a = g.O.Annals in let same = c.loop.invariant.4 in
    let took = served a.entries a.spare a.basis _ _ _ _ (ap (λ m. m.0.ticket) same ∙ c.requires.waits.0) c.load-serving.ensures.2 c.if-serving-ticket.true in
    (search rules, (Some took.0, ap (λ m. m.1) took.1 ∙ ap (λ l. (0, Some took.0) ∷ rest l) (sym (ap (λ m. m.1) took.1))))
