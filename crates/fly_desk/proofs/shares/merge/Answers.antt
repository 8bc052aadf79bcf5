use Rattle.std.proofs.Common.{rules, ap, ◌∙◌}
use Rattle.fly_desk.proofs.Dividing.{joins, settles}
use Rattle.fly_desk.proofs.shares.merge.Goals as goal

pub join_seat-requires : goal.join_seat-requires
join_seat-requires g c = let a = g.O.Annals in
    (search rules, search rules, search rules, search rules, joins a.entries a.spare a.basis _ _ _ _ _ c.requires.idle.0 c.requires.idle.1 c.requires.other.0 c.requires.other.1)

pub load-requires : goal.load-requires
load-requires g c = let a = g.O.Annals in let now = c.join_seat.ensures.2 in
    (search rules, search rules, settles a.entries a.spare a.basis _ _ _ _ _ (ap (λ m. m.0.ticket) now ∙ c.requires.idle.0) (ap (λ m. m.0.turn) now ∙ c.requires.idle.1))
