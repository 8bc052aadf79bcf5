use Rattle.std.proofs.Common.{sym, ◌∙◌}
use Rattle.fly_catalog.proofs.CatalogLemmas.{reservation_answer}
use Rattle.fly_catalog.proofs.catalog.Catalog.find_reservation.Goals as goal

pub returns-in-Some : goal.returns-in-Some
returns-in-Some c =
    let reserved = c.self.invariant.reserved in
    rw (← c.self.view_is) (c.get.ensures ∙ sym (reservation_answer _ c.self.invariant.numbering c.self.inside.reservations.live reserved.ordered c.self.inside.reservations.serials _ reserved.found _ _ _ c.in-Some.ensures))

pub returns-in-None : goal.returns-in-None
returns-in-None c =
    let reserved = c.self.invariant.reserved in
    rw (← c.self.view_is) (sym (reservation_answer _ c.self.invariant.numbering c.self.inside.reservations.live reserved.ordered c.self.inside.reservations.serials _ reserved.found _ _ _ c.in-None.ensures))
