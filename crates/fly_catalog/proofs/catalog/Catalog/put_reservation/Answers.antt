use Rattle.std.proofs.Common.{◌≡◌, sym, subst, refl, ap}
use Rattle.fly_catalog.specs.declared.reservations.Reservations.{Reservations}
use Rattle.fly_catalog.specs.contracts.catalog.Catalog.{the_view}
use Rattle.fly_catalog.specs.Catalog.{IsIndexed, AreReserved}
use Rattle.fly_catalog.proofs.CatalogLemmas.{indexed_grow}
use Rattle.fly_catalog.proofs.ReservationLemmas.{some_value, map_ok, with_equal, reserved_replaced, reserved_tried, replaced, appended}
use Rattle.fly_catalog.proofs.catalog.Catalog.put_reservation.Goals as goal

pub invariant_of-self : goal.invariant_of-self
invariant_of-self c =
    indexed_grow _ _ c.in_err-key.ensures.numbering c.in_err-key.ensures.kept _ _ _ _ _ _ _ _ _ c.self.invariant

pub invariant_of-self-in-Some : goal.invariant_of-self-in-Some
invariant_of-self-in-Some c =
    let grown = indexed_grow _ _ c.in_ok-key.ensures.numbering c.in_ok-key.ensures.kept _ _ _ _ _ _ _ _ _ c.self.invariant in
    let there = some_value _ c.in-Some.ensures.live in
    let P : Reservations → Type 0 = λ x. AreReserved c.add_item.new.self.numbers c.replace.new.self.live x.serials x.next in
    record {
      numbering = grown.numbering;
      datasets_found = grown.datasets_found;
      artifacts_found = grown.artifacts_found;
      tags_found = grown.tags_found;
      reserved = subst P (sym c.replace.ensures.rest)
          (reserved_replaced _ grown.numbering _ _ _ grown.reserved c.replace.new.self.live c.replace.ensures.ordered
          c.in_ok-key.key c.in-Some.serial c.args.reservation c.in_ok-key.ensures.key c.in-Some.ensures.some there.0 there.1 c.replace.ensures.updates);
    }

pub invariant_of-self-in-None : goal.invariant_of-self-in-None
invariant_of-self-in-None c =
    let grown = indexed_grow _ _ c.in_ok-key.ensures.numbering c.in_ok-key.ensures.kept _ _ _ _ _ _ _ _ _ c.self.invariant in
    record {
      numbering = grown.numbering;
      datasets_found = grown.datasets_found;
      artifacts_found = grown.artifacts_found;
      tags_found = grown.tags_found;
      reserved = reserved_tried _ grown.numbering _ _ _ grown.reserved c.in_ok-key.key c.args.reservation c.in_ok-key.ensures.key (c.in-None.ensures.none refl)
          c.append.new.self.live c.append.new.self.serials c.append.new.self.next c.append.result c.append.ensures.promised c.append.ensures.updates
          c.append.ensures.ordered c.append.ensures.kept c.append.ensures.may;
    }

pub returns-in-Some-clause-ok : goal.returns-in-Some-clause-ok
returns-in-Some-clause-ok c =
    let grown = indexed_grow _ _ c.in_ok-key.ensures.numbering c.in_ok-key.ensures.kept _ _ _ _ _ _ _ _ _ c.self.invariant in
    let there = some_value _ c.in-Some.ensures.live in
    rw (← c.self.view_is) (with_equal (the_view c.self.inside) _ _ (replaced _ grown.numbering _ _ _ grown.reserved
    c.in_ok-key.key c.in-Some.serial c.args.reservation c.in_ok-key.ensures.key c.in-Some.ensures.some there.0 there.1 _ c.replace.ensures.entries))

pub returns-in-None-clause-ok : goal.returns-in-None-clause-ok
returns-in-None-clause-ok c =
    let grown = indexed_grow _ _ c.in_ok-key.ensures.numbering c.in_ok-key.ensures.kept _ _ _ _ _ _ _ _ _ c.self.invariant in
    rw (← c.self.view_is) (map_ok c.append.result c.append.ensures.entries (λ e. with_equal (the_view c.self.inside) _ _ (appended _ grown.numbering _ _ _ grown.reserved
    c.in_ok-key.key c.args.reservation c.in_ok-key.ensures.key (c.in-None.ensures.none refl) _ e)))
