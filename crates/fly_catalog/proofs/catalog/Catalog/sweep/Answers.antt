use Rattle.std.proofs.Common.{◌≡◌, sym, subst, arith}
use Rattle.std.specs.Prelude.{not}
use Rattle.fly_catalog.specs.contracts.catalog.Catalog.{the_view}
use Rattle.fly_catalog.specs.declared.reservations.Reservations.{Reservations}
use Rattle.fly_catalog.specs.Catalog.{AreReserved}
use Rattle.fly_catalog.proofs.ReservationLemmas.{swept, swept_count, with_equal, fewer_by_filter, reserved_fewer}
use Rattle.fly_catalog.proofs.catalog.Catalog.sweep.Goals as goal

pub overflow_sub-result : goal.overflow_sub-result
overflow_sub-result g c =
    let count = swept_count (g.T.OwnerTest.ends c.args.test.now) c.self.inside.reservations.live c.sweep.new.self.live c.sweep.ensures.entries in
    omega (arith, count, c.len-before.ensures.len, c.len.ensures.len)

pub invariant_of-self : goal.invariant_of-self
invariant_of-self g c =
    let old = c.self.invariant in
    let P : Reservations → Type 0 = λ x. AreReserved c.self.inside.names.numbers c.sweep.new.self.live x.serials x.next in
    record {
      numbering = old.numbering;
      datasets_found = old.datasets_found;
      artifacts_found = old.artifacts_found;
      tags_found = old.tags_found;
      reserved = subst P (sym c.sweep.ensures.rest) (reserved_fewer _ old.numbering _ _ _ old.reserved c.sweep.new.self.live c.sweep.ensures.ordered
          (fewer_by_filter (λ e. not (g.T.OwnerTest.ends c.args.test.now e.1.owner)) c.self.inside.reservations.live c.sweep.new.self.live
          old.reserved.ordered c.sweep.ensures.entries));
    }

pub returns-clause-count : goal.returns-clause-count
returns-clause-count g c =
    let count = swept_count (g.T.OwnerTest.ends c.args.test.now) c.self.inside.reservations.live c.sweep.new.self.live c.sweep.ensures.entries in
    rw (← c.self.view_is) (omega (arith, count, c.len-before.ensures.len, c.len.ensures.len))

pub returns-clause-after : goal.returns-clause-after
returns-clause-after g c =
    rw (← c.self.view_is) (with_equal (the_view c.self.inside) _ _
    (swept (g.T.OwnerTest.ends c.args.test.now) c.self.inside.reservations.live c.sweep.new.self.live c.sweep.ensures.entries))
