use Rattle.std.proofs.Common.{◌≡◌, sym, ◌∙◌, subst, refl, ap}
use Rattle.std.specs.Prelude.{false}
use Rattle.std.specs.Option.{option_map_or}
use Rattle.fly_catalog.specs.contracts.catalog.Catalog.{the_view}
use Rattle.fly_catalog.specs.Parts.{same_text}
use Rattle.fly_catalog.proofs.CatalogLemmas.{reservation_answer}
use Rattle.fly_catalog.proofs.ReservationLemmas.{released, after_release_by}
use Rattle.fly_catalog.proofs.catalog.Catalog.release.Goals as goal

pub returns-in-Some-clause-answer : goal.returns-in-Some-clause-answer
returns-in-Some-clause-answer c =
    let reserved = c.self.invariant.reserved in
    let answer = reservation_answer _ c.self.invariant.numbering c.self.inside.reservations.live reserved.ordered c.self.inside.reservations.serials _ reserved.found _ _ _ c.in-Some.ensures in
    rw (← c.self.view_is) (c.release.ensures.answer ∙ ap (λ o. option_map_or (λ r. same_text c.args.owner.now r.owner) o false) (sym answer))

pub returns-in-Some-clause-after : goal.returns-in-Some-clause-after
returns-in-Some-clause-after c =
    let reserved = c.self.invariant.reserved in
    let answer = reservation_answer _ c.self.invariant.numbering c.self.inside.reservations.live reserved.ordered c.self.inside.reservations.serials _ reserved.found _ _ _ c.in-Some.ensures in
    rw (← c.self.view_is) (after_release_by (the_view c.self.inside) c.args.d.now c.args.tag.now c.args.owner.now c.release.result
    (c.release.ensures.answer ∙ ap (λ o. option_map_or (λ r. same_text c.args.owner.now r.owner) o false) (sym answer)) _
    (released _ c.self.invariant.numbering _ _ _ reserved _ _ _ (sym c.in-Some.ensures) _ c.release.result c.release.ensures.answer _ c.release.ensures.entries))

pub returns-in-None-clause-answer : goal.returns-in-None-clause-answer
returns-in-None-clause-answer c =
    let reserved = c.self.invariant.reserved in
    let answer = reservation_answer _ c.self.invariant.numbering c.self.inside.reservations.live reserved.ordered c.self.inside.reservations.serials _ reserved.found _ _ _ c.in-None.ensures in
    rw (← c.self.view_is) (ap (λ o. option_map_or (λ r. same_text c.args.owner.now r.owner) o false) (sym answer))

pub returns-in-None-clause-after : goal.returns-in-None-clause-after
returns-in-None-clause-after c =
    let reserved = c.self.invariant.reserved in
    let answer = reservation_answer _ c.self.invariant.numbering c.self.inside.reservations.live reserved.ordered c.self.inside.reservations.serials _ reserved.found _ _ _ c.in-None.ensures in
    rw (← c.self.view_is) (after_release_by (the_view c.self.inside) c.args.d.now c.args.tag.now c.args.owner.now false (ap (λ o. option_map_or (λ r. same_text c.args.owner.now r.owner) o false) (sym answer)) _ refl)
