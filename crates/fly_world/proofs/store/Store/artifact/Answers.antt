use Rattle.std.proofs.Common.{◌≡◌, Some, sym, ◌∙◌, ap}
use Rattle.std.specs.List.{slice_get}
use Rattle.std.specs.Option.{option_copied}
use Rattle.fly_world.proofs.NumberedCatalogs.{stored_is}
use Rattle.fly_world.proofs.store.Store.artifact.Goals as goal

pub returns : goal.returns
returns c =
    let f = c.self.inside in
    let here : slice_get f.catalog.artifacts c.args.n ≡ Some c.in-Some.artifact.now =
    sym c.artifact.ensures ∙ ap option_copied c.in-Some.is in
    let there : slice_get f.catalog.tags c.args.n ≡ Some c.in-Some-tag.tag.now =
    sym c.tag.ensures ∙ ap option_copied c.in-Some-tag.is in
    rw (c.in_ok-copy.ensures, c.in_ok-copy-2.ensures, c.in_ok-copy-3.ensures, ← c.self.view_is)
    (sym (stored_is f.catalog c.self.invariant.artifacts c.args.n c.in-Some.artifact.now c.in-Some-tag.tag.now
    c.ranges.n.fits here there))
