use Rattle.std.proofs.Common.{map, sym, ap, ◌∙◌}
use Rattle.std.specs.Option.{option_copied}
use Rattle.std.specs.List.{slice_get}
use Rattle.std.specs.Borrow.{Bor}
use Rattle.fly_docs.specs.declared.node.Node.{Node}
use Rattle.fly_docs.specs.Plans.{nodes_of}
use Rattle.fly_links.proofs.PlaceLemmas.{got_loan}
use Rattle.fly_links.proofs.LayoutLemmas.{named_at, named_nowhere}
use Rattle.fly_links.proofs.layout.Layout.node.Goals as goal

pub returns-in-Some : goal.returns-in-Some
returns-in-Some c =
    ap option_copied c.copied.ensures
    ∙ got_loan c.get.result c.deref.result.now c.in-Some.place c.get.ensures.lookup.3
    ∙ ap (λ xs. slice_get (map (λ (n : Bor Node). n.now) xs) c.in-Some.place) c.deref.ensures.value
    ∙ ap (λ xs. slice_get xs c.in-Some.place) (c.self.invariant.0 ∙ ap nodes_of c.self.view_is)
    ∙ sym (named_at c.args.self.now c.args.id.now c.in-Some.place (sym c.in-Some.ensures))

pub returns-in-None : goal.returns-in-None
returns-in-None c = sym (named_nowhere c.args.self.now c.args.id.now (sym c.in-None.ensures))
