use Rattle.std.proofs.Common.{map, ap, ◌∙◌}
use Rattle.std.specs.Option.{option_copied}
use Rattle.std.specs.List.{slice_get}
use Rattle.std.specs.Borrow.{Bor}
use Rattle.fly_docs.specs.declared.node.Node.{Node}
use Rattle.fly_docs.specs.Plans.{nodes_of}
use Rattle.fly_links.proofs.PlaceLemmas.{got_loan}
use Rattle.fly_links.proofs.layout.Layout.node_at.Goals as goal

pub returns : goal.returns
returns c =
    ap option_copied c.copied.ensures
    ∙ got_loan c.get.result c.deref.result.now c.args.place c.get.ensures.lookup.3
    ∙ ap (λ xs. slice_get (map (λ (n : Bor Node). n.now) xs) c.args.place) c.deref.ensures.value
    ∙ ap (λ xs. slice_get xs c.args.place) (c.self.invariant.0 ∙ ap nodes_of c.self.view_is)
