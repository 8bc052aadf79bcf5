use Rattle.std.proofs.Common.{◌≡◌, ◌<◌, [], not, map, length, get_or, bytes_eq, refl, sym, ap, ◌∙◌, arith}
use Rattle.std.proofs.lemmas.List.{length-map}
use Rattle.std.proofs.lemmas.Slice.Eq.{bytes_eq-Decides}
use Rattle.std.specs.Borrow.{Bor}
use Rattle.fly_docs.specs.declared.node.Node.{Node}
use Rattle.fly_docs.specs.Plans.{nodes_of, node_ids, place_named}
use Rattle.fly_links.specs.Tables.{is_place}
use Rattle.fly_links.specs.Layout.{id_at}
use Rattle.fly_links.proofs.RepeatLemmas.{stands_before}
use Rattle.fly_links.proofs.LayoutLemmas.{id_of_loan}
use Rattle.fly_links.proofs.layout.Layout.is_repeated.Goals as goal

pub returns : goal.returns
returns c =
    let w = c.args.self.now in
    let i = c.args.place in
    let xs = c.self.inside.nodes.items in
    let laid : map (λ (n : Bor Node). n.now) xs ≡ nodes_of w = c.self.invariant.0 ∙ ap nodes_of c.self.view_is in
    let below : i < length xs = omega (arith, c.requires, ap length laid, length-map xs (λ (n : Bor Node). n.now)) in
    let its : id_at w i ≡ c.index.result.now.now.id =
    ap (λ ns. get_or (map (λ (n : Node). n.id) ns) i []) (sym laid) ∙ id_of_loan xs i c.index.result.now [] below c.index.ensures in
    let inside : i < length (node_ids w) = omega (arith, c.requires, length-map (nodes_of w) (λ (n : Node). n.id)) in
    ap not (c.is_at.ensures ∙ ap (λ o. is_place o i) (c.place.ensures ∙ ap (place_named w) (sym its)))
    ∙ sym (stands_before (bytes_eq (id_at w i)) (node_ids w) i [] inside ((bytes_eq-Decides (id_at w i) (id_at w i)).1 refl))
