use Rattle.std.proofs.Common.{◌≡◌, length, map, sym, ap, ap₂, ◌∙◌}
use Rattle.std.specs.Borrow.{Bor}
use Rattle.std.proofs.lemmas.List.{length-map}
use Rattle.fly_docs.specs.declared.node.Node.{Node}
use Rattle.fly_docs.specs.Plans.{nodes_of, places_of}
use Rattle.fly_links.specs.Rows.{transposed}
use Rattle.fly_links.specs.Around.{branches_around, last_alone}
use Rattle.fly_links.specs.Links.{joined_rows}
use Rattle.fly_links.proofs.SearchLemmas.{if_ok}
use Rattle.fly_links.proofs.LinkLemmas.{named_once, cases_in, joined, needing_is, rows_by_place}
use Rattle.fly_links.proofs.links.needing_rows.Goals as goal

pub returns : goal.returns
returns c =
    let w = c.args.layout.now in
    let n = length (nodes_of w) in
    let long : length c.nodes-count.result.now ≡ n =
    sym (length-map c.nodes-count.result.now (λ (x : Bor Node). x.now)) ∙ ap length c.nodes-count.ensures in
    let naming : c.in_ok-naming.naming.items ≡ transposed n c.in_ok-named.named.items =
    c.in_ok-naming.ensures ∙ ap₂ (λ m rows. transposed m rows) long c.deref.ensures.value in
    let names : c.in_ok-names.names.items ≡ named_once w =
    c.in_ok-names.ensures ∙ ap₂ (λ m rows. transposed m rows) long
    (c.deref-2.ensures.value ∙ naming ∙ ap (transposed n) c.in_ok-named.ensures) in
    let around : c.in_ok-around.around.items ≡ map (branches_around w) (places_of w) = c.in_ok-around.ensures in
    let within : c.deref-3.result.now ≡ map (branches_around w) (places_of w) = c.deref-3.ensures.value ∙ around in
    let cases : c.in_ok-cases.cases.items ≡ cases_in w =
    c.in_ok-cases.ensures
    ∙ ap₂ (λ m rows. transposed m (map last_alone rows)) (ap length within
    ∙ rows_by_place (branches_around w) n) within in
    let all : c.in_ok-joined.joined.items ≡ joined w =
    c.in_ok-joined.ensures
    ∙ (λ i. joined_rows ((c.deref-4.ensures.value ∙ names) i) ((c.deref-5.ensures.value ∙ cases) i)
    ((c.deref-6.ensures.value ∙ around) i)) in
    if_ok c.transposed-3.result
    (λ rows is. is ∙ ap₂ (λ m rs. transposed m rs) long (c.deref-7.ensures.value ∙ all) ∙ needing_is w)
    c.transposed-3.ensures
