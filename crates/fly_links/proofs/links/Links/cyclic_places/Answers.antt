use Rattle.std.proofs.Common.{◌≡◌, map, length, sym, ap, ◌∙◌, subst}
use Rattle.fly_docs.specs.declared.workflow.Workflow.{Workflow}
use Rattle.fly_docs.specs.Plans.{nodes_of, places_of}
use Rattle.fly_docs.specs.Closures.{needing}
use Rattle.fly_links.specs.Links.{marked_places}
use Rattle.fly_links.specs.Search.{AreBelow}
use Rattle.fly_links.proofs.SearchLemmas.{if_ok}
use Rattle.fly_links.proofs.LinkLemmas.{rows_by_place}
use Rattle.fly_links.proofs.EdgeLemmas.{needing_below, cyclic_is}
use Rattle.fly_links.proofs.links.Links.cyclic_places.Goals as goal

pub recursive_marks-requires : goal.recursive_marks-requires
recursive_marks-requires c =
    let w = c.args.self.now in
    let rows_are : c.deref.result.now ≡ map (needing w) (places_of w) =
    c.deref.ensures.value ∙ c.self.invariant.1 ∙ ap (λ (x : Workflow). map (needing x) (places_of x)) c.self.view_is in
    subst (λ rows. AreBelow (length rows) rows) (sym rows_are)
    (subst (λ n. AreBelow n (map (needing w) (places_of w))) (sym (rows_by_place (needing w) (length (nodes_of w))))
    (needing_below w))

pub returns : goal.returns
returns c =
    let w = c.args.self.now in
    let rows_are : c.deref.result.now ≡ map (needing w) (places_of w) =
    c.deref.ensures.value ∙ c.self.invariant.1 ∙ ap (λ (x : Workflow). map (needing x) (places_of x)) c.self.view_is in
    if_ok c.marked_places.result
    (λ places is. is ∙ ap marked_places c.deref-2.ensures.value
    ∙ cyclic_is w c.in_ok-marks.marks.items c.deref.result.now rows_are c.in_ok-marks.ensures.len c.in_ok-marks.ensures.each)
    c.marked_places.ensures
