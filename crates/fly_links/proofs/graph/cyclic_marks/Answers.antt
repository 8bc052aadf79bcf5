use Rattle.std.proofs.Common.{◌≡◌, false, eqb, get_or, sym, ap, ◌∙◌, subst, arith}
use Rattle.std.specs.Cmp.{both_ways}
use Rattle.std.specs.List.{list_any}
use Rattle.std.proofs.lemmas.Bool.{false_from_ne_true}
use Rattle.std.proofs.lemmas.Grind.{common_steps}
use Rattle.fly_graph.specs.Orders.{Digraph, IsAcyclic}
use Rattle.fly_graph.specs.Faults.{AreCyclic, HasCause}
use Rattle.fly_graph.specs.declared.faults.GraphFault.TheVariants.{Cyclic}
use Rattle.fly_docs.specs.Reaching.{reaches}
use Rattle.fly_docs.proofs.ReachingLemmas.{reaches-Decides}
use Rattle.fly_links.proofs.SearchLemmas.{contains_any, any_contains, if_ok}
use Rattle.fly_links.proofs.graph.cyclic_marks.Goals as goal

pub returns-in-Ok-clause-each : goal.returns-in-Ok-clause-each
returns-in-Ok-clause-each c = λ v lt.
    let acyclic : IsAcyclic c.args.edges = subst (λ (g : Digraph). IsAcyclic g.edges) c.in_ok-graph.ensures c.in-Ok.ensures.acyclic in
    let off : reaches c.args.edges v v ≡ false = false_from_ne_true _ (λ e. acyclic v ((reaches-Decides c.args.edges v v).0 e)) in
    let on : get_or c.in_ok-vec-in-Ok.field-0.items v false ≡ false = grind (arith, common_steps) in
    on ∙ sym off

pub returns-in-Err-Cyclic-clause-each : goal.returns-in-Err-Cyclic-clause-each
returns-in-Err-Cyclic-clause-each c =
    let numbers = c.in-Err-Cyclic.numbers in
    let cause : HasCause c.in_ok-graph.graph.edges (Cyclic numbers) =
    subst (HasCause c.in_ok-graph.graph.edges) c.in-Err-Cyclic.field-0-is c.in-Err-Cyclic.ensures.cyclic in
    let cyclic : AreCyclic c.args.edges numbers = subst (λ (g : Digraph). AreCyclic g.edges numbers) c.in_ok-graph.ensures cause in
    let same : c.deref.result.now ≡ numbers =
    c.deref.ensures.value ∙ c.in_ok-places-in-Err-Cyclic.ensures ∙ c.as_slice.ensures in
    if_ok c.marks_of.result (λ marks each v lt.
    each v lt ∙ ap (list_any (λ x. eqb x v)) same
    ∙ both_ways (list_any (λ x. eqb x v) numbers) (reaches c.args.edges v v)
    (λ e. (reaches-Decides c.args.edges v v).1 ((cyclic.each v).0 (any_contains numbers v e)))
    (λ e. contains_any numbers v ((cyclic.each v).1 ((reaches-Decides c.args.edges v v).0 e)))) c.marks_of.ensures.each
