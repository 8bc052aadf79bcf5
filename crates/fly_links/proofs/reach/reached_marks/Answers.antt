use Rattle.std.proofs.Common.{◌||◌, length, eqb, sym, ap, ◌∙◌, subst, arith}
use Rattle.std.proofs.lemmas.List.{length-map}
use Rattle.fly_docs.specs.declared.workflow.Bundle.{Bundle}
use Rattle.fly_docs.specs.Reaching.{reaches, workflow_place, run_places}
use Rattle.fly_links.specs.Search.{AreBelow, edges_along}
use Rattle.fly_links.proofs.SearchLemmas.{if_ok}
use Rattle.fly_links.proofs.ReachLemmas.{runs_below, place_reached}
use Rattle.fly_links.proofs.reach.reached_marks.Goals as goal

pub reached_from-requires-clause-below : goal.reached_from-requires-clause-below
reached_from-requires-clause-below c = subst (λ runs. AreBelow (length runs) runs) (sym c.requires) (runs_below c.args.directory.now)

pub returns-in-Some-clause-each : goal.returns-in-Some-clause-each
returns-in-Some-clause-each c =
    let b = c.args.directory.now in
    let primary = c.in-Some.primary in
    if_ok c.reached_from.result (λ marks each v lt.
    each v (omega (arith, lt, ap length c.requires, length-map b.workflows (run_places b)))
    ∙ ap (λ runs. eqb primary v || reaches (edges_along runs) primary v) c.requires
    ∙ place_reached b primary v (ap (λ (d : Bundle). workflow_place b d.primary) (sym c.bundle-bundle.ensures) ∙ sym c.in-Some.ensures)) c.reached_from.ensures.each
