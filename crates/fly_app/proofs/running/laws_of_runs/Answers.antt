use Rattle.fly_app.proofs.RunLemmas.{has-laws}
use Rattle.fly_app.proofs.running.laws_of_runs.Goals as goal

pub returns : goal.returns
returns c =
    has-laws c.legal_prefixes.ensures c.steps_extend.ensures c.writes_are_rounds.ensures c.launches_are_single.ensures
    c.worlds_are_of_plan.ensures c.legal_journals_agree.ensures c.final_slots_stay.ensures
    c.args.plan.now c.primary.result.now c.primary.ensures c.requires
