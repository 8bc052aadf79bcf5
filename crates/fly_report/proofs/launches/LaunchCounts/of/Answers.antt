use Rattle.std.proofs.Common.{subst}
use Rattle.std.proofs.lemmas.Result.{IfOk-weaker}
use Rattle.fly_world.specs.Versions.{HasNamesOfPlan}
use Rattle.fly_report.specs.LaunchCounts.{CountsEntries, CountsLaunches}
use Rattle.fly_report.proofs.LaunchLemmas.{counts-launches}
use Rattle.fly_report.proofs.launches.LaunchCounts.of.Goals as goal

pub returns : goal.returns
returns c =
    let plan = c.args.p.now in
    let k = c.args.w.now in
    let numbers = c.in_ok-numbers.numbers in
    let names : HasNamesOfPlan plan k.world =
    subst (λ q. HasNamesOfPlan q k.world) c.requires.own
    (c.names_are_of_plan.ensures k.plan k.closure k.world.entries k.world c.legal_journal.ensures) in
    IfOk-weaker c.of_entries.result (CountsEntries plan numbers k.world.entries) (CountsLaunches plan k.world)
    (counts-launches plan k.world numbers c.in_ok-numbers.ensures (c.primary.result.now, c.primary.ensures) names)
    c.of_entries.ensures
