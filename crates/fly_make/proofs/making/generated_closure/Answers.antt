use Rattle.std.proofs.Common.{ap, sym, ◌∙◌}
use Rattle.fly_docs.specs.Closures.{closure_of}
use Rattle.fly_faults.specs.FaultList.{faults_of}
use Rattle.fly_make.proofs.GeneratedLemmas.{no-faults, generated-closure}
use Rattle.fly_make.proofs.making.generated_closure.Goals as goal

pub returns-in-Ok : goal.returns-in-Ok
returns-in-Ok c =
    generated-closure c.samples_are_typed.ensures c.args.count c.in-Ok.closure c.requires.some c.requires.few
    (ap closure_of (sym c.in_ok-bundle.ensures) ∙ c.in-Ok.ensures.1) c.in-Ok.ensures.2

pub unreachable-requires : goal.unreachable-requires
unreachable-requires c =
    let refused = rw c.in-Err-Refused.field-0-is at c.in-Err-Refused.ensures in
    refused.0 (ap faults_of c.in_ok-bundle.ensures
    ∙ no-faults c.samples_are_typed.ensures c.no_faults_exactly_where_typed.ensures c.args.count c.requires.some
    c.requires.few)
