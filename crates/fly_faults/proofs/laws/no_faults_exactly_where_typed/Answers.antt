use Rattle.fly_faults.proofs.FaultListLaw.{no_faults_exactly_where_typed}
use Rattle.fly_faults.proofs.laws.no_faults_exactly_where_typed.Goals as goal

pub returns : goal.returns
returns c = no_faults_exactly_where_typed
