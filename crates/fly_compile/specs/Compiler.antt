-- What compiling a bundle gives.
use Rattle.std.specs.Prelude.{◌≡◌, ◌≢◌, [], Some, Result, Ok, Err}
use Rattle.fly_docs.specs.declared.workflow.Bundle.{Bundle}
use Rattle.fly_docs.specs.declared.closure.Closure.{Closure}
use Rattle.fly_docs.specs.Closures.{closure_of}
use Rattle.fly_docs.specs.TypedClosures.{IsTypedClosure}
use Rattle.fly_faults.specs.declared.fault.CompileFault.{CompileFault}
use Rattle.fly_faults.specs.declared.fault.CompileFault.TheVariants.{Refused, NoMemory}
use Rattle.fly_faults.specs.FaultList.{faults_of}

-- the closure of a bundle without a fault, whose templates are typed and acyclic, or all faults of the others
abbrev pub IsCompiled : Bundle → Result Closure CompileFault → Type 0
IsCompiled b (Ok closure) = (faults_of b ≡ []) × (closure_of b ≡ Some closure) × IsTypedClosure closure
IsCompiled b (Err (Refused faults)) = (faults_of b ≢ []) × (faults ≡ faults_of b)
IsCompiled b (Err NoMemory) = Unit {0}
