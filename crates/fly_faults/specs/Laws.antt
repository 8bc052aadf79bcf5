-- What the list of faults says of a bundle.
use Rattle.std.specs.Prelude.{◌≡◌, ◌↔◌, []}
use Rattle.fly_docs.specs.declared.workflow.Bundle.{Bundle}
use Rattle.fly_docs.specs.Acyclic.{RunsAcyclic}
use Rattle.fly_docs.specs.Form.{IsBundleInForm}
use Rattle.fly_docs.specs.Typed.{IsTyped}
use Rattle.fly_faults.specs.FaultList.{faults_of}

-- a bundle in form has no fault exactly where it is typed and no node that is run needs itself
abbrev pub NoFaultsExactlyWhereTyped : Type 0
NoFaultsExactlyWhereTyped = (b : Bundle) → IsBundleInForm b → (faults_of b ≡ []) ↔ (IsTyped b × RunsAcyclic b)
