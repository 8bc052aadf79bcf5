-- What the closure of a bundle says of its templates.
use Rattle.std.specs.Prelude.{◌≡◌, Some}
use Rattle.fly_docs.specs.declared.workflow.Bundle.{Bundle}
use Rattle.fly_docs.specs.declared.closure.Closure.{Closure}
use Rattle.fly_docs.specs.Acyclic.{RunsAcyclic}
use Rattle.fly_docs.specs.Closures.{closure_of}
use Rattle.fly_docs.specs.Typed.{IsTyped}
use Rattle.fly_docs.specs.TypedClosures.{IsTypedClosure}

-- the closure of a typed and acyclic bundle has typed and acyclic templates
abbrev pub ClosuresAreTyped : Type 0
ClosuresAreTyped = (b : Bundle) (c : Closure) → IsTyped b → RunsAcyclic b → closure_of b ≡ Some c → IsTypedClosure c
