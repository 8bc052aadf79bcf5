-- The closures that the compiler gives: their templates are typed and acyclic.
use Rattle.fly_docs.specs.declared.closure.Closure.{Closure}
use Rattle.fly_docs.specs.Acyclic.{RunsAcyclic}
use Rattle.fly_docs.specs.Closures.{bundle_of}
use Rattle.fly_docs.specs.Typed.{IsTyped}

-- its templates are typed, and no node of what is run needs itself
pub record IsTypedClosure (c : Closure) : Type 0 where
  pub typed : IsTyped (bundle_of c)
  pub acyclic : RunsAcyclic (bundle_of c)
