-- The promises in what is bound, with what they are of.
use Rattle.std.specs.Prelude.{List, map}
use Rattle.fly_docs.specs.Bindings.{Promised}
use Rattle.fly_docs.specs.NodeInterfaces.{Source}
use Rattle.fly_faults.specs.OutputTypes.{source_of_origin}
use Rattle.fly_compile.specs.declared.promises.Promise.{Promise}

-- a promise with its source
abbrev pub known : Promise → Promised × Source
known p = ((p.node.now, p.var.now), source_of_origin p.origin)

abbrev pub with_sources : (Promised → Source) → List Promised → List (Promised × Source)
with_sources source promises = map (λ promise. (promise, source promise)) promises
