-- The hash by which a journal names its closure.
use Rattle.std.specs.Prelude.{ℕ, List}
use Rattle.sha2.specs.Sha256.{sha256}
use Rattle.fly_docs.specs.declared.closure.Closure.{Closure}
use Rattle.fly_writers.specs.Closures.{closure_text}

-- that of the closure's text
abbrev pub closure_hash : Closure → List ℕ
closure_hash c = sha256 (closure_text c)
