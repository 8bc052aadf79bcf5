use Rattle.std.proofs.Common.{◌≡◌, map}
use Rattle.fly_links.specs.Tables.{key_id}
use Rattle.fly_links.proofs.RepeatLemmas.{repeated_before}
use Rattle.fly_links.proofs.directory.repeated_in.Given as goal

abbrev pub invariant-loop-place : goal.invariant-loop-place
invariant-loop-place l = l.repeated.items ≡ repeated_before (map key_id l.keys) l.place
