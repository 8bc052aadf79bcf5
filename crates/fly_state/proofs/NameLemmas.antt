-- Names of attempts by their parts.
use Rattle.std.proofs.Common.{◌≡◌, refl}
use Rattle.fly_docs.specs.declared.attempt_name.AttemptName.{AttemptName}
use Rattle.fly_docs.specs.contracts.attempt_name.AttemptName as name_type

-- names of the same parts are one
pub same_name : (m n : AttemptName) → m.exec ≡ n.exec → m.path ≡ n.path → m.item ≡ n.item → m.attempt ≡ n.attempt → m ≡ n
same_name m n e p i a = name_type.the_row.coded.inj m n (rw (e, p, i, a) refl)
