-- Tables from ids to places.
use Rattle.std.specs.Prelude.{◌≡◌, ℕ, List, position, bytes_eq}
use Rattle.std.specs.Borrow.{Bor}
use Rattle.std.specs.Ordering.{nat_cmp, ordering_then}
use Rattle.std.specs.Cmp.Lexicographic.{slice_cmp}
use Rattle.std.specs.BTreeMap.{BTreeMap, get}
use Rattle.std.specs.declared.cmp.Ordering.{Ordering}
use Rattle.fly_docs.specs.declared.binding.Binding.{Binding}
use Rattle.fly_docs.specs.declared.names.Identifier.{Identifier}
use Rattle.fly_docs.specs.declared.task.Task.{Task}
use Rattle.fly_docs.specs.Lookups.{is_same}

-- a borrowed text, and the four of an identifier
abbrev pub Loan : Type 0
Loan = Bor (List ℕ)

abbrev pub Key : Type 0
Key = Loan × Loan × Loan × Loan

-- the identifier with these fields
abbrev pub key_id : Key → Identifier
key_id key = record { project = key.0.now; domain = key.1.now; name = key.2.now; version = key.3.now }

-- texts by their bytes, and identifiers field by field
abbrev pub loan_cmp : Loan → Loan → Ordering
loan_cmp x y = slice_cmp nat_cmp x.now y.now

abbrev pub key_cmp : Key → Key → Ordering
key_cmp x y = ordering_then (ordering_then (ordering_then (loan_cmp x.0 y.0) (loan_cmp x.1 y.1)) (loan_cmp x.2 y.2)) (loan_cmp x.3 y.3)

-- the table has the first place of each task
abbrev pub HasTaskPlaces : List Task → BTreeMap Key ℕ → Type 0
HasTaskPlaces tasks table = (key : Key) → get key_cmp table key ≡ position (λ (t : Task). is_same t.id (key_id key)) tasks

-- the table has the place of the first binding of each name
abbrev pub HasBindingPlaces : List Binding → BTreeMap Loan ℕ → Type 0
HasBindingPlaces bindings table = (key : Loan) → get loan_cmp table key ≡ position (λ (x : Binding). bytes_eq x.var key.now) bindings
