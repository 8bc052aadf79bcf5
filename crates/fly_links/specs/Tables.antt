-- Tables from ids to places.
use Rattle.std.specs.Prelude.{◌≡◌, ℕ, Bool, ◌==◌, false, List, Option, Some, None, position}
use Rattle.std.specs.Borrow.{Bor}
use Rattle.std.specs.Ordering.{nat_cmp, ordering_then}
use Rattle.std.specs.Cmp.Lexicographic.{slice_cmp}
use Rattle.std.specs.BTreeMap.{BTreeMap, get}
use Rattle.std.specs.declared.cmp.Ordering.{Ordering}
use Rattle.fly_docs.specs.declared.names.Identifier.{Identifier}
use Rattle.fly_docs.specs.declared.workflow.Bundle.{Bundle}
use Rattle.fly_docs.specs.declared.workflow.Workflow.{Workflow}
use Rattle.fly_docs.specs.Lookups.{is_same}
use Rattle.fly_docs.specs.Plans.{place_named}
use Rattle.fly_docs.specs.Reaching.{task_place, workflow_place}

-- a borrowed text, and the four of an identifier
abbrev pub Loan : Type 0
Loan = Bor (List ℕ)

abbrev pub Key : Type 0
Key = Loan × Loan × Loan × Loan

-- the identifier with these fields
abbrev pub key_id : Key → Identifier
key_id key = record { project = key.0.now; domain = key.1.now; name = key.2.now; version = key.3.now }

-- texts by their bytes, and identifiers field by field
abbrev pub loan_cmp : Loan → Loan → Ordering
loan_cmp x y = slice_cmp nat_cmp x.now y.now

abbrev pub key_cmp : Key → Key → Ordering
key_cmp x y = ordering_then (ordering_then (ordering_then (loan_cmp x.0 y.0) (loan_cmp x.1 y.1)) (loan_cmp x.2 y.2)) (loan_cmp x.3 y.3)

-- the table has the first place of each id in the list
abbrev pub HasFirstPlaces : List Identifier → BTreeMap Key ℕ → Type 0
HasFirstPlaces ids table = (key : Key) → get key_cmp table key ≡ position (λ id. is_same id (key_id key)) ids

-- the place was found
abbrev pub is_place : Option ℕ → ℕ → Bool
is_place None place = false
is_place (Some found) place = found == place

-- the tables have the places of the tasks and of the workflows
pub record AreTables (b : Bundle) (of_tasks of_workflows : BTreeMap Key ℕ) : Type 0 where
  pub tasks : (key : Key) → get key_cmp of_tasks key ≡ task_place b (key_id key)
  pub workflows : (key : Key) → get key_cmp of_workflows key ≡ workflow_place b (key_id key)

-- the table has the places of a workflow's nodes
abbrev pub HasNodePlaces : Workflow → BTreeMap Loan ℕ → Type 0
HasNodePlaces w places = (key : Loan) → get loan_cmp places key ≡ place_named w key.now
