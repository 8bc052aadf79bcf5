-- What a reply changes in the store, beside the entries.
use Rattle.std.specs.Prelude.{ℕ, ℤ, Bool, [], ◌∷◌, ◌++◌, length, slice_set}
use Rattle.fly_types.specs.declared.text.Text.{Text}
use Rattle.fly_types.specs.declared.literals.LiteralMap.{LiteralMap}
use Rattle.fly_docs.specs.declared.attempt_name.AttemptName.{AttemptName}
use Rattle.fly_policy.specs.declared.outcome.Outcome.{Outcome}
use Rattle.fly_catalog.specs.Catalog.{CatalogLists}
use Rattle.fly_catalog.specs.Requests.{after_sweep}
use Rattle.fly_state.specs.declared.slots.ExecState.{ExecState}
use Rattle.fly_state.specs.declared.entries.Entry.{Entry}
use Rattle.fly_world.specs.World.{World, Execution}

-- Nothing changes; the moment or the catalog becomes another; the reservations of owners that pass are let go; or one
-- thing is added: an execution in its version 0, a launch, a claim, an
-- outcome, or the next version of the execution of a number.
pub data Change : Type 0 where
  no_change : Change
  moment_becomes : ℤ → Change
  catalog_becomes : CatalogLists → Change
  lets_go : (Text → Bool) → Change
  adds_execution : Text → LiteralMap → ExecState → Change
  adds_launch : AttemptName → LiteralMap → Change
  adds_claim : AttemptName → Change
  adds_outcome : AttemptName → Outcome → Change
  adds_version : ℕ × Execution → ExecState → Change

-- the execution with its next version, which the entry at the place made
abbrev pub with_version : ExecState → ℕ → Execution → Execution
with_version state place x = record x {
  past = x.past ++ record { state = x.state; until = place }
      ∷ [];
  state = state;
}

-- the world after a change; what is added has the place of the next entry
abbrev pub with_change : World → Change → World
with_change w no_change = w
with_change w (moment_becomes moment) = record w { moment = moment }
with_change w (catalog_becomes catalog) = record w { catalog = catalog }
with_change w (lets_go ends) = record w { catalog = after_sweep w.catalog ends }
with_change w (adds_execution name inputs state) =
    record w { executions = w.executions ++ record { name = name; inputs = inputs; past = []; state = state } ∷ [] }
with_change w (adds_launch name inputs) =
    record w { launches = w.launches ++ record { name = name; inputs = inputs; place = length w.entries } ∷ [] }
with_change w (adds_claim name) =
    record w { claims = w.claims ++ record { name = name; moment = w.moment; place = length w.entries } ∷ [] }
with_change w (adds_outcome name outcome) =
    record w { outcomes = w.outcomes ++ record { name = name; outcome = outcome; place = length w.entries } ∷ [] }
with_change w (adds_version at state) =
    record w { executions = slice_set w.executions at.0 (with_version state (length w.entries) at.1) }

-- the world with one entry more
abbrev pub with_entry : World → Entry → World
with_entry w e = record w { entries = w.entries ++ e ∷ [] }
