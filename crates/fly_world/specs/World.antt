-- The store of executions as one history: lists that grow at their ends, the catalog, the moment, and the entries.
-- What an entry put into a list
-- stands there with the place of that entry.
use Rattle.std.specs.Prelude.{ℕ, ◌==◌, nat_lt, ℤ, pos, Bool, true, not, ◌&&◌, List, [], map, filter, length, find, slice_get, bytes_eq, Option, Some, None, option_map, is_some}
use Rattle.std.specs.List.{list_all, enumerate_from}
use Rattle.std.specs.Option.{option_map_or}
use Rattle.fly_types.specs.declared.text.Text.{Text}
use Rattle.fly_types.specs.declared.literals.LiteralMap.{LiteralMap}
use Rattle.fly_docs.specs.declared.attempt_name.AttemptName.{AttemptName}
use Rattle.fly_policy.specs.declared.outcome.Outcome.{Outcome}
use Rattle.fly_catalog.specs.Catalog.{CatalogLists}
use Rattle.fly_state.specs.declared.slots.ExecState.{ExecState}
use Rattle.fly_state.specs.declared.view.View.{View}
use Rattle.fly_state.specs.declared.view.Known.{Known}
use Rattle.fly_state.specs.declared.entries.Entry.{Entry}
use Rattle.fly_state.specs.States.{is_final}
pub use Rattle.fly_attempts.specs.declared.parts.Launch.{Launch}
pub use Rattle.fly_attempts.specs.Parts.{Claim, Settlement, same_name}
pub use Rattle.fly_world.specs.declared.versions.Past.{Past}

-- ---- the lists

-- An execution: its name and what was submitted, its versions before the current one in their order, and the current
-- one.
pub record Execution : Type 0 where
  pub name : Text
  pub inputs : LiteralMap
  pub past : List Past
  pub state : ExecState

pub record World : Type 0 where
  pub executions : List Execution
  pub launches : List Launch
  pub claims : List Claim
  pub outcomes : List Settlement
  pub catalog : CatalogLists
  pub moment : ℤ
  pub entries : List Entry

abbrev pub empty_catalog : CatalogLists
empty_catalog = record { datasets = []; artifacts = []; tags = []; reservations = [] }

-- before any entry: nothing is there, and the moment is 0
abbrev pub empty_world : World
empty_world = record {
  executions = [];
  launches = [];
  claims = [];
  outcomes = [];
  catalog = empty_catalog;
  moment = pos 0;
  entries = [];
}

-- ---- executions

-- the number of the current version
abbrev pub current_of : Execution → ℕ
current_of x = length x.past

-- the state of a version; of one that is not there yet, the current one
abbrev pub state_at : Execution → ℕ → ExecState
state_at x version = option_map_or (λ (p : Past). p.state) (slice_get x.past version) x.state

-- the place of the Write that ended a version; none for the current one
abbrev pub end_of : Execution → ℕ → Option ℕ
end_of x version = option_map (λ (p : Past). p.until) (slice_get x.past version)

-- the execution has come to its end: its root is final
abbrev pub is_over : Execution → Bool
is_over x = is_final x.state.root.phase

-- the execution of this name, with its number
abbrev pub execution_named : World → Text → Option (ℕ × Execution)
execution_named w name = find (λ (at : ℕ × Execution). bytes_eq name at.1.name) (enumerate_from 0 w.executions)

abbrev pub is_submitted : World → Text → Bool
is_submitted w name = is_some (execution_named w name)

-- ---- attempts

abbrev pub launch_of : World → AttemptName → Option Launch
launch_of w name = find (λ (l : Launch). same_name name l.name) w.launches

abbrev pub claim_of : World → AttemptName → Option Claim
claim_of w name = find (λ (c : Claim). same_name name c.name) w.claims

abbrev pub outcome_of : World → AttemptName → Option Outcome
outcome_of w name = option_map (λ (s : Settlement). s.outcome)
    (find (λ (s : Settlement). same_name name s.name) w.outcomes)

abbrev pub is_launched : World → AttemptName → Bool
is_launched w name = is_some (launch_of w name)

abbrev pub is_claimed : World → AttemptName → Bool
is_claimed w name = is_some (claim_of w name)

abbrev pub is_settled : World → AttemptName → Bool
is_settled w name = is_some (outcome_of w name)

-- each execution has come to its end
abbrev pub are_all_over : World → Bool
are_all_over w = list_all is_over w.executions

-- the first launched attempt that nobody has claimed
abbrev pub unclaimed : World → Option Launch
unclaimed w = find (λ (l : Launch). not (is_claimed w l.name)) w.launches

-- the first claimed attempt without an outcome
abbrev pub unsettled : World → Option AttemptName
unsettled w = option_map (λ (c : Claim). c.name) (find (λ (c : Claim). not (is_settled w c.name)) w.claims)

-- ---- views

-- what stands at a place stood before this end; none is no end
abbrev pub stands_before : Option ℕ → ℕ → Bool
stands_before None place = true
stands_before (Some end) place = nat_lt place end

-- the world with its launches, claims and outcomes as they stood before an end
abbrev pub world_before : World → Option ℕ → World
world_before w end = record w {
  launches = filter (λ (l : Launch). stands_before end l.place) w.launches;
  claims = filter (λ (c : Claim). stands_before end c.place) w.claims;
  outcomes = filter (λ (s : Settlement). stands_before end s.place) w.outcomes;
}

-- what is known of a launched attempt
abbrev pub known_of : World → Launch → Known
known_of w l = record { name = l.name; claimed = is_claimed w l.name; outcome = outcome_of w l.name }

-- the launches of an execution, with what is known of them
abbrev pub launches_of : World → Text → List Known
launches_of w name = map (known_of w) (filter (λ (l : Launch). bytes_eq name l.name.exec) w.launches)

-- one version of an execution, as it last stood while that version was current
abbrev pub view_of : World → ℕ × Execution → ℕ → View
view_of w at version = record {
  exec = at.0;
  name = at.1.name;
  version = version;
  current = current_of at.1;
  state = state_at at.1 version;
  launches = launches_of (world_before w (end_of at.1 version)) at.1.name;
}

-- the current version
abbrev pub current_view : World → ℕ × Execution → View
current_view w at = view_of w at (current_of at.1)
