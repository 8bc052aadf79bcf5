-- What the store's tables are of: its plan, its lists, and for how many more entries it has room.
use Rattle.std.specs.Prelude.{◌≡◌, ◌≢◌, ℕ, ◌+◌, ◌-◌, ◌≤◌, ◌^◌, ℤ, pos, ◌≤ℤ◌, Bool, true, false, ◌||◌, List, ◌++◌, codes, length, slice_get, All, AllPairs, Option, Some, option_map, option_and_then, IsSome, vec_len, vec_capacity}
use Rattle.std.specs.Fmt.{decimal}
use Rattle.std.specs.Option.{option_map_or}
use Rattle.std.specs.Ordering.{nat_cmp}
use Rattle.std.specs.Cmp.Lexicographic.{slice_cmp}
use Rattle.std.specs.BTreeMap.{BTreeMap, get}
use Rattle.std.specs.Global.{Vec}
use Rattle.fly_types.specs.declared.text.Text.{Text}
use Rattle.fly_docs.specs.Plans.{PlanNode}
use Rattle.fly_attempts.specs.Attempts.{AttemptLists}
use Rattle.fly_catalog.specs.declared.parts.Artifact.{Artifact}
use Rattle.fly_catalog.specs.declared.parts.Tag.{Tag}
use Rattle.fly_catalog.specs.declared.parts.Reservation.{Reservation}
use Rattle.fly_catalog.specs.Catalog.{CatalogLists}
use Rattle.fly_catalog.specs.Cached.{owner_text}
use Rattle.fly_state.specs.declared.entries.Entry.{Entry}
use Rattle.fly_state.specs.Plans.{RunPlan, node_numbered}
use Rattle.fly_world.specs.declared.spots.Spot as numbers
use Rattle.fly_state.specs.States.{is_final, phase_of}
use Rattle.fly_world.specs.World.{World, Execution, Claim, Settlement, execution_named, is_over, is_launched}
use Rattle.fly_world.specs.Changes.{Change, with_change, with_entry}
use Rattle.fly_world.specs.Spots.{Spot, spot_numbered}
use Rattle.fly_world.specs.Versions.{IsWorldOfPlan}
use Rattle.fly_world.specs.Steps.{is_opening, max_executions, next_artifact_id}

-- the plan that the store goes by, its lists, and how many entries more have room
pub record StoreLists : Type 0 where
  pub plan : RunPlan
  pub world : World
  pub spare : ℕ

-- Its world is of its plan, what is claimed was launched, and no attempt is claimed or settled twice. It is so after
-- each legal journal.
pub record IsSound (s : StoreLists) : Type 0 where
  pub of_plan : IsWorldOfPlan s.plan s.world
  pub claimed_launched : All (λ (c : Claim). is_launched s.world c.name ≡ true) s.world.claims
  pub claimed_once : AllPairs (λ (a b : Claim). a.name ≢ b.name) s.world.claims
  pub settled_once : AllPairs (λ (a b : Settlement). a.name ≢ b.name) s.world.outcomes

-- the lists that are kept apart, as one world
abbrev pub world_of : List Execution → AttemptLists → CatalogLists → ℤ → List Entry → World
world_of executions attempts catalog moment entries = record {
  executions = executions;
  launches = attempts.launches;
  claims = attempts.claims;
  outcomes = attempts.outcomes;
  catalog = catalog;
  moment = moment;
  entries = entries;
}

-- the attempts of a world
abbrev pub attempts_in : World → AttemptLists
attempts_in w = record { launches = w.launches; claims = w.claims; outcomes = w.outcomes }

-- the store after a change
abbrev pub changed_by : StoreLists → Change → StoreLists
changed_by s change = record s { world = with_change s.world change }

-- the store with one entry more, for which there was room
abbrev pub added_entry : StoreLists → Entry → StoreLists
added_entry s e = record s { world = with_entry s.world e; spare = s.spare - 1 }

-- ---- what is found by a number or a name

-- the number of the execution of a name
abbrev pub number_of_execution : World → Text → Option ℕ
number_of_execution w name = option_map (λ (at : ℕ × Execution). at.0) (execution_named w name)

-- the execution of a number, with the number
abbrev pub execution_numbered : World → ℕ → Option (ℕ × Execution)
execution_numbered w number = option_map (λ (x : Execution). (number, x)) (slice_get w.executions number)

-- the node of the plan in one of these executions, both by their numbers
abbrev pub spot_in : RunPlan → List Execution → numbers.Spot → Option Spot
spot_in plan executions s =
    option_and_then (λ (x : Execution). spot_numbered plan (s.execution, x) s.node) (slice_get executions s.execution)

abbrev pub spot_at : RunPlan → World → numbers.Spot → Option Spot
spot_at plan w s = spot_in plan w.executions s

-- ---- tables

-- the text names the node of the number in the execution of the number
pub record IsOwner (plan : RunPlan) (executions : List Execution) (owner : Text) (s : numbers.Spot) : Type 0 where
  pub spot : Spot
  pub there : spot_in plan executions s ≡ Some spot
  pub text : owner ≡ owner_text spot.execution.1.name spot.node.path

-- each owner that the table has is its spot's, and it has each owner of a reservation
pub record HasOwners (plan : RunPlan) (executions : List Execution) (reservations : List Reservation)
    (owners : BTreeMap Text numbers.Spot) : Type 0 where
  pub right : (owner : Text) (s : numbers.Spot) → get (slice_cmp nat_cmp) owners owner ≡ Some s
      → IsOwner plan executions owner s
  pub all : All (λ (r : Reservation). IsSome (get (slice_cmp nat_cmp) owners r.owner)) reservations

-- the id of the artifact that was the n-th to be made
abbrev pub artifact_id : ℕ → Text
artifact_id n = codes "a" ++ decimal n

-- Each artifact has the id of its place, and its first tag stands at that place too.
pub record IsNumberedCatalog (c : CatalogLists) : Type 0 where
  pub ids : (n : ℕ) (a : Artifact) → slice_get c.artifacts n ≡ Some a → a.id ≡ artifact_id n
  pub tags : (n : ℕ) (a : Artifact) → slice_get c.artifacts n ≡ Some a
      → (t : Tag) × (slice_get c.tags n ≡ Some t) × (t.dataset ≡ a.dataset) × (t.artifact ≡ a.id)
  pub as_many : length c.tags ≡ length c.artifacts

-- The store's tables are of its lists, and its numbers fit.
pub record HasStoreTables (plan : RunPlan) (w : World) (numbered : BTreeMap Text ℕ)
    (owners : BTreeMap Text numbers.Spot) (opening : Bool) (entries : Vec Entry) (spare : ℕ) : Type 0 where
  pub numbered_by : (name : Text) → get (slice_cmp nat_cmp) numbered name ≡ number_of_execution w name
  pub owned : HasOwners plan w.executions w.catalog.reservations owners
  pub artifacts : IsNumberedCatalog w.catalog
  pub opening_is : opening ≡ is_opening w
  pub few : length w.executions ≤ max_executions
  pub early : w.moment ≤ℤ pos (2 ^ 62)
  pub room : spare + vec_len entries ≤ vec_capacity entries

-- ---- owners that have ended

-- the node of the number is final in the execution, or that is over
abbrev pub has_ended_in : ℕ → Execution → Bool
has_ended_in node x = is_over x || is_final (phase_of x.state node)

-- the owner is in the table, and what it does has ended
abbrev pub has_ended_owner : BTreeMap Text numbers.Spot → List Execution → Text → Bool
has_ended_owner owners executions owner =
    option_map_or (λ (s : numbers.Spot). option_map_or (has_ended_in s.node) (slice_get executions s.execution) false)
    (get (slice_cmp nat_cmp) owners owner) false
