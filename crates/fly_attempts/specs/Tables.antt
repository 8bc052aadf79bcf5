-- The three lists from what is kept of them, and what is kept beside them.
use Rattle.std.specs.Prelude.{◌≡◌, ◌<◌, ◌≤◌, ◌==◌, ℕ, true, Option, Some, None, is_some, List, length, filter_map, position, slice_get, option_map, count_by, vec_capacity}
use Rattle.std.specs.List.{All, enumerate_from}
use Rattle.std.specs.Global.{Vec}
use Rattle.fly_docs.specs.declared.attempt_name.AttemptName.{AttemptName}
use Rattle.fly_attempts.specs.declared.parts.Launch.{Launch}
use Rattle.fly_attempts.specs.declared.parts.Handout.{Handout}
use Rattle.fly_attempts.specs.declared.parts.Ending.{Ending}
use Rattle.fly_attempts.specs.Parts.{Claim, Settlement, same_name, claim_from, settlement_from}
use Rattle.fly_attempts.specs.Attempts.{AttemptLists}

-- of things with numbers, each made into another with the name of the launch of its number
abbrev pub with_names : {X Y : Type 0} → (X → ℕ) → (AttemptName → X → Y) → List Launch → List X → List Y
with_names number make launches xs =
    filter_map (λ x. option_map (λ (l : Launch). make l.name x) (slice_get launches (number x))) xs

-- the claims of the first launches
abbrev pub claims_from : List Launch → List Handout → List Claim
claims_from launches handouts =
    with_names (λ (at : ℕ × Handout). at.0) (λ name at. claim_from name at.1) launches (enumerate_from 0 handouts)

-- the settlements of the launches that the endings number
abbrev pub settlements_from : List Launch → List Ending → List Settlement
settlements_from launches endings = with_names (λ (e : Ending). e.number) settlement_from launches endings

-- the three lists
abbrev pub lists_of : List Launch → List Handout → List Ending → AttemptLists
lists_of launches handouts endings = record {
  launches = launches;
  claims = claims_from launches handouts;
  outcomes = settlements_from launches endings;
}

-- no two launches have one name
abbrev pub HasOwnNames : List Launch → Type 0
HasOwnNames launches = (i j : ℕ) (l m : Launch) → slice_get launches i ≡ Some l → slice_get launches j ≡ Some m
    → same_name l.name m.name ≡ true → i ≡ j

-- the place of what the launch of a number came to
abbrev pub end_of : List Ending → ℕ → Option ℕ
end_of endings number = position (λ (e : Ending). e.number == number) endings

-- all launches before the number have an end, and the launch of the number has none
pub record IsFirstOpen (ends : List (Option ℕ)) (number : ℕ) : Type 0 where
  pub within : number ≤ length ends
  pub before : (i : ℕ) → i < number → (at : ℕ) × (slice_get ends i ≡ Some (Some at))
  pub here : number < length ends → slice_get ends number ≡ Some None

-- what is kept fits the launches
pub record HasTables (launches : List Launch) (handouts : List Handout) (endings : List Ending)
    (ends : List (Option ℕ)) (first_open : ℕ) : Type 0 where
  pub own : HasOwnNames launches
  pub claimed : length handouts ≤ length launches
  pub settled : All (λ (e : Ending). e.number < length handouts) endings
  pub long : length ends ≡ length launches
  pub ended : (i : ℕ) → i < length launches → slice_get ends i ≡ Some (end_of endings i)
  pub counted : length endings ≡ count_by (λ (o : Option ℕ). is_some o) ends
  pub first : IsFirstOpen ends first_open

-- the tables fit, and there is room for the claim and the end of each launch
pub record IsKept (launches : List Launch) (handouts : Vec Handout) (endings : Vec Ending) (ends : Vec (Option ℕ))
    (first_open : ℕ) : Type 0 where
  pub tables : HasTables launches handouts.items endings.items ends.items first_open
  pub claims_fit : length launches ≤ vec_capacity handouts
  pub ends_fit : length launches ≤ vec_capacity endings
