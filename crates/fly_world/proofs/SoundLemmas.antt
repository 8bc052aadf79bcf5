-- The world of a legal journal is sound, and what a step hands out was launched.
use Rattle.std.proofs.Common.{◌≡◌, ◌≢◌, ⊎_elim, inl, inr, ℕ, ◌<◌, Bool, true, false, cond, not, List, [], ◌∷◌, map, length, find, All, Contains, Option, Some, None, is_some, refl, sym, subst, ◌∙◌, arith}
use Rattle.std.specs.Prelude.{AllPairs}
use Rattle.std.specs.Option.{option_map_or}
use Rattle.std.proofs.lemmas.Bool.{cases_Bool}
use Rattle.std.proofs.lemmas.List.{length-map, get_or-map}
use Rattle.std.proofs.lemmas.List.Elements.{All-contains, All-map}
use Rattle.std.proofs.lemmas.Option.{none-some, same_Some}
use Rattle.fly_types.specs.declared.text.Text.{Text}
use Rattle.fly_docs.specs.declared.attempt_name.AttemptName.{AttemptName}
use Rattle.fly_docs.specs.declared.task.Task.{Task}
use Rattle.fly_docs.specs.declared.workflow.Workflow.{Workflow}
use Rattle.fly_catalog.specs.declared.parts.Reservation.{Reservation}
use Rattle.fly_catalog.specs.declared.requests.Grant.{Grant}
use Rattle.fly_catalog.specs.declared.requests.Grant.TheVariants as grant
use Rattle.fly_catalog.specs.Cached.{cached_dataset}
use Rattle.fly_catalog.specs.Requests.{tag_of}
use Rattle.fly_state.specs.declared.entries.Entry.{Entry}
use Rattle.fly_state.specs.declared.entries.Op.{Op}
use Rattle.fly_state.specs.declared.entries.Op.TheVariants as op
use Rattle.fly_state.specs.declared.entries.Reply.TheVariants as reply
use Rattle.fly_state.specs.Plans.{RunPlan, Path}
use Rattle.fly_state.specs.PlanTables.{IsOuterPlan}
use Rattle.fly_world.specs.World.{World, Execution, Launch, Claim, Settlement, same_name, is_launched, unclaimed}
use Rattle.fly_world.specs.Changes.{Change, with_change, with_entry}
use Rattle.fly_world.specs.Journals.{IsHistory, IsStepBy, Step}
use Rattle.fly_world.specs.Kept.{IsLaunchedReply}
use Rattle.fly_world.specs.Laws.{AreDistinct}
use Rattle.fly_world.specs.Steps.{Answer, step}
use Rattle.fly_world.specs.Store.{IsSound}
use Rattle.fly_world.proofs.LaunchLemmas.{Single, world-single, name_of_launch, name_of_claim, name_of_settlement, same_name-refl, absent}
use Rattle.fly_world.proofs.KeptWorlds.{history-of_plan}

-- ---- the world of a legal journal

-- elements of names that are all distinct
distinct_in : {X : Type 0} (name_in : X → AttemptName) (xs : List X) → AreDistinct (map name_in xs)
    → AllPairs (λ (a b : X). name_in a ≢ name_in b) xs
distinct_in name_in xs distinct i j d less within same =
    let before : i < length xs = omega (arith, less, within) in
    distinct i j (name_in d) less (subst (λ n. j < n) (sym (length-map xs name_in)) within)
    (get_or-map name_in xs i d (name_in d) before ∙ same ∙ sym (get_or-map name_in xs j d (name_in d) within))

-- what has the name of a launch is launched
launched_there : (launches : List Launch) (name : AttemptName) → Contains (map name_of_launch launches) name
    → is_some (find (λ (l : Launch). same_name name l.name) launches) ≡ true
launched_there launches name there =
    ⊎_elim (λ yes. yes)
    (λ no. absurd (All-contains (λ b. b ≢ name) (map name_of_launch launches) name
    (absent name_of_launch name launches no) there refl))
    (cases_Bool (is_some (find (λ (l : Launch). same_name name l.name) launches)))

-- what is claimed is launched
claims_there : (w : World) → All (Contains (map name_of_launch w.launches)) (map name_of_claim w.claims)
    → All (λ (c : Claim). is_launched w c.name ≡ true) w.claims
claims_there w all k d within =
    launched_there w.launches _
    (subst (Contains (map name_of_launch w.launches)) (get_or-map name_of_claim w.claims k d (name_of_claim d) within)
    (all k (name_of_claim d) (subst (λ n. k < n) (sym (length-map w.claims name_of_claim)) within)))

-- the store after a legal journal is sound
pub legal-sound : (plan : RunPlan) (f : Workflow) (closure : List ℕ) (journal : List Entry) (w : World) (spare : ℕ)
    → IsOuterPlan plan f
    → IsHistory plan closure journal w → IsSound (record { plan = plan; world = w; spare = spare })
legal-sound plan f closure journal w spare outer history =
    let single = world-single plan w journal history.leads in
    record {
      of_plan = history-of_plan plan f outer closure journal w history;
      claimed_launched = claims_there w single.claims_launched;
      claimed_once = distinct_in name_of_claim w.claims single.claims;
      settled_once = distinct_in name_of_settlement w.outcomes single.outcomes;
    }
