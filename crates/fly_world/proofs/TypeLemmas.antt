-- What is submitted and what is recorded is of its declared type.
use Rattle.std.proofs.Common.{◌≡◌, ℕ, Bool, true, false, ◌||◌, List, [], ◌∷◌, length, All, Contains, Option, Some, None, refl, subst, option_to_list}
use Rattle.std.specs.List.{AllZip, list_any, slice_get}
use Rattle.std.proofs.lemmas.Bool.{and_parts, false≢true}
use Rattle.std.proofs.lemmas.List.Elements.{All-nil, All-push, All-set, All-contains}
use Rattle.std.proofs.lemmas.Option.{none-some, same_Some, slice_get_within, get_or_from_slice_get}
use Rattle.std.proofs.lemmas.Slice.Eq.{bytes_eq-Decides}
use Rattle.fly_types.specs.declared.text.Text.{Text}
use Rattle.fly_types.specs.declared.literals.Literal.{Literal}
use Rattle.fly_types.specs.declared.literals.LiteralMap.{LiteralMap}
use Rattle.fly_types.specs.declared.variable.Variable.{Variable}
use Rattle.fly_cast.proofs.Members.{is_of-Decides}
use Rattle.fly_docs.specs.declared.workflow.Workflow.{Workflow}
use Rattle.fly_docs.specs.Lookups.{primary_of}
use Rattle.fly_policy.specs.Outcome.{AreOutputs, Gives}
use Rattle.fly_state.specs.declared.entries.Entry.{Entry}
use Rattle.fly_state.specs.Plans.{RunPlan}
use Rattle.fly_state.specs.OfPlan.{item_output_variables}
use Rattle.fly_world.specs.World.{World, Execution, Settlement, empty_world}
use Rattle.fly_world.specs.Changes.{Change, no_change, moment_becomes, catalog_becomes, lets_go, adds_execution, adds_launch, adds_claim, adds_outcome, adds_version, with_change, with_version}
use Rattle.fly_world.specs.Spots.{is_given, are_given, gives_all}
use Rattle.fly_world.specs.Journals.{IsHistory}
use Rattle.fly_world.specs.Versions.{HasTypedRecords}
use Rattle.fly_world.proofs.StepLemmas.{Permits, IsTypedOutcome}
use Rattle.fly_world.proofs.JournalLemmas.{along_changes}
use Rattle.fly_world.proofs.FinalSlots.{named_there}

-- ---- the tests of types

given-zip : (xs : List Variable) (entries : List (Text × Literal)) → are_given xs entries ≡ true
    → AllZip Gives xs entries
given-zip [] [] h = tt
given-zip [] (entry ∷ entries) h = absurd (false≢true h)
given-zip (x ∷ xs) [] h = absurd (false≢true h)
given-zip (x ∷ xs) (entry ∷ entries) h =
    let parts = and_parts (is_given x entry) (are_given xs entries) h in
    let here = and_parts _ _ parts.0 in (
      (
        (bytes_eq-Decides entry.0 x.name).0 here.0,
        (is_of-Decides x.kind entry.1).0 here.1,
      ),
      given-zip xs entries parts.1,
    )

pub typed_map : (variables : List Variable) (m : LiteralMap) → gives_all variables m ≡ true → AreOutputs variables m
typed_map variables m h = given-zip variables m.entries h

one_of : (b : Bool) → b || false ≡ true → b ≡ true
one_of true h = refl
one_of false h = h

pub typed_inputs : (plan : RunPlan) (inputs : LiteralMap) (wanted : Workflow) (o : Option Workflow) → o ≡ Some wanted
    → list_any (λ (w : Workflow). gives_all w.interface.inputs inputs) (option_to_list o) ≡ true
    → AreOutputs wanted.interface.inputs inputs
typed_inputs plan inputs wanted None h test = absurd (none-some wanted h)
typed_inputs plan inputs wanted (Some x) h test =
    subst (λ (w : Workflow). AreOutputs w.interface.inputs inputs) (same_Some x wanted h)
    (typed_map x.interface.inputs inputs (one_of (gives_all x.interface.inputs inputs) test))

-- ---- worlds

pub contained : {X : Type 0} (xs : List X) (i : ℕ) (x : X) → slice_get xs i ≡ Some x → Contains xs x
contained xs i x h = (i, slice_get_within xs i x h, get_or_from_slice_get xs i x x h)

abbrev pub AreInputs : RunPlan → Execution → Type 0
AreInputs plan x = (wanted : Workflow) → primary_of plan.documents ≡ Some wanted
    → AreOutputs wanted.interface.inputs x.inputs

abbrev pub IsTyped : RunPlan → Settlement → Type 0
IsTyped plan s = IsTypedOutcome plan s.name s.outcome

abbrev pub TypedWorld : RunPlan → World → Type 0
TypedWorld plan w = All (AreInputs plan) w.executions × All (IsTyped plan) w.outcomes

module _ (plan : RunPlan) (w : World) (h : TypedWorld plan w) where
  pub typed_change : (c : Change) → Permits plan w c → TypedWorld plan (with_change w c)
  typed_change no_change permits = h
  typed_change (moment_becomes moment) permits = h
  typed_change (catalog_becomes catalog) permits = h
  typed_change (lets_go ends) permits = h
  typed_change (adds_execution name inputs state) permits = (
    All-push (AreInputs plan) w.executions (record { name = name; inputs = inputs; past = []; state = state }) h.0
        (λ wanted is. typed_inputs plan inputs wanted (primary_of plan.documents) is permits.2),
    h.1,
  )
  typed_change (adds_launch name inputs) permits = h
  typed_change (adds_claim name) permits = h
  typed_change (adds_outcome name o) permits = (
    h.0,
    All-push (IsTyped plan) w.outcomes
        (record { name = name; outcome = o; place = length w.entries }) h.1 permits.1,
  )
  typed_change (adds_version at state) permits =
      let there = named_there w permits.exec at permits.named in (
        All-set (AreInputs plan) w.executions at.0 (with_version state (length w.entries) at.1)
            (All-contains (AreInputs plan) w.executions at.1 h.0 (contained w.executions at.0 at.1 there)) h.0,
        h.1,
      )

pub nothing_typed : (plan : RunPlan) → TypedWorld plan empty_world
nothing_typed plan = (All-nil (AreInputs plan), All-nil (IsTyped plan))

pub history-typed : (plan : RunPlan) (closure : List ℕ) (journal : List Entry) (w : World)
    → IsHistory plan closure journal w → HasTypedRecords plan w
history-typed plan closure journal w history =
    let typed = along_changes plan (TypedWorld plan) (λ v e h. h)
    (λ v c h permits. typed_change plan v h c permits) empty_world w journal
    (nothing_typed plan) history.leads in
    record {
      submitted = λ x wanted there is. All-contains (AreInputs plan) w.executions x typed.0 there wanted is;
      recorded = λ s p outputs there is node.
          typed_map (item_output_variables plan p) outputs
          (All-contains (IsTyped plan) w.outcomes s typed.1 there p outputs node is);
    }
