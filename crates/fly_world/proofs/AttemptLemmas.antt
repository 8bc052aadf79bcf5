-- How attempts stand by their numbers, what is at the spot of numbers, and the answers that follow.
use Rattle.std.proofs.Common.{◌≡◌, ◌≢◌, ℕ, zero, suc, ◌+◌, Bool, true, false, not, ◌&&◌, ◌||◌, List, [], ◌∷◌, map, length, find, bytes_eq, All, AllPairs, Option, Some, None, Ok, option_map, option_and_then, option_to_list, is_some, unwrap_or, nat_eq, nat_lt, refl, sym, ◌∙◌, ap, subst, ⊎_elim, arith}
use Rattle.std.specs.List.{slice_get, position, list_any, enumerate_from}
use Rattle.std.specs.Option.{option_map_or}
use Rattle.std.proofs.lemmas.Bool.{and_from, and_parts, true≢false, false≢true, cond-true, cond-false, lt-ltb}
use Rattle.std.proofs.lemmas.List.Elements.{All-contains}
use Rattle.std.proofs.lemmas.List.Quantifiers.{position-Some}
use Rattle.std.proofs.lemmas.Option.{none-some, same_Some, slice_get_cases, slice_get_within, slice_get-map, get_or_from_slice_get}
use Rattle.std.proofs.lemmas.Slice.Eq.{bytes_eq-Decides}
use Rattle.fly_types.specs.declared.literals.LiteralMap.{LiteralMap}
use Rattle.fly_types.specs.Same.{same_map}
use Rattle.fly_docs.specs.declared.attempt_name.AttemptName.{AttemptName}
use Rattle.fly_docs.specs.Plans.{PlanNode}
use Rattle.fly_policy.specs.declared.outcome.Outcome.{Outcome}
use Rattle.fly_cast.proofs.Options.{map-some, is_some-map}
use Rattle.fly_attempts.specs.declared.parts.Handout.{Handout}
use Rattle.fly_attempts.specs.Parts.{handout_of, ending_of}
use Rattle.fly_attempts.specs.Attempts.{number_of, claim_at, settlement_at, settlement_of}
use Rattle.fly_attempts.specs.Attempts.{claim_of as claim_in}
use Rattle.fly_state.specs.declared.phase.Phase.{Phase}
use Rattle.fly_state.specs.declared.phase.Phase.TheVariants as phase
use Rattle.fly_state.specs.declared.slots.SlotState.{SlotState}
use Rattle.fly_state.specs.declared.slots.NodeState.{NodeState}
use Rattle.fly_state.specs.declared.slots.ExecState.{ExecState}
use Rattle.fly_state.specs.declared.moves.At.{At}
use Rattle.fly_state.specs.declared.entries.Reply.TheVariants as reply
use Rattle.fly_state.specs.Inputs.{inputs_at}
use Rattle.fly_state.specs.Laws.{slot_at}
use Rattle.fly_state.specs.Moves.{where_true}
use Rattle.fly_state.specs.OfPlan.{IsOfPlan, may_ask_inputs, may_ask_inputs_at, is_aborted}
use Rattle.fly_state.specs.Plans.{RunPlan, node_numbered}
use Rattle.fly_state.specs.States.{fresh_node, node_state, phase_of, is_running, is_not_yet_started, is_skipped}
use Rattle.fly_state.proofs.PlaceLemmas.{find_nowhere, find_at_place}
use Rattle.fly_world.specs.declared.answers.Change.TheVariants as change
use Rattle.fly_world.specs.declared.spots.Spot as numbers
use Rattle.fly_world.specs.World.{World, Execution, Launch, Claim, Settlement, same_name, current_of, is_launched, is_settled, claim_of}
use Rattle.fly_world.specs.Answers.{change_of, CanMake}
use Rattle.fly_world.specs.Attempts.{IsGoing}
use Rattle.fly_world.specs.Changes.{adds_launch, adds_outcome, no_change}
use Rattle.fly_world.specs.Spots.{Spot, are_ids, attempt_spot, attempt_at, runs, is_value, has_inputs}
use Rattle.fly_world.specs.Steps.{Answer, says, does, if_known, if_claimed, on_attempt, launched, is_overdue, timed_out, expired, is_outcome_at, finished, on_finish}
use Rattle.fly_world.specs.Store.{StoreLists, attempts_in, spot_at}
use Rattle.fly_world.specs.Versions.{IsWorldOfPlan}
use Rattle.fly_world.proofs.FinalSlots.{state_current}
use Rattle.fly_world.proofs.LaunchLemmas.{same_name-is, named_same, found_there, name_of_claim}

-- ---- attempts by their numbers

-- what stands at the first place that passes
place-there : {X : Type 0} (p : X → Bool) (xs : List X) (i : ℕ) → position p xs ≡ Some i
    → (x : X) × (slice_get xs i ≡ Some x) × (p x ≡ true)
place-there p [] i e = absurd (none-some i e)
place-there p (x ∷ xs) i e =
    let found = position-Some p (x ∷ xs) i x e in
    ⊎_elim (λ at. (at.0, at.2, ap p (sym (get_or_from_slice_get (x ∷ xs) i at.0 x at.2)) ∙ found.1))
    (λ past. absurd (omega (arith, past.0, found.0)))
    (slice_get_cases (x ∷ xs) i).1

-- what maps to nothing is nothing
nothing-mapped : {X Y : Type 0} (f : X → Y) (o : Option X) → option_map f o ≡ None → o ≡ None
nothing-mapped f None e = refl
nothing-mapped f (Some x) e = absurd (none-some (f x) (sym e))

-- there is a first place where there is a first element
is_some-place : {X : Type 0} (p : X → Bool) (xs : List X) → is_some (position p xs) ≡ is_some (find p xs)
is_some-place p xs = by (position p xs) refl
  where
    by : (o : Option ℕ) → position p xs ≡ o → is_some o ≡ is_some (find p xs)
    by None e = sym (ap is_some (find_nowhere p xs e))
    by (Some i) e = sym (ap is_some (find_at_place p xs i e ∙ (place-there p xs i e).1))

module _ (w : World) (name : AttemptName) where
  -- what was launched has a number
  pub launched-number : is_some (number_of (attempts_in w) name) ≡ is_launched w name
  launched-number = is_some-place (λ (l : Launch). same_name name l.name) w.launches

  -- what was not launched was not claimed
  pub claim-launched : All (λ (c : Claim). is_launched w c.name ≡ true) w.claims
      → number_of (attempts_in w) name ≡ None → claim_of w name ≡ None
  claim-launched launched none = by (claim_of w name) refl
    where
      by : (o : Option Claim) → claim_of w name ≡ o → o ≡ None
      by None e = refl
      by (Some c) e =
          let there = found_there (λ (x : Claim). same_name name x.name) w.claims c e in
          let same : name ≡ c.name = named_same name_of_claim name w.claims c e in
          let was : is_launched w c.name ≡ true =
          All-contains (λ (x : Claim). is_launched w x.name ≡ true) w.claims c launched there in
          absurd (true≢false (sym was ∙ ap (is_launched w) (sym same)
          ∙ sym launched-number ∙ ap is_some none))

  module _ (number : ℕ) (numbered : number_of (attempts_in w) name ≡ Some number) where
    the-launch : (l : Launch) × (slice_get w.launches number ≡ Some l) × (same_name name l.name ≡ true)
    the-launch = place-there (λ (l : Launch). same_name name l.name) w.launches number numbered

    the-name : name ≡ the-launch.0.name
    the-name = same_name-is name the-launch.0.name the-launch.2

    -- the claim of the number is that of the name
    pub claim-numbered : claim_at (attempts_in w) number ≡ claim_of w name
    claim-numbered =
        ap (option_and_then (λ (l : Launch). claim_in (attempts_in w) l.name)) the-launch.1
        ∙ ap (claim_of w) (sym the-name)

    -- and so is its settlement
    pub settlement-numbered : settlement_at (attempts_in w) number ≡ settlement_of (attempts_in w) name
    settlement-numbered =
        ap (option_and_then (λ (l : Launch). settlement_of (attempts_in w) l.name)) the-launch.1
        ∙ ap (settlement_of (attempts_in w)) (sym the-name)

    -- the outcome of the number is that of the name
    pub outcome-numbered : (plan : RunPlan) (o : Outcome)
        → change_of plan w (change.Outcome number o) ≡ adds_outcome name o
    outcome-numbered plan o =
        ap (λ l. option_map_or (λ (l : Launch). adds_outcome l.name o) l no_change) the-launch.1
        ∙ ap (λ n. adds_outcome n o) (sym the-name)

    -- nobody has claimed the name where nobody has the number
    pub unclaimed-number : option_map handout_of (claim_at (attempts_in w) number) ≡ None → claim_of w name ≡ None
    unclaimed-number none =
        sym claim-numbered ∙ nothing-mapped handout_of (claim_at (attempts_in w) number) none

    -- the claim of the name, where the number was handed out
    pub claimed-number : (h : Handout) → option_map handout_of (claim_at (attempts_in w) number) ≡ Some h
        → (c : Claim) × (claim_of w name ≡ Some c) × (handout_of c ≡ h)
    claimed-number h some =
        let made = map-some handout_of (claim_at (attempts_in w) number) h some in
        (made.0, sym claim-numbered ∙ made.1, sym made.2)

    -- the name is settled where the number is
    pub settled-number : is_some (option_map (ending_of number) (settlement_at (attempts_in w) number))
        ≡ is_settled w name
    settled-number =
        is_some-map (ending_of number) (settlement_at (attempts_in w) number)
        ∙ ap is_some settlement-numbered
        ∙ sym (is_some-map (λ (s : Settlement). s.outcome) (settlement_of (attempts_in w) name))

-- what was handed out and has no ending goes on
pub going-by : (s : StoreLists) (place : Spot) (name : AttemptName) (number : ℕ) (overdue : Bool) (h : Handout)
    → number_of (attempts_in s.world) name ≡ Some number
    → option_map handout_of (claim_at (attempts_in s.world) number) ≡ Some h
    → is_some (option_map (ending_of number) (settlement_at (attempts_in s.world) number)) ≡ false
    → ((c : Claim) → handout_of c ≡ h → is_overdue s.plan s.world place c ≡ overdue)
    → IsGoing s place name number overdue
going-by s place name number overdue h numbered handed unsettled due =
    let claim = claimed-number s.world name number numbered h handed in
    record {
      numbered = numbered;
      claim = claim.0;
      claimed = claim.1;
      unsettled = sym (settled-number s.world name number numbered) ∙ unsettled;
      due = due claim.0 claim.2;
    }

-- what goes on may be settled
pub going-settles : (s : StoreLists) (spot : Spot) (name : AttemptName) (number : ℕ) (overdue : Bool) (o : Outcome)
    → IsGoing s spot name number overdue → CanMake s (change.Outcome number o)
going-settles s spot name number overdue o going = (
  ap is_some (claim-numbered s.world name number going.numbered ∙ going.claimed),
  settlement-numbered s.world name number going.numbered
      ∙ unsettled (settlement_of (attempts_in s.world) name) going.unsettled,
)
  where
    unsettled : (x : Option Settlement) → is_some (option_map (λ (y : Settlement). y.outcome) x) ≡ false → x ≡ None
    unsettled None h = refl
    unsettled (Some y) h = absurd (true≢false h)

-- ---- spots

-- What is at the spot of numbers.
pub record IsPlace (plan : RunPlan) (w : World) (s : numbers.Spot) (place : Spot) : Type 0 where
  pub node_number : place.number ≡ s.node
  pub execution : slice_get w.executions s.execution ≡ Some place.execution.1
  pub node : node_numbered plan s.node ≡ Some place.node

abbrev placed : ℕ → ℕ → Execution → PlanNode → Spot
placed i number x p = record { execution = (i, x); number = number; node = p }

pub place-of : (plan : RunPlan) (w : World) (s : numbers.Spot) (place : Spot) → spot_at plan w s ≡ Some place
    → IsPlace plan w s place
place-of plan w s place = by (slice_get w.executions s.execution) (node_numbered plan s.node) refl refl
  where
    by : (x : Option Execution) (p : Option PlanNode) → slice_get w.executions s.execution ≡ x
        → node_numbered plan s.node ≡ p
        → option_and_then (λ (e : Execution). option_map (placed s.execution s.node e) p) x ≡ Some place
        → IsPlace plan w s place
    by None p here node e = absurd (none-some place e)
    by (Some x) None here node e = absurd (none-some place e)
    by (Some x) (Some p) here node e =
        let is = same_Some (placed s.execution s.node x p) place e in
        record {
          node_number = ap (λ (q : Spot). q.number) (sym is);
          execution = here ∙ ap (λ (q : Spot). Some q.execution.1) is;
          node = node ∙ ap (λ (q : Spot). Some q.node) is;
        }

-- a spot that was found
pub found-spot : {X : Type 0} (at : Option X) (o : Option X) → Some at ≡ option_map Some o
    → (x : X) × (o ≡ Some x) × (at ≡ Some x)
found-spot at None e = absurd (none-some at (sym e))
found-spot at (Some x) e = (x, refl, same_Some at (Some x) e)

-- no spot was found
pub missing-spot : {X : Type 0} (o : Option X) → None ≡ option_map Some o → o ≡ None
missing-spot None e = refl
missing-spot (Some x) e = absurd (none-some (Some x) e)

-- what is at the spot that was found, or nothing
module _ {S X : Type 0} (f : S → Option X) where
  pub joined-spot : (r : Option S) (o : Option X) → option_map f r ≡ option_map Some o → option_and_then f r ≡ o
  joined-spot None o e = sym (missing-spot o e)
  joined-spot (Some s) o e = let found = found-spot (f s) o e in found.2 ∙ sym found.1

-- ---- states

-- among distinct names the execution of a number is that of its name
named-number : (xs : List Execution) (k i : ℕ) (x : Execution)
    → AllPairs (λ a b. a ≢ b) (map (λ (y : Execution). y.name) xs) → slice_get xs i ≡ Some x
    → find (λ (at : ℕ × Execution). bytes_eq x.name at.1.name) (enumerate_from k xs) ≡ Some (k + i, x)
named-number [] k i x distinct there = absurd (none-some x there)
named-number (y ∷ ys) k zero x distinct there =
    let same : y ≡ x = same_Some y x there in
    cond-true (bytes_eq x.name y.name) (Some (k, y)) _
    ((bytes_eq-Decides x.name y.name).1 (ap (λ (z : Execution). z.name) (sym same)))
    ∙ ap (λ z. Some (k, z)) same ∙ ap (λ n. Some (n, x)) (omega arith)
named-number (y ∷ ys) k (suc i) x distinct there =
    cond-false (bytes_eq x.name y.name) (Some (k, y)) _ (other (bytes_eq x.name y.name) refl)
    ∙ named-number ys (k + 1) i x (λ a b d before in_ys. distinct (suc a) (suc b) d (omega arith) (omega arith)) there
    ∙ ap (λ n. Some (n, x)) (omega arith)
  where
    named : slice_get (map (λ (z : Execution). z.name) ys) i ≡ Some x.name
    named = slice_get-map (λ (z : Execution). z.name) ys i ∙ ap (option_map (λ (z : Execution). z.name)) there

    apart : y.name ≢ x.name
    apart e =
        let within = slice_get_within (map (λ (z : Execution). z.name) ys) i x.name named in
        distinct 0 (suc i) x.name (omega arith) (omega arith)
        (e ∙ sym (get_or_from_slice_get (map (λ (z : Execution). z.name) ys) i x.name x.name named))

    other : (b : Bool) → bytes_eq x.name y.name ≡ b → b ≡ false
    other true e = absurd (apart (sym ((bytes_eq-Decides x.name y.name).0 e)))
    other false e = refl

-- the current version of each execution is of the plan
pub current-of_plan : (plan : RunPlan) (w : World) → IsWorldOfPlan plan w → (i : ℕ) (x : Execution)
    → slice_get w.executions i ≡ Some x → IsOfPlan plan x.state
current-of_plan plan w h i x there =
    subst (IsOfPlan plan) (state_current x)
    (h.views x.name (i, x) (current_of x)
    (named-number w.executions 0 i x h.names.distinct there ∙ ap (λ n. Some (n, x)) (omega arith))
    (omega arith)).state

-- the slot that runs
running-slot : (spot : Spot) (name : AttemptName) → runs spot name ≡ true
    → (slot : SlotState) × (slot_at spot.execution.1.state (attempt_at spot name) ≡ Some slot)
    × (is_running slot.phase ≡ true)
running-slot spot name = by (slot_at spot.execution.1.state (attempt_at spot name)) refl
  where
    or-nothing : (b : Bool) → (b || false) ≡ true → b ≡ true
    or-nothing true e = refl
    or-nothing false e = e

    by : (o : Option SlotState) → slot_at spot.execution.1.state (attempt_at spot name) ≡ o
        → list_any (λ (slot : SlotState). is_running slot.phase && nat_eq slot.attempt name.attempt) (option_to_list o)
        ≡ true
        → (slot : SlotState) × (slot_at spot.execution.1.state (attempt_at spot name) ≡ Some slot)
        × (is_running slot.phase ≡ true)
    by None there e = absurd (false≢true e)
    by (Some slot) there e =
        (slot, there, (and_parts (is_running slot.phase) (nat_eq slot.attempt name.attempt) (or-nothing _ e)).0)

started : (b : Bool) (f : Phase) → is_running f ≡ true
    → ((b || not (is_not_yet_started f || is_skipped f || is_aborted f)) || false) ≡ true
started true f e = refl
started false phase.Running e = refl
started false phase.NotYetStarted e = absurd (false≢true e)
started false phase.Queued e = absurd (false≢true e)
started false phase.RetryableFailure e = absurd (false≢true e)
started false phase.Succeeding e = absurd (false≢true e)
started false phase.Succeeded e = absurd (false≢true e)
started false phase.Failed e = absurd (false≢true e)
started false phase.TimedOut e = absurd (false≢true e)
started false phase.Skipped e = absurd (false≢true e)
started false phase.Aborted e = absurd (false≢true e)

-- the inputs of a slot that runs may be asked for
asked-running : (plan : RunPlan) (s : ExecState) (i : ℕ) (item : Option ℕ) (p : PlanNode) (slot : SlotState)
    → node_numbered plan i ≡ Some p → slot_at s (record { node = Some i; item = item }) ≡ Some slot
    → is_running slot.phase ≡ true → may_ask_inputs_at plan s (record { node = Some i; item = item }) ≡ true
asked-running plan s i None p slot planned there running =
    ap (λ o. list_any (may_ask_inputs plan s i) (option_to_list o)) planned
    ∙ started _ (phase_of s i) (own (slice_get s.nodes i) refl there)
  where
    own : (o : Option NodeState) → slice_get s.nodes i ≡ o → option_map (λ (n : NodeState). n.own) o ≡ Some slot
        → is_running (phase_of s i) ≡ true
    own None here e = absurd (none-some slot e)
    own (Some n) here e =
        ap (λ o. is_running (unwrap_or o fresh_node).own.phase) here
        ∙ ap (λ (x : SlotState). is_running x.phase) (same_Some n.own slot e) ∙ running
asked-running plan s i (Some k) p slot planned there running =
    and_from _ _ (ap is_some planned) (inside (slice_get s.nodes i) refl there)
  where
    inside : (o : Option NodeState) → slice_get s.nodes i ≡ o
        → option_and_then (λ (n : NodeState). slice_get n.items k) o ≡ Some slot
        → nat_lt k (length (node_state s i).items) ≡ true
    inside None here e = absurd (none-some slot e)
    inside (Some n) here e =
        ap (λ o. nat_lt k (length (unwrap_or o fresh_node).items)) here
        ∙ lt-ltb k (length n.items) (slice_get_within n.items k slot e)

module _ (plan : RunPlan) (w : World) (s : numbers.Spot) (place : Spot) (at : spot_at plan w s ≡ Some place)
    (name : AttemptName) (x : Execution) (there : slice_get w.executions s.execution ≡ Some x) where
  abbrev the-slot : At
  the-slot = record { node = Some s.node; item = name.item }

  same-slot : (place.execution.1 ≡ x) × (attempt_at place name ≡ the-slot)
  same-slot =
      let is = place-of plan w s place at in
      (same_Some _ _ (sym is.execution ∙ there), ap (λ n. record { node = Some n; item = name.item }) is.node_number)

  -- where an attempt runs, its inputs may be asked for
  pub asked-inputs : runs place name ≡ true → may_ask_inputs_at plan x.state the-slot ≡ true
  asked-inputs running =
      let found = running-slot place name running in
      asked-running plan x.state s.node name.item place.node found.0 (place-of plan w s place at).node
      ((λ i. slot_at (sym same-slot.0 i).state (sym same-slot.1 i)) ∙ found.1) found.2

  -- the inputs that were asked for are those of the attempt
  pub wanted-inputs : (wanted inputs : LiteralMap) → inputs_at plan x.state the-slot ≡ Ok wanted
      → has_inputs plan place name inputs ≡ same_map wanted inputs
  wanted-inputs wanted inputs value =
      ap (λ t. is_value t inputs) ((λ i. inputs_at plan (same-slot.0 i).state (same-slot.1 i)) ∙ value)

-- ---- answers

module _ (plan : RunPlan) (w : World) (name : AttemptName) (f : Spot → Answer) where
  -- the answer on an attempt that is of the plan
  pub attempt-known : (place : Spot) → are_ids name.exec name.path ≡ true → attempt_spot plan w name ≡ Some place
      → on_attempt plan w name f ≡ Some (f place)
  attempt-known place ids there =
      ap (λ b. where_true b (Some (if_known f (attempt_spot plan w name)))) ids
      ∙ ap (λ o. Some (if_known f o)) there

-- the answer on an outcome that may be one
pub outcome-known : (plan : RunPlan) (w : World) (name : AttemptName) (o : Outcome) (place : Spot)
    → is_outcome_at plan o (attempt_spot plan w name) ≡ true → are_ids name.exec name.path ≡ true
    → attempt_spot plan w name ≡ Some place → on_finish plan w name o ≡ Some (finished plan w name o place)
outcome-known plan w name o place is ids there =
    ap (λ b. where_true b (on_attempt plan w name (finished plan w name o))) is
    ∙ attempt-known plan w name (finished plan w name o) place ids there

module _ (plan : RunPlan) (w : World) (name : AttemptName) (inputs : LiteralMap) (place : Spot) where
  pub launched-already : is_launched w name ≡ true → launched plan w name inputs place ≡ says reply.Already
  launched-already was = cond-true (is_launched w name) _ _ was

  module _ (not_yet : is_launched w name ≡ false) where
    pub launched-idle : runs place name ≡ false → launched plan w name inputs place ≡ says reply.NotRunning
    launched-idle idle =
        cond-false (is_launched w name) _ _ not_yet ∙ cond-true (not (runs place name)) _ _ (ap not idle)

    module _ (running : runs place name ≡ true) where
      pub launched-other : has_inputs plan place name inputs ≡ false
          → launched plan w name inputs place ≡ says reply.BadInputs
      launched-other other =
          cond-false (is_launched w name) _ _ not_yet
          ∙ cond-false (not (runs place name)) _ _ (ap not running)
          ∙ cond-true (not (has_inputs plan place name inputs)) _ _ (ap not other)

      pub launched-new : has_inputs plan place name inputs ≡ true
          → launched plan w name inputs place ≡ does reply.Launched (adds_launch name inputs)
      launched-new same =
          cond-false (is_launched w name) _ _ not_yet
          ∙ cond-false (not (runs place name)) _ _ (ap not running)
          ∙ cond-false (not (has_inputs plan place name inputs)) _ _ (ap not same)

module _ (plan : RunPlan) (w : World) (name : AttemptName) (place : Spot) where
  on-claim : (f : Claim → Answer) (c : Claim) → claim_of w name ≡ Some c → if_claimed w name f ≡ f c
  on-claim f c e = ap (λ o. option_map_or f o (says reply.NotClaimed)) e

module _ (s : StoreLists) (name : AttemptName) (place : Spot) (number : ℕ) where
  pub expired-over : IsGoing s place name number true → expired s.plan s.world name place ≡ timed_out name
  expired-over going =
      on-claim s.plan s.world name place _ going.claim going.claimed
      ∙ cond-false (is_settled s.world name) _ _ going.unsettled
      ∙ cond-false (not (is_overdue s.plan s.world place going.claim)) _ _ (ap not going.due)

  pub finished-going : (o : Outcome) → IsGoing s place name number false
      → finished s.plan s.world name o place ≡ does reply.Recorded (adds_outcome name o)
  finished-going o going =
      on-claim s.plan s.world name place _ going.claim going.claimed
      ∙ cond-false (is_settled s.world name) _ _ going.unsettled
      ∙ cond-false (is_overdue s.plan s.world place going.claim) _ _ going.due

  pub finished-over : (o : Outcome) → IsGoing s place name number true
      → finished s.plan s.world name o place ≡ timed_out name
  finished-over o going =
      on-claim s.plan s.world name place _ going.claim going.claimed
      ∙ cond-false (is_settled s.world name) _ _ going.unsettled
      ∙ cond-true (is_overdue s.plan s.world place going.claim) _ _ going.due

  -- the change of an outcome by its number
  pub going-outcome : (overdue : Bool) (o : Outcome) → IsGoing s place name number overdue
      → change_of s.plan s.world (change.Outcome number o) ≡ adds_outcome name o
  going-outcome overdue o going = outcome-numbered s.world name number going.numbered s.plan o
