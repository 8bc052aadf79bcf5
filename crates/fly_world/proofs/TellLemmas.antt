-- A world's lists are those that its journal tells.
use Rattle.std.proofs.Common.{◌≡◌, ◌≢◌, ◌⊎◌, inl, inr, ℕ, ℤ, eqb, true, false, List, [], ◌∷◌, ◌++◌, map, flat_map, fold, set, length, All, Contains, Some, refl, sym, subst, ap, ◌∙◌, zero, suc}
use Rattle.std.specs.Prelude.{pos}
use Rattle.std.specs.Int.{int_max}
use Rattle.std.specs.List.{slice_get}
use Rattle.std.proofs.lemmas.List.{append_assoc, append-nil, map-append}
use Rattle.std.proofs.lemmas.List.Concat.{flat_map-append}
use Rattle.std.proofs.lemmas.Option.{same_Some}
use Rattle.fly_docs.specs.declared.attempt_name.AttemptName.{AttemptName}
use Rattle.fly_policy.specs.declared.outcome.Outcome.{Outcome}
use Rattle.fly_state.specs.declared.slots.ExecState.{ExecState}
use Rattle.fly_state.specs.declared.entries.Entry.{Entry}
use Rattle.fly_state.specs.Plans.{RunPlan}
use Rattle.fly_world.specs.World.{World, Execution, Past, Settlement, empty_world}
use Rattle.fly_world.specs.Changes.{Change, no_change, moment_becomes, catalog_becomes, lets_go, adds_execution, adds_launch, adds_claim, adds_outcome, adds_version, with_change, with_entry, with_version}
use Rattle.fly_world.specs.Journals.{Leads, IsHistory, IsLegalJournal}
use Rattle.fly_world.specs.ReadOff.{launches_by, claims_by, results_by, submissions_by, ticks_by, launched_in, claimed_in, settled_in, submissions_in, ticks_in, versions_of}
use Rattle.fly_world.specs.Laws.{submission_of, settlement_of, TellsJournal, HasSingleLaunches, AreDistinct, settled_names, StandsLater}
use Rattle.fly_world.proofs.StepLemmas.{Permits, launch_in, claim_in, outcome_in, submission_in}
use Rattle.fly_world.proofs.JournalLemmas.{TellsOf, same_entries, step_cases, along, along_changes, entries-are}
use Rattle.fly_world.proofs.LaunchLemmas.{world-single, name_of_launch, name_of_claim, name_of_settlement}
use Rattle.fly_world.proofs.FinalSlots.{named_there, set_apart, set_there, get_front}
use Rattle.std.proofs.lemmas.Bool.Decides.{eqb_tells}

-- ---- lists with one more

-- what entries tell, with one entry more
grown : {A : Type 0} (f : Entry → List A) (es : List Entry) (e : Entry) (old more : List A) → old ≡ flat_map f es
    → f e ≡ more
    → old ++ more ≡ flat_map f (es ++ e ∷ [])
grown f es e old more is_old is_more =
    ap (λ xs. xs ++ more) is_old ∙ ap (λ ys. flat_map f es ++ ys) (sym is_more ∙ sym (append-nil (f e)))
    ∙ sym (flat_map-append f es (e ∷ []))

-- a map over a list in which an element was changed for one that it takes to the same
pub map_set : {X Y : Type 0} (f : X → Y) (xs : List X) (i : ℕ) (x y : X) → slice_get xs i ≡ Some x → f y ≡ f x
    → map f (set xs i y) ≡ map f xs
map_set f [] i x y there same = refl
map_set f (z ∷ zs) zero x y there same = ap (λ v. v ∷ map f zs) (same ∙ ap f (sym (same_Some z x there)))
map_set f (z ∷ zs) (suc i) x y there same = ap (λ vs. f z ∷ vs) (map_set f zs i x y there same)

fold_append : {A B : Type 0} (f : A → B → A) (a : A) (xs ys : List B) → fold f a (xs ++ ys) ≡ fold f (fold f a xs) ys
fold_append f a [] ys = refl
fold_append f a (x ∷ xs) ys = fold_append f (f a x) xs ys

-- ---- what a change adds

module _ (plan : RunPlan) (w : World) where
  launches_with : (c : Change) → map name_of_launch (with_change w c).launches ≡ map name_of_launch w.launches
      ++ launch_in c
  launches_with no_change = sym (append-nil (map name_of_launch w.launches))
  launches_with (moment_becomes moment) = sym (append-nil (map name_of_launch w.launches))
  launches_with (catalog_becomes catalog) = sym (append-nil (map name_of_launch w.launches))
  launches_with (lets_go ends) = sym (append-nil (map name_of_launch w.launches))
  launches_with (adds_execution name inputs state) = sym (append-nil (map name_of_launch w.launches))
  launches_with (adds_launch name inputs) = map-append name_of_launch w.launches
      (record { name = name; inputs = inputs; place = length w.entries } ∷ [])
  launches_with (adds_claim name) = sym (append-nil (map name_of_launch w.launches))
  launches_with (adds_outcome name o) = sym (append-nil (map name_of_launch w.launches))
  launches_with (adds_version at state) = sym (append-nil (map name_of_launch w.launches))

  claims_with : (c : Change) → map name_of_claim (with_change w c).claims ≡ map name_of_claim w.claims ++ claim_in c
  claims_with no_change = sym (append-nil (map name_of_claim w.claims))
  claims_with (moment_becomes moment) = sym (append-nil (map name_of_claim w.claims))
  claims_with (catalog_becomes catalog) = sym (append-nil (map name_of_claim w.claims))
  claims_with (lets_go ends) = sym (append-nil (map name_of_claim w.claims))
  claims_with (adds_execution name inputs state) = sym (append-nil (map name_of_claim w.claims))
  claims_with (adds_launch name inputs) = sym (append-nil (map name_of_claim w.claims))
  claims_with (adds_claim name) = map-append name_of_claim w.claims
      (record { name = name; moment = w.moment; place = length w.entries } ∷ [])
  claims_with (adds_outcome name o) = sym (append-nil (map name_of_claim w.claims))
  claims_with (adds_version at state) = sym (append-nil (map name_of_claim w.claims))

  outcomes_with : (c : Change) → map settlement_of (with_change w c).outcomes ≡ map settlement_of w.outcomes
      ++ outcome_in c
  outcomes_with no_change = sym (append-nil (map settlement_of w.outcomes))
  outcomes_with (moment_becomes moment) = sym (append-nil (map settlement_of w.outcomes))
  outcomes_with (catalog_becomes catalog) = sym (append-nil (map settlement_of w.outcomes))
  outcomes_with (lets_go ends) = sym (append-nil (map settlement_of w.outcomes))
  outcomes_with (adds_execution name inputs state) = sym (append-nil (map settlement_of w.outcomes))
  outcomes_with (adds_launch name inputs) = sym (append-nil (map settlement_of w.outcomes))
  outcomes_with (adds_claim name) = sym (append-nil (map settlement_of w.outcomes))
  outcomes_with (adds_outcome name o) = map-append settlement_of w.outcomes
      (record { name = name; outcome = o; place = length w.entries } ∷ [])
  outcomes_with (adds_version at state) = sym (append-nil (map settlement_of w.outcomes))

  executions_with : (c : Change) → Permits plan w c
      → map submission_of (with_change w c).executions ≡ map submission_of w.executions ++ submission_in c
  executions_with no_change permits = sym (append-nil (map submission_of w.executions))
  executions_with (moment_becomes moment) permits = sym (append-nil (map submission_of w.executions))
  executions_with (catalog_becomes catalog) permits = sym (append-nil (map submission_of w.executions))
  executions_with (lets_go ends) permits = sym (append-nil (map submission_of w.executions))
  executions_with (adds_execution name inputs state) permits =
      map-append submission_of w.executions (record { name = name; inputs = inputs; past = []; state = state } ∷ [])
  executions_with (adds_launch name inputs) permits = sym (append-nil (map submission_of w.executions))
  executions_with (adds_claim name) permits = sym (append-nil (map submission_of w.executions))
  executions_with (adds_outcome name o) permits = sym (append-nil (map submission_of w.executions))
  executions_with (adds_version at state) permits =
      map_set submission_of w.executions at.0 at.1 (with_version state (length w.entries) at.1)
      (named_there w permits.exec at permits.named) refl ∙ sym (append-nil (map submission_of w.executions))

-- ---- worlds

-- what a world's lists have is what its entries tell
record TellsEntries (w : World) : Type 0 where
  submitted : map submission_of w.executions ≡ submissions_in w.entries
  launched : map name_of_launch w.launches ≡ launched_in w.entries
  claimed : map name_of_claim w.claims ≡ claimed_in w.entries
  settled : map settlement_of w.outcomes ≡ settled_in w.entries
  moment : w.moment ≡ fold int_max (pos 0) (ticks_in w.entries)

told_at_first : TellsEntries empty_world
told_at_first = record { submitted = refl; launched = refl; claimed = refl; settled = refl; moment = refl }

module _ (plan : RunPlan) (w : World) (e : Entry) (h : TellsEntries w) where
  told_more : {A : Type 0} (f : Entry → List A) (c : Change) (all old more : List A) → all ≡ old ++ more → old
      ≡ flat_map f w.entries
      → f e ≡ more → all ≡ flat_map f ((with_change w c).entries ++ e ∷ [])
  told_more f c all old more is_all is_old is_more =
      is_all ∙ grown f w.entries e old more is_old is_more
      ∙ ap (λ es. flat_map f (es ++ e ∷ [])) (sym (same_entries w c))

  told_moment : (c : Change) → TellsOf w e.op e.reply c
      → (with_change w c).moment ≡ fold int_max (pos 0) (ticks_in ((with_change w c).entries ++ e ∷ []))
  told_moment c tells =
      let ticks : Entry → List ℤ = λ x. ticks_by x.op x.reply in
      let all : ticks_in w.entries ++ ticks_by e.op e.reply ≡ ticks_in ((with_change w c).entries ++ e ∷ []) =
      told_more ticks c (ticks_in w.entries ++ ticks_by e.op e.reply) (ticks_in w.entries)
      (ticks_by e.op e.reply) refl refl refl in
      tells.4 ∙ ap (λ m. fold int_max m (ticks_by e.op e.reply)) h.moment
      ∙ sym (fold_append int_max (pos 0) (ticks_in w.entries) (ticks_by e.op e.reply)) ∙ ap (fold int_max (pos 0)) all

  told_change : (c : Change) → Permits plan w c → TellsOf w e.op e.reply c
      → TellsEntries (with_entry (with_change w c) e)
  told_change c permits tells = record {
    submitted = told_more (λ x. submissions_by x.op x.reply) c (map submission_of (with_change w c).executions)
        (map submission_of w.executions)
        (submission_in c) (executions_with plan w c permits) h.submitted tells.3;
    launched = told_more (λ x. launches_by x.op x.reply) c (map name_of_launch (with_change w c).launches)
        (map name_of_launch w.launches)
        (launch_in c) (launches_with plan w c) h.launched tells.0;
    claimed = told_more (λ x. claims_by x.op x.reply) c (map name_of_claim (with_change w c).claims)
        (map name_of_claim w.claims)
        (claim_in c) (claims_with plan w c) h.claimed tells.1;
    settled = told_more (λ x. results_by x.op x.reply) c (map settlement_of (with_change w c).outcomes)
        (map settlement_of w.outcomes)
        (outcome_in c) (outcomes_with plan w c) h.settled tells.2;
    moment = told_moment c tells;
  }

pub history-tells : (plan : RunPlan) (closure : List ℕ) (journal : List Entry) (w : World)
    → IsHistory plan closure journal w → TellsJournal journal w
history-tells plan closure journal w history =
    let told = along plan TellsEntries
    (λ v next e h s. step_cases plan TellsEntries v next e s (told_change plan v e h)) empty_world w journal
    told_at_first history.leads in
    let is : w.entries ≡ journal = entries-are plan empty_world w journal history.leads in
    record {
      entries = is;
      submitted = told.submitted ∙ ap submissions_in is;
      launched = told.launched ∙ ap launched_in is;
      claimed = told.claimed ∙ ap claimed_in is;
      settled = told.settled ∙ ap settled_in is;
      moment = told.moment ∙ ap (λ es. fold int_max (pos 0) (ticks_in es)) is;
    }

map_twice : (xs : List Settlement) → map (λ (r : AttemptName × Outcome). r.0) (map settlement_of xs)
    ≡ map name_of_settlement xs
map_twice [] = refl
map_twice (x ∷ xs) = ap (λ ns. x.name ∷ ns) (map_twice xs)

pub journal-single : (plan : RunPlan) (closure : List ℕ) (journal : List Entry) → IsLegalJournal plan closure journal
    → HasSingleLaunches journal
journal-single plan closure journal legal =
    let w = legal.0 in
    let tells = history-tells plan closure journal w legal.1 in
    let single = world-single plan w journal legal.1.leads in
    let names : map name_of_settlement w.outcomes ≡ settled_names journal =
    sym (map_twice w.outcomes) ∙ ap (map (λ (r : AttemptName × Outcome). r.0)) tells.settled in
    record {
      launched = subst AreDistinct tells.launched single.launches;
      claimed = subst AreDistinct tells.claimed single.claims;
      claimed_launched = subst (λ ls. All (Contains ls) (claimed_in journal)) tells.launched
          (subst (All (Contains (map name_of_launch w.launches))) tells.claimed single.claims_launched);
      settled = subst AreDistinct names single.outcomes;
      settled_claimed = subst (λ cs. All (Contains cs) (settled_names journal)) tells.claimed
          (subst (All (Contains (map name_of_claim w.claims))) names single.outcomes_claimed);
    }

-- ---- versions

module _ (number : ℕ) (x : Execution) where
  abbrev Later : World → Type 0
  Later w = StandsLater x w number

  -- in a world where the same execution stands at the number
  later_as : (w v : World) (h : Later w) → slice_get v.executions number ≡ Some h.later → Later v
  later_as w v h there = record {
    later = h.later;
    there = there;
    name = h.name;
    inputs = h.inputs;
    past = h.past;
    past_is = h.past_is;
    since = h.since;
    versions_are = h.versions_are;
  }

  later_version : (plan : RunPlan) (w : World) (at : ℕ × Execution) (state : ExecState) → Later w
      → Permits plan w (adds_version at state)
      → Later (with_change w (adds_version at state))
  later_version plan w at state h permits = by (eqb_tells number at.0)
    where
      by : ((eqb number at.0 ≡ true) × (number ≡ at.0)) ⊎ ((eqb number at.0 ≡ false) × (number ≢ at.0))
          → Later (with_change w (adds_version at state))
      by (inl equal) =
          let there = named_there w permits.exec at permits.named in
          let same : at.1 ≡ h.later = same_Some at.1 h.later
          (sym there ∙ ap (slice_get w.executions) (sym equal.1) ∙ h.there) in
          let place = length w.entries in
          let new = with_version state place at.1 in
          let next : Past = record { state = at.1.state; until = place } in
          record {
            later = new;
            there = subst (λ n. slice_get (set w.executions at.0 new) n ≡ Some new) (sym equal.1)
                (set_there w.executions at.0 new at.1 there);
            name = ap (λ (y : Execution). y.name) same ∙ h.name;
            inputs = ap (λ (y : Execution). y.inputs) same ∙ h.inputs;
            past = h.past ++ next ∷ [];
            past_is = ap (λ (y : Execution). y.past ++ next ∷ []) same ∙ ap (λ ps. ps ++ next ∷ []) h.past_is
                ∙ append_assoc x.past h.past (next ∷ []);
            since = h.since ++ state ∷ [];
            versions_are = ap (λ vs. vs ++ state ∷ []) (map-append (λ (p : Past). p.state) at.1.past (next ∷ []))
                ∙ ap (λ (y : Execution). versions_of y ++ state ∷ []) same
                ∙ ap (λ vs. vs ++ state ∷ []) h.versions_are
                ∙ append_assoc (versions_of x) h.since (state ∷ []);
          }
      by (inr other) =
          later_as w (with_change w (adds_version at state)) h
          (set_apart w.executions at.0 number (with_version state (length w.entries) at.1) h.later h.there other.1)

  later_change : (plan : RunPlan) (w : World) (c : Change) → Later w → Permits plan w c → Later (with_change w c)
  later_change plan w no_change h permits = later_as w (with_change w no_change) h h.there
  later_change plan w (moment_becomes moment) h permits = later_as w (with_change w (moment_becomes moment)) h h.there
  later_change plan w (catalog_becomes catalog) h permits = later_as w
      (with_change w (catalog_becomes catalog)) h h.there
  later_change plan w (lets_go ends) h permits = later_as w (with_change w (lets_go ends)) h h.there
  later_change plan w (adds_execution name inputs state) h permits =
      later_as w (with_change w (adds_execution name inputs state)) h
      (get_front w.executions _ number h.later h.there)
  later_change plan w (adds_launch name inputs) h permits = later_as w
      (with_change w (adds_launch name inputs)) h h.there
  later_change plan w (adds_claim name) h permits = later_as w (with_change w (adds_claim name)) h h.there
  later_change plan w (adds_outcome name o) h permits = later_as w (with_change w (adds_outcome name o)) h h.there
  later_change plan w (adds_version at state) h permits = later_version plan w at state h permits

  pub versions-stay : (plan : RunPlan) (w new : World) (entries : List Entry) → Leads plan w entries new
      → slice_get w.executions number ≡ Some x → Later new
  versions-stay plan w new entries leads there =
      along_changes plan Later (λ v e h. later_as v (with_entry v e) h h.there)
      (λ v c h permits. later_change plan v c h permits) w new entries
      (record {
        later = x;
        there = there;
        name = refl;
        inputs = refl;
        past = [];
        past_is = sym (append-nil x.past);
        since = [];
        versions_are = sym (append-nil (versions_of x));
      }) leads
