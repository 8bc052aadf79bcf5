-- Which attempts are launched, claimed and settled behind a step.
use Rattle.std.proofs.Common.{◌≡◌, ◌⊎◌, inl, inr, ⊎_elim, ℕ, Bool, true, false, not, cond, ◌||◌, List, [], ◌∷◌, ◌++◌, map, length, find, All, Contains, Option, Some, None, option_map, is_some, refl, sym, ◌∙◌, ap, subst}
use Rattle.std.specs.Option.{option_or}
use Rattle.std.proofs.lemmas.Bool.{false≢true, true≢false, not-false, or_cases, or_left, or_right}
use Rattle.std.proofs.lemmas.List.Elements.{All-nil, All-cons, All-contains}
use Rattle.std.proofs.lemmas.List.Folds.{find-append}
use Rattle.std.proofs.lemmas.Option.{none-some}
use Rattle.fly_cast.proofs.Options.{is_some-map}
use Rattle.fly_rules.proofs.GroundLemmas.{Contains-map}
use Rattle.fly_docs.specs.declared.attempt_name.AttemptName.{AttemptName}
use Rattle.fly_state.specs.declared.entries.Entry.{Entry}
use Rattle.fly_state.specs.Plans.{RunPlan}
use Rattle.fly_state.proofs.AskedInputs.{found-in, found-one}
use Rattle.fly_state.proofs.Lists.{first_in, of_map}
use Rattle.fly_world.specs.World.{World, Claim, Settlement, same_name, claim_of, outcome_of, is_launched, is_claimed, is_settled, unsettled}
use Rattle.fly_world.specs.Changes.{Change, no_change, moment_becomes, catalog_becomes, lets_go, adds_execution, adds_launch, adds_claim, adds_outcome, adds_version, with_change}
use Rattle.fly_world.specs.Journals.{IsHistory, Step}
use Rattle.fly_world.specs.ReadOff.{claims_by}
use Rattle.fly_world.proofs.JournalLemmas.{step_cases}
use Rattle.fly_world.proofs.LaunchLemmas.{same_name-refl, same_name-is, named_same, found_there, world-single, outcome-stays, name_of_launch, name_of_claim, name_of_settlement}
use Rattle.fly_world.proofs.StepLemmas.{claim_in}

-- ---- what is found by a name

pub some-there : {X : Type 0} (o : Option X) → is_some o ≡ true → (x : X) × (o ≡ Some x)
some-there None h = absurd (false≢true h)
some-there (Some x) h = (x, refl)

module _ {X : Type 0} (p : X → Bool) where
  fails-all : (xs : List X) → find p xs ≡ None → All (λ x. p x ≡ false) xs
  fails-all [] none = All-nil (λ x. p x ≡ false)
  fails-all (x ∷ xs) none = by (p x) refl none (fails-all xs)
    where
      by : (b : Bool) → p x ≡ b → cond b (Some x) (find p xs) ≡ None → (find p xs ≡ None → All (λ y. p y ≡ false) xs)
          → All (λ y. p y ≡ false) (x ∷ xs)
      by true is none rest = absurd (none-some x (sym none))
      by false is none rest = All-cons (λ y. p y ≡ false) x xs is (rest none)

  -- where nothing passes, each element fails; and the other way round
  pub none-passes : (xs : List X) (x : X) → find p xs ≡ None → Contains xs x → p x ≡ false
  none-passes xs x none there = All-contains (λ y. p y ≡ false) xs x (fails-all xs none) there

  pub all-fail : (xs : List X) → ((x : X) → Contains xs x → p x ≡ false) → find p xs ≡ None
  all-fail xs fail = by (find p xs) refl
    where
      by : (o : Option X) → find p xs ≡ o → o ≡ None
      by None is = refl
      by (Some x) is = let found = found-in p xs x is in absurd (true≢false (sym found.1 ∙ fail x found.0))

module _ {X : Type 0} (name_in : X → AttemptName) (name : AttemptName) where
  -- the list has the name
  abbrev pub has_name : List X → Bool
  has_name xs = is_some (find (λ (x : X). same_name name (name_in x)) xs)

  pub name-contained : (xs : List X) → has_name xs ≡ true → Contains (map name_in xs) name
  name-contained xs h =
      let found = some-there (find (λ (x : X). same_name name (name_in x)) xs) h in
      subst (Contains (map name_in xs)) (sym (named_same name_in name xs found.0 found.1))
      (Contains-map name_in xs found.0 (found_there (λ (x : X). same_name name (name_in x)) xs found.0 found.1))

  pub name-found : (xs : List X) → Contains (map name_in xs) name → has_name xs ≡ true
  name-found xs there =
      let at = of_map name_in xs name there in
      let test : X → Bool = λ x. same_name name (name_in x) in
      let passes : test at.0 ≡ true = subst (λ n. same_name name n ≡ true) (sym at.2) (same_name-refl name) in
      ap is_some (found-one test xs at.0 at.1 passes).1

  pub name-pushed : (xs : List X) (x : X) → has_name (xs ++ x ∷ []) ≡ has_name xs || same_name name (name_in x)
  name-pushed xs x =
      let test : X → Bool = λ y. same_name name (name_in y) in
      ap is_some (find-append test xs (x ∷ [])) ∙ by (find test xs) (test x)
    where
      by : (o : Option X) (b : Bool) → is_some (option_or o (cond b (Some x) None)) ≡ is_some o || b
      by None true = refl
      by None false = refl
      by (Some y) b = refl

  pub name-stays : (xs : List X) (x : X) → has_name xs ≡ true → has_name (xs ++ x ∷ []) ≡ true
  name-stays xs x h = name-pushed xs x ∙ or_left (has_name xs) (same_name name (name_in x)) h

  pub name-last : (xs : List X) (x : X) → name ≡ name_in x → has_name (xs ++ x ∷ []) ≡ true
  name-last xs x is =
      name-pushed xs x
      ∙ or_right (has_name xs) (same_name name (name_in x))
      (subst (λ n. same_name name n ≡ true) is (same_name-refl name))

-- a settled attempt has its name among those of the outcomes
pub settled-named : (w : World) (name : AttemptName) → is_settled w name ≡ has_name name_of_settlement name w.outcomes
settled-named w name =
    is_some-map (λ (s : Settlement). s.outcome) (find (λ (s : Settlement). same_name name s.name) w.outcomes)

-- ---- worlds of legal journals

module _ (plan : RunPlan) (closure : List ℕ) (w : World) (history : IsHistory plan closure w.entries w) where
  -- what is claimed is launched
  pub claimed-launched : (name : AttemptName) → is_claimed w name ≡ true → is_launched w name ≡ true
  claimed-launched name h =
      name-found name_of_launch name w.launches
      (All-contains (Contains (map name_of_launch w.launches)) (map name_of_claim w.claims) name
      (world-single plan w w.entries history.leads).claims_launched (name-contained name_of_claim name w.claims h))

  -- what is settled is claimed
  pub settled-claimed : (name : AttemptName) → is_settled w name ≡ true → is_claimed w name ≡ true
  settled-claimed name h =
      name-found name_of_claim name w.claims
      (All-contains (Contains (map name_of_claim w.claims)) (map name_of_settlement w.outcomes) name
      (world-single plan w w.entries history.leads).outcomes_claimed
      (name-contained name_of_settlement name w.outcomes (sym (settled-named w name) ∙ h)))

-- ---- steps

module _ (plan : RunPlan) (w new : World) (e : Entry) (s : Step plan w e new) (name : AttemptName) where
  pub settled-stays : is_settled w name ≡ true → is_settled new name ≡ true
  settled-stays h =
      let o = some-there (outcome_of w name) h in
      ap is_some (outcome-stays name o.0 plan w new (e ∷ []) (new, s, refl) o.1)

  launched_with : (c : Change) → is_launched w name ≡ true → is_launched (with_change w c) name ≡ true
  launched_with no_change h = h
  launched_with (moment_becomes moment) h = h
  launched_with (catalog_becomes catalog) h = h
  launched_with (lets_go ends) h = h
  launched_with (adds_execution other inputs state) h = h
  launched_with (adds_launch other inputs) h =
      name-stays name_of_launch name w.launches (record { name = other; inputs = inputs; place = length w.entries }) h
  launched_with (adds_claim other) h = h
  launched_with (adds_outcome other o) h = h
  launched_with (adds_version at state) h = h

  pub launched-stays : is_launched w name ≡ true → is_launched new name ≡ true
  launched-stays h =
      step_cases plan (λ v. is_launched v name ≡ true) w new e s (λ c permits tells. launched_with c h)

  claim_kept : (c : Change) → is_claimed w name ≡ true → is_claimed (with_change w c) name ≡ true
  claim_kept no_change h = h
  claim_kept (moment_becomes moment) h = h
  claim_kept (catalog_becomes catalog) h = h
  claim_kept (lets_go ends) h = h
  claim_kept (adds_execution other inputs state) h = h
  claim_kept (adds_launch other inputs) h = h
  claim_kept (adds_claim other) h =
      name-stays name_of_claim name w.claims (record { name = other; moment = w.moment; place = length w.entries }) h
  claim_kept (adds_outcome other o) h = h
  claim_kept (adds_version at state) h = h

  pub claimed-stays : is_claimed w name ≡ true → is_claimed new name ≡ true
  claimed-stays h =
      step_cases plan (λ v. is_claimed v name ≡ true) w new e s (λ c permits tells. claim_kept c h)

  claimed_with : (c : Change) → is_claimed (with_change w c) name ≡ true
      → (is_claimed w name ≡ true) ⊎ Contains (claim_in c) name
  claimed_with no_change h = inl h
  claimed_with (moment_becomes moment) h = inl h
  claimed_with (catalog_becomes catalog) h = inl h
  claimed_with (lets_go ends) h = inl h
  claimed_with (adds_execution other inputs state) h = inl h
  claimed_with (adds_launch other inputs) h = inl h
  claimed_with (adds_claim other) h =
      let c : Claim = record { name = other; moment = w.moment; place = length w.entries } in
      ⊎_elim inl
      (λ same. inr (subst (λ n. Contains (n ∷ []) name) (same_name-is name other same) (first_in name [])))
      (or_cases (is_claimed w name) (same_name name other) (sym (name-pushed name_of_claim name w.claims c) ∙ h))
  claimed_with (adds_outcome other o) h = inl h
  claimed_with (adds_version at state) h = inl h

  -- what is claimed was claimed before, or the entry claims it
  pub claimed-cases : is_claimed new name ≡ true → (is_claimed w name ≡ true) ⊎ Contains (claims_by e.op e.reply) name
  claimed-cases =
      step_cases plan (λ v. is_claimed v name ≡ true
      → (is_claimed w name ≡ true) ⊎ Contains (claims_by e.op e.reply) name)
      w new e s
      (λ c permits tells h. subst (λ ns. (is_claimed w name ≡ true) ⊎ Contains ns name) (sym tells.1)
      (claimed_with c h))

  claims_with : (c : Change) → name ∷ [] ≡ claim_in c → is_claimed (with_change w c) name ≡ true
  claims_with no_change tells = cc
  claims_with (moment_becomes moment) tells = cc
  claims_with (catalog_becomes catalog) tells = cc
  claims_with (lets_go ends) tells = cc
  claims_with (adds_execution other inputs state) tells = cc
  claims_with (adds_launch other inputs) tells = cc
  claims_with (adds_claim other) tells =
      name-last name_of_claim name w.claims (record { name = other; moment = w.moment; place = length w.entries }) (cc)
  claims_with (adds_outcome other o) tells = cc
  claims_with (adds_version at state) tells = cc

  -- what the entry claims is claimed
  pub claims-there : claims_by e.op e.reply ≡ name ∷ [] → is_claimed new name ≡ true
  claims-there is =
      step_cases plan (λ v. is_claimed v name ≡ true) w new e s (λ c permits tells. claims_with c (sym is ∙ tells.1))

-- ---- claimed attempts without an outcome

-- each claimed attempt has an outcome, but this one, where one is given
abbrev pub IsSettledBut : Option AttemptName → World → Type 0
IsSettledBut one w = (name : AttemptName) → is_claimed w name ≡ true → (is_settled w name ≡ true) ⊎ (one ≡ Some name)

nothing-named : {X Y : Type 0} (f : X → Y) (o : Option X) → option_map f o ≡ None → o ≡ None
nothing-named f None e = refl
nothing-named f (Some x) e = absurd (none-some (f x) (sym e))

abbrev lacks : World → Claim → Bool
lacks w c = not (is_settled w c.name)

pub settled-from : (w : World) → unsettled w ≡ None → IsSettledBut None w
settled-from w none name claimed =
    let c = some-there (claim_of w name) claimed in
    let fails = none-passes (lacks w) w.claims c.0
    (nothing-named (λ (x : Claim). x.name) (find (lacks w) w.claims) none)
    (found_there (λ (x : Claim). same_name name x.name) w.claims c.0 c.1) in
    inl (subst (λ n. is_settled w n ≡ true) (sym (named_same name_of_claim name w.claims c.0 c.1))
    (not-false (is_settled w c.0.name) fails))

pub settled-to : (w : World) → IsSettledBut None w → unsettled w ≡ None
settled-to w settled =
    ap (option_map (λ (x : Claim). x.name)) (all-fail (lacks w) w.claims (λ c there.
    ap not (⊎_elim (λ is. is) (λ other. absurd (none-some c.name other))
    (settled c.name (name-found name_of_claim c.name w.claims (Contains-map name_of_claim w.claims c there))))))
