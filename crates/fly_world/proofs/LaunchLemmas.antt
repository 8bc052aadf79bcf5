-- Names that are launched, claimed and settled once.
use Rattle.std.proofs.Common.{◌≡◌, ◌≢◌, ℕ, ◌<◌, ◌≤ℤ◌, Bool, true, false, not, cond, eqb, List, [], ◌∷◌, ◌++◌, map, length, find, bytes_eq, ℤ, All, Contains, Option, Some, None, option_map, is_some, refl, sym, subst, ap, ◌∙◌, arith}
use Rattle.std.specs.Option.{option_or}
use Rattle.std.specs.Cmp.Lexicographic.{pointwise_decides}
use Rattle.std.proofs.lemmas.Bool.{and_from, and_parts, true≢false, false≢true, eq-eqb, eqb-true}
use Rattle.std.specs.Int.Signed.{<ℤ-≤ℤ_trans, clash_ℤ}
use Rattle.std.proofs.lemmas.Int.{by_lt_z}
use Rattle.std.proofs.lemmas.List.{map-append, length-map, get_or-map}
use Rattle.std.proofs.lemmas.List.Elements.{All-nil, All-cons, All-push, All-weaker, Contains-append_left, Contains-append_right, Contains-get_or}
use Rattle.std.proofs.lemmas.List.Folds.{find-append}
use Rattle.std.proofs.lemmas.List.Quantifiers.{all_pairs_push}
use Rattle.std.proofs.lemmas.Option.{none-some, same_Some}
use Rattle.std.proofs.lemmas.Slice.Eq.{bytes_eq-Decides}
use Rattle.fly_docs.specs.declared.attempt_name.AttemptName.{AttemptName}
use Rattle.fly_policy.specs.declared.outcome.Outcome.{Outcome}
use Rattle.fly_state.specs.declared.entries.Entry.{Entry}
use Rattle.fly_state.specs.Plans.{RunPlan, same_path}
use Rattle.fly_state.specs.Moves.{same_item}
use Rattle.fly_world.specs.World.{World, Launch, Claim, Settlement, same_name, empty_world, outcome_of, claim_of, unclaimed, is_claimed}
use Rattle.fly_world.specs.Changes.{Change, no_change, moment_becomes, catalog_becomes, lets_go, adds_execution, adds_launch, adds_claim, adds_outcome, adds_version, with_change}
use Rattle.fly_world.specs.Journals.{Leads}
use Rattle.fly_world.specs.Laws.{AreDistinct}
use Rattle.fly_world.proofs.StepLemmas.{Permits}
use Rattle.fly_state.proofs.NameLemmas.{same_name as alike}
use Rattle.fly_world.proofs.RoundLemmas.{same_item-refl}
use Rattle.fly_world.proofs.JournalLemmas.{along_changes}

-- ---- names

pub same_name-refl : (n : AttemptName) → same_name n n ≡ true
same_name-refl n =
    and_from _ _
    (and_from _ _
    (and_from _ _ ((bytes_eq-Decides n.exec n.exec).1 refl)
    ((pointwise_decides bytes_eq-Decides n.path n.path).1 refl))
    (same_item-refl n.item))
    (eq-eqb n.attempt n.attempt refl)

same_item-is : (a b : Option ℕ) → same_item a b ≡ true → a ≡ b
same_item-is None None h = refl
same_item-is None (Some n) h = absurd (false≢true h)
same_item-is (Some m) None h = absurd (false≢true h)
same_item-is (Some m) (Some n) h = ap Some (eqb-true m n h)

pub same_name-is : (a b : AttemptName) → same_name a b ≡ true → a ≡ b
same_name-is a b h =
    let last = and_parts _ (eqb a.attempt b.attempt) h in
    let third = and_parts _ (same_item a.item b.item) last.0 in
    let first = and_parts (bytes_eq a.exec b.exec) (same_path a.path b.path) third.0 in
    alike a b ((bytes_eq-Decides a.exec b.exec).0 first.0)
    ((pointwise_decides bytes_eq-Decides a.path b.path).0 first.1)
    (same_item-is a.item b.item third.1) (eqb-true a.attempt b.attempt last.1)

-- a name that is not found is none of those that are there
module _ {X : Type 0} (name_in : X → AttemptName) (name : AttemptName) where
  pub absent : (xs : List X) → is_some (find (λ (x : X). same_name name (name_in x)) xs) ≡ false
      → All (λ b. b ≢ name) (map name_in xs)
  absent [] free = All-nil (λ b. b ≢ name)
  absent (x ∷ xs) free = by (same_name name (name_in x)) refl free (absent xs)
    where
      by : (b : Bool) → same_name name (name_in x) ≡ b
          → is_some (cond b (Some x) (find (λ (y : X). same_name name (name_in y)) xs)) ≡ false
          → (is_some (find (λ (y : X). same_name name (name_in y)) xs) ≡ false → All (λ b. b ≢ name) (map name_in xs))
          → All (λ b. b ≢ name) (map name_in (x ∷ xs))
      by true same free rest = absurd (true≢false free)
      by false same free rest =
          All-cons (λ b. b ≢ name) (name_in x) (map name_in xs)
          (λ equal. true≢false (sym (same_name-refl name) ∙ subst (λ n. same_name name n ≡ false) equal same))
          (rest free)

  -- so that it may be added
  added : (xs : List X) (x : X) → name_in x ≡ name → is_some (find (λ (x : X). same_name name (name_in x)) xs) ≡ false
      → AreDistinct (map name_in xs) → AreDistinct (map name_in (xs ++ x ∷ []))
  added xs x is_named free distinct =
      let apart = all_pairs_push (λ a b. a ≢ b) (map name_in xs) name distinct (absent xs free) in
      subst AreDistinct (ap (λ n. map name_in xs ++ n ∷ []) (sym is_named)
      ∙ sym (map-append name_in xs (x ∷ []))) apart

  -- what is found has the name
  pub named_same : (xs : List X) (x : X) → find (λ (x : X). same_name name (name_in x)) xs ≡ Some x → name ≡ name_in x
  named_same [] x h = absurd (none-some x h)
  named_same (y ∷ ys) x h = by (same_name name (name_in y)) refl h (named_same ys x)
    where
      by : (b : Bool) → same_name name (name_in y) ≡ b
          → cond b (Some y) (find (λ (z : X). same_name name (name_in z)) ys) ≡ Some x
          → (find (λ (z : X). same_name name (name_in z)) ys ≡ Some x → name ≡ name_in x) → name ≡ name_in x
      by true same h rest = same_name-is name (name_in y) same ∙ ap name_in (same_Some y x h)
      by false same h rest = rest h

-- what has no outcome is found in no list of outcomes
unsettled_name : (o : Option Settlement) → is_some (option_map (λ (s : Settlement). s.outcome) o) ≡ false → is_some o
    ≡ false
unsettled_name None h = refl
unsettled_name (Some s) h = h

-- what is found is there
pub found_there : {X : Type 0} (p : X → Bool) (xs : List X) (x : X) → find p xs ≡ Some x → Contains xs x
found_there p [] x h = absurd (none-some x h)
found_there p (y ∷ ys) x h = by (p y) h (found_there p ys x)
  where
    by : (b : Bool) → cond b (Some y) (find p ys) ≡ Some x → (find p ys ≡ Some x → Contains ys x)
        → Contains (y ∷ ys) x
    by true h rest = subst (Contains (y ∷ ys)) (same_Some y x h) (Contains-get_or (y ∷ ys) 0 y (omega arith))
    by false h rest = Contains-append_right (y ∷ []) ys x (rest h)

contains_map : {X Y : Type 0} (f : X → Y) (xs : List X) (x : X) → Contains xs x → Contains (map f xs) (f x)
contains_map f xs x c = (
  c.0,
  subst (λ n. c.0 < n) (sym (length-map xs f)) c.1,
  get_or-map f xs c.0 x (f x) c.1
      ∙ ap f c.2,
)

-- ---- launches and claims

abbrev pub name_of_launch : Launch → AttemptName
name_of_launch l = l.name

abbrev pub name_of_claim : Claim → AttemptName
name_of_claim c = c.name

abbrev pub name_of_settlement : Settlement → AttemptName
name_of_settlement s = s.name

-- no name is launched, claimed or settled twice; what is settled was claimed, and what is claimed was launched
pub record IsSingle (launched claimed settled : List AttemptName) : Type 0 where
  pub launches : AreDistinct launched
  pub claims : AreDistinct claimed
  pub claims_launched : All (Contains launched) claimed
  pub outcomes : AreDistinct settled
  pub outcomes_claimed : All (Contains claimed) settled

abbrev pub Single : World → Type 0
Single w = IsSingle (map name_of_launch w.launches) (map name_of_claim w.claims) (map name_of_settlement w.outcomes)

-- what contains each of these contains it with one more
module _ {X : Type 0} (name_in : X → AttemptName) (xs : List X) (x : X) where
  more_there : (names : List AttemptName) → All (Contains (map name_in xs)) names
      → All (Contains (map name_in (xs ++ x ∷ []))) names
  more_there names h =
      All-weaker (Contains (map name_in xs)) (Contains (map name_in (xs ++ x ∷ [])))
      (λ n c. subst (λ all. Contains all n) (sym (map-append name_in xs (x ∷ [])))
      (Contains-append_left (map name_in xs) (name_in x ∷ []) n c))
      names h

  one_more_there : (names : List AttemptName) → All (Contains names) (map name_in xs) → Contains names (name_in x)
      → All (Contains names) (map name_in (xs ++ x ∷ []))
  one_more_there names h there =
      subst (All (Contains names)) (sym (map-append name_in xs (x ∷ [])))
      (All-push (Contains names) (map name_in xs) (name_in x) h there)

module _ (plan : RunPlan) (w : World) (h : Single w) where
  single_launch : (l : Launch) → is_some (find (λ (x : Launch). same_name l.name x.name) w.launches) ≡ false
      → Single (record w { launches = w.launches ++ l ∷ [] })
  single_launch l free = record {
    launches = added name_of_launch l.name w.launches l refl free h.launches;
    claims = h.claims;
    outcomes = h.outcomes;
    outcomes_claimed = h.outcomes_claimed;
    claims_launched = more_there name_of_launch w.launches l (map name_of_claim w.claims) h.claims_launched;
  }

  single_claim : (c : Claim) (l : Launch) → is_some (find (λ (x : Claim). same_name c.name x.name) w.claims) ≡ false
      → unclaimed w ≡ Some l → l.name ≡ c.name → Single (record w { claims = w.claims ++ c ∷ [] })
  single_claim c l free first is_named =
      let there = contains_map name_of_launch w.launches l
      (found_there (λ (x : Launch). not (is_claimed w x.name)) w.launches l first) in
      record {
        launches = h.launches;
        outcomes = h.outcomes;
        claims = added name_of_claim c.name w.claims c refl free h.claims;
        claims_launched = one_more_there name_of_claim w.claims c (map name_of_launch w.launches) h.claims_launched
            (subst (Contains (map name_of_launch w.launches)) is_named there);
        outcomes_claimed = more_there name_of_claim w.claims c (map name_of_settlement w.outcomes) h.outcomes_claimed;
      }

  single_outcome : (s : Settlement) (c : Claim)
      → is_some (find (λ (x : Settlement). same_name s.name x.name) w.outcomes) ≡ false
      → claim_of w s.name ≡ Some c → Single (record w { outcomes = w.outcomes ++ s ∷ [] })
  single_outcome s c free claimed =
      let there = contains_map name_of_claim w.claims c
      (found_there (λ (x : Claim). same_name s.name x.name) w.claims c claimed) in
      let same = named_same name_of_claim s.name w.claims c claimed in
      record {
        launches = h.launches;
        claims = h.claims;
        claims_launched = h.claims_launched;
        outcomes = added name_of_settlement s.name w.outcomes s refl free h.outcomes;
        outcomes_claimed = one_more_there name_of_settlement w.outcomes s
            (map name_of_claim w.claims) h.outcomes_claimed
            (subst (Contains (map name_of_claim w.claims)) (sym same) there);
      }

  single_change : (c : Change) → Permits plan w c → Single (with_change w c)
  single_change no_change permits = h
  single_change (moment_becomes moment) permits = h
  single_change (catalog_becomes catalog) permits = h
  single_change (lets_go ends) permits = h
  single_change (adds_execution name inputs state) permits = h
  single_change (adds_launch name inputs) permits = single_launch
      (record { name = name; inputs = inputs; place = length w.entries }) permits.0
  single_change (adds_claim name) permits =
      single_claim (record { name = name; moment = w.moment; place = length w.entries }) permits.1.0 permits.0 permits.1.1 permits.1.2
  single_change (adds_outcome name o) permits =
      single_outcome (record { name = name; outcome = o; place = length w.entries }) permits.2.0
      (unsettled_name (find (λ (x : Settlement). same_name name x.name) w.outcomes) permits.0) permits.2.1
  single_change (adds_version at state) permits = h

no_names : Single empty_world
no_names = record {
  launches = λ i j d lt len. absurd (omega arith);
  claims = λ i j d lt len. absurd (omega arith);
  claims_launched = All-nil (Contains []);
  outcomes = λ i j d lt len. absurd (omega arith);
  outcomes_claimed = All-nil (Contains []);
}

pub world-single : (plan : RunPlan) (w : World) (journal : List Entry) → Leads plan empty_world journal w → Single w
world-single plan w journal leads =
    along_changes plan Single (λ v e h. h)
    (λ v c h permits. single_change plan v h c permits) empty_world w journal no_names leads

-- ---- outcomes

stays_found : (a b : Option Settlement) (o : Outcome) → option_map (λ (s : Settlement). s.outcome) a ≡ Some o
    → option_map (λ (s : Settlement). s.outcome) (option_or a b) ≡ Some o
stays_found None b o h = absurd (none-some o h)
stays_found (Some s) b o h = h

module _ (name : AttemptName) (o : Outcome) where
  abbrev Came : World → Type 0
  Came w = outcome_of w name ≡ Some o

  came_change : (plan : RunPlan) (w : World) (c : Change) → Came w → Permits plan w c → Came (with_change w c)
  came_change plan w no_change h permits = h
  came_change plan w (moment_becomes moment) h permits = h
  came_change plan w (catalog_becomes catalog) h permits = h
  came_change plan w (lets_go ends) h permits = h
  came_change plan w (adds_execution other inputs state) h permits = h
  came_change plan w (adds_launch other inputs) h permits = h
  came_change plan w (adds_claim other) h permits = h
  came_change plan w (adds_outcome other outcome) h permits =
      let p : Settlement → Bool = λ s. same_name name s.name in
      let new : Settlement = record { name = other; outcome = outcome; place = length w.entries } in
      ap (option_map (λ (s : Settlement). s.outcome)) (find-append p w.outcomes (new ∷ []))
      ∙ stays_found (find p w.outcomes) (find p (new ∷ [])) o h
  came_change plan w (adds_version other state) h permits = h

  pub outcome-stays : (plan : RunPlan) (w new : World) (entries : List Entry) → Leads plan w entries new → Came w
      → Came new
  outcome-stays plan w new entries leads h =
      along_changes plan Came (λ v e at. at) (λ v c at permits. came_change plan v c at permits) w new entries h leads

-- ---- the moment

not_after : (a b c : ℤ) → a ≤ℤ b → b ≤ℤ c → a ≤ℤ c
not_after a b c h k = by_lt_z c a (λ less. clash_ℤ (<ℤ-≤ℤ_trans less h) k) (λ is. is)

module _ (start : ℤ) where
  abbrev IsLater : World → Type 0
  IsLater w = start ≤ℤ w.moment

  later_change : (plan : RunPlan) (w : World) (c : Change) → IsLater w → Permits plan w c → IsLater (with_change w c)
  later_change plan w no_change h permits = h
  later_change plan w (moment_becomes moment) h permits = not_after start w.moment moment h permits
  later_change plan w (catalog_becomes catalog) h permits = h
  later_change plan w (lets_go ends) h permits = h
  later_change plan w (adds_execution other inputs state) h permits = h
  later_change plan w (adds_launch other inputs) h permits = h
  later_change plan w (adds_claim other) h permits = h
  later_change plan w (adds_outcome other outcome) h permits = h
  later_change plan w (adds_version other state) h permits = h

  pub never-falls : (plan : RunPlan) (w new : World) (entries : List Entry) → Leads plan w entries new → IsLater w
      → IsLater new
  never-falls plan w new entries leads h =
      along_changes plan IsLater (λ v e at. at)
      (λ v c at permits. later_change plan v c at permits) w new entries h leads
