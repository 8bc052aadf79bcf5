-- The tables beside the launches: what is told by them, and how they are kept.
use Rattle.std.proofs.Common.{◌≡◌, ℕ, ◌+◌, ◌<◌, ◌≤◌, Bool, true, false, not, cond, List, [], ◌∷◌, ◌++◌, length, set, get_or, Option, Some, None, refl, sym, ◌∙◌, ap, subst, inl, inr, ⊎_elim, find, All, is_some, length-append, arith}
use Rattle.std.specs.List.{slice_get, enumerate_from, count_by}
use Rattle.std.specs.Option.{option_map, option_and_then, IsSome, IfSome}
use Rattle.std.proofs.lemmas.Bool.{true≢false, false≢true, cases_lt, cases_eq, eq-eqb, ne_eqb, eqb-true}
use Rattle.std.proofs.lemmas.List.{length-set}
use Rattle.std.proofs.lemmas.List.Elements.{All-push, All-weaker}
use Rattle.std.proofs.lemmas.List.Sums.{sum_by-set, sum_by_push, count_by-le-length}
use Rattle.std.proofs.lemmas.Option.{slice_get_past, slice_get_within, get_or_from_slice_get, slice_get-get_or, same_Some, none-some}
use Rattle.std.proofs.Math.Dec.{eqb}
use Rattle.fly_docs.specs.declared.attempt_name.AttemptName.{AttemptName}
use Rattle.fly_attempts.specs.declared.parts.Launch.{Launch}
use Rattle.fly_attempts.specs.declared.parts.Handout.{Handout}
use Rattle.fly_attempts.specs.declared.parts.Ending.{Ending}
use Rattle.fly_attempts.specs.Parts.{Claim, Settlement, same_name, handout_of, claim_from, ending_of, settlement_from}
use Rattle.fly_attempts.specs.Launches.{number_in}
use Rattle.fly_attempts.specs.Attempts.{AttemptLists, claim_at, settlement_of, settlement_at, is_claimed, is_settled, unclaimed, unsettled, with_launch, with_claim, with_settlement}
use Rattle.fly_attempts.specs.Tables.{with_names, claims_from, settlements_from, lists_of, HasOwnNames, end_of, IsFirstOpen, HasTables}
use Rattle.fly_attempts.proofs.ListLemmas.{get_before, get_last, get_pushed, get_within, some_within, get_set_here, get_set_other, position_last, position_kept, fails_all, no_position, find_by_position, place_within, find_first, find_passes, enumerate_last, enumerate_at, enumerated_within}
use Rattle.fly_attempts.proofs.NameLemmas.{same_back}
use Rattle.fly_attempts.proofs.NamedLemmas.{AreNumbered, names_kept, names_more, names_get, names_found}

-- a test as a number
abbrev one_if : Bool → ℕ
one_if b = cond b 1 0

abbrev place : ℕ × Handout → ℕ
place at = at.0

abbrev placed_claim : AttemptName → ℕ × Handout → Claim
placed_claim name at = claim_from name at.1

abbrev number_of_ending : Ending → ℕ
number_of_ending e = e.number

-- ---- claims

-- the handout of a place
find_place : (hs : List Handout) (i : ℕ) → find (λ at. eqb (place at) i) (enumerate_from 0 hs)
    ≡ option_map (λ h. (i, h)) (slice_get hs i)
find_place hs i =
    find_first (λ at. eqb (place at) i) (enumerate_from 0 hs) i
    (λ j at lt here. (let is : at.0 ≡ j = placed j at here in ne_eqb at.0 i (λ e. absurd (omega arith))))
    (λ at here. eq-eqb at.0 i (placed i at here))
    ∙ enumerate_at hs i
  where
    placed_by : (j : ℕ) (at : ℕ × Handout) (o : Option Handout) → option_map (λ h. (j, h)) o ≡ Some at → at.0 ≡ j
    placed_by j at None e = absurd (none-some at e)
    placed_by j at (Some h) e = ap (λ p. p.0) (sym (same_Some (j, h) at e))

    placed : (j : ℕ) (at : ℕ × Handout) → slice_get (enumerate_from 0 hs) j ≡ Some at → at.0 ≡ j
    placed j at here = placed_by j at (slice_get hs j) (sym (enumerate_at hs j) ∙ here)

map_placed : (name : AttemptName) (i : ℕ) (o : Option Handout)
    → option_map (placed_claim name) (option_map (λ h. (i, h)) o) ≡ option_map (claim_from name) o
map_placed name i None = refl
map_placed name i (Some h) = refl

module _ (launches : List Launch) (own : HasOwnNames launches) (handouts : List Handout)
    (short : length handouts ≤ length launches) where
  within : AreNumbered place placed_claim launches (enumerate_from 0 handouts)
  within = enumerated_within 0 handouts (length launches) (omega (arith, short))

  -- the claim of the name of a launch
  pub claim_found : (i : ℕ) (l : Launch) → slice_get launches i ≡ Some l
      → find (λ (c : Claim). same_name l.name c.name) (claims_from launches handouts)
      ≡ option_map (claim_from l.name) (slice_get handouts i)
  claim_found i l here =
      names_found place placed_claim launches own (λ (c : Claim). c.name) (λ n x. refl) i l here
      (enumerate_from 0 handouts) within
      ∙ ap (option_map (placed_claim l.name)) (find_place handouts i)
      ∙ map_placed l.name i (slice_get handouts i)

  listed_by : (i : ℕ) (o : Option Handout)
      → option_and_then (λ at. option_map (λ (l : Launch). placed_claim l.name at) (slice_get launches (place at)))
      (option_map (λ h. (i, h)) o)
      ≡ option_and_then (λ h. option_map (λ (l : Launch). claim_from l.name h) (slice_get launches i)) o
  listed_by i None = refl
  listed_by i (Some h) = refl

  -- the claim at a place
  pub claim_listed : (i : ℕ) → slice_get (claims_from launches handouts) i
      ≡ option_and_then (λ h. option_map (λ (l : Launch). claim_from l.name h) (slice_get launches i))
      (slice_get handouts i)
  claim_listed i =
      names_get place placed_claim launches (enumerate_from 0 handouts) within i
      ∙ ap (option_and_then
      (λ at. option_map (λ (l : Launch). placed_claim l.name at) (slice_get launches (place at))))
      (enumerate_at handouts i)
      ∙ listed_by i (slice_get handouts i)

-- one more claim
pub claims_more : (launches : List Launch) (handouts : List Handout) (h : Handout) (l : Launch)
    → slice_get launches (length handouts) ≡ Some l
    → claims_from launches (handouts ++ h ∷ []) ≡ claims_from launches handouts ++ claim_from l.name h ∷ []
claims_more launches handouts h l here =
    ap (with_names place placed_claim launches) (enumerate_last handouts h)
    ∙ names_more place placed_claim launches (enumerate_from 0 handouts) (length handouts, h) l here

-- ---- settlements

-- the settlement of the name of a launch
pub settlement_found : (launches : List Launch) → HasOwnNames launches → (endings : List Ending)
    → All (λ (e : Ending). e.number < length launches) endings
    → (i : ℕ) (l : Launch) → slice_get launches i ≡ Some l
    → find (λ (s : Settlement). same_name l.name s.name) (settlements_from launches endings)
    ≡ option_map (settlement_from l.name) (find (λ (e : Ending). eqb e.number i) endings)
settlement_found launches own endings inside i l here =
    names_found number_of_ending settlement_from launches own (λ (s : Settlement). s.name) (λ n x. refl) i l here
    endings inside

-- ---- after each change

-- the names of launches are their own with one more that was not there
pub own_pushed : (launches : List Launch) (new : Launch) → HasOwnNames launches → number_in launches new.name ≡ None
    → HasOwnNames (launches ++ new ∷ [])
own_pushed launches new own absent i j l m at_i at_j same =
    elim (get_pushed launches new i l at_i) [
      | inl old_i ↦ elim (get_pushed launches new j m at_j) [
        | inl old_j ↦ own i j l m old_i old_j same
        | inr new_j ↦ absurd (clash i l old_i (subst (λ (k : Launch). same_name k.name l.name ≡ true) (sym new_j.1)
            (same_back l.name m.name same)))
      ]
      | inr new_i ↦ elim (get_pushed launches new j m at_j) [
        | inl old_j ↦ absurd (clash j m old_j (subst (λ (k : Launch). same_name k.name m.name ≡ true)
            (sym new_i.1) same))
        | inr new_j ↦ new_i.0 ∙ sym new_j.0
      ]
    ]
  where
    clash : (k : ℕ) (x : Launch) → slice_get launches k ≡ Some x → same_name new.name x.name ≡ true → ⊥
    clash k x here equal =
        true≢false (sym equal ∙ fails_all (λ (x : Launch). same_name new.name x.name) launches k x absent here)

-- ---- the first launch without an end

-- what has an end
end_there : (o : Option ℕ) → is_some o ≡ true → (at : ℕ) × (o ≡ Some at)
end_there None h = absurd (false≢true h)
end_there (Some at) h = (at, refl)

no_end_there : (o : Option ℕ) → is_some o ≡ false → o ≡ None
no_end_there None h = refl
no_end_there (Some at) h = absurd (true≢false h)

-- all before a number have an end
abbrev HaveEnds : List (Option ℕ) → ℕ → Type 0
HaveEnds ends n = (i : ℕ) → i < n → (at : ℕ) × (slice_get ends i ≡ Some (Some at))

pub ends_before_next : (ends : List (Option ℕ)) (n : ℕ) → n < length ends → is_some (get_or ends n None) ≡ true
    → HaveEnds ends n → HaveEnds ends (n + 1)
ends_before_next ends n inside some before i lt =
    ⊎_elim (λ old. before i old)
    (λ past. (
    let is : i ≡ n = omega (arith, past, lt) in
    let end = end_there (get_or ends n None) some in
    (end.0, ap (slice_get ends) is ∙ slice_get-get_or ends n None inside ∙ ap Some end.1)))
    (cases_lt i n)

pub first_open_at : (ends : List (Option ℕ)) (n : ℕ) → n < length ends → is_some (get_or ends n None) ≡ false
    → HaveEnds ends n → IsFirstOpen ends n
first_open_at ends n inside none before = record {
  within = omega (arith, inside);
  before = before;
  here = λ lt. slice_get-get_or ends n None inside ∙ ap Some (no_end_there (get_or ends n None) none);
}

-- one end more
pub ends_before_set : (ends : List (Option ℕ)) (n i at : ℕ) → i < length ends → HaveEnds ends n
    → HaveEnds (set ends i (Some at)) n
ends_before_set ends n i at inside before j lt =
    elim (cases_eq j i) [
      | inl is ↦ (at, ap (slice_get (set ends i (Some at))) is ∙ get_set_here ends i (Some at) inside)
      | inr apart ↦ (let end = before j lt in (end.0, get_set_other ends i j (Some at) apart ∙ end.1))
    ]

module _ (launches : List Launch) (handouts : List Handout) (endings : List Ending) (ends : List (Option ℕ))
    (first : ℕ) (kept : HasTables launches handouts endings ends first) where
  abbrev lists : AttemptLists
  lists = lists_of launches handouts endings

  numbers_within : All (λ (e : Ending). e.number < length launches) endings
  numbers_within =
      All-weaker (λ (e : Ending). e.number < length handouts) (λ (e : Ending). e.number < length launches)
      (λ e lt. (let short : length handouts ≤ length launches = kept.claimed in omega arith)) endings kept.settled

  -- what was not handed out has no end
  no_end : (i : ℕ) → length handouts ≤ i → end_of endings i ≡ None
  no_end i past =
      no_position (λ (e : Ending). eqb e.number i) endings
      (All-weaker (λ (e : Ending). e.number < length handouts) (λ (e : Ending). eqb e.number i ≡ false)
      (λ e lt. ne_eqb e.number i (λ same. absurd (omega arith))) endings kept.settled)

  -- ---- what is told

  handout_back : (name : AttemptName) (o : Option Handout) → option_map handout_of (option_map (claim_from name) o) ≡ o
  handout_back name None = refl
  handout_back name (Some h) = refl

  claim_at_by : (i : ℕ) (o : Option Launch) → slice_get launches i ≡ o
      → option_map handout_of (option_and_then (λ (l : Launch). find (λ (c : Claim). same_name l.name c.name)
      (claims_from launches handouts)) o)
      ≡ slice_get handouts i
  claim_at_by i None here =
      sym (slice_get_past handouts i (past (get_within launches i)))
    where
      past : (i < length launches → (x : Launch) × (slice_get launches i ≡ Some x)) → length handouts ≤ i
      past there =
          ⊎_elim (λ lt. (let x = there lt in absurd (none-some x.0 (sym here ∙ x.1))))
          (λ ge. (let short : length handouts ≤ length launches = kept.claimed in omega (arith, ge, short)))
          (cases_lt i (length launches))
  claim_at_by i (Some l) here =
      ap (option_map handout_of) (claim_found launches kept.own handouts kept.claimed i l here)
      ∙ handout_back l.name (slice_get handouts i)

  -- the handout of a number
  pub claim_told : (i : ℕ) → option_map handout_of (claim_at lists i) ≡ slice_get handouts i
  claim_told i = claim_at_by i (slice_get launches i) refl

  ending_back : (name : AttemptName) (i : ℕ) (o : Option Ending) → find (λ (e : Ending). eqb e.number i) endings ≡ o
      → option_map (ending_of i) (option_map (settlement_from name) o) ≡ o
  ending_back name i None e = refl
  ending_back name i (Some x) e =
      let is : x.number ≡ i = eqb-true x.number i (find_passes (λ (e : Ending). eqb e.number i) endings x e) in
      ap (λ n. Some (ending_of n (settlement_from name x))) (sym is)

  -- the ending of a launch
  settlement_told : (i : ℕ) (l : Launch) → slice_get launches i ≡ Some l
      → option_map (ending_of i) (settlement_at lists i)
      ≡ option_and_then (slice_get endings) (end_of endings i)
  settlement_told i l here =
      let search_ends = find (λ (e : Ending). eqb e.number i) endings in
      ap (λ o. option_map (ending_of i) (option_and_then (λ (l : Launch). settlement_of lists l.name) o)) here
      ∙ ap (option_map (ending_of i)) (settlement_found launches kept.own endings numbers_within i l here)
      ∙ ending_back l.name i search_ends refl
      ∙ find_by_position (λ (e : Ending). eqb e.number i) endings

  -- past the launches nothing is settled
  settlement_past : (i : ℕ) → length launches ≤ i → settlement_at lists i ≡ None
  settlement_past i past =
      ap (option_and_then (λ (l : Launch). settlement_of lists l.name))
      (slice_get_past launches i past)

  some_map : {X Y : Type 0} (f : X → Y) (o : Option X) → is_some (option_map f o) ≡ is_some o
  some_map f None = refl
  some_map f (Some x) = refl

  -- whether the launch of a number is handed out
  claimed_by_number : (i : ℕ) (l : Launch) → slice_get launches i ≡ Some l
      → is_claimed lists l.name ≡ is_some (slice_get handouts i)
  claimed_by_number i l here =
      ap is_some (claim_found launches kept.own handouts kept.claimed i l here)
      ∙ some_map (claim_from l.name) (slice_get handouts i)

  -- whether it has an end
  settled_by_number : (i : ℕ) (l : Launch) → slice_get launches i ≡ Some l
      → is_settled lists l.name ≡ is_some (end_of endings i)
  settled_by_number i l here =
      some_map (λ (s : Settlement). s.outcome) (settlement_of lists l.name)
      ∙ ap is_some (settlement_found launches kept.own endings numbers_within i l here)
      ∙ some_map (settlement_from l.name) (find (λ (e : Ending). eqb e.number i) endings)
      ∙ ap is_some (find_by_position (λ (e : Ending). eqb e.number i) endings)
      ∙ there (end_of endings i) (end_at i)
    where
      end_at : (i : ℕ) (k : ℕ) → end_of endings i ≡ Some k → is_some (slice_get endings k) ≡ true
      end_at i k e = ap is_some (get_within endings k (place_within (λ (e : Ending). eqb e.number i) endings k e)).1

      there : (o : Option ℕ) → ((k : ℕ) → o ≡ Some k → is_some (slice_get endings k) ≡ true)
          → is_some (option_and_then (slice_get endings) o) ≡ is_some o
      there None h = refl
      there (Some k) h = h k refl

  -- the first that is not handed out
  pub unclaimed_told : unclaimed lists ≡ slice_get launches (length handouts)
  unclaimed_told =
      find_first (λ (l : Launch). not (is_claimed lists l.name)) launches (length handouts)
      (λ j l lt here. ap not (claimed_by_number j l here ∙ ap is_some (get_within handouts j lt).1))
      (λ l here. ap not (claimed_by_number (length handouts) l here
      ∙ ap is_some (slice_get_past handouts (length handouts) (omega arith))))

  -- the end that a table has is the launch's
  end_is : (i : ℕ) (o : Option ℕ) → slice_get ends i ≡ Some o → end_of endings i ≡ o
  end_is i o here =
      let inside : i < length ends = slice_get_within ends i o here in
      let same : length ends ≡ length launches = kept.long in
      same_Some (end_of endings i) o (sym (kept.ended i (omega arith)) ∙ here)

  claim_parts : (i : ℕ) (c : Claim) (oh : Option Handout) (ol : Option Launch)
      → option_and_then (λ h. option_map (λ (l : Launch). claim_from l.name h) ol) oh ≡ Some c
      → (l : Launch) × (ol ≡ Some l) × (c.name ≡ l.name) × (is_some oh ≡ true)
  claim_parts i c None ol e = absurd (none-some c e)
  claim_parts i c (Some h) None e = absurd (none-some c e)
  claim_parts i c (Some h) (Some l) e =
      (l, refl, ap (λ (x : Claim). x.name) (sym (same_Some (claim_from l.name h) c e)), refl)

  settled_claim : (i : ℕ) (c : Claim) (o : Option ℕ) → slice_get (claims_from launches handouts) i ≡ Some c
      → slice_get ends i ≡ Some o → not (is_settled lists c.name) ≡ not (is_some o)
  settled_claim i c o at end =
      let parts = claim_parts i c (slice_get handouts i) (slice_get launches i)
      (sym (claim_listed launches kept.own handouts kept.claimed i) ∙ at) in
      ap (λ n. not (is_settled lists n)) parts.2
      ∙ ap not (settled_by_number i parts.0 parts.1 ∙ ap is_some (end_is i o end))

  -- the first claimed one without an end
  first_claim : find (λ (c : Claim). not (is_settled lists c.name)) (claims_from launches handouts)
      ≡ slice_get (claims_from launches handouts) first
  first_claim =
      find_first (λ (c : Claim). not (is_settled lists c.name)) (claims_from launches handouts) first
      (λ j c lt at. (let end = kept.first.before j lt in settled_claim j c (Some end.0) at end.1))
      (λ c at. (
      let parts = claim_parts first c (slice_get handouts first) (slice_get launches first)
      (sym (claim_listed launches kept.own handouts kept.claimed first) ∙ at) in
      let inside : first < length launches = slice_get_within launches first parts.0 parts.1 in
      let same : length ends ≡ length launches = kept.long in
      settled_claim first c None at (kept.first.here (omega arith))))

  pub unsettled_past : length handouts ≤ first → unsettled lists ≡ None
  unsettled_past past =
      ap (option_map (λ (c : Claim). c.name)) (first_claim
      ∙ claim_listed launches kept.own handouts kept.claimed first
      ∙ ap (option_and_then (λ h. option_map (λ (l : Launch). claim_from l.name h) (slice_get launches first)))
      (slice_get_past handouts first past))

  pub unsettled_told : first < length handouts → (l : Launch) → slice_get launches first ≡ Some l
      → unsettled lists ≡ Some l.name
  unsettled_told lt l here =
      let h = get_within handouts first lt in
      ap (option_map (λ (c : Claim). c.name)) (first_claim
      ∙ claim_listed launches kept.own handouts kept.claimed first
      ∙ ap (option_and_then (λ h. option_map (λ (l : Launch). claim_from l.name h) (slice_get launches first))) h.1
      ∙ ap (option_map (λ (l : Launch). claim_from l.name h.0)) here)

  -- where a launch is unclaimed, there is one more than handouts
  pub next_within : IsSome (unclaimed lists) → length handouts < length launches
  next_within some = some_within launches (length handouts) (subst IsSome unclaimed_told some)

  -- the number of a claim is below that of handouts
  pub claimed_within : (i : ℕ) → IsSome (claim_at lists i) → i < length handouts
  claimed_within i some =
      some_within handouts i (subst IsSome (claim_told i)
      (some_map handout_of (claim_at lists i) ∙ some))

  no_place : (i : ℕ) (o : Option ℕ) → end_of endings i ≡ o → None ≡ option_and_then (slice_get endings) o → o ≡ None
  no_place i None at none = refl
  no_place i (Some k) at none =
      let there = get_within endings k (place_within (λ (e : Ending). eqb e.number i) endings k at) in
      absurd (none-some there.0 (none ∙ there.1))

  -- a claimed launch without a settlement has no end
  pub waits : (i : ℕ) → i < length handouts → settlement_at lists i ≡ None
      → slice_get ends i ≡ Some None
  waits i inside none =
      let short : length handouts ≤ length launches = kept.claimed in
      let l = get_within launches i (omega (arith, inside, short)) in
      let told = settlement_told i l.0 l.1 in
      kept.ended i (omega (arith, inside, short))
      ∙ ap Some (no_place i (end_of endings i) refl (sym (ap (option_map (ending_of i)) none) ∙ told))

  -- the ending that a table leads to
  pub ending_told : (i : ℕ) → option_map (ending_of i) (settlement_at lists i)
      ≡ option_and_then (slice_get endings) (option_and_then (λ o. o) (slice_get ends i))
  ending_told i =
      ⊎_elim (λ inside. (
      let l = get_within launches i inside in
      settlement_told i l.0 l.1
      ∙ ap (λ o. option_and_then (slice_get endings) (option_and_then (λ o. o) o)) (sym (kept.ended i inside))))
      (λ past. (
      let same : length ends ≡ length launches = kept.long in
      ap (option_map (ending_of i)) (settlement_past i past)
      ∙ ap (λ o. option_and_then (slice_get endings) (option_and_then (λ o. o) o))
      (sym (slice_get_past ends i (omega (arith, past, same))))))
      (cases_lt i (length launches))

  -- ---- what is kept

  pub launch_kept : (new : Launch) → number_in launches new.name ≡ None
      → HasTables (launches ++ new ∷ []) handouts endings (ends ++ None ∷ []) first
  launch_kept new absent =
      let longer : length (launches ++ new ∷ []) ≡ length launches + 1 = length-append launches (new ∷ []) in
      let ends_longer : length (ends ++ None ∷ []) ≡ length ends + 1 = length-append ends (None ∷ []) in
      let short : length handouts ≤ length launches = kept.claimed in
      let same : length ends ≡ length launches = kept.long in
      record {
        own = own_pushed launches new kept.own absent;
        claimed = omega arith;
        settled = kept.settled;
        long = omega arith;
        ended = λ i lt. ⊎_elim (λ old. get_before ends None i (omega (arith, old, same)) ∙ kept.ended i old)
            (λ past. (
            let is : i ≡ length ends = omega (arith, past, lt, longer, same) in
            ap (slice_get (ends ++ None ∷ [])) is ∙ get_last ends None
            ∙ ap Some (sym (no_end i (omega (arith, past, short))))))
            (cases_lt i (length launches));
        counted = kept.counted ∙ sym (sum_by_push (λ (o : Option ℕ). cond (is_some o) 1 0) ends None ∙ omega arith);
        first = record {
          within = (let w : first ≤ length ends = kept.first.within in omega arith);
          before = λ i lt. (
              let end = kept.first.before i lt in
              (end.0, get_before ends None i (slice_get_within ends i (Some end.0) end.1) ∙ end.1));
          here = λ lt. ⊎_elim (λ old. get_before ends None first old ∙ kept.first.here old)
              (λ past. (
              let is : first ≡ length ends = omega (arith, past, lt, ends_longer) in
              ap (slice_get (ends ++ None ∷ [])) is ∙ get_last ends None))
              (cases_lt first (length ends));
        };
      }

  pub launch_view : (new : Launch) → lists_of (launches ++ new ∷ []) handouts endings
      ≡ with_launch lists new
  launch_view new =
      let claims = names_kept place placed_claim launches new (enumerate_from 0 handouts)
      (let short : length handouts ≤ length launches = kept.claimed in
      enumerated_within 0 handouts (length launches) (omega arith)) in
      let outcomes = names_kept number_of_ending settlement_from launches new endings numbers_within in
      λ k. record { launches = launches ++ new ∷ []; claims = claims k; outcomes = outcomes k }

  pub claim_kept : (h : Handout) → length handouts < length launches
      → HasTables launches (handouts ++ h ∷ []) endings ends first
  claim_kept h room =
      let longer : length (handouts ++ h ∷ []) ≡ length handouts + 1 = length-append handouts (h ∷ []) in
      record {
        own = kept.own;
        claimed = omega arith;
        settled = All-weaker (λ (e : Ending). e.number < length handouts)
            (λ (e : Ending). e.number < length (handouts ++ h ∷ [])) (λ e lt. omega (arith, lt, longer)) endings
            kept.settled;
        long = kept.long;
        ended = kept.ended;
        counted = kept.counted;
        first = kept.first;
      }

  pub claim_view : (h : Handout) (l : Launch) → slice_get launches (length handouts) ≡ Some l
      → lists_of launches (handouts ++ h ∷ []) endings ≡ with_claim lists (claim_from l.name h)
  claim_view h l here =
      let more = claims_more launches handouts h l here in
      λ k. record { launches = launches; claims = more k; outcomes = settlements_from launches endings }

  end_counted : (i at : ℕ) → slice_get ends i ≡ Some None
      → count_by (λ (o : Option ℕ). is_some o) (set ends i (Some at)) ≡ count_by (λ (o : Option ℕ). is_some o) ends + 1
  end_counted i at waits =
      let inside : i < length ends = slice_get_within ends i None waits in
      let was : one_if (is_some (get_or ends i None)) ≡ 0 =
      ap (λ (o : Option ℕ). one_if (is_some o)) (get_or_from_slice_get ends i None None waits) in
      omega (arith, sum_by-set (λ (o : Option ℕ). cond (is_some o) 1 0) ends i (Some at) None inside)

  -- the count of ends leaves room where one is missing
  pub ends_room : (i : ℕ) → slice_get ends i ≡ Some None → length endings < length launches
  ends_room i waits =
      let next : List (Option ℕ) = set ends i (Some 0) in
      let same : length ends ≡ length launches = kept.long in
      let count : length endings ≡ count_by (λ (o : Option ℕ). is_some o) ends = kept.counted in
      let fits = count_by-le-length (λ (o : Option ℕ). is_some o) next in
      omega (arith, end_counted i 0 waits, fits, length-set ends i (Some 0), same, count)

  pub settle_kept : (e : Ending) (next : ℕ) → e.number < length handouts → slice_get ends e.number ≡ Some None
      → IsFirstOpen (set ends e.number (Some (length endings))) next
      → HasTables launches handouts (endings ++ e ∷ []) (set ends e.number (Some (length endings))) next
  settle_kept e next inside waits open_first =
      let same : length ends ≡ length launches = kept.long in
      let number_inside : e.number < length ends = slice_get_within ends e.number None waits in
      record {
        own = kept.own;
        claimed = kept.claimed;
        settled = All-push (λ (e : Ending). e.number < length handouts) endings e kept.settled inside;
        long = length-set ends e.number (Some (length endings)) ∙ kept.long;
        ended = λ i lt. elim (cases_eq i e.number) [
          | inl is ↦ ap (slice_get (set ends e.number (Some (length endings)))) is
              ∙ get_set_here ends e.number (Some (length endings)) number_inside
              ∙ ap Some (sym (position_last (λ (x : Ending). eqb x.number i) endings e
              (ap (end_of endings) is ∙ end_is e.number None waits) (eq-eqb e.number i (sym is))))
          | inr apart ↦ get_set_other ends e.number i (Some (length endings)) apart ∙ kept.ended i lt
              ∙ ap Some (sym (position_kept (λ (x : Ending). eqb x.number i) endings e
              (ne_eqb e.number i (λ s. apart (sym s)))))
        ];
        counted = length-append endings (e ∷ []) ∙ ap (λ n. n + 1) kept.counted
            ∙ sym (end_counted e.number (length endings) waits);
        first = open_first;
      }

  pub settle_view : (e : Ending) (l : Launch) → slice_get launches e.number ≡ Some l
      → lists_of launches handouts (endings ++ e ∷ [])
      ≡ with_settlement lists (settlement_from l.name e)
  settle_view e l here =
      let more = names_more number_of_ending settlement_from launches endings e l here in
      λ k. record { launches = launches; claims = claims_from launches handouts; outcomes = more k }

  -- the next claim, as the lists tell of it
  pub claims_told : (h : Handout) (o : Option Launch) → o ≡ slice_get launches (length handouts)
      → IfSome o (λ (l : Launch). lists_of launches (handouts ++ h ∷ []) endings
      ≡ with_claim lists (claim_from l.name h))
  claims_told h None e = tt
  claims_told h (Some l) e = claim_view h l (sym e)

  pub settlements_told : (e : Ending) (o : Option Launch) → o ≡ slice_get launches e.number
      → IfSome o (λ (l : Launch). lists_of launches handouts (endings ++ e ∷ [])
      ≡ with_settlement lists (settlement_from l.name e))
  settlements_told e None h = tt
  settlements_told e (Some l) h = settle_view e l (sym h)
