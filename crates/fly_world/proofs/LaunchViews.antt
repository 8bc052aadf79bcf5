-- What was known of launches before an end: lists of one entry a name, cut by their places.
use Rattle.std.proofs.Common.{◌≡◌, ◌≢◌, ℕ, suc, ◌+◌, ◌<◌, Bool, true, false, cond, List, [], ◌∷◌, ◌++◌, take, get_or, map, filter, filter_map, length, find, All, AllPairs, bytes_eq, Option, Some, None, option_map, option_and_then, option_to_list, is_some, IfSome, refl, sym, subst, ap, ◌∙◌, arith}
use Rattle.std.specs.List.{slice_get, enumerate_from, cons_option}
use Rattle.std.specs.Option.{option_map_or}
use Rattle.std.proofs.lemmas.List.Elements.{All-head, All-tail, All-map, All-filter, filter_map-append}
use Rattle.std.proofs.lemmas.List.FromFn.{length-enumerate_from, get_or-enumerate_from}
use Rattle.std.proofs.lemmas.List.{take_more}
use Rattle.fly_types.specs.declared.text.Text.{Text}
use Rattle.fly_docs.specs.declared.attempt_name.AttemptName.{AttemptName}
use Rattle.fly_policy.specs.declared.outcome.Outcome.{Outcome}
use Rattle.fly_attempts.specs.declared.parts.Handout.{Handout}
use Rattle.fly_attempts.specs.declared.parts.Ending.{Ending}
use Rattle.fly_attempts.specs.Parts.{handout_of, ending_of}
use Rattle.fly_attempts.specs.Attempts.{claim_at, settlement_at, numbers_of}
use Rattle.fly_state.specs.declared.view.Known.{Known}
use Rattle.fly_world.specs.World.{World, Launch, Claim, Settlement, same_name, stands_before, world_before, is_claimed, outcome_of, known_of, launches_of}
use Rattle.fly_world.specs.Store.{StoreLists, IsSound, attempts_in}
use Rattle.fly_world.proofs.LaunchLemmas.{same_name-is}

-- ---- a search in a list of which a part is left

module _ {X : Type 0} where
  -- what is there and passes
  abbrev pub kept_if : (X → Bool) → Option X → Option X
  kept_if c o = option_and_then (λ x. cond (c x) (Some x) None) o

  module _ (p c : X → Bool) where
    find_fails : (xs : List X) → All (λ x. p x ≡ false) xs → find p (filter c xs) ≡ None
    find_fails [] fail = refl
    find_fails (x ∷ xs) fail =
        by (c x) (All-head (λ y. p y ≡ false) x xs fail) (find_fails xs (All-tail (λ y. p y ≡ false) x xs fail))
      where
        by : (b : Bool) → p x ≡ false → find p (filter c xs) ≡ None
            → find p (cond b (x ∷ filter c xs) (filter c xs)) ≡ None
        by true fails rest = ap (λ b. cond b (Some x) (find p (filter c xs))) fails ∙ rest
        by false fails rest = rest

    -- where no two pass the search, it finds in the part what it finds in the whole, if that is left
    pub find_kept : (xs : List X) → AllPairs (λ a b. p a ≡ true → p b ≡ false) xs
        → find p (filter c xs) ≡ kept_if c (find p xs)
    find_kept [] one = refl
    find_kept (x ∷ xs) one =
        by (p x) (c x) refl refl (find_kept xs (λ i j d lt len. one (suc i) (suc j) d (omega arith) (omega arith)))
        (λ passes. find_fails xs (λ k d len. one 0 (suc k) d (omega arith) (omega arith) passes))
      where
        by : (b t : Bool) → p x ≡ b → c x ≡ t → find p (filter c xs) ≡ kept_if c (find p xs)
            → (p x ≡ true → find p (filter c xs) ≡ None)
            → find p (cond t (x ∷ filter c xs) (filter c xs)) ≡ kept_if c (cond b (Some x) (find p xs))
        by true true passes stays rest none =
            ap (λ b. cond b (Some x) (find p (filter c xs))) passes ∙ sym (ap (λ b. cond b (Some x) None) stays)
        by true false passes goes rest none = none passes ∙ sym (ap (λ b. cond b (Some x) None) goes)
        by false true fails stays rest none = ap (λ b. cond b (Some x) (find p (filter c xs))) fails ∙ rest
        by false false fails goes rest none = rest

-- no two pass where no two have one name
one_passes : {X : Type 0} (name_in : X → AttemptName) (name : AttemptName) (xs : List X)
    → AllPairs (λ a b. name_in a ≢ name_in b) xs
    → AllPairs (λ a b. same_name name (name_in a) ≡ true → same_name name (name_in b) ≡ false) xs
one_passes name_in name xs apart i j d lt len = by _ _ (apart i j d lt len)
  where
    by : (a b : AttemptName) → a ≢ b → same_name name a ≡ true → same_name name b ≡ false
    by a b differ passes = other (same_name name b) refl
      where
        other : (t : Bool) → same_name name b ≡ t → t ≡ false
        other true also = absurd (differ (sym (same_name-is name a passes) ∙ same_name-is name b also))
        other false fails = refl

-- ---- what was known before an end

is_some-kept : {X : Type 0} (c : X → Bool) (o : Option X) → is_some (kept_if c o) ≡ option_map_or c o false
is_some-kept c None = refl
is_some-kept c (Some x) = by (c x)
  where
    by : (b : Bool) → is_some (cond b (Some x) None) ≡ b
    by true = refl
    by false = refl

module _ (s : StoreLists) (sound : IsSound s) (end : Option ℕ) where
  -- of the claim of a number: whether it stood before the end
  pub claimed-before : (number : ℕ) (h : Option Handout)
      → h ≡ option_map handout_of (claim_at (attempts_in s.world) number)
      → IfSome (slice_get s.world.launches number) (λ l.
      option_map_or (λ (x : Handout). stands_before end x.place) h false
      ≡ is_claimed (world_before s.world end) l.name)
  claimed-before number h = by (slice_get s.world.launches number)
    where
      of_claim : (o : Option Claim)
          → option_map_or (λ (x : Handout). stands_before end x.place) (option_map handout_of o) false
          ≡ option_map_or (λ (c : Claim). stands_before end c.place) o false
      of_claim None = refl
      of_claim (Some c) = refl

      by : (o : Option Launch)
          → h ≡ option_map handout_of
          (option_and_then (λ (l : Launch). find (λ (c : Claim). same_name l.name c.name) s.world.claims) o)
          → IfSome o (λ l. option_map_or (λ (x : Handout). stands_before end x.place) h false
          ≡ is_claimed (world_before s.world end) l.name)
      by None e = tt
      by (Some l) e =
          let p : Claim → Bool = λ c. same_name l.name c.name in
          let before : Claim → Bool = λ c. stands_before end c.place in
          ap (λ o. option_map_or (λ (x : Handout). stands_before end x.place) o false) e
          ∙ of_claim (find p s.world.claims) ∙ sym (is_some-kept before (find p s.world.claims))
          ∙ ap is_some (sym (find_kept p before s.world.claims
          (one_passes (λ (c : Claim). c.name) l.name s.world.claims sound.claimed_once)))

  -- what the ending of a number tells, where it stood before the end
  abbrev pub outcome_told : Option Ending → Option Outcome
  outcome_told o = option_and_then (λ (x : Ending). cond (stands_before end x.place) (Some x.outcome) None) o

  pub outcome-before : (number : ℕ) (h : Option Ending)
      → h ≡ option_map (ending_of number) (settlement_at (attempts_in s.world) number)
      → IfSome (slice_get s.world.launches number) (λ l. outcome_told h ≡ outcome_of (world_before s.world end) l.name)
  outcome-before number h = by (slice_get s.world.launches number)
    where
      before : Settlement → Bool
      before x = stands_before end x.place

      of_ending : (o : Option Settlement) → outcome_told (option_map (ending_of number) o)
          ≡ option_map (λ (x : Settlement). x.outcome) (kept_if (λ (x : Settlement). stands_before end x.place) o)
      of_ending None = refl
      of_ending (Some x) = test (stands_before end x.place)
        where
          test : (b : Bool) → cond b (Some x.outcome) None
              ≡ option_map (λ (x : Settlement). x.outcome) (cond b (Some x) None)
          test true = refl
          test false = refl

      by : (o : Option Launch)
          → h ≡ option_map (ending_of number)
          (option_and_then (λ (l : Launch). find (λ (x : Settlement). same_name l.name x.name) s.world.outcomes) o)
          → IfSome o (λ l. outcome_told h ≡ outcome_of (world_before s.world end) l.name)
      by None e = tt
      by (Some l) e =
          let p : Settlement → Bool = λ x. same_name l.name x.name in
          ap outcome_told e ∙ of_ending (find p s.world.outcomes)
          ∙ ap (option_map (λ (x : Settlement). x.outcome))
          (sym (find_kept p (λ (x : Settlement). stands_before end x.place) s.world.outcomes
          (one_passes (λ (x : Settlement). x.name) l.name s.world.outcomes sound.settled_once)))

-- ---- all launches of an execution

module _ {X Y : Type 0} (q : X → Bool) where
  -- the elements that pass, taken by their numbers
  numbered_map : (f : ℕ → Option Y) (g : X → Option Y) (n : ℕ) (xs : List X)
      → ((i : ℕ) → f (n + i) ≡ option_and_then g (slice_get xs i))
      → filter_map f (map (λ (at : ℕ × X). at.0) (filter (λ (at : ℕ × X). q at.1) (enumerate_from n xs)))
      ≡ filter_map g (filter q xs)
  numbered_map f g n [] same = refl
  numbered_map f g n (x ∷ xs) same =
      let first : n ≡ n + 0 = omega arith in
      let next : (i : ℕ) → f ((n + 1) + i) ≡ option_and_then g (slice_get xs i) = λ i.
      (let e : (n + 1) + i ≡ n + suc i = omega arith in ap f e ∙ same (suc i)) in
      by (q x) (filter (λ (at : ℕ × X). q at.1) (enumerate_from (n + 1) xs)) (ap f first ∙ same 0)
      (numbered_map f g (n + 1) xs next)
    where
      by : (b : Bool) (rest : List (ℕ × X)) → f n ≡ g x
          → filter_map f (map (λ (at : ℕ × X). at.0) rest) ≡ filter_map g (filter q xs)
          → filter_map f (map (λ (at : ℕ × X). at.0) (cond b ((n, x) ∷ rest) rest))
          ≡ filter_map g (cond b (x ∷ filter q xs) (filter q xs))
      by true rest here more =
          ap (λ o. cons_option o (filter_map f (map (λ (at : ℕ × X). at.0) rest))) here ∙ ap (cons_option (g x)) more
      by false rest here more = more

  -- the elements that pass and are left, each as it is told
  told_map : (c : X → Bool) (k : X → Y) (xs : List X)
      → filter_map (λ x. cond (c x) (Some (k x)) None) (filter q xs) ≡ map k (filter q (filter c xs))
  told_map c k [] = refl
  told_map c k (x ∷ xs) = by (q x) (c x) refl refl (told_map c k xs)
    where
      told : X → Option Y
      told y = cond (c y) (Some (k y)) None

      by : (b t : Bool) → q x ≡ b → c x ≡ t → filter_map told (filter q xs) ≡ map k (filter q (filter c xs))
          → filter_map told (cond b (x ∷ filter q xs) (filter q xs))
          ≡ map k (filter q (cond t (x ∷ filter c xs) (filter c xs)))
      by true true passes stays more =
          ap (λ b. cons_option (cond b (Some (k x)) None) (filter_map told (filter q xs))) stays
          ∙ ap (λ ys. k x ∷ ys) more
          ∙ sym (ap (λ b. map k (cond b (x ∷ filter q (filter c xs)) (filter q (filter c xs)))) passes)
      by true false passes goes more =
          ap (λ b. cons_option (cond b (Some (k x)) None) (filter_map told (filter q xs))) goes ∙ more
      by false true fails stays more =
          more ∙ sym (ap (λ b. map k (cond b (x ∷ filter q (filter c xs)) (filter q (filter c xs)))) fails)
      by false false fails goes more = more

module _ (w : World) (end : Option ℕ) where
  abbrev told_before : Launch → Option Known
  told_before l = cond (stands_before end l.place) (Some (known_of (world_before w end) l)) None

  -- what was known of the launch of a number, where it stood before the end
  abbrev pub known_at : ℕ → Option Known
  known_at number = option_and_then told_before (slice_get w.launches number)

  -- the numbers of an execution lead to its launches
  pub known-launches : (exec : Text) → filter_map known_at (numbers_of (attempts_in w) exec)
      ≡ launches_of (world_before w end) exec
  known-launches exec =
      let of_exec : Launch → Bool = λ l. bytes_eq exec l.name.exec in
      numbered_map of_exec known_at told_before 0 w.launches (λ i.
      (let e : 0 + i ≡ i = omega arith in ap known_at e))
      ∙ told_map of_exec (λ (l : Launch). stands_before end l.place) (known_of (world_before w end)) w.launches

  -- each number of an execution is one of a launch
  pub number-within : (exec : Text) (numbers : List ℕ) → numbers ≡ numbers_of (attempts_in w) exec
      → (i : ℕ) → i < length numbers → get_or numbers i 0 < length w.launches
  number-within exec numbers are =
      let P : ℕ → Type 0 = λ n. n < length w.launches in
      let of_exec : ℕ × Launch → Bool = λ at. bytes_eq exec at.1.name.exec in
      let Q : ℕ × Launch → Type 0 = λ at. P at.0 in
      let all : All Q (enumerate_from 0 w.launches) = λ k d within.
      (let short : k < length w.launches = subst (λ n. k < n) (length-enumerate_from 0 w.launches) within in
      let e : 0 + k ≡ k = omega arith in
      subst Q (sym (get_or-enumerate_from 0 w.launches k d short)) (subst P (sym e) short)) in
      let picked = filter of_exec (enumerate_from 0 w.launches) in
      let kept : All P (numbers_of (attempts_in w) exec) =
      All-map P (λ (at : ℕ × Launch). at.0) picked (All-filter of_exec Q (enumerate_from 0 w.launches) all) in
      subst (λ xs. (i : ℕ) → i < length xs → get_or xs i 0 < length w.launches) (sym are) (λ i lt. kept i 0 lt)

  -- ---- one launch more

  pub known_one : (number : ℕ) (l : Launch) → slice_get w.launches number ≡ Some l
      → stands_before end l.place ≡ true → known_at number ≡ Some (known_of (world_before w end) l)
  known_one number l there before =
      ap (option_and_then told_before) there
      ∙ ap (λ b. cond b (Some (known_of (world_before w end) l)) None) before

  pub known_late : (number : ℕ) (l : Launch) → slice_get w.launches number ≡ Some l
      → stands_before end l.place ≡ false → known_at number ≡ None
  known_late number l there late =
      ap (option_and_then told_before) there
      ∙ ap (λ b. cond b (Some (known_of (world_before w end) l)) None) late

  pub known_more : (numbers : List ℕ) (i : ℕ) (all new : List Known) (o : Option Known) → i < length numbers
      → all ≡ filter_map known_at (take i numbers) → known_at (get_or numbers i 0) ≡ o
      → new ≡ all ++ option_to_list o → new ≡ filter_map known_at (take (i + 1) numbers)
  known_more numbers i all new o within old here made =
      made ∙ ap (λ xs. xs ++ option_to_list o) old
      ∙ ap (λ x. filter_map known_at (take i numbers) ++ x) (listed o ∙ sym (ap (λ x. cons_option x []) here))
      ∙ sym (filter_map-append known_at (take i numbers) (get_or numbers i 0 ∷ []))
      ∙ ap (filter_map known_at) (sym (take_more numbers i 0 within))
    where
      listed : (x : Option Known) → option_to_list x ≡ cons_option x []
      listed None = refl
      listed (Some k) = refl
