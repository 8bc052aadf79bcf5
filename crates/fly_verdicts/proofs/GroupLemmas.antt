-- Tables of lists by the numbers of executions, an item and an entry after another.
use Rattle.std.proofs.Common.{◌≡◌, ◌≢◌, ◌⊎◌, ℕ, ◌+◌, ◌<◌, ◌==◌, Bool, true, false, cond, List, [], ◌∷◌, ◌++◌, filter, flat_map, take, length, set, get_or, Option, Some, None, option_map, option_to_list, refl, sym, ap, subst, ◌∙◌, arith, ⊎_elim, add-one, append-nil, append_assoc}
use Rattle.std.specs.List.{slice_get}
use Rattle.std.specs.Global.{Vec}
use Rattle.std.specs.Option.{option_map_or}
use Rattle.std.proofs.Math.Seq.{take-suc}
use Rattle.std.proofs.lemmas.Bool.{cases_Bool, eq-eqb, eqb-true, true≢false}
use Rattle.std.proofs.lemmas.Grind.{flat_map-append}
use Rattle.std.proofs.lemmas.List.{length-map, map-append, map-set, length-set, length-append}
use Rattle.std.proofs.lemmas.List.Elements.{filter-append}
use Rattle.std.proofs.lemmas.Option.{slice_get-map, slice_get_within, get_or_from_slice_get, slice_get-get_or}
use Rattle.fly_types.specs.declared.text.Text.{Text}
use Rattle.fly_state.specs.declared.entries.Entry.{Entry}
use Rattle.fly_state.specs.declared.entries.Op.TheVariants as op
use Rattle.fly_state.specs.declared.entries.Reply.TheVariants as reply
use Rattle.fly_state.specs.declared.moves.Move.{Move}
use Rattle.fly_attempts.proofs.ListLemmas.{get_before, get_last, get_set_here, get_set_other}
use Rattle.fly_world.specs.ReadOff.{results_by, hits_of_move}
use Rattle.fly_report.specs.LaunchCounts.{Numbers, numbered_in}
use Rattle.fly_verdicts.specs.Grouped.{Settled, Answered, lists_of, HasListsFrom, HasLists, more_at, is_number, settled_at, moves_by, answered_at}

-- ---- tables

-- lists that are the same by another word
pub lists-alike : {T : Type 0} (start count : ℕ) (of other : ℕ → List T) (lists : List (List T))
    → ((i : ℕ) → of i ≡ other i)
    → HasListsFrom start count of lists → HasListsFrom start count other lists
lists-alike start count of other lists same has = (has.0, λ i from within. has.1 i from within ∙ ap Some (same i))

-- one list more
pub lists-pushed : {T : Type 0} (count : ℕ) (of : ℕ → List T) (table : List (Vec T)) (v : Vec T) → of count ≡ v.items
    → HasLists count of (lists_of table) → HasLists (count + 1) of (lists_of (table ++ v ∷ []))
lists-pushed {T} count of table v same has =
    let ls = lists_of table in
    subst (HasLists (count + 1) of) (sym (map-append (λ (u : Vec T). u.items) table (v ∷ []))) (
      length-append ls (v.items ∷ []) ∙ ap (λ n. n + 1) has.0,
      λ i from within.
          ⊎_elim (λ here.
          let last : i ≡ length ls = eqb-true i count here ∙ sym has.0 in
          ap (slice_get (ls ++ v.items ∷ [])) last ∙ get_last ls v.items
          ∙ ap Some (sym same ∙ ap of (sym (eqb-true i count here))))
          (λ apart.
          let earlier : i < count = before i count within apart in
          get_before ls v.items i (subst (λ n. i < n) (sym has.0) earlier) ∙ has.1 i from earlier)
          (cases_Bool (i == count)),
    )
  where
    before : (i n : ℕ) → i < n + 1 → i == n ≡ false → i < n
    before i n within apart =
        ⊎_elim (λ less. less) (λ same. absurd (true≢false (sym (eq-eqb i n same) ∙ apart))) (nearer i n within)
      where
        nearer : (a b : ℕ) → a < b + 1 → (a < b) ⊎ (a ≡ b)
        nearer a b h = grind arith

-- an item more in the list of a number
pub item-pushed : {T : Type 0} (number : ℕ) (item : T) (table : List (Vec T)) (v new : Vec T) → number < length table
    → slice_get table number ≡ Some v → new.items ≡ v.items ++ item ∷ [] → (count : ℕ) (of : ℕ → List T)
    → HasLists count of (lists_of table)
    → HasLists count (more_at of number (item ∷ [])) (lists_of (set table number new))
item-pushed {T} number item table v new within there added count of has =
    let ls = lists_of table in
    let its : Vec T → List T = λ u. u.items in
    let few : number < length ls = subst (λ n. number < n) (sym (length-map table its)) within in
    let old : Some (of number) ≡ Some v.items =
    sym (has.1 number (omega arith) (subst (λ n. number < n) has.0 few)) ∙ slice_get-map its table number
    ∙ ap (option_map its) there in
    subst (HasLists count (more_at of number (item ∷ []))) (sym (map-set its table number new)) (
      length-set ls number new.items ∙ has.0,
      λ i from below.
          ⊎_elim (λ same.
          let here : number ≡ i = eqb-true number i same in
          subst (λ n. slice_get (set ls number new.items) n ≡ Some (of n ++ cond (number == n) (item ∷ []) [])) here
          (get_set_here ls number new.items few ∙ ap Some (added ∙ ap (λ xs. xs ++ item ∷ []) (sym (some_same old))
          ∙ ap (λ b. of number ++ cond b (item ∷ []) []) (sym (eq-eqb number number refl)))))
          (λ apart.
          get_set_other ls number i new.items (λ e. true≢false (sym (eq-eqb number i (sym e)) ∙ apart))
          ∙ has.1 i from below
          ∙ ap Some (sym (append-nil (of i)) ∙ ap (λ b. of i ++ cond b (item ∷ []) []) (sym apart)))
          (cases_Bool (number == i)),
    )
  where
    some_same : {a b : List T} → Some a ≡ Some b → a ≡ b
    some_same {a} {b} e = ap (λ o. option_map_or (λ x. x) o a) e

-- a list taken out of a table
pub list-taken : {T : Type 0} (number : ℕ) (table : List (Vec T)) (v new : Vec T) → number < length table
    → slice_get table number ≡ Some v → (count : ℕ) (of : ℕ → List T) → HasListsFrom number count of (lists_of table)
    → (v.items ≡ of number) × HasListsFrom (number + 1) count of (lists_of (set table number new))
list-taken {T} number table v new within there count of has =
    let ls = lists_of table in
    let its : Vec T → List T = λ u. u.items in
    let few : number < length ls = subst (λ n. number < n) (sym (length-map table its)) within in
    let old : Some v.items ≡ Some (of number) =
    sym (slice_get-map its table number ∙ ap (option_map its) there)
    ∙ has.1 number (omega arith) (subst (λ n. number < n) has.0 few) in (
      ap (λ o. option_map_or (λ x. x) o v.items) old,
      subst (HasListsFrom (number + 1) count of) (sym (map-set its table number new)) (
        length-set ls number new.items ∙ has.0,
        λ i from below.
            get_set_other ls number i new.items (λ e. omega (arith, e, from)) ∙ has.1 i (omega (arith, from)) below,
      ),
    )

-- ---- entries

pub take-next : {X : Type 0} (xs : List X) (i : ℕ) (x : X) → slice_get xs i ≡ Some x
    → take (i + 1) xs ≡ take i xs ++ x ∷ []
take-next xs i x there =
    rw (add-one i)
    (take-suc xs i x (slice_get_within xs i x there)
    ∙ ap (λ y. take i xs ++ y ∷ []) (get_or_from_slice_get xs i x x there))

module _ (numbers : Numbers) where
  pub settled-more : (i : ℕ) (front : List Entry) (e : Entry)
      → settled_at numbers i front ++ settled_at numbers i (e ∷ []) ≡ settled_at numbers i (front ++ e ∷ [])
  settled-more i front e =
      let of : Entry → List Settled = λ x. results_by x.op x.reply in
      let p : Settled → Bool = λ r. is_number numbers i r.0.exec in
      sym (ap (filter p) (flat_map-append of front (e ∷ []))
      ∙ filter-append p (flat_map of front) (flat_map of (e ∷ [])))

  pub answered-more : (journal : List Entry) (i : ℕ) (front : List Entry) (e : Entry)
      → answered_at journal numbers i front ++ answered_at journal numbers i (e ∷ []) ≡ answered_at journal numbers i
      (front ++ e ∷ [])
  answered-more journal i front e =
      let of : Entry → List Move = λ x. moves_by numbers i x.op x.reply in
      sym (ap (flat_map (hits_of_move journal)) (flat_map-append of front (e ∷ []))
      ∙ flat_map-append (hits_of_move journal) (flat_map of front) (flat_map of (e ∷ [])))

  -- what an entry settles, where its execution has a number
  pub settled-numbered : (i number : ℕ) (e : Entry) (r : Settled) → r ∷ [] ≡ results_by e.op e.reply
      → numbered_in numbers r.0.exec ≡ Some number → settled_at numbers i (e ∷ []) ≡ cond (number == i) (r ∷ []) []
  settled-numbered i number e r is numbered =
      ap (filter (λ (q : Settled). is_number numbers i q.0.exec)) (append-nil (results_by e.op e.reply) ∙ sym is)
      ∙ ap (λ o. cond (option_map_or (λ j. j == i) o false) (r ∷ []) []) numbered

  pub settled-unnumbered : (i : ℕ) (e : Entry) (r : Settled) → r ∷ [] ≡ results_by e.op e.reply
      → numbered_in numbers r.0.exec ≡ None → settled_at numbers i (e ∷ []) ≡ []
  settled-unnumbered i e r is numbered =
      ap (filter (λ (q : Settled). is_number numbers i q.0.exec)) (append-nil (results_by e.op e.reply) ∙ sym is)
      ∙ ap (λ o. cond (option_map_or (λ j. j == i) o false) (r ∷ []) []) numbered

  pub settled-none : (i : ℕ) (e : Entry) → [] ≡ results_by e.op e.reply → settled_at numbers i (e ∷ []) ≡ []
  settled-none i e is =
      ap (filter (λ (q : Settled). is_number numbers i q.0.exec)) (append-nil (results_by e.op e.reply) ∙ sym is)

-- what moves cite, one after another, at a number
pub answers-next : {T : Type 0} (of : ℕ → List T) (number : ℕ) (front more : List T) (i : ℕ)
    → more_at (more_at of number front) number more i ≡ more_at of number (front ++ more) i
answers-next of number front more i = by (number == i)
  where
    by : (b : Bool) → (of i ++ cond b front []) ++ cond b more [] ≡ of i ++ cond b (front ++ more) []
    by true = append_assoc (of i) front more
    by false = append-nil (of i ++ [])

-- ---- steps of loops

pub empty-pushed : {T : Type 0} (count : ℕ) (table new : List (Vec T)) (v : Vec T) → new ≡ table ++ v ∷ []
    → v.items ≡ []
    → HasLists count (λ i. []) (lists_of table) → HasLists (count + 1) (λ i. []) (lists_of new)
empty-pushed {T} count table new v is empty has =
    let none : ℕ → List T = λ i. [] in
    subst (λ (t : List (Vec T)). HasLists (count + 1) none (lists_of t)) (sym is)
    (lists-pushed count none table v (sym empty) has)

-- nothing more at a number
pub nothing-more : {T : Type 0} (number count : ℕ) (of : ℕ → List T) (lists : List (List T)) → HasLists count of lists
    → HasLists count (more_at of number []) lists
nothing-more {T} number count of lists has =
    lists-alike 0 count of (more_at of number []) lists (λ i. by (number == i) (of i)) has
  where
    by : (b : Bool) (xs : List T) → xs ≡ xs ++ cond b [] []
    by true xs = sym (append-nil xs)
    by false xs = sym (append-nil xs)

-- each table has its own lists
lists-any : {T : Type 0} (ls : List (List T)) → HasLists (length ls) (λ i. get_or ls i []) ls
lists-any ls = (refl, λ i from below. slice_get-get_or ls i [] below)

-- The table of a loop over moves after so many: it has as many lists as before the loop, with what these cite at a
-- number.
abbrev pub IsCitedTable : List Entry → ℕ → List Move → List (Vec Answered) → List (Vec Answered) → Type 0
IsCitedTable journal number front old new =
    (length new ≡ length old)
    × ((count : ℕ) (of : ℕ → List Answered) → HasLists count of (lists_of old)
    → HasLists count (more_at of number (flat_map (hits_of_move journal) front)) (lists_of new))

pub cited-next : (journal : List Entry) (number : ℕ) (moves : List Move) (at : ℕ) (m : Move)
    → slice_get moves at ≡ Some m
    → (answered : List Answered) → answered ≡ hits_of_move journal m → (old now new : List (Vec Answered))
    → IsCitedTable journal number (take at moves) old now
    → ((count : ℕ) (of : ℕ → List Answered) → HasLists count of (lists_of now)
    → HasLists count (more_at of number answered) (lists_of new))
    → IsCitedTable journal number (take (at + 1) moves) old new
cited-next journal number moves at m there answered is old now new before added =
    let its : Vec Answered → List Answered = λ v. v.items in
    let hits : List Move → List Answered = flat_map (hits_of_move journal) in
    let more : hits (take at moves) ++ answered ≡ hits (take (at + 1) moves) =
    ap (λ xs. hits (take at moves) ++ xs) (is ∙ sym (append-nil (hits_of_move journal m)))
    ∙ sym (ap hits (take-next moves at m there) ∙ flat_map-append (hits_of_move journal) (take at moves) (m ∷ [])) in
    let own : length (lists_of new) ≡ length (lists_of now) =
    (added (length (lists_of now)) (λ i. get_or (lists_of now) i []) (lists-any (lists_of now))).0 in (
      sym (length-map new its) ∙ own ∙ length-map now its ∙ before.0,
      λ count of has.
          lists-alike 0 count (more_at (more_at of number (hits (take at moves))) number answered)
          (more_at of number (hits (take (at + 1) moves))) (lists_of new)
          (λ i. answers-next of number (hits (take at moves)) answered i ∙ ap (λ xs. more_at of number xs i) more)
          (added count (more_at of number (hits (take at moves))) (before.1 count of has)),
    )

-- an item that is there
pub found-pushed : {T : Type 0} (number : ℕ) (item : T) (o : Option T) → o ≡ Some item → (old new : List (List T))
    → ((count : ℕ) (of : ℕ → List T) → HasLists count of old → HasLists count (more_at of number (item ∷ [])) new)
    → (count : ℕ) (of : ℕ → List T) → HasLists count of old → HasLists count (more_at of number (option_to_list o)) new
found-pushed {T} number item o is old new pushed count of has =
    subst (λ (p : Option T). HasLists count (more_at of number (option_to_list p)) new) (sym is) (pushed count of has)

-- what the moves of an accepted Write cite, where its execution has a number
pub answered-numbered : (numbers : Numbers) (journal : List Entry) (i number : ℕ) (e : Entry) (exec : Text)
    (base version : ℕ)
    (moves : List Move) → e.op ≡ op.Write exec base moves → e.reply ≡ reply.Written version
    → numbered_in numbers exec ≡ Some number
    → answered_at journal numbers i (e ∷ []) ≡ cond (number == i) (flat_map (hits_of_move journal) moves) []
answered-numbered numbers journal i number e exec base version moves is_op is_reply numbered =
    let hits : List Move → List Answered = flat_map (hits_of_move journal) in
    ap hits (append-nil (moves_by numbers i e.op e.reply) ∙ (λ t. moves_by numbers i (is_op t) (is_reply t)))
    ∙ ap (λ o. hits (cond (option_map_or (λ j. j == i) o false) moves [])) numbered ∙ by (number == i)
  where
    by : (b : Bool) → flat_map (hits_of_move journal) (cond b moves []) ≡ cond b
        (flat_map (hits_of_move journal) moves) []
    by true = refl
    by false = refl
