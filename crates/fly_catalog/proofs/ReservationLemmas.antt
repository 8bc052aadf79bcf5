-- The list of reservations after one is replaced, appended or taken away, by their serial numbers.
use Rattle.std.proofs.Common.{◌≡◌, ◌⊎◌, ℕ, zero, suc, ◌+◌, ◌<◌, Bool, true, false, List, [], ◌∷◌, ◌++◌, inl, inr, sym, ◌∙◌, subst, ap, refl, arith}
use Rattle.std.specs.Prelude.{Option, Some, None, cond, slice_get, option_and_then, IsSome, Result, Ok, Err, OnOk, OnErr, if◌then◌else◌, filter, count_by, not, length}
use Rattle.std.specs.List.{find}
use Rattle.std.specs.declared.cmp.Ordering.{Ordering}
use Rattle.std.specs.declared.cmp.Ordering.TheVariants.{Less, Equal, Greater}
use Rattle.std.specs.Ordering.{nat_cmp, is_eq}
use Rattle.std.specs.Cmp.{nat_cmp_total, nat_cmp_is, both_ways, tied_itself, Equal-is}
use Rattle.std.specs.Map.{keys_of, values_of, lookup, remove_entry}
use Rattle.std.specs.List.Sorted.{IsStrictlySortedBy}
use Rattle.std.specs.BTreeMap.{BTreeMap, get, is_at, insert_entry, values, IsOrdered, Updates, IsUnchanged}
use Rattle.std.proofs.lemmas.List.Sums.{length-filter}
use Rattle.std.proofs.lemmas.List.Filters.{length-filter_both}
use Rattle.std.proofs.lemmas.Map.{lookup-none}
use Rattle.std.proofs.lemmas.Map.Keys.{sorted_tail}
use Rattle.std.proofs.lemmas.Map.Entries.{length-values_of, none_below_head, btree_map_get_place, place_from_lookup}
use Rattle.std.proofs.lemmas.Map.Lookups.{exact_unsigned}
use Rattle.fly_types.specs.declared.text.Text.{Text}
use Rattle.fly_docs.specs.declared.dataset.DatasetId.{DatasetId}
use Rattle.fly_catalog.specs.declared.parts.Reservation.{Reservation}
use Rattle.fly_catalog.specs.Names.{Numbers, ItemKey, IsNumbering, item_key}
use Rattle.fly_catalog.specs.Parts.{is_reservation}
use Rattle.fly_catalog.specs.Index.{Indexes}
use Rattle.fly_catalog.specs.Catalog.{CatalogLists, item_cmp, reservation_key, AreReserved}
use Rattle.fly_catalog.proofs.CatalogLemmas.{reservation_answer}
use Rattle.fly_catalog.specs.Requests.{with_reservation, without_reservation, holds, after_release}
use Rattle.fly_catalog.specs.Reservations.{reservation_at, is_holder, without_key, Promises, MayPromise}
use Rattle.fly_catalog.proofs.Finds.{by_test}
use Rattle.fly_catalog.proofs.IndexLemmas.{number_at, change, add, promise, option_cases}
use Rattle.fly_catalog.proofs.KeyLemmas.{item_key_same, item_of_key, exact_item}
use Rattle.fly_catalog.proofs.MapLemmas.{after_update}

-- ---- lists

-- a new reservation of a key that has none goes to the end
pub with_absent : (rs : List Reservation) (new : Reservation) → ((j : ℕ) (r : Reservation) → slice_get rs j ≡ Some r → is_reservation new.dataset new.tag r ≡ false)
    → with_reservation rs new ≡ rs ++ new ∷ []
with_absent [] new apart = refl
with_absent (r ∷ rs) new apart = rw (apart 0 r refl, with_absent rs new (λ j s. apart (suc j) s)) refl

-- an entry with a number above all others goes to the end
pub insert_last : {X : Type 0} (es : List (ℕ × X)) (s : ℕ) (v : X) → ((j : ℕ) (e : ℕ × X) → slice_get es j ≡ Some e → e.0 < s) → insert_entry nat_cmp es s v ≡ es ++ (s, v) ∷ []
insert_last [] s v below = refl
insert_last (e ∷ es) s v below =
    rw (← nat_cmp_is s e.0 Greater (below 0 e refl), insert_last es s v (λ j f. below (suc j) f)) refl

values_push : (es : List (ℕ × Reservation)) (s : ℕ) (r : Reservation) → values_of (es ++ (s, r) ∷ []) ≡ values_of es ++ r ∷ []
values_push [] s r = refl
values_push (e ∷ es) s r = rw (values_push es s r) refl

-- of each entry, whether it is of the key shows in its number
abbrev Agrees : DatasetId → Text → ℕ → List (ℕ × Reservation) → Type 0
Agrees d tag s es = (j : ℕ) (e : ℕ × Reservation) → slice_get es j ≡ Some e → is_reservation d tag e.1 ≡ is_at (nat_cmp s) e.0

-- the reservation of a number takes another's place
pub with_replaced : (es : List (ℕ × Reservation)) (s : ℕ) (new : Reservation) → IsStrictlySortedBy nat_cmp (keys_of es) → Agrees new.dataset new.tag s es
    → (there : Reservation) → lookup (is_at (nat_cmp s)) es ≡ Some there → with_reservation (values_of es) new ≡ values_of (insert_entry nat_cmp es s new)
with_replaced [] s new sorted agrees there h = cc
with_replaced (e ∷ es) s new sorted agrees there h =
    at (nat_cmp s e.0) refl (λ l. with_replaced es s new (sorted_tail nat_cmp e.0 (keys_of es) sorted) (λ j f. agrees (suc j) f) there l)
  where
    at : (o : Ordering) → nat_cmp s e.0 ≡ o
        → (lookup (is_at (nat_cmp s)) es ≡ Some there → with_reservation (values_of es) new ≡ values_of (insert_entry nat_cmp es s new))
        → with_reservation (values_of (e ∷ es)) new ≡ values_of (insert_entry nat_cmp (e ∷ es) s new)
    at Less o rest =
        let none = lookup-none (is_at (nat_cmp s)) (e ∷ es) (none_below_head nat_cmp_total s e es sorted o) in
        let t : None ≡ Some there = sym none ∙ h in
        cc
    at Equal o rest = rw (agrees 0 e refl, o) refl
    at Greater o rest = rw (agrees 0 e refl, o) (ap (λ rs. e.1 ∷ rs) (rest (rw o at h)))

-- the reservation of a number is taken away
pub without_removed : (es : List (ℕ × Reservation)) (s : ℕ) (d : DatasetId) (tag : Text) → Agrees d tag s es
    → without_reservation (values_of es) d tag ≡ values_of (remove_entry (is_at (nat_cmp s)) es)
without_removed [] s d tag agrees = refl
without_removed (e ∷ es) s d tag agrees =
    by_test (is_at (nat_cmp s) e.0)
    (λ passed. rw (agrees 0 e refl, passed) refl)
    (λ failed. rw (agrees 0 e refl, failed, without_removed es s d tag (λ j f. agrees (suc j) f)) refl)

-- where nothing is found, nothing passes
pub fails_at : {X : Type 0} (p : X → Bool) (xs : List X) → find p xs ≡ None → (j : ℕ) (x : X) → slice_get xs j ≡ Some x → p x ≡ false
fails_at p [] none j x h = cc
fails_at {X} p (y ∷ ys) none j x h =
    by_test (p y)
    (λ passed. (let t = rw passed at none in absurd (cc)))
    (λ failed. later failed (λ i k. fails_at p ys (rw failed at none) i x k) j h)
  where
    later : p y ≡ false → ((i : ℕ) → slice_get ys i ≡ Some x → p x ≡ false) → (j : ℕ) → slice_get (y ∷ ys) j ≡ Some x → p x ≡ false
    later failed rest zero h = let is : y ≡ x = cc in cc
    later failed rest (suc i) h = rest i h

-- ---- indexes

module _ (n : Numbers) (own : IsNumbering n) (live : BTreeMap ℕ Reservation) (serials : BTreeMap ItemKey ℕ) (next : ℕ) (reserved : AreReserved n live serials next) where
  at_place : (j : ℕ) (e : ℕ × Reservation) → slice_get live.entries j ≡ Some e → get nat_cmp live e.0 ≡ Some e.1
  at_place j e h = btree_map_get_place nat_cmp_total live j e.0 e.1 reserved.ordered h

  -- of each entry, whether it is of the key shows in its number
  pub agrees : (d : DatasetId) (tag : Text) (k : ItemKey) (s : ℕ) → item_key n d tag ≡ Some k → get item_cmp serials k ≡ Some s → Agrees d tag s live.entries
  agrees d tag k s has leads j e h =
      both_ways _ _
      (λ passed. (
      let same : reservation_key n e.1 ≡ Some k = item_key_same n d e.1.dataset tag e.1.tag passed ∙ has in
      let number = number_at _ _ _ _ reserved.found e.0 e.1 k (at_place j e h) same in
      let is : e.0 ≡ s = cc in
      rw is (ap is_eq (tied_itself nat_cmp_total s))))
      (λ passed. (
      let is : s ≡ e.0 = exact_unsigned s e.0 ((Equal-is (nat_cmp s e.0)).0 passed) in
      let P : ℕ → Type 0 = λ m. get item_cmp serials k ≡ Some m in
      let key = reserved.found.sound k e.0 e.1 (subst P is leads) (at_place j e h) in
      item_of_key n own d e.1.dataset tag e.1.tag k has key))

  -- the numbers of entries are below the next
  pub numbers_below : (j : ℕ) (e : ℕ × Reservation) → slice_get live.entries j ≡ Some e → e.0 < next
  numbers_below j e h = reserved.found.within e.0 e.1 (at_place j e h)

  module _ (live' : BTreeMap ℕ Reservation) (ordered : IsOrdered nat_cmp live') where
    -- another reservation of the key stands under its number
    pub reserved_replaced : (k : ItemKey) (s : ℕ) (r : Reservation) → reservation_key n r ≡ Some k → get item_cmp serials k ≡ Some s
        → (there : Reservation) → get nat_cmp live s ≡ Some there → Updates nat_cmp live live' s (Some r) → AreReserved n live' serials next
    reserved_replaced k s r has leads there is updated = record {
      found = change _ _ _ _ reserved.found (λ i. get nat_cmp live' i) (λ i y h.
          elim (after_update exact_unsigned live live' s (Some r) updated i) [
            | inl (at, now) ↦ (
                let same : r ≡ y = (let t : Some r ≡ Some y = sym now ∙ h in cc) in
                let P : ℕ → Type 0 = λ m. get nat_cmp live m ≡ Some there in
                let Q : Reservation → Type 0 = λ w. reservation_key n w ≡ reservation_key n there in
                (there, subst P at is, subst Q same (has ∙ sym (reserved.found.sound k s there leads is))))
            | inr now ↦ (y, sym now ∙ h, refl)
          ]);
      ordered = ordered;
    }

    -- fewer reservations
    pub reserved_fewer : ((i : ℕ) (y : Reservation) → get nat_cmp live' i ≡ Some y → get nat_cmp live i ≡ Some y) → AreReserved n live' serials next
    reserved_fewer fewer = record {
      found = change _ _ _ _ reserved.found (λ i. get nat_cmp live' i) (λ i y h. (y, fewer i y h, refl));
      ordered = ordered;
    }

  module _ (k : ItemKey) (none : reservation_at serials live k ≡ None) (serials' : BTreeMap ItemKey ℕ) (next' : ℕ) (promises : Promises serials serials' next next' k) where
    unused : (i : ℕ) (x : Reservation) → get item_cmp serials k ≡ Some i → get nat_cmp live i ≡ Some x → ⊥
    unused i x leads h =
        let P : Option ℕ → Type 0 = λ o. option_and_then (λ s. get nat_cmp live s) o ≡ None in
        let t : get nat_cmp live i ≡ None = subst P leads none in
        cc

    -- the key leads to a new number, and nothing stands there yet
    pub reserved_promised : AreReserved n live serials' next'
    reserved_promised =
        let P : ℕ → Type 0 = λ m. AreReserved n live serials' m in
        subst P (sym promises.next) (record {
          found = promise _ _ _ _ reserved.found (λ q. get item_cmp serials' q) k (after_update exact_item serials serials' k (Some next) promises.serials) unused;
          ordered = reserved.ordered;
        })

    -- the key leads to a new number, and the new reservation stands there
    pub reserved_appended : (live' : BTreeMap ℕ Reservation) → IsOrdered nat_cmp live' → (r : Reservation) → reservation_key n r ≡ Some k
        → Updates nat_cmp live live' next (Some r) → AreReserved n live' serials' next'
    reserved_appended live' ordered r has updated =
        let P : ℕ → Type 0 = λ m. AreReserved n live' serials' m in
        subst P (sym promises.next) (record {
          found = add _ _ _ _ reserved.found (λ q. get item_cmp serials' q) k (after_update exact_item serials serials' k (Some next) promises.serials) unused
              promises.serials.1 (λ i. get nat_cmp live' i) r has (λ i.
              elim (after_update exact_unsigned live live' next (Some r) updated i) [
                | inl (at, now) ↦ inl (sym at, now)
                | inr now ↦ inr now
              ]);
          ordered = ordered;
        })

-- equal entries are found alike
pub reserved_same : (n : Numbers) (live live' : BTreeMap ℕ Reservation) (serials serials' : BTreeMap ItemKey ℕ) (next : ℕ)
    → live'.entries ≡ live.entries → serials'.entries ≡ serials.entries → AreReserved n live serials next → AreReserved n live' serials' next
reserved_same n live live' serials serials' next e f reserved =
    let P : List (ℕ × Reservation) → Type 0 = λ es. Indexes (λ k. get item_cmp serials k) (λ i. lookup (is_at (nat_cmp i)) es) (reservation_key n) next in
    let Q : List (ItemKey × ℕ) → Type 0 = λ es. Indexes (λ k. lookup (is_at (item_cmp k)) es) (λ i. get nat_cmp live' i) (reservation_key n) next in
    let R : List (ℕ × Reservation) → Type 0 = λ es. IsStrictlySortedBy nat_cmp (keys_of es) in
    record { found = subst Q (sym f) (subst P (sym e) reserved.found); ordered = subst R (sym e) reserved.ordered }

-- ---- what the calls leave

-- what holds of a success is carried on
pub map_ok : {T E P Q : Type 0} (r : Result T E) → OnOk r P → (P → Q) → OnOk r Q
map_ok (Ok x) p f = f p
map_ok (Err e) p f = p

-- the value that is there
pub some_value : {X : Type 0} (o : Option X) → IsSome o → (x : X) × (o ≡ Some x)
some_value None h = absurd (cc)
some_value (Some x) h = (x, refl)

-- a catalog with equal reservations
pub with_equal : (c : CatalogLists) (rs qs : List Reservation) → rs ≡ qs
    → (let a : CatalogLists = record c { reservations = rs } in let b : CatalogLists = record c { reservations = qs } in a ≡ b)
with_equal c rs qs e = rw e refl

-- a catalog from which a reservation was taken away, or none
pub after_release_by : (c : CatalogLists) (d : DatasetId) (tag owner : Text) (b : Bool) → b ≡ holds c d tag owner → (rs : List Reservation)
    → rs ≡ (if b then without_reservation c.reservations d tag else c.reservations) → (let a : CatalogLists = record c { reservations = rs } in a ≡ after_release c d tag owner)
after_release_by c d tag owner true h rs e = rw (← h, e) refl
after_release_by c d tag owner false h rs e = rw (← h, e) refl

module _ (n : Numbers) (own : IsNumbering n) (live : BTreeMap ℕ Reservation) (serials : BTreeMap ItemKey ℕ) (next : ℕ) (reserved : AreReserved n live serials next) where
  -- the list after a release
  pub released : (d : DatasetId) (tag : Text) (k : ItemKey) → item_key n d tag ≡ Some k → (owner : Text) (b : Bool) → b ≡ is_holder serials live k owner
      → (es : List (ℕ × Reservation)) → es ≡ (if b then without_key serials live.entries k else live.entries)
      → values_of es ≡ (if b then without_reservation (values_of live.entries) d tag else values_of live.entries)
  released d tag k has owner false h es e = ap values_of e
  released d tag k has owner true h es e = at (get item_cmp serials k) refl
    where
      at : (o : Option ℕ) → get item_cmp serials k ≡ o → values_of es ≡ without_reservation (values_of live.entries) d tag
      at None none = let t : true ≡ false = rw none at h in absurd (cc)
      at (Some s) leads =
          let removed : es ≡ remove_entry (is_at (nat_cmp s)) live.entries = rw leads at e in
          ap values_of removed ∙ sym (without_removed live.entries s d tag (agrees n own live serials next reserved d tag k s has leads))

  -- the list after a replacement
  pub replaced : (k : ItemKey) (s : ℕ) (r : Reservation) → reservation_key n r ≡ Some k → get item_cmp serials k ≡ Some s → (there : Reservation) → get nat_cmp live s ≡ Some there
      → (es : List (ℕ × Reservation)) → es ≡ insert_entry nat_cmp live.entries s r → values_of es ≡ with_reservation (values_of live.entries) r
  replaced k s r has leads there is es e =
      ap values_of e ∙ sym (with_replaced live.entries s r reserved.ordered (agrees n own live serials next reserved r.dataset r.tag k s has leads) there is)

  module _ (k : ItemKey) (r : Reservation) (has : reservation_key n r ≡ Some k) (none : reservation_at serials live k ≡ None) where
    -- the list after one more
    pub appended : (es : List (ℕ × Reservation)) → es ≡ insert_entry nat_cmp live.entries next r → values_of es ≡ with_reservation (values_of live.entries) r
    appended es e =
        let answer = reservation_answer n own live reserved.ordered serials next reserved.found r.dataset r.tag (Some k) (sym has) in
        ap values_of e ∙ ap values_of (insert_last live.entries next r (numbers_below n own live serials next reserved)) ∙ values_push live.entries next r
        ∙ sym (with_absent (values_of live.entries) r (fails_at (is_reservation r.dataset r.tag) (values_of live.entries) (answer ∙ none)))

    -- the index after a try to append, which may find no memory
    pub reserved_tried : (live' : BTreeMap ℕ Reservation) (serials' : BTreeMap ItemKey ℕ) (next' : ℕ) {E : Type 0} (result : Result (Unit {0}) E)
        → OnOk result (Promises serials serials' next next' k) → OnOk result (Updates nat_cmp live live' next (Some r)) → OnOk result (IsOrdered nat_cmp live')
        → OnErr result (IsUnchanged live live') → OnErr result (MayPromise serials serials' next next' k) → AreReserved n live' serials' next'
    reserved_tried live' serials' next' (Ok u) promises updated ordered kept may =
        reserved_appended n own live serials next reserved k none serials' next' promises live' ordered r has updated
    reserved_tried live' serials' next' (Err e) promises updated ordered kept (inl same) =
        let P : ℕ → Type 0 = λ m. AreReserved n live' serials' m in
        subst P (sym same.1) (reserved_same n live live' serials serials' next kept same.0 reserved)
    reserved_tried live' serials' next' (Err e) promises updated ordered kept (inr promised) =
        reserved_same n live live' serials' serials' next' kept refl (reserved_promised n own live serials next reserved k none serials' next' promised)

-- ---- a sweep

-- the values of the entries that pass
pub values_of_filter : (p : Reservation → Bool) (es : List (ℕ × Reservation)) → values_of (filter (λ e. p e.1) es) ≡ filter p (values_of es)
values_of_filter p [] = refl
values_of_filter p (e ∷ es) =
    by_test (p e.1) (λ passed. rw (passed, values_of_filter p es) refl) (λ failed. rw (failed, values_of_filter p es) refl)

-- what passes and what does not are all
pub passing_and_not : (p : Reservation → Bool) (rs : List Reservation) → count_by p rs + length (filter (λ r. not (p r)) rs) ≡ length rs
passing_and_not p rs = rw (← length-filter p rs) (length-filter_both p (λ r. not (p r)) (λ r. refl) rs)

-- what a filter keeps stood in the list
filter_place : {X : Type 0} (p : X → Bool) (xs : List X) (j : ℕ) (x : X) → slice_get (filter p xs) j ≡ Some x → (i : ℕ) × (slice_get xs i ≡ Some x)
filter_place p [] j x h = cc
filter_place {X} p (y ∷ ys) j x h =
    by_test (p y)
    (λ passed. kept j (rw passed at h) (λ k t. filter_place p ys k x t))
    (λ failed. (let s = filter_place p ys j x (rw failed at h) in (suc s.0, s.1)))
  where
    kept : (j : ℕ) → slice_get (y ∷ filter p ys) j ≡ Some x → ((k : ℕ) → slice_get (filter p ys) k ≡ Some x → (i : ℕ) × (slice_get ys i ≡ Some x)) → (i : ℕ) × (slice_get (y ∷ ys) i ≡ Some x)
    kept zero t rest = (0, t)
    kept (suc k) t rest = let s = rest k t in (suc s.0, s.1)

-- no reservation is new after a filter
pub fewer_by_filter : (p : ℕ × Reservation → Bool) (live live' : BTreeMap ℕ Reservation) → IsOrdered nat_cmp live → live'.entries ≡ filter p live.entries
    → (i : ℕ) (y : Reservation) → get nat_cmp live' i ≡ Some y → get nat_cmp live i ≡ Some y
fewer_by_filter p live live' ordered e i y h =
    let s = place_from_lookup (is_at (nat_cmp i)) live'.entries y h in
    let P : List (ℕ × Reservation) → Type 0 = λ es. slice_get es s.0 ≡ Some (s.1, y) in
    let t = filter_place p live.entries s.0 (s.1, y) (subst P e s.2) in
    let is : i ≡ s.1 = exact_unsigned i s.1 ((Equal-is (nat_cmp i s.1)).0 s.3) in
    let Q : ℕ → Type 0 = λ m. get nat_cmp live m ≡ Some y in
    subst Q (sym is) (btree_map_get_place nat_cmp_total live t.0 s.1 y ordered t.1)

module _ (ends : Text → Bool) (live live' : BTreeMap ℕ Reservation) (e : live'.entries ≡ filter (λ e. not (ends e.1.owner)) live.entries) where
  -- the list after a sweep
  pub swept : values_of live'.entries ≡ filter (λ r. not (ends r.owner)) (values_of live.entries)
  swept = ap values_of e ∙ values_of_filter (λ r. not (ends r.owner)) live.entries

  -- how many a sweep takes away
  pub swept_count : count_by (λ r. ends r.owner) (values_of live.entries) + length live'.entries ≡ length live.entries
  swept_count =
      let all = passing_and_not (λ r. ends r.owner) (values_of live.entries) in
      let left : length live'.entries ≡ length (filter (λ r. not (ends r.owner)) (values_of live.entries)) = sym (length-values_of live'.entries) ∙ ap length swept in
      rw left (all ∙ length-values_of live.entries)
