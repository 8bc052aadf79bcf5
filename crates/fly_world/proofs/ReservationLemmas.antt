-- A reservation passes to another only after a sweep that let it go, or once its time is over.
use Rattle.std.proofs.Common.{◌≡◌, ◌⊎◌, inl, inr, ◌≤ℤ◌, ℤ, Bool, true, false, not, ◌&&◌, cond, List, [], ◌∷◌, find, filter, Option, Some, None, option_and_then, refl, sym, ap, ◌∙◌, ⊎_elim}
use Rattle.std.specs.Prelude.{int_lt}
use Rattle.std.specs.Option.{option_map_or}
use Rattle.std.proofs.lemmas.Bool.{and_parts, true≢false, false≢true}
use Rattle.std.proofs.lemmas.Option.{none-some, same_Some}
use Rattle.std.proofs.lemmas.Slice.Eq.{bytes_eq-Decides}
use Rattle.fly_types.specs.declared.text.Text.{Text}
use Rattle.fly_docs.specs.declared.dataset.DatasetId.{DatasetId}
use Rattle.fly_catalog.specs.declared.parts.Reservation.{Reservation}
use Rattle.fly_catalog.specs.declared.requests.Grant.{Grant}
use Rattle.fly_catalog.specs.declared.requests.Grant.TheVariants as grant
use Rattle.fly_catalog.specs.Catalog.{CatalogLists}
use Rattle.fly_catalog.specs.Parts.{same_text, same_dataset, is_reservation}
use Rattle.fly_catalog.specs.Requests.{reservation_of, lease_end, keeps_off, grant_of, with_reservation, after_grant, after_sweep}
use Rattle.fly_state.specs.declared.entries.Entry.{Entry}
use Rattle.fly_state.specs.declared.entries.Op.{Op}
use Rattle.fly_state.specs.declared.entries.Op.TheVariants as op
use Rattle.fly_state.specs.Plans.{RunPlan}
use Rattle.fly_world.specs.World.{World}
use Rattle.fly_world.specs.Changes.{Change, no_change, moment_becomes, catalog_becomes, lets_go, adds_execution, adds_launch, adds_claim, adds_outcome, adds_version, with_change, with_entry}
use Rattle.fly_world.specs.Steps.{heartbeat}
use Rattle.fly_world.specs.Journals.{Step}
use Rattle.fly_world.specs.Laws.{IsStillHeld, PassesOn}
use Rattle.fly_world.proofs.StepLemmas.{Permits, IsGrant, is_sweep}
use Rattle.fly_world.proofs.JournalLemmas.{TellsOf, step_cases}
use Rattle.fly_world.proofs.TimeoutLemmas.{not_less}

-- ---- lists

-- what is found is found among those that are kept, if it is kept
found_kept : (p q : Reservation → Bool) (xs : List Reservation) (r : Reservation) → find p xs ≡ Some r → q r ≡ true
    → find p (filter q xs) ≡ Some r
found_kept p q [] r h kept = absurd (none-some r h)
found_kept p q (x ∷ xs) r h kept = by (p x) (q x) refl refl h (λ rest. found_kept p q xs r rest kept)
  where
    by : (b c : Bool) → p x ≡ b → q x ≡ c → cond b (Some x) (find p xs) ≡ Some r
        → (find p xs ≡ Some r → find p (filter q xs) ≡ Some r) → find p (cond c (x ∷ filter q xs) (filter q xs))
        ≡ Some r
    by true true pe qe h later = rw pe h
    by true false pe qe h later = absurd (true≢false (sym kept ∙ ap q (sym (same_Some x r h)) ∙ qe))
    by false true pe qe h later = rw pe (later h)
    by false false pe qe h later = later h

-- ---- keys

text-is : (a b : Text) → same_text a b ≡ true → a ≡ b
text-is a b h = (bytes_eq-Decides a b).0 h

-- the test of a key, by the texts of what it is tested on
abbrev is_key : DatasetId → Text → Text → Text → Text → Text → Text → Bool
is_key d tag project domain name version key =
    (((same_text d.project project && same_text d.domain domain) && same_text d.name name) && same_text d.version version) && same_text tag key

-- what stands under a key that a reservation has stands under all keys like that reservation
like_key : (d : DatasetId) (tag : Text) (new x : Reservation) → is_reservation new.dataset new.tag x ≡ true
    → is_reservation d tag new ≡ is_reservation d tag x
like_key d tag new x h =
    let parts = and_parts (same_dataset new.dataset x.dataset) (same_text new.tag x.tag) h in
    let last = and_parts _ (same_text new.dataset.version x.dataset.version) parts.0 in
    let third = and_parts _ (same_text new.dataset.name x.dataset.name) last.0 in
    let first = and_parts (same_text new.dataset.project x.dataset.project)
    (same_text new.dataset.domain x.dataset.domain) third.0 in
    let project = text-is new.dataset.project x.dataset.project first.0 in
    let domain = text-is new.dataset.domain x.dataset.domain first.1 in
    let name = text-is new.dataset.name x.dataset.name third.1 in
    let version = text-is new.dataset.version x.dataset.version last.1 in
    let key = text-is new.tag x.tag parts.1 in
    ap (λ t. is_key d tag t new.dataset.domain new.dataset.name new.dataset.version new.tag) project
    ∙ ap (λ t. is_key d tag x.dataset.project t new.dataset.name new.dataset.version new.tag) domain
    ∙ ap (λ t. is_key d tag x.dataset.project x.dataset.domain t new.dataset.version new.tag) name
    ∙ ap (λ t. is_key d tag x.dataset.project x.dataset.domain x.dataset.name t new.tag) version
    ∙ ap (λ t. is_key d tag x.dataset.project x.dataset.domain x.dataset.name x.dataset.version t) key

-- ---- a reservation that is put into the list

module _ (d : DatasetId) (tag : Text) (new r : Reservation) where
  abbrev wanted : Reservation → Bool
  wanted = is_reservation d tag

  abbrev replaced : Reservation → Bool
  replaced = is_reservation new.dataset new.tag

  -- it takes the place of the key's reservation, or leaves it
  abbrev IsPut : List Reservation → Type 0
  IsPut rs =
      (find wanted (with_reservation rs new) ≡ Some r)
      ⊎ ((find wanted (with_reservation rs new) ≡ Some new) × (find replaced rs ≡ Some r))

  put_there : (rs : List Reservation) → find wanted rs ≡ Some r → IsPut rs
  put_there [] h = absurd (none-some r h)
  put_there (x ∷ xs) h = by (wanted x) (replaced x) refl refl h (put_there xs)
    where
      by : (b c : Bool) → wanted x ≡ b → replaced x ≡ c → cond b (Some x) (find wanted xs) ≡ Some r
          → (find wanted xs ≡ Some r → IsPut xs)
          → (find wanted (cond c (new ∷ xs) (x ∷ with_reservation xs new)) ≡ Some r)
          ⊎ ((find wanted (cond c (new ∷ xs) (x ∷ with_reservation xs new)) ≡ Some new)
          × (cond c (Some x) (find replaced xs) ≡ Some r))
      by true true we re h later = inr (rw (like_key d tag new x re ∙ we) refl, h)
      by false true we re h later = inl (rw (like_key d tag new x re ∙ we) h)
      by true false we re h later = inl (rw we h)
      by false false we re h later = further we (later h)
        where
          further : wanted x ≡ false → IsPut xs
              → (find wanted (x ∷ with_reservation xs new) ≡ Some r)
              ⊎ ((find wanted (x ∷ with_reservation xs new) ≡ Some new) × (find replaced xs ≡ Some r))
          further we (inl left) = inl (rw we left)
          further we (inr taken) = inr (rw we taken.0, taken.1)

-- ---- grants

abbrev is_held : Grant → Bool
is_held (grant.HeldBy owner expiry) = true
is_held (grant.Granted expiry) = false

module _ (c : CatalogLists) (d : DatasetId) (tag : Text) (owner : Text) (moment beat : ℤ) (r : Reservation)
    (there : reservation_of c d tag ≡ Some r) where
  abbrev bar : Reservation → Option Reservation
  bar x = cond (keeps_off x owner moment) (Some x) None

  abbrev grant_by : Option Reservation → Grant
  grant_by o = option_map_or (λ (x : Reservation). grant.HeldBy x.owner x.expiry) (option_and_then bar o)
      (grant.Granted (lease_end moment beat))

  -- who is granted what another has comes when its time is over
  granted-over : (expiry : ℤ) → grant_of c d tag owner moment beat ≡ grant.Granted expiry → same_text owner r.owner
      ≡ false → r.expiry ≤ℤ moment
  granted-over expiry is other = by (keeps_off r owner moment) refl (sym (ap grant_by there) ∙ is)
    where
      by : (b : Bool) → keeps_off r owner moment ≡ b
          → option_map_or (λ (x : Reservation). grant.HeldBy x.owner x.expiry) (cond b (Some r) None)
          (grant.Granted (lease_end moment beat))
          ≡ grant.Granted expiry → r.expiry ≤ℤ moment
      by true e held = absurd (true≢false (ap is_held held))
      by false e held = not_less moment r.expiry (early (int_lt moment r.expiry) (same_text owner r.owner) e other)
        where
          early : (a b : Bool) → a && not b ≡ false → b ≡ false → a ≡ false
          early true true e h = absurd (true≢false h)
          early true false e h = absurd (true≢false e)
          early false b e h = refl

-- ---- worlds

sweep-is : (o : Op) → is_sweep o ≡ true → o ≡ op.Sweep
sweep-is op.Sweep h = refl
sweep-is (op.Begin closure) h = absurd (false≢true h)
sweep-is (op.Import dataset tag content) h = absurd (false≢true h)
sweep-is (op.Submit exec inputs) h = absurd (false≢true h)
sweep-is (op.Tick now) h = absurd (false≢true h)
sweep-is (op.Read from back) h = absurd (false≢true h)
sweep-is (op.Lookup exec path) h = absurd (false≢true h)
sweep-is (op.Reserve exec path) h = absurd (false≢true h)
sweep-is (op.Launch name inputs) h = absurd (false≢true h)
sweep-is (op.Expire name) h = absurd (false≢true h)
sweep-is (op.Put exec path) h = absurd (false≢true h)
sweep-is (op.Write exec base moves) h = absurd (false≢true h)
sweep-is op.Claim h = absurd (false≢true h)
sweep-is (op.Finish name o) h = absurd (false≢true h)

module _ (plan : RunPlan) (w : World) (d : DatasetId) (tag : Text) (r : Reservation)
    (there : reservation_of w.catalog d tag ≡ Some r) where
  still : (new : World) → new.catalog.reservations ≡ w.catalog.reservations → IsStillHeld new d tag r.owner
  still new same = (r, ap (find (is_reservation d tag)) same ∙ there, refl)

  taken : (new : World) (f : DatasetId) (key owner : Text) (expiry : ℤ)
      → grant_of w.catalog f key owner w.moment heartbeat ≡ grant.Granted expiry
      → new.catalog ≡ after_grant w.catalog f key owner (grant.Granted expiry)
      → IsPut d tag (record { dataset = f; tag = key; owner = owner; expiry = expiry }) r w.catalog.reservations
      → IsStillHeld new d tag r.owner ⊎ (r.expiry ≤ℤ w.moment)
  taken new f key owner expiry is catalog (inl left) = inl
      (r, ap (λ (c : CatalogLists). find (is_reservation d tag) c.reservations) catalog ∙ left, refl)
  taken new f key owner expiry is catalog (inr both) = by (same_text owner r.owner) refl
    where
      by : (b : Bool) → same_text owner r.owner ≡ b → IsStillHeld new d tag r.owner ⊎ (r.expiry ≤ℤ w.moment)
      by true e = inl (
        record { dataset = f; tag = key; owner = owner; expiry = expiry },
        ap (λ (c : CatalogLists). find (is_reservation d tag) c.reservations) catalog
            ∙ both.0,
        text-is owner r.owner e,
      )
      by false e = inr (granted-over w.catalog f key owner w.moment heartbeat r both.1 expiry is e)

  -- by what was answered to an owner that asked for a key
  by_grant : (new : World) (f : DatasetId) (key owner : Text) (g : Grant)
      → grant_of w.catalog f key owner w.moment heartbeat ≡ g
      → new.catalog ≡ after_grant w.catalog f key owner g → IsStillHeld new d tag r.owner ⊎ (r.expiry ≤ℤ w.moment)
  by_grant new f key owner (grant.HeldBy holder expiry) is catalog = inl
      (still new (ap (λ (c : CatalogLists). c.reservations) catalog))
  by_grant new f key owner (grant.Granted expiry) is catalog =
      taken new f key owner expiry is catalog
      (put_there d tag (record { dataset = f; tag = key; owner = owner; expiry = expiry }) r w.catalog.reservations there)

  by_catalog : (new : World) (catalog : CatalogLists) → new.catalog ≡ catalog
      → (catalog.reservations ≡ w.catalog.reservations) ⊎ IsGrant w catalog → IsStillHeld new d tag r.owner
      ⊎ (r.expiry ≤ℤ w.moment)
  by_catalog new catalog is (inl same) = inl (still new (ap (λ (c : CatalogLists). c.reservations) is ∙ same))
  by_catalog new catalog is (inr g) = by_grant new g.0 g.1 g.2
      (grant_of w.catalog g.0 g.1 g.2 w.moment heartbeat) refl (is ∙ g.3)

  -- a sweep keeps it, unless its owner has ended
  by_sweep : (new : World) (ends : Text → Bool) → new.catalog ≡ after_sweep w.catalog ends
      → IsStillHeld new d tag r.owner ⊎ (ends r.owner ≡ true)
  by_sweep new ends is = by (ends r.owner) refl
    where
      by : (b : Bool) → ends r.owner ≡ b → IsStillHeld new d tag r.owner ⊎ (ends r.owner ≡ true)
      by true e = inr e
      by false e = inl (
        r,
        ap (λ (c : CatalogLists). find (is_reservation d tag) c.reservations) is
            ∙ found_kept (is_reservation d tag)
            (λ (x : Reservation). not (ends x.owner)) w.catalog.reservations r there (ap not e),
        refl,
      )

  passes_change : (e : Entry) (c : Change) → Permits plan w c → TellsOf w e.op e.reply c
      → PassesOn plan w (with_entry (with_change w c) e) e d tag r
  passes_change e no_change permits tells = inl (still (with_entry w e) refl)
  passes_change e (moment_becomes moment) permits tells = inl
      (still (with_entry (with_change w (moment_becomes moment)) e) refl)
  passes_change e (catalog_becomes catalog) permits tells =
      ⊎_elim inl (λ over. inr (inr over))
      (by_catalog (with_entry (with_change w (catalog_becomes catalog)) e) catalog refl permits)
  passes_change e (lets_go ends) permits tells =
      ⊎_elim inl (λ ended. inr (inl (sweep-is e.op (tells.5 refl), ap (λ f. f r.owner) (sym permits) ∙ ended)))
      (by_sweep (with_entry (with_change w (lets_go ends)) e) ends refl)
  passes_change e (adds_execution name inputs state) permits tells =
      inl (still (with_entry (with_change w (adds_execution name inputs state)) e) refl)
  passes_change e (adds_launch name inputs) permits tells = inl
      (still (with_entry (with_change w (adds_launch name inputs)) e) refl)
  passes_change e (adds_claim name) permits tells = inl (still (with_entry (with_change w (adds_claim name)) e) refl)
  passes_change e (adds_outcome name o) permits tells = inl
      (still (with_entry (with_change w (adds_outcome name o)) e) refl)
  passes_change e (adds_version at state) permits tells = inl
      (still (with_entry (with_change w (adds_version at state)) e) refl)

  pub passes-on : (new : World) (e : Entry) → Step plan w e new → PassesOn plan w new e d tag r
  passes-on new e s = step_cases plan (λ v. PassesOn plan w v e d tag r) w new e s (passes_change e)
