-- Owners of reservations: a text is that of one node in one execution, so the table of owners tells who has ended.
use Rattle.std.proofs.Common.{◌≡◌, ◌≢◌, ℕ, suc, ◌+◌, ◌<◌, Bool, true, false, not, ◌&&◌, ◌||◌, cond, List, [], ◌∷◌, ◌++◌, map, filter, length, get_or, bytes_eq, All, AllPairs, Option, Some, None, is_some, Bor, refl, sym, ◌∙◌, ap, subst, ⊎_elim, arith}
use Rattle.std.specs.List.{list_any, enumerate_from, slice_get, count_by}
use Rattle.std.specs.Option.{option_map, option_and_then, option_map_or, option_copied, IsSome}
use Rattle.std.specs.Ordering.{nat_cmp, is_eq}
use Rattle.std.specs.Cmp.Lexicographic.{slice_cmp}
use Rattle.std.specs.BTreeMap.{BTreeMap, get, is_at, IsUnchanged}
use Rattle.std.specs.Map.{lookup}
use Rattle.std.proofs.lemmas.Bool.{cases_order, and_parts, true≢false, false≢true, cond-true, cond-false}
use Rattle.std.proofs.lemmas.List.Elements.{All-head, All-tail, All-cons, All-weaker, All-filter, All-get_or}
use Rattle.std.proofs.lemmas.List.Folds.{list_any_at}
use Rattle.std.proofs.lemmas.List.Sums.{length-filter}
use Rattle.std.proofs.lemmas.Map.Text.{is_eq-slice_cmp}
use Rattle.std.proofs.lemmas.Option.{none-some, same_Some, slice_get_within, slice_get-map, get_or_from_slice_get}
use Rattle.std.proofs.lemmas.Slice.Eq.{bytes_eq-Decides}
use Rattle.fly_types.specs.declared.text.Text.{Text}
use Rattle.fly_docs.specs.declared.node.Node.{Node}
use Rattle.fly_docs.specs.declared.workflow.Workflow.{Workflow}
use Rattle.fly_docs.specs.Names.{IsId}
use Rattle.fly_docs.specs.Plans.{PlanNode}
use Rattle.fly_docs.specs.AttemptName.{Lacks}
use Rattle.fly_docs.proofs.NameTexts.{parted, id_lacks}
use Rattle.fly_catalog.proofs.Finds.{by_test}
use Rattle.fly_catalog.specs.declared.parts.Reservation.{Reservation}
use Rattle.fly_catalog.specs.declared.requests.Grant.{Grant}
use Rattle.fly_catalog.specs.declared.requests.Grant.TheVariants as grant
use Rattle.fly_docs.specs.declared.dataset.DatasetId.{DatasetId}
use Rattle.fly_catalog.specs.Cached.{owner_text}
use Rattle.fly_catalog.specs.Catalog.{CatalogLists}
use Rattle.fly_catalog.specs.Parts.{is_reservation}
use Rattle.fly_catalog.specs.Requests.{with_reservation, after_grant, after_sweep}
use Rattle.fly_state.specs.Plans.{RunPlan, node_numbered, number_of}
use Rattle.fly_state.specs.PlanTables.{IsOuterPlan, outer_node}
use Rattle.fly_state.specs.States.{is_final, phase_of}
use Rattle.fly_state.proofs.Lists.{enumerated-at}
use Rattle.fly_state.proofs.OuterPlans.{numbered-outer}
use Rattle.fly_state.proofs.OuterNodes.{number_of-own}
use Rattle.fly_world.specs.declared.spots.Spot as numbers
use Rattle.fly_world.specs.World.{World, Execution, is_over}
use Rattle.fly_world.specs.Versions.{HasNamesOfPlan, execution_names}
use Rattle.fly_world.specs.Spots.{Spot, owner_at, is_ended_at, is_ended_in, is_ended}
use Rattle.fly_world.specs.Store.{spot_in, IsOwner, HasOwners, has_ended_in, has_ended_owner}

-- ---- lists

none_pass : {X : Type 0} (p : X → Bool) (xs : List X) → ((j : ℕ) (y : X) → slice_get xs j ≡ Some y → p y ≡ true → ⊥)
    → list_any p xs ≡ false
none_pass p [] none = refl
none_pass p (y ∷ ys) none = by (p y) refl (none_pass p ys (λ j z. none (suc j) z))
  where
    by : (b : Bool) → p y ≡ b → list_any p ys ≡ false → (b || list_any p ys) ≡ false
    by true e later = absurd (none 0 y refl e)
    by false e later = later

-- a test of any in the list is the test of one, where none passes that one of which it fails
pub any_single : {X : Type 0} (p : X → Bool) (xs : List X) (i : ℕ) (x : X) → slice_get xs i ≡ Some x
    → ((j : ℕ) (y : X) → slice_get xs j ≡ Some y → p y ≡ true → p x ≡ true) → list_any p xs ≡ p x
any_single p xs i x here single =
    by_test (p x)
    (λ yes.
    list_any_at p xs i x (slice_get_within xs i x here) (ap p (get_or_from_slice_get xs i x x here) ∙ yes) ∙ sym yes)
    (λ no. none_pass p xs (λ j y there e. true≢false (sym (single j y there e) ∙ no)) ∙ sym no)

-- what passes stands somewhere
some_passes : {X : Type 0} (p : X → Bool) (xs : List X) → list_any p xs ≡ true
    → (j : ℕ) × (y : X) × (slice_get xs j ≡ Some y) × (p y ≡ true)
some_passes p [] h = absurd (false≢true h)
some_passes {X} p (y ∷ ys) h = by (p y) refl h (some_passes p ys)
  where
    by : (b : Bool) → p y ≡ b → (b || list_any p ys) ≡ true
        → (list_any p ys ≡ true → (j : ℕ) × (z : X) × (slice_get ys j ≡ Some z) × (p z ≡ true))
        → (j : ℕ) × (z : X) × (slice_get (y ∷ ys) j ≡ Some z) × (p z ≡ true)
    by true e any later = (0, y, refl, e)
    by false e any later = (let found = later any in (suc found.0, found.1, found.2, found.3))

-- an element of a numbered list stands at its number
numbered_back : {X : Type 0} (xs : List X) (j : ℕ) (at : ℕ × X) → slice_get (enumerate_from 0 xs) j ≡ Some at
    → slice_get xs at.0 ≡ Some at.1
numbered_back {X} xs j at there = by (slice_get xs j) refl (sym (enumerated-at 0 xs j) ∙ there)
  where
    none : 0 + j ≡ j
    none = omega arith

    by : (o : Option X) → slice_get xs j ≡ o → option_map (λ x. (0 + j, x)) o ≡ Some at
        → slice_get xs at.0 ≡ Some at.1
    by None here e = absurd (none-some at e)
    by (Some x) here e =
        let same : (0 + j, x) ≡ at = same_Some (0 + j, x) at e in
        subst (λ (p : ℕ × X). slice_get xs p.0 ≡ Some p.1) same (ap (slice_get xs) none ∙ here)

-- where texts differ from place to place, one text is at one place
same_place : {X : Type 0} (f : X → Text) (xs : List X) (i j : ℕ) (x y : X)
    → AllPairs (λ (a b : Text). a ≢ b) (map f xs)
    → slice_get xs i ≡ Some x → slice_get xs j ≡ Some y → f x ≡ f y → i ≡ j
same_place {X} f xs i j x y distinct here there same =
    ⊎_elim (λ e. e)
    (⊎_elim
    (λ before. absurd (distinct i j (f x) before (within j y there) (at i x here ∙ same ∙ sym (at j y there))))
    (λ after. absurd (distinct j i (f x) after (within i x here) (at j y there ∙ sym same ∙ sym (at i x here)))))
    (cases_order i j)
  where
    at : (k : ℕ) (z : X) → slice_get xs k ≡ Some z → get_or (map f xs) k (f x) ≡ f z
    at k z h = get_or_from_slice_get (map f xs) k (f z) (f x) (slice_get-map f xs k ∙ ap (option_map f) h)

    within : (k : ℕ) (z : X) → slice_get xs k ≡ Some z → k < length (map f xs)
    within k z h = slice_get_within (map f xs) k (f z) (slice_get-map f xs k ∙ ap (option_map f) h)

-- tests that agree on the elements keep the same
pub filter_alike : {X : Type 0} (p q : X → Bool) (xs : List X) → All (λ x. p x ≡ q x) xs → filter p xs ≡ filter q xs
filter_alike p q [] h = refl
filter_alike p q (x ∷ xs) h =
    ap (λ ys. cond (p x) (x ∷ ys) ys) (filter_alike p q xs (All-tail (λ y. p y ≡ q y) x xs h))
    ∙ ap (λ b. cond b (x ∷ filter q xs) (filter q xs)) (All-head (λ y. p y ≡ q y) x xs h)

pub count_alike : {X : Type 0} (p q : X → Bool) (xs : List X) → All (λ x. p x ≡ q x) xs
    → count_by p xs ≡ count_by q xs
count_alike p q xs h = sym (length-filter p xs) ∙ ap length (filter_alike p q xs h) ∙ length-filter q xs

-- ---- whose an owner's text is

abbrev name_of : Execution → Text
name_of x = x.name

module _ (plan : RunPlan) (workflow : Workflow) (outer : IsOuterPlan plan workflow) (w : World)
    (names : HasNamesOfPlan plan w) where
  node_at : (i : ℕ) (p : PlanNode) → node_numbered plan i ≡ Some p
      → (n : Node) × (slice_get workflow.nodes i ≡ Some n) × (outer_node workflow (i, n) ≡ p)
  node_at i p here = by (slice_get workflow.nodes i) refl (sym (numbered-outer plan workflow outer i) ∙ here)
    where
      by : (o : Option Node) → slice_get workflow.nodes i ≡ o
          → option_map (λ n. outer_node workflow (i, n)) o ≡ Some p
          → (n : Node) × (slice_get workflow.nodes i ≡ Some n) × (outer_node workflow (i, n) ≡ p)
      by None there e = absurd (none-some p e)
      by (Some n) there e = (n, there, same_Some (outer_node workflow (i, n)) p e)

  -- no name of an execution has a slash
  unslashed : (e : ℕ) (x : Execution) → slice_get w.executions e ≡ Some x → Lacks 47 x.name
  unslashed e x here =
      let there : slice_get (execution_names w) e ≡ Some x.name =
      slice_get-map name_of w.executions e ∙ ap (option_map name_of) here in
      id_lacks 47 x.name refl
      (subst IsId (get_or_from_slice_get (execution_names w) e x.name x.name there)
      (All-get_or IsId (execution_names w) e x.name (slice_get_within (execution_names w) e x.name there) names.ids))

  -- one text is of one node in one execution
  single : (e f i j : ℕ) (x y : Execution) (p q : PlanNode) → slice_get w.executions e ≡ Some x
      → slice_get w.executions f ≡ Some y → node_numbered plan i ≡ Some p → node_numbered plan j ≡ Some q
      → owner_text x.name p.path ≡ owner_text y.name q.path → (e ≡ f) × (i ≡ j)
  single e f i j x y p q atx aty atp atq same =
      let n = node_at i p atp in
      let m = node_at j q atq in
      let whole : x.name ++ 47 ∷ n.0.id ≡ y.name ++ 47 ∷ m.0.id =
      ap (λ (r : PlanNode). owner_text x.name r.path) n.2 ∙ same
      ∙ sym (ap (λ (r : PlanNode). owner_text y.name r.path) m.2) in
      let parts = parted 47 x.name n.0.id y.name m.0.id (unslashed e x atx) (unslashed f y aty) whole in (
        same_place name_of w.executions e f x y names.distinct atx aty parts.0,
        same_Some i j
            (sym (number_of-own plan workflow outer i n.0 n.1) ∙ ap (λ id. number_of plan (id ∷ [])) parts.1
            ∙ number_of-own plan workflow outer j m.0 m.1),
      )

  -- an owner has ended where its own node in its own execution has
  module _ (owner : Text) (e i : ℕ) (x : Execution) (p : PlanNode) (atx : slice_get w.executions e ≡ Some x)
      (atp : node_numbered plan i ≡ Some p) (text : owner ≡ owner_text x.name p.path) where
    own : is_ended_at owner x (i, p) ≡ has_ended_in i x
    own = ap (λ b. b && has_ended_in i x) ((bytes_eq-Decides owner (owner_text x.name p.path)).1 text)

    -- whoever has this text and has ended is this node
    ended_there : (f j : ℕ) (y : Execution) (at : ℕ × PlanNode) → slice_get w.executions f ≡ Some y
        → slice_get (enumerate_from 0 plan.nodes) j ≡ Some at → is_ended_at owner y at ≡ true
        → has_ended_in i x ≡ true
    ended_there f j y at there node passes =
        let parts =
        and_parts (bytes_eq owner (owner_text y.name at.1.path)) (is_over y || is_final (phase_of y.state at.0))
        passes in
        let is = (bytes_eq-Decides owner (owner_text y.name at.1.path)).0 parts.0 in
        let one = single e f i at.0 x y p at.1 atx there atp (numbered_back plan.nodes j at node) (sym text ∙ is) in
        let same : x ≡ y = same_Some x y (sym atx ∙ ap (slice_get w.executions) one.0 ∙ there) in
        ap (has_ended_in i) same ∙ ap (λ k. has_ended_in k y) one.1 ∙ parts.1

    in_execution : is_ended_in plan owner x ≡ has_ended_in i x
    in_execution =
        let start : 0 + i ≡ i = omega arith in
        any_single (is_ended_at owner x) (enumerate_from 0 plan.nodes) i (i, p)
        (enumerated-at 0 plan.nodes i ∙ ap (option_map (λ (q : PlanNode). (0 + i, q))) atp
        ∙ ap (λ k. Some (k, p)) start)
        (λ j at node passes. own ∙ ended_there e j x at atx node passes)
        ∙ own

    in_world : is_ended plan w owner ≡ has_ended_in i x
    in_world =
        any_single (is_ended_in plan owner) w.executions e x atx
        (λ f y there passes.
        let found = some_passes (is_ended_at owner y) (enumerate_from 0 plan.nodes) passes in
        in_execution ∙ ended_there f found.0 y found.1 there found.2 found.3)
        ∙ in_execution

  -- the answer of the table on an owner that it has
  ended_owner : (owner : Text) (s : numbers.Spot) → IsOwner plan w.executions owner s
      → option_map_or (has_ended_in s.node) (slice_get w.executions s.execution) false ≡ is_ended plan w owner
  ended_owner owner s is = by (slice_get w.executions s.execution) (node_numbered plan s.node) refl refl is.there
    where
      placed : PlanNode → Execution → Spot
      placed p x = record { execution = (s.execution, x); number = s.node; node = p }

      by : (z : Option Execution) (p : Option PlanNode) → slice_get w.executions s.execution ≡ z
          → node_numbered plan s.node ≡ p
          → option_and_then (λ (x : Execution). option_map (λ n. placed n x) p) z ≡ Some is.spot
          → option_map_or (has_ended_in s.node) z false ≡ is_ended plan w owner
      by None p here node h = absurd (none-some is.spot h)
      by (Some x) None here node h = absurd (none-some is.spot h)
      by (Some x) (Some p) here node h =
          sym (in_world owner s.execution s.node x p here node
          (is.text ∙ ap owner_at (sym (same_Some (placed p x) is.spot h))))

  -- the table tells of the owner of each reservation whether it has ended
  module _ (c : CatalogLists) (owners : BTreeMap Text numbers.Spot)
      (owned : HasOwners plan w.executions c.reservations owners) where
    tells : (owner : Text) → IsSome (get (slice_cmp nat_cmp) owners owner)
        → has_ended_owner owners w.executions owner ≡ is_ended plan w owner
    tells owner some = by (get (slice_cmp nat_cmp) owners owner) refl some
      where
        by : (o : Option numbers.Spot) → get (slice_cmp nat_cmp) owners owner ≡ o → IsSome o
            → option_map_or
            (λ (s : numbers.Spot). option_map_or (has_ended_in s.node) (slice_get w.executions s.execution) false) o
            false
            ≡ is_ended plan w owner
        by None there some = absurd (false≢true some)
        by (Some s) there some = ended_owner owner s (owned.right owner s there)

    told : All (λ (r : Reservation). has_ended_owner owners w.executions r.owner ≡ is_ended plan w r.owner)
        c.reservations
    told =
        All-weaker (λ (r : Reservation). IsSome (get (slice_cmp nat_cmp) owners r.owner))
        (λ (r : Reservation). has_ended_owner owners w.executions r.owner ≡ is_ended plan w r.owner)
        (λ r. tells r.owner) c.reservations owned.all

    pub count_told : count_by (λ (r : Reservation). has_ended_owner owners w.executions r.owner) c.reservations
        ≡ count_by (λ (r : Reservation). is_ended plan w r.owner) c.reservations
    count_told =
        count_alike (λ (r : Reservation). has_ended_owner owners w.executions r.owner)
        (λ (r : Reservation). is_ended plan w r.owner) c.reservations told

    -- a sweep by the table lets go of those whose owners have ended
    pub sweep_told : after_sweep c (has_ended_owner owners w.executions) ≡ after_sweep c (is_ended plan w)
    sweep_told =
        ap (λ (rs : List Reservation). record c { reservations = rs })
        (filter_alike (λ (r : Reservation). not (has_ended_owner owners w.executions r.owner))
        (λ (r : Reservation). not (is_ended plan w r.owner)) c.reservations
        (All-weaker (λ (r : Reservation). has_ended_owner owners w.executions r.owner ≡ is_ended plan w r.owner)
        (λ (r : Reservation). not (has_ended_owner owners w.executions r.owner) ≡ not (is_ended plan w r.owner))
        (λ r same. ap not same) c.reservations told))

-- ---- another owner

-- what a look-up found is there
pub found_there : {X : Type 0} (r : Option (Bor X)) (o : Option X) (none : Bool) → none ≡ false → is_some r ≡ not none
    → option_copied r ≡ o → IsSome o
found_there None o none is tests same = absurd (false≢true (tests ∙ ap not is))
found_there (Some x) o none is tests same = subst IsSome same refl

module _ (plan : RunPlan) (executions : List Execution) where
  -- the node of a spot has its owner's text
  pub owner_of_spot : (owner : Text) (s : numbers.Spot) → option_map owner_at (spot_in plan executions s) ≡ Some owner
      → IsOwner plan executions owner s
  owner_of_spot owner s h = by (spot_in plan executions s) refl h
    where
      by : (o : Option Spot) → spot_in plan executions s ≡ o → option_map owner_at o ≡ Some owner
          → IsOwner plan executions owner s
      by None there e = absurd (none-some owner e)
      by (Some spot) there e = record { spot = spot; there = there; text = sym (same_Some (owner_at spot) owner e) }

  module _ (reservations : List Reservation) (old new : BTreeMap Text numbers.Spot) where
    -- the same owners
    pub owned_same : IsUnchanged old new → HasOwners plan executions reservations old
        → HasOwners plan executions reservations new
    owned_same unchanged owned = record {
      right = λ owner s h. owned.right owner s (sym (same owner) ∙ h);
      all = All-weaker (λ (r : Reservation). IsSome (get (slice_cmp nat_cmp) old r.owner))
          (λ (r : Reservation). IsSome (get (slice_cmp nat_cmp) new r.owner))
          (λ r h. subst IsSome (sym (same r.owner)) h) reservations owned.all;
    }
      where
        same : (q : Text) → get (slice_cmp nat_cmp) new q ≡ get (slice_cmp nat_cmp) old q
        same q = ap (lookup (is_at (slice_cmp nat_cmp q))) unchanged

    -- with one owner more
    module _ (owner : Text) (s : numbers.Spot) (owned : HasOwners plan executions reservations old)
        (is : IsOwner plan executions owner s)
        (put : (q : Text) → get (slice_cmp nat_cmp) new q
        ≡ cond (is_eq (slice_cmp nat_cmp owner q)) (Some s) (get (slice_cmp nat_cmp) old q)) where
      abbrev test : Text → Bool
      test q = is_eq (slice_cmp nat_cmp owner q)

      put_there : (q : Text) → test q ≡ true → get (slice_cmp nat_cmp) new q ≡ Some s
      put_there q passed = put q ∙ cond-true (test q) (Some s) (get (slice_cmp nat_cmp) old q) passed

      put_past : (q : Text) → test q ≡ false → get (slice_cmp nat_cmp) new q ≡ get (slice_cmp nat_cmp) old q
      put_past q failed = put q ∙ cond-false (test q) (Some s) (get (slice_cmp nat_cmp) old q) failed

      pub owned_put : HasOwners plan executions reservations new
      owned_put = record {
        right = λ q t h.
            by_test (test q)
            (λ yes.
            let same : owner ≡ q = (bytes_eq-Decides owner q).0 (sym (is_eq-slice_cmp owner q) ∙ yes) in
            let spot : s ≡ t = same_Some s t (sym (put_there q yes) ∙ h) in
            subst (IsOwner plan executions q) spot (subst (λ o. IsOwner plan executions o s) same is))
            (λ no. owned.right q t (sym (put_past q no) ∙ h));
        all = All-weaker (λ (r : Reservation). IsSome (get (slice_cmp nat_cmp) old r.owner))
            (λ (r : Reservation). IsSome (get (slice_cmp nat_cmp) new r.owner))
            (λ r h. by_test (test r.owner)
            (λ yes. subst IsSome (sym (put_there r.owner yes)) refl)
            (λ no. subst IsSome (sym (put_past r.owner no)) h))
            reservations owned.all;
      }

      pub owner_put : IsSome (get (slice_cmp nat_cmp) new owner)
      owner_put =
          subst IsSome
          (sym (put_there owner (is_eq-slice_cmp owner owner ∙ (bytes_eq-Decides owner owner).1 refl))) refl

  -- ---- another reservation

  with_all : (P : Reservation → Type 0) (rs : List Reservation) (new : Reservation) → All P rs → P new
      → All P (with_reservation rs new)
  with_all P [] new h p = All-cons P new [] p h
  with_all P (r ∷ rs) new h p =
      by (is_reservation new.dataset new.tag r) (with_all P rs new (All-tail P r rs h) p)
    where
      by : (b : Bool) → All P (with_reservation rs new) → All P (cond b (new ∷ rs) (r ∷ with_reservation rs new))
      by true later = All-cons P new rs p (All-tail P r rs h)
      by false later = All-cons P r (with_reservation rs new) (All-head P r rs h) later

  -- the owners, where one that the table has was answered
  pub owned_grant : (c : CatalogLists) (owners : BTreeMap Text numbers.Spot) (d : DatasetId) (tag owner : Text)
      (g : Grant) → HasOwners plan executions c.reservations owners → IsSome (get (slice_cmp nat_cmp) owners owner)
      → HasOwners plan executions (after_grant c d tag owner g).reservations owners
  owned_grant c owners d tag owner (grant.HeldBy holder expiry) owned some = owned
  owned_grant c owners d tag owner (grant.Granted expiry) owned some = record {
    right = owned.right;
    all = with_all (λ (r : Reservation). IsSome (get (slice_cmp nat_cmp) owners r.owner)) c.reservations
        (record { dataset = d; tag = tag; owner = owner; expiry = expiry }) owned.all some;
  }

  -- the owners, where reservations were let go
  pub owned_swept : (c : CatalogLists) (owners : BTreeMap Text numbers.Spot) (ends : Text → Bool)
      → HasOwners plan executions c.reservations owners
      → HasOwners plan executions (after_sweep c ends).reservations owners
  owned_swept c owners ends owned = record {
    right = owned.right;
    all = All-filter (λ (r : Reservation). not (ends r.owner))
        (λ (r : Reservation). IsSome (get (slice_cmp nat_cmp) owners r.owner)) c.reservations owned.all;
  }
