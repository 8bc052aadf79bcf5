-- What the store's tables are of, after an entry or a change.
use Rattle.std.proofs.Common.{◌≡◌, ℕ, zero, suc, ◌+◌, ◌<◌, Bool, true, false, cond, ◌&&◌, List, [], ◌∷◌, ◌++◌, length, map, set, find, Option, Some, None, refl, sym, ◌∙◌, ap, subst, ⊎_elim, arith, nat_cmp, bytes_eq}
use Rattle.std.specs.List.{list_all, enumerate_from, slice_get, position, position_or_len}
use Rattle.std.specs.Option.{option_map, option_and_then}
use Rattle.std.specs.Ordering.{is_eq}
use Rattle.std.specs.Prelude.{Result, Ok, Err, OnOk, OnErr}
use Rattle.fly_types.specs.declared.memory.NoMemory.{NoMemory}
use Rattle.fly_state.specs.declared.slots.ExecState.{ExecState}
use Rattle.fly_world.specs.Changes.{with_version}
use Rattle.std.specs.Cmp.Lexicographic.{slice_cmp}
use Rattle.std.specs.BTreeMap.{BTreeMap, get}
use Rattle.std.proofs.lemmas.Bool.{cases_Bool, cases_lt, cond-true, cond-false, lt-ltb, le-ltb}
use Rattle.std.proofs.lemmas.List.Folds.{list_all-append}
use Rattle.std.proofs.lemmas.Map.Text.{is_eq-slice_cmp}
use Rattle.std.proofs.lemmas.Option.{none-some, same_Some, slice_get_cases}
use Rattle.std.proofs.lemmas.Slice.Eq.{bytes_eq-Decides}
use Rattle.fly_types.specs.declared.text.Text.{Text}
use Rattle.fly_state.proofs.KeyLemmas.{bytes_eq_back}
use Rattle.fly_state.specs.declared.entries.Entry.{Entry}
use Rattle.fly_docs.specs.Plans.{PlanNode}
use Rattle.fly_state.specs.Plans.{RunPlan, Path, same_path, node_numbered, number_of}
use Rattle.fly_catalog.specs.declared.parts.Reservation.{Reservation}
use Rattle.fly_world.specs.declared.spots.Spot as numbers
use Rattle.fly_world.specs.World.{World, Execution, execution_named}
use Rattle.fly_world.specs.Spots.{Spot, spot_numbered, spot_of}
use Rattle.fly_world.specs.Steps.{is_opening_op}
use Rattle.fly_world.specs.Store.{spot_in, spot_at, IsOwner, HasOwners, number_of_execution}
use Rattle.fly_catalog.specs.Cached.{owner_text}
use Rattle.fly_world.proofs.FinalSlots.{named_there}
use Rattle.fly_world.proofs.TellLemmas.{map_set}

-- ---- the opening

with_true : (b : Bool) → (b && true) ≡ b
with_true true = refl
with_true false = refl

-- one entry more is of the opening where it and all before are
pub opens_more : (entries : List Entry) (e : Entry)
    → list_all (λ (x : Entry). is_opening_op x.op) (entries ++ e ∷ [])
    ≡ (list_all (λ (x : Entry). is_opening_op x.op) entries && is_opening_op e.op)
opens_more entries e =
    list_all-append (λ (x : Entry). is_opening_op x.op) entries (e ∷ [])
    ∙ ap (λ b. list_all (λ (x : Entry). is_opening_op x.op) entries && b) (with_true (is_opening_op e.op))

-- ---- the numbers of executions

-- the number of the first element that passes, where they are numbered from k on
abbrev number_from : {X : Type 0} → (X → Bool) → ℕ → List X → Option ℕ
number_from {X} p k xs = option_map (λ (at : ℕ × X). at.0) (find (λ (at : ℕ × X). p at.1) (enumerate_from k xs))

module _ {X : Type 0} (p : X → Bool) (x : X) where
  passing : (k : ℕ) (xs : List X) → p x ≡ true → number_from p k xs ≡ None
      → number_from p k (xs ++ x ∷ []) ≡ Some (k + length xs)
  passing k [] holds none =
      ap (λ b. option_map (λ (at : ℕ × X). at.0) (cond b (Some (k, x)) None)) holds ∙ ap Some (omega arith)
  passing k (y ∷ ys) holds none = by (p y) none (passing (k + 1) ys holds)
    where
      by : (b : Bool)
          → option_map (λ (at : ℕ × X). at.0) (cond b (Some (k, y)) (find (λ (at : ℕ × X). p at.1) (enumerate_from (k + 1) ys))) ≡ None
          → (number_from p (k + 1) ys ≡ None → number_from p (k + 1) (ys ++ x ∷ []) ≡ Some ((k + 1) + length ys))
          → option_map (λ (at : ℕ × X). at.0)
          (cond b (Some (k, y)) (find (λ (at : ℕ × X). p at.1) (enumerate_from (k + 1) (ys ++ x ∷ []))))
          ≡ Some (k + length (y ∷ ys))
      by true h later = absurd (none-some k (sym h))
      by false h later = later h ∙ ap Some (omega arith)

  failing : (k : ℕ) (xs : List X) → p x ≡ false → number_from p k (xs ++ x ∷ []) ≡ number_from p k xs
  failing k [] fails = ap (λ b. option_map (λ (at : ℕ × X). at.0) (cond b (Some (k, x)) None)) fails
  failing k (y ∷ ys) fails = by (p y) (failing (k + 1) ys fails)
    where
      by : (b : Bool) → number_from p (k + 1) (ys ++ x ∷ []) ≡ number_from p (k + 1) ys
          → option_map (λ (at : ℕ × X). at.0)
          (cond b (Some (k, y)) (find (λ (at : ℕ × X). p at.1) (enumerate_from (k + 1) (ys ++ x ∷ []))))
          ≡ option_map (λ (at : ℕ × X). at.0) (cond b (Some (k, y)) (find (λ (at : ℕ × X). p at.1) (enumerate_from (k + 1) ys)))
      by true later = refl
      by false later = later

-- the number of the execution of a name
abbrev number_named : List Execution → List ℕ → Option ℕ
number_named executions name = number_from (λ (x : Execution). bytes_eq name x.name) 0 executions

-- with one execution more, of a new name
named_more : (executions : List Execution) (x : Execution) (q : List ℕ) → number_named executions x.name ≡ None
    → number_named (executions ++ x ∷ []) q
    ≡ cond (bytes_eq q x.name) (Some (length executions)) (number_named executions q)
named_more executions x q absent =
    let p : Execution → Bool = λ y. bytes_eq q y.name in
    ⊎_elim
    (λ yes. passing p x 0 executions yes
    (subst (λ n. number_named executions n ≡ None) (sym ((bytes_eq-Decides q x.name).0 yes)) absent)
    ∙ ap Some (omega arith)
    ∙ sym (cond-true (bytes_eq q x.name) (Some (length executions)) (number_named executions q) yes))
    (λ no. failing p x 0 executions no
    ∙ sym (cond-false (bytes_eq q x.name) (Some (length executions)) (number_named executions q) no))
    (cases_Bool (bytes_eq q x.name))

-- the table of numbers with one execution more, of a new name
pub numbered_more : (executions : List Execution) (x : Execution) (old new : BTreeMap (List ℕ) ℕ)
    → number_named executions x.name ≡ None
    → ((q : List ℕ) → get (slice_cmp nat_cmp) old q ≡ number_named executions q)
    → ((q : List ℕ) → get (slice_cmp nat_cmp) new q
    ≡ cond (is_eq (slice_cmp nat_cmp x.name q)) (Some (length executions)) (get (slice_cmp nat_cmp) old q))
    → (q : List ℕ) → get (slice_cmp nat_cmp) new q ≡ number_named (executions ++ x ∷ []) q
numbered_more executions x old new absent before put q =
    put q
    ∙ ap (λ b. cond b (Some (length executions)) (get (slice_cmp nat_cmp) old q))
    (is_eq-slice_cmp x.name q ∙ bytes_eq_back x.name q)
    ∙ ap (cond (bytes_eq q x.name) (Some (length executions))) (before q)
    ∙ sym (named_more executions x q absent)

-- ---- owners

-- what stands in a list stands there with one element more
still_there : {X : Type 0} (xs : List X) (y : X) (i : ℕ) (x : X) → slice_get xs i ≡ Some x
    → slice_get (xs ++ y ∷ []) i ≡ Some x
still_there [] y i x h = absurd (none-some x h)
still_there (z ∷ zs) y zero x h = h
still_there (z ∷ zs) y (suc i) x h = still_there zs y i x h

-- a spot of executions is one of more
spot_there : (plan : RunPlan) (executions : List Execution) (y : Execution) (s : numbers.Spot) (spot : Spot)
    → spot_in plan executions s ≡ Some spot → spot_in plan (executions ++ y ∷ []) s ≡ Some spot
spot_there plan executions y s spot h = by (slice_get executions s.execution) refl h
  where
    by : (o : Option Execution) → slice_get executions s.execution ≡ o
        → option_and_then (λ (x : Execution). spot_numbered plan (s.execution, x) s.node) o ≡ Some spot
        → spot_in plan (executions ++ y ∷ []) s ≡ Some spot
    by None there e = absurd (none-some spot e)
    by (Some x) there e =
        ap (option_and_then (λ (x : Execution). spot_numbered plan (s.execution, x) s.node))
        (still_there executions y s.execution x there)
        ∙ e

-- the owners with one execution more
pub owned_more : (plan : RunPlan) (executions : List Execution) (reservations : List Reservation)
    (owners : BTreeMap Text numbers.Spot) (y : Execution) → HasOwners plan executions reservations owners
    → HasOwners plan (executions ++ y ∷ []) reservations owners
owned_more plan executions reservations owners y owned = record {
  right = λ owner s h.
      let is = owned.right owner s h in
      record { spot = is.spot; there = spot_there plan executions y s is.spot is.there; text = is.text };
  all = owned.all;
}

-- ---- spots

within : {X : Type 0} (p : X → Bool) (xs : List X) (i : ℕ) → position p xs ≡ Some i → i < length xs
within p xs i e =
    ⊎_elim (λ lt. subst (λ k. k < length xs)
    (same_Some _ _ (sym (cond-true _ (Some (position_or_len p xs)) None (lt-ltb _ _ lt)) ∙ e)) lt)
    (λ ge. absurd (none-some i (sym (cond-false _ (Some (position_or_len p xs)) None (le-ltb _ _ ge)) ∙ e)))
    (cases_lt (position_or_len p xs) (length xs))

-- what stands at a place of the list
there_at : {X : Type 0} (xs : List X) (i : ℕ) → i < length xs → (x : X) × (slice_get xs i ≡ Some x)
there_at xs i lt =
    ⊎_elim (λ h. (h.0, h.2)) (λ h. absurd (omega (arith, lt, h.0))) (slice_get_cases xs i).1

-- the spot of a name and a path is that of their numbers
pub spot_found : (plan : RunPlan) (w : World) (exec : Text) (path : Path) (e i : ℕ)
    → number_of_execution w exec ≡ Some e → number_of plan path ≡ Some i
    → Some (spot_at plan w (record { execution = e; node = i })) ≡ option_map Some (spot_of plan w exec path)
spot_found plan w exec path e i numbered placed = by (execution_named w exec) refl numbered
  where
    node : (p : PlanNode) × (node_numbered plan i ≡ Some p)
    node = there_at plan.nodes i (within (λ (p : PlanNode). same_path path p.path) plan.nodes i placed)

    spot : ℕ × Execution → Spot
    spot at = record { execution = at; number = i; node = node.0 }

    numbered_spot : (at : ℕ × Execution) → spot_numbered plan at i ≡ Some (spot at)
    numbered_spot at = ap (option_map (λ (p : PlanNode). record { execution = at; number = i; node = p })) node.1

    left : (at : ℕ × Execution) → execution_named w exec ≡ Some at
        → spot_at plan w (record { execution = at.0; node = i }) ≡ Some (spot at)
    left at there =
        ap (option_and_then (λ (x : Execution). spot_numbered plan (at.0, x) i)) (named_there w exec at there)
        ∙ numbered_spot at

    right : (at : ℕ × Execution) → execution_named w exec ≡ Some at → spot_of plan w exec path ≡ Some (spot at)
    right at there =
        ap (option_and_then (λ (x : ℕ × Execution). option_and_then (spot_numbered plan x) (number_of plan path))) there
        ∙ ap (option_and_then (spot_numbered plan at)) placed
        ∙ numbered_spot at

    by : (o : Option (ℕ × Execution)) → execution_named w exec ≡ o
        → option_map (λ (at : ℕ × Execution). at.0) o ≡ Some e
        → Some (spot_at plan w (record { execution = e; node = i })) ≡ option_map Some (spot_of plan w exec path)
    by None there h = absurd (none-some e h)
    by (Some at) there h =
        subst (λ n. Some (spot_at plan w (record { execution = n; node = i })) ≡ option_map Some (spot_of plan w exec path))
        (same_Some at.0 e h)
        (ap Some (left at there) ∙ sym (ap (option_map Some) (right at there)))

-- ---- the next version of an execution

mapped : {X Y : Type 0} (h : X → Y) (p : Y → Bool) (k : ℕ) (xs : List X)
    → number_from (λ (x : X). p (h x)) k xs ≡ number_from p k (map h xs)
mapped h p k [] = refl
mapped {X} {Y} h p k (x ∷ xs) = by (p (h x)) (mapped h p (k + 1) xs)
  where
    by : (b : Bool) → number_from (λ (y : X). p (h y)) (k + 1) xs ≡ number_from p (k + 1) (map h xs)
        → option_map (λ (at : ℕ × X). at.0)
        (cond b (Some (k, x)) (find (λ (at : ℕ × X). p (h at.1)) (enumerate_from (k + 1) xs)))
        ≡ option_map (λ (at : ℕ × Y). at.0)
        (cond b (Some (k, h x)) (find (λ (at : ℕ × Y). p at.1) (enumerate_from (k + 1) (map h xs))))
    by true later = refl
    by false later = later

abbrev name_of : Execution → Text
name_of x = x.name

-- another state of an execution changes no number
pub named_set : (xs : List Execution) (i : ℕ) (x y : Execution) → slice_get xs i ≡ Some x → y.name ≡ x.name
    → (q : List ℕ) → number_named xs q ≡ number_named (set xs i y) q
named_set xs i x y there same q =
    mapped name_of (bytes_eq q) 0 xs
    ∙ ap (number_from (bytes_eq q) 0) (sym (map_set name_of xs i x y there same))
    ∙ sym (mapped name_of (bytes_eq q) 0 (set xs i y))

-- what stands in the list has a state of the same name there afterwards
named_there_after : (xs : List Execution) (i j : ℕ) (x y z : Execution) → slice_get xs i ≡ Some x → y.name ≡ x.name
    → slice_get xs j ≡ Some z → (after : Execution) × (slice_get (set xs i y) j ≡ Some after) × (after.name ≡ z.name)
named_there_after [] i j x y z there same here = absurd (none-some z here)
named_there_after (a ∷ rest) zero zero x y z there same here =
    (y, refl, same ∙ ap name_of (sym (same_Some a x there) ∙ same_Some a z here))
named_there_after (a ∷ rest) zero (suc j) x y z there same here = (z, here, refl)
named_there_after (a ∷ rest) (suc i) zero x y z there same here = (z, here, refl)
named_there_after (a ∷ rest) (suc i) (suc j) x y z there same here = named_there_after rest i j x y z there same here

-- the owners, where an execution has another state under its name
pub owned_set : (plan : RunPlan) (xs : List Execution) (reservations : List Reservation)
    (owners : BTreeMap Text numbers.Spot) (i : ℕ) (x y : Execution) → slice_get xs i ≡ Some x → y.name ≡ x.name
    → HasOwners plan xs reservations owners → HasOwners plan (set xs i y) reservations owners
owned_set plan xs reservations owners i x y there same owned = record { right = right; all = owned.all }
  where
    placed : ℕ → ℕ → PlanNode → Execution → Spot
    placed j number p z = record { execution = (j, z); number = number; node = p }

    by : (owner : Text) (s : numbers.Spot) (spot : Spot) → owner ≡ owner_text spot.execution.1.name spot.node.path
        → (z : Option Execution) (p : Option PlanNode) → slice_get xs s.execution ≡ z → node_numbered plan s.node ≡ p
        → option_and_then (λ (e : Execution). option_map (λ n. placed s.execution s.node n e) p) z ≡ Some spot
        → IsOwner plan (set xs i y) owner s
    by owner s spot text None p here node h = absurd (none-some spot h)
    by owner s spot text (Some z) None here node h = absurd (none-some spot h)
    by owner s spot text (Some z) (Some p) here node h =
        let later = named_there_after xs i s.execution x y z there same here in
        let is = same_Some (placed s.execution s.node p z) spot h in
        record {
          spot = placed s.execution s.node p later.0;
          there =
              ap (option_and_then (λ (e : Execution). spot_numbered plan (s.execution, e) s.node)) later.1
              ∙ ap (option_map (λ n. placed s.execution s.node n later.0)) node;
          text = text ∙ ap (λ (q : Spot). owner_text q.execution.1.name q.node.path) (sym is)
              ∙ ap (λ n. owner_text n p.path) (sym later.2);
        }

    right : (owner : Text) (s : numbers.Spot) → get (slice_cmp nat_cmp) owners owner ≡ Some s
        → IsOwner plan (set xs i y) owner s
    right owner s h =
        let is = owned.right owner s h in
        by owner s is.spot is.text (slice_get xs s.execution) (node_numbered plan s.node) refl refl is.there

-- whether the next version was made or not, the name stays
pub pushed_name : (r : Result (Unit {0}) NoMemory) (new x : Execution) (state : ExecState) (place : ℕ)
    → OnOk r (new ≡ with_version state place x) → OnErr r (new ≡ x) → new.name ≡ x.name
pushed_name (Ok done) new x state place made kept = ap name_of made
pushed_name (Err fault) new x state place made kept = ap name_of kept

pub on_ok : (r : Result (Unit {0}) NoMemory) (P Q : Type 0) → OnOk r P → (P → Q) → OnOk r Q
on_ok (Ok done) P Q p f = f p
on_ok (Err fault) P Q p f = p
