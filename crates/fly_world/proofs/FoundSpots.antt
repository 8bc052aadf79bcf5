-- What operations name, as the code finds it: nodes by their numbers, and literals at their places.
use Rattle.std.proofs.Common.{◌≡◌, ℕ, ◌+◌, ◌<◌, Bool, true, ◌&&◌, List, ◌∷◌, length, get_or, drop, Option, Some, None, refl, sym, ◌∙◌, ap, subst, ⊎_elim, arith, bytes_eq}
use Rattle.std.specs.List.{enumerate_from, slice_get, position, position_or_len}
use Rattle.std.specs.Cmp.Lexicographic.{pointwise_decides}
use Rattle.std.specs.Option.{option_map, option_and_then}
use Rattle.std.proofs.lemmas.Bool.{cases_lt, cond-true, cond-false, lt-ltb, le-ltb}
use Rattle.std.proofs.lemmas.List.{at_drop_more}
use Rattle.std.proofs.lemmas.Option.{none-some, same_Some, get_or_from_slice_get, slice_get_cases}
use Rattle.std.proofs.lemmas.List.Quantifiers.{position-Some}
use Rattle.std.proofs.lemmas.Slice.Eq.{bytes_eq-Decides}
use Rattle.fly_types.specs.declared.text.Text.{Text}
use Rattle.fly_types.specs.declared.literals.Literal.{Literal}
use Rattle.fly_types.specs.declared.variable.Variable.{Variable}
use Rattle.fly_docs.specs.Plans.{PlanNode}
use Rattle.fly_state.specs.Plans.{RunPlan, Path, same_path, node_numbered, number_of}
use Rattle.fly_state.proofs.AskedInputs.{found-in}
use Rattle.fly_world.specs.declared.spots.Spot as numbers
use Rattle.fly_world.specs.World.{World, Execution, execution_named}
use Rattle.fly_world.specs.Spots.{Spot, spot_numbered, spot_of, is_given, are_given}
use Rattle.fly_world.specs.Store.{spot_at, number_of_execution}
use Rattle.fly_world.proofs.FinalSlots.{named_there}
use Rattle.fly_world.proofs.StepLemmas.{spot_at as stands}

-- ---- literals of declared types

-- from a place on, the entries give the variables where the first does and the others do
pub given_from : (xs : List Variable) (entries : List (Text × Literal)) (i : ℕ) (x : Variable) (entry : Text × Literal)
    → i < length xs → i < length entries → x ≡ get_or xs i x → entry ≡ get_or entries i entry
    → are_given (drop i xs) (drop i entries)
    ≡ (is_given x entry && are_given (drop (i + 1) xs) (drop (i + 1) entries))
given_from xs entries i x entry in_xs in_entries x-is entry-is =
    at_drop_more (λ ys. are_given ys (drop i entries)) xs i x in_xs
    ∙ at_drop_more (are_given (get_or xs i x ∷ drop (i + 1) xs)) entries i entry in_entries
    ∙ ap (λ y. is_given y (get_or entries i entry) && are_given (drop (i + 1) xs) (drop (i + 1) entries)) (sym x-is)
    ∙ ap (λ y. is_given x y && are_given (drop (i + 1) xs) (drop (i + 1) entries)) (sym entry-is)

-- ---- nodes

within : {X : Type 0} (p : X → Bool) (xs : List X) (i : ℕ) → position p xs ≡ Some i → i < length xs
within p xs i e =
    ⊎_elim (λ lt. subst (λ k. k < length xs)
    (same_Some _ _ (sym (cond-true _ (Some (position_or_len p xs)) None (lt-ltb _ _ lt)) ∙ e)) lt)
    (λ ge. absurd (none-some i (sym (cond-false _ (Some (position_or_len p xs)) None (le-ltb _ _ ge)) ∙ e)))
    (cases_lt (position_or_len p xs) (length xs))

-- what stands at a place of the list
there_at : {X : Type 0} (xs : List X) (i : ℕ) → i < length xs → (x : X) × (slice_get xs i ≡ Some x)
there_at xs i lt =
    ⊎_elim (λ h. (h.0, h.2)) (λ h. absurd (omega (arith, lt, h.0))) (slice_get_cases xs i).1

-- the spot of a name and a path is that of their numbers
pub spot_of-numbers : (plan : RunPlan) (w : World) (exec : Text) (path : Path) (e i : ℕ)
    → number_of_execution w exec ≡ Some e → number_of plan path ≡ Some i
    → Some (spot_at plan w (record { execution = e; node = i })) ≡ option_map Some (spot_of plan w exec path)
spot_of-numbers plan w exec path e i numbered placed = by (execution_named w exec) refl numbered
  where
    node : (p : PlanNode) × (node_numbered plan i ≡ Some p)
    node = there_at plan.nodes i (within (λ (p : PlanNode). same_path path p.path) plan.nodes i placed)

    spot : ℕ × Execution → Spot
    spot at = record { execution = at; number = i; node = node.0 }

    numbered_spot : (at : ℕ × Execution) → spot_numbered plan at i ≡ Some (spot at)
    numbered_spot at = ap (option_map (λ (p : PlanNode). record { execution = at; number = i; node = p })) node.1

    left : (at : ℕ × Execution) → execution_named w exec ≡ Some at
        → spot_at plan w (record { execution = at.0; node = i }) ≡ Some (spot at)
    left at there =
        ap (option_and_then (λ (x : Execution). spot_numbered plan (at.0, x) i)) (named_there w exec at there)
        ∙ numbered_spot at

    right : (at : ℕ × Execution) → execution_named w exec ≡ Some at → spot_of plan w exec path ≡ Some (spot at)
    right at there =
        ap (option_and_then (λ (x : ℕ × Execution). option_and_then (spot_numbered plan x) (number_of plan path))) there
        ∙ ap (option_and_then (spot_numbered plan at)) placed
        ∙ numbered_spot at

    by : (o : Option (ℕ × Execution)) → execution_named w exec ≡ o
        → option_map (λ (at : ℕ × Execution). at.0) o ≡ Some e
        → Some (spot_at plan w (record { execution = e; node = i })) ≡ option_map Some (spot_of plan w exec path)
    by None there h = absurd (none-some e h)
    by (Some at) there h =
        subst (λ n. Some (spot_at plan w (record { execution = n; node = i }))
        ≡ option_map Some (spot_of plan w exec path))
        (same_Some at.0 e h)
        (ap Some (left at there) ∙ sym (ap (option_map Some) (right at there)))

-- each finds the other's
pub found_alike : {X : Type 0} (found o : Option X) → Some found ≡ option_map Some o
    → (x : X) × (found ≡ Some x) × (o ≡ Some x)
found_alike found None h = absurd (none-some found (sym h))
found_alike found (Some x) h = (x, same_Some _ _ h, refl)

-- a spot has the node of its number
pub node_of-spot : (plan : RunPlan) (w : World) (s : numbers.Spot) (spot : Spot) → spot_at plan w s ≡ Some spot
    → node_numbered plan s.node ≡ Some spot.node
node_of-spot plan w s spot h = in_execution (slice_get w.executions s.execution) h
  where
    at_number : (x : Execution) (o : Option PlanNode) → node_numbered plan s.node ≡ o
        → option_map (λ (p : PlanNode). record { execution = (s.execution, x); number = s.node; node = p }) o
        ≡ Some spot
        → node_numbered plan s.node ≡ Some spot.node
    at_number x None there e = absurd (none-some spot e)
    at_number x (Some p) there e = there ∙ ap (option_map (λ (y : Spot). y.node)) e

    in_execution : (o : Option Execution)
        → option_and_then (λ (x : Execution). spot_numbered plan (s.execution, x) s.node) o ≡ Some spot
        → node_numbered plan s.node ≡ Some spot.node
    in_execution None e = absurd (none-some spot e)
    in_execution (Some x) e = at_number x (node_numbered plan s.node) refl e

-- the spot of a name and a path has that name and that path
pub names_of-spot : (plan : RunPlan) (w : World) (exec : Text) (path : Path) (spot : Spot)
    → spot_of plan w exec path ≡ Some spot → (spot.execution.1.name ≡ exec) × (spot.node.path ≡ path)
names_of-spot plan w exec path spot h =
    let at = stands plan path (execution_named w exec) spot h in
    let named = found-in (λ (x : ℕ × Execution). bytes_eq exec x.1.name) (enumerate_from 0 w.executions)
    spot.execution at.0 in
    let placed = position-Some (λ (p : PlanNode). same_path path p.path) plan.nodes spot.number spot.node at.1 in
    let here : get_or plan.nodes spot.number spot.node ≡ spot.node =
    get_or_from_slice_get plan.nodes spot.number spot.node spot.node at.2 in (
      sym ((bytes_eq-Decides exec spot.execution.1.name).0 named.1),
      sym ((pointwise_decides bytes_eq-Decides path spot.node.path).0
          (subst (λ (p : PlanNode). same_path path p.path ≡ true) here placed.1)),
    )
