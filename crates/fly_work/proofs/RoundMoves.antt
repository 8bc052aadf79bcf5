-- The moves of a round are at slots of the plan, so that its Write may stand in a journal.
use Rattle.std.proofs.Common.{◌≡◌, ℕ, ◌+◌, ◌≤◌, Bool, true, false, cond, List, [], ◌∷◌, ◌++◌, map, filter, flat_map, length, Some, is_some, refl, ◌∙◌, ap, arith}
use Rattle.std.specs.List.{list_all, enumerate_from}
use Rattle.std.proofs.lemmas.Bool.{and_from, and_parts, lt-ltb}
use Rattle.std.proofs.lemmas.List.Folds.{list_all-append, list_all-map}
use Rattle.fly_docs.specs.Plans.{PlanNode}
use Rattle.fly_docs.specs.Templates.{is_id_text}
use Rattle.fly_state.specs.declared.moves.At.{At}
use Rattle.fly_state.specs.declared.moves.Move.{Move}
use Rattle.fly_state.specs.declared.moves.Step.{Step}
use Rattle.fly_state.specs.declared.slots.SlotState.{SlotState}
use Rattle.fly_state.specs.declared.entries.Entry.{Entry}
use Rattle.fly_state.specs.declared.entries.Op.TheVariants as op
use Rattle.fly_state.specs.declared.view.View.{View}
use Rattle.fly_state.specs.Moves.{where_true, is_legal}
use Rattle.fly_state.specs.Plans.{RunPlan, case_nodes}
use Rattle.fly_state.specs.Rounds.{CitedMove}
use Rattle.fly_state.specs.States.{node_state}
use Rattle.fly_world.specs.World.{execution_named}
use Rattle.fly_world.specs.Steps.{step, is_in_plan, if_known, written}
use Rattle.fly_world.proofs.TestLemmas.{is_id-Decides}
use Rattle.fly_round.specs.declared.told.Told.{Told}
use Rattle.fly_round.specs.Moves.{plain_steps, citing_steps, cited_move, possible_moves, slot_moves, at_node, at_item, at_root, told_of, node_moves, round_moves}
use Rattle.fly_round.specs.Questions.{entry_of}
use Rattle.fly_work.specs.Parts.{MayStand, IsRoundOf}

module _ {X : Type 0} (p : X → Bool) where
  all-each : ((x : X) → p x ≡ true) → (xs : List X) → list_all p xs ≡ true
  all-each each [] = refl
  all-each each (x ∷ xs) = and_from (p x) (list_all p xs) (each x) (all-each each xs)

  all-both : (xs ys : List X) → list_all p xs ≡ true → list_all p ys ≡ true → list_all p (xs ++ ys) ≡ true
  all-both xs ys front back =
      list_all-append p xs ys ∙ and_from (list_all p xs) (list_all p ys) front back

  all-filter : (q : X → Bool) (xs : List X) → list_all p xs ≡ true → list_all p (filter q xs) ≡ true
  all-filter q [] h = refl
  all-filter q (x ∷ xs) h =
      let parts = and_parts (p x) (list_all p xs) h in
      by (q x) parts.0 (all-filter q xs parts.1)
    where
      by : (b : Bool) → p x ≡ true → list_all p (filter q xs) ≡ true
          → list_all p (cond b (x ∷ filter q xs) (filter q xs)) ≡ true
      by true here rest = and_from (p x) (list_all p (filter q xs)) here rest
      by false here rest = rest

  all-flat : {Y : Type 0} (f : Y → List X) → ((y : Y) → list_all p (f y) ≡ true) → (ys : List Y)
      → list_all p (flat_map f ys) ≡ true
  all-flat f each [] = refl
  all-flat f each (y ∷ ys) = all-both (f y) (flat_map f ys) (each y) (all-flat f each ys)

module _ (plan : RunPlan) (v : View) (told : List Told) where
  abbrev in_plan : Move → Bool
  in_plan m = is_in_plan plan m.at

  -- the moves of a slot are at that slot
  slot-in_plan : (at : At) (cases : ℕ) (heard : List Told) → is_in_plan plan at ≡ true
      → list_all in_plan (slot_moves plan v at cases heard) ≡ true
  slot-in_plan at cases heard here =
      let moves = possible_moves at cases heard in
      let legal : CitedMove → Bool = λ m. is_legal plan v m.entries m.move in
      let stays : CitedMove → Bool = λ m. in_plan m.move in
      let cited : (entries : List Entry) (steps : List Step)
      → list_all stays (map (cited_move at entries) steps) ≡ true =
      λ entries steps. list_all-map stays (cited_move at entries) steps
      ∙ all-each (λ (s : Step). is_in_plan plan at) (λ s. here) steps in
      list_all-map in_plan (λ (m : CitedMove). m.move) (filter legal moves)
      ∙ all-filter stays legal moves
      (all-both stays (map (cited_move at []) (plain_steps cases))
      (map (cited_move at (map entry_of heard)) (citing_steps heard)) (cited [] (plain_steps cases))
      (cited (map entry_of heard) (citing_steps heard)))

  node-in_plan : (i : ℕ) (p : PlanNode) → i + 1 ≤ length plan.nodes
      → list_all in_plan (node_moves plan v told (i, p)) ≡ true
  node-in_plan i p within =
      let there = lt-ltb i (length plan.nodes) (omega arith) in
      let cases = length (case_nodes p.node) in
      let items = enumerate_from 0 (node_state v.state i).items in
      let item_moves : ℕ × SlotState → List Move = λ item. slot_moves plan v (at_item i item.0) 0 [] in
      all-both in_plan (slot_moves plan v (at_node i) cases (told_of v told p)) (flat_map item_moves items)
      (slot-in_plan (at_node i) cases (told_of v told p) there)
      (all-flat in_plan item_moves (λ item. slot-in_plan (at_item i item.0) 0 [] there) items)

  nodes-in_plan : (k : ℕ) (ps : List PlanNode) → k + length ps ≤ length plan.nodes
      → list_all in_plan (flat_map (node_moves plan v told) (enumerate_from k ps)) ≡ true
  nodes-in_plan k [] within = refl
  nodes-in_plan k (p ∷ ps) within =
      all-both in_plan (node_moves plan v told (k, p)) (flat_map (node_moves plan v told) (enumerate_from (k + 1) ps))
      (node-in_plan k p (omega arith)) (nodes-in_plan (k + 1) ps (omega arith))

  pub round-in_plan : list_all in_plan (round_moves plan v told) ≡ true
  round-in_plan =
      all-both in_plan (flat_map (node_moves plan v told) (enumerate_from 0 plan.nodes))
      (slot_moves plan v at_root 0 []) (nodes-in_plan 0 plan.nodes (omega arith)) (slot-in_plan at_root 0 [] refl)

-- the Write of a round
pub write-stands : (plan : RunPlan) (worker : ℕ) (v : View) (told : List Told) (exec : List ℕ) (base : ℕ)
    (moves : List Move) → IsRoundOf plan v told exec base moves → MayStand plan worker (op.Write exec base moves)
unfolding step
write-stands plan worker v told exec base moves round w =
    let id : is_id_text exec ≡ true = ap is_id_text round.exec_is ∙ (is_id-Decides v.name).1 round.of_plan.name in
    let all : list_all (λ (m : Move). is_in_plan plan m.at) moves ≡ true =
    ap (list_all (λ (m : Move). is_in_plan plan m.at)) round.moves_are ∙ round-in_plan plan v told in
    ap (λ b. is_some (where_true b (Some (if_known (written plan w base moves) (execution_named w exec)))))
    (and_from (is_id_text exec) (list_all (λ (m : Move). is_in_plan plan m.at) moves) id all)
