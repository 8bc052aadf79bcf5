-- The questions of a round stand on the paths of nodes, so that what asks them may stand in a journal.
use Rattle.std.proofs.Common.{◌≡◌, ◌≤◌, ℕ, ◌==◌, ◌<◌, Bool, true, false, cond, ◌&&◌, not, List, [], ◌∷◌, ◌++◌, All, length, Option, Some, None, option_map, option_to_list, filter_map, is_none, Contains, refl, sym, ◌∙◌, ap, subst, arith, ⊎_elim}
use Rattle.std.specs.List.{enumerate_from}
use Rattle.std.specs.Option.{IsSome}
use Rattle.std.proofs.lemmas.Bool.{and_from}
use Rattle.std.proofs.lemmas.List.Elements.{All-weaker, Contains-append_cases}
use Rattle.std.proofs.lemmas.List.FromFn.{length-enumerate_from, get_or-enumerate_from}
use Rattle.std.proofs.lemmas.List.Sums.{list_all-from_AllPass}
use Rattle.std.proofs.lemmas.Option.{none-some, same_Some, slice_get_within, get_or_from_slice_get}
use Rattle.fly_types.specs.declared.text.Text.{Text}
use Rattle.fly_types.specs.declared.literals.LiteralMap.{LiteralMap}
use Rattle.fly_docs.specs.Names.{IsId}
use Rattle.fly_docs.specs.Plans.{PlanNode}
use Rattle.fly_docs.specs.Templates.{is_id_text}
use Rattle.fly_graph.proofs.Members.{Contains-nil}
use Rattle.fly_state.specs.declared.phase.Phase.{Phase}
use Rattle.fly_state.specs.declared.phase.Phase.TheVariants as phase
use Rattle.fly_state.specs.declared.slots.SlotState.{SlotState}
use Rattle.fly_state.specs.declared.entries.Op.{Op}
use Rattle.fly_state.specs.declared.entries.Op.TheVariants as op
use Rattle.fly_state.specs.declared.view.View.{View}
use Rattle.fly_state.specs.declared.view.Known.{Known}
use Rattle.fly_state.specs.Moves.{where_true}
use Rattle.fly_state.specs.Plans.{RunPlan, Path, instance_of, is_task}
use Rattle.fly_state.specs.States.{node_state, phase_of, is_running, is_broken}
use Rattle.fly_state.proofs.Lists.{of_flat_map, of_filter_map, of_option}
use Rattle.fly_world.specs.Spots.{is_path_of_ids, are_ids}
use Rattle.fly_world.specs.Steps.{Answer, step}
use Rattle.fly_world.proofs.TestLemmas.{is_id-Decides}
use Rattle.fly_round.specs.declared.told.Told.{Told}
use Rattle.fly_round.specs.Questions.{Question, look_up, reserve, launch, expire, put, Asks, is_reserved, is_missed, timeout_of, question_by, first_in, first_question, second_in, second_question, item_question, node_questions, questions, next_question, HasPathsOfIds}
use Rattle.fly_work.specs.Parts.{MayStand}

abbrev pub path_asked : Question → Path
path_asked (look_up path) = path
path_asked (reserve path) = path
path_asked (launch path item attempt inputs) = path
path_asked (expire path item attempt) = path
path_asked (put path) = path

-- ---- of a node

where-path : (b : Bool) (q asked : Question) → where_true b (Some q) ≡ Some asked → path_asked asked ≡ path_asked q
where-path true q asked e = ap path_asked (sym (same_Some _ _ e))
where-path false q asked e = absurd (none-some asked e)

where-there : (b : Bool) (o : Option Question) (asked : Question) → where_true b o ≡ Some asked → o ≡ Some asked
where-there true o asked e = e
where-there false o asked e = absurd (none-some asked e)

launch-path : (path : Path) (item : Option ℕ) (attempt : ℕ) (inputs : Option LiteralMap) (asked : Question)
    → option_map (launch path item attempt) inputs ≡ Some asked → path_asked asked ≡ path
launch-path path item attempt None asked e = absurd (none-some asked e)
launch-path path item attempt (Some i) asked e = ap path_asked (sym (same_Some _ _ e))

module _ (plan : RunPlan) (v : View) where
  attempt-path : (p : PlanNode) (item : Option ℕ) (attempt : ℕ) (known : Option Known) (asked : Question)
      → question_by plan v p item attempt known ≡ Some asked → path_asked asked ≡ p.path
  attempt-path p item attempt None asked e = launch-path p.path item attempt _ asked e
  attempt-path p item attempt (Some k) asked e =
      where-path (is_none k.outcome && not (timeout_of plan p == 0)) (expire p.path item attempt) asked e

  first-path : (at : ℕ × PlanNode) (f : Phase) (asked : Question) → first_in plan v at f ≡ Some asked
      → path_asked asked ≡ at.1.path
  first-path at phase.Queued asked e = where-path _ (look_up at.1.path) asked e
  first-path at phase.Running asked e =
      attempt-path at.1 None _ _ asked (where-there (is_task at.1.node) _ asked e)
  first-path at phase.Succeeding asked e = ap path_asked (sym (same_Some _ _ e))
  first-path at _ asked e = absurd (none-some asked e)

  second-path : (missed : Bool) (at : ℕ × PlanNode) (f : Phase) (asked : Question)
      → second_in plan missed at f ≡ Some asked → path_asked asked ≡ at.1.path
  second-path missed at phase.Queued asked e =
      where-path (is_reserved plan at.1 && missed) (reserve at.1.path) asked e
  second-path missed at phase.Running asked e = where-path (is_reserved plan at.1) (reserve at.1.path) asked e
  second-path missed at _ asked e = absurd (none-some asked e)

  item-path : (p : PlanNode) (at : ℕ × SlotState) (asked : Question) → item_question plan v p at ≡ Some asked
      → path_asked asked ≡ p.path
  item-path p at asked e =
      attempt-path p (Some at.0) at.1.attempt _ asked (where-there (is_running at.1.phase) _ asked e)

  module _ (told : List Told) where
    node-path : (at : ℕ × PlanNode) (asked : Question) → Contains (node_questions plan v told at) asked
        → path_asked asked ≡ at.1.path
    node-path at asked has = by (is_broken plan v.state (instance_of at.1)) has
      where
        firsts : List Question
        firsts = option_to_list (first_question plan v at)

        seconds : List Question
        seconds = option_to_list (second_question plan v told at)

        slots : List (ℕ × SlotState)
        slots = enumerate_from 0 (node_state v.state at.0).items

        items : List Question
        items = filter_map (item_question plan v at.1) slots

        in-first : Contains firsts asked → path_asked asked ≡ at.1.path
        in-first has = first-path at (phase_of v.state at.0) asked (of_option (first_question plan v at) asked has)

        in-second : Contains seconds asked → path_asked asked ≡ at.1.path
        in-second has =
            second-path (is_missed v told at.1) at (phase_of v.state at.0) asked
            (of_option (second_question plan v told at) asked has)

        in-items : Contains items asked → path_asked asked ≡ at.1.path
        in-items has =
            let found = of_filter_map (item_question plan v at.1) slots asked has in
            item-path at.1 found.0 asked found.2

        by : (broken : Bool) → Contains (cond broken [] ((firsts ++ seconds) ++ items)) asked
            → path_asked asked ≡ at.1.path
        by true h = absurd (Contains-nil asked h)
        by false h =
            ⊎_elim (λ own. ⊎_elim in-first in-second (Contains-append_cases firsts seconds asked own)) in-items
            (Contains-append_cases (firsts ++ seconds) items asked h)

    -- ---- of a round

    numbered-node : (at : ℕ × PlanNode) → Contains (enumerate_from 0 plan.nodes) at → Contains plan.nodes at.1
    numbered-node at has =
        let within : has.0 < length plan.nodes = omega (arith, has.1, length-enumerate_from 0 plan.nodes) in
        let there = sym (get_or-enumerate_from 0 plan.nodes has.0 at within) ∙ has.2 in
        (has.0, within, ap (λ (x : ℕ × PlanNode). x.1) there)

    pub next-path : HasPathsOfIds plan → (q : Question) → next_question plan v told ≡ Some q
        → All IsId (path_asked q) × (1 ≤ length (path_asked q))
    next-path of_ids q next =
        let all = questions plan v told in
        let has : Contains all q =
        (length told, slice_get_within all (length told) q next, get_or_from_slice_get all (length told) q q next) in
        let at = of_flat_map (node_questions plan v told) (enumerate_from 0 plan.nodes) q has in
        subst (λ (path : Path). All IsId path × (1 ≤ length path)) (sym (node-path at.0 q at.2))
        (of_ids at.0.1 (numbered-node at.0 at.1))

-- ---- ids

path-ids : (path : Path) → All IsId path → 1 ≤ length path → is_path_of_ids path ≡ true
path-ids [] all some = absurd (omega (arith, some))
path-ids (id ∷ ids) all some =
    list_all-from_AllPass is_id_text (id ∷ ids)
    (All-weaker IsId (λ x. is_id_text x ≡ true) (λ x is. (is_id-Decides x).1 is) (id ∷ ids) all)

ids-there : (exec : Text) (path : Path) → IsId exec → All IsId path → 1 ≤ length path → are_ids exec path ≡ true
ids-there exec path id all some =
    and_from (is_id_text exec) (is_path_of_ids path) ((is_id-Decides exec).1 id) (path-ids path all some)

-- ---- what may stand in a journal

where-some : (b : Bool) (a : Answer) → b ≡ true → IsSome (where_true b (Some a))
where-some true a e = refl
where-some false a e = cc

-- an operation that asks a question on such a path
pub asks-stands : (plan : RunPlan) (exec : Text) (worker : ℕ) (q : Question) (o : Op) → IsId exec
    → All IsId (path_asked q) × (1 ≤ length (path_asked q)) → Asks exec q o → MayStand plan worker o
unfolding step
asks-stands plan exec worker (look_up path) (op.Lookup e p) id ids h w =
    where-some (are_ids e p) _ (ap (λ x. are_ids x p) h.0 ∙ ap (are_ids exec) h.1 ∙ ids-there exec path id ids.0 ids.1)
asks-stands plan exec worker (reserve path) (op.Reserve e p) id ids h w =
    where-some (are_ids e p) _ (ap (λ x. are_ids x p) h.0 ∙ ap (are_ids exec) h.1 ∙ ids-there exec path id ids.0 ids.1)
asks-stands plan exec worker (put path) (op.Put e p) id ids h w =
    where-some (are_ids e p) _ (ap (λ x. are_ids x p) h.0 ∙ ap (are_ids exec) h.1 ∙ ids-there exec path id ids.0 ids.1)
asks-stands plan exec worker (launch path item attempt inputs) (op.Launch name i) id ids h w =
    where-some (are_ids name.exec name.path) _
    (ids-there name.exec name.path name.exec_is_id name.path_of_ids name.path_is_some)
asks-stands plan exec worker (expire path item attempt) (op.Expire name) id ids h w =
    where-some (are_ids name.exec name.path) _
    (ids-there name.exec name.path name.exec_is_id name.path_of_ids name.path_is_some)
asks-stands plan exec worker _ _ id ids h w = absurd h
