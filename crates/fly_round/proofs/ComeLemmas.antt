-- How far a round has come after each question of a node.
use Rattle.std.proofs.Common.{◌≡◌, ℕ, ◌+◌, ◌<◌, ◌≤◌, arith, Bool, true, false, ◌&&◌, List, [], ◌∷◌, ◌++◌, flat_map, length, take, Option, Some, None, option_map, option_to_list, filter_map, IsTrue, ⊎_elim, refl, sym, ◌∙◌, ap, subst, length-append, cond}
use Rattle.std.specs.List.{slice_get, enumerate_from}
use Rattle.std.proofs.lemmas.List.FromFn.{length-enumerate_from}
use Rattle.std.proofs.lemmas.Option.{none-some, same_Some, slice_get_past, slice_get_cases}
use Rattle.fly_types.specs.declared.text.Text.{Text}
use Rattle.fly_docs.specs.declared.workflow.Workflow.{Workflow}
use Rattle.fly_docs.specs.Plans.{PlanNode, is_array, is_array_target}
use Rattle.fly_state.specs.declared.phase.Phase.{Phase}
use Rattle.fly_state.specs.declared.phase.Phase.TheVariants as phase
use Rattle.fly_state.specs.declared.entries.Op.{Op}
use Rattle.fly_state.specs.declared.entries.Op.TheVariants as op
use Rattle.fly_state.specs.declared.slots.SlotState.{SlotState}
use Rattle.fly_state.specs.declared.slots.NodeState.{NodeState}
use Rattle.fly_state.specs.declared.view.View.{View}
use Rattle.fly_state.specs.OfPlan.{IsViewOfPlan, has_items}
use Rattle.fly_state.specs.Moves.{where_true}
use Rattle.fly_state.specs.PlanTables.{IsOuterPlan}
use Rattle.fly_state.specs.Plans.{RunPlan, Path, node_numbered, instance_of}
use Rattle.fly_state.specs.States.{node_state, phase_of, is_broken}
use Rattle.fly_state.proofs.Lists.{enumerated-at}
use Rattle.fly_state.proofs.TaskNodes.{task-node}
use Rattle.fly_round.specs.declared.told.Told.{Told}
use Rattle.fly_round.specs.declared.progress.Progress.{Progress}
use Rattle.fly_round.specs.Questions.{Question, reserve, Asks, AsksWhere, is_reserved, first_question, second_question, second_in, node_questions, questions, next_question, item_question}
use Rattle.fly_round.specs.Rounds.{first_of, earlier_questions, is_look_up, HasCome, IsNext}
use Rattle.fly_round.proofs.Lists.{append-nothing, take-whole, flat-empty, slice_get-front, slice_get-back, slice_get-flat_map, length-flat_map_more}

abbrev pub progress : ℕ → Bool → Bool → Progress
progress next half missed = record { next = next; half = half; missed = missed }

not-both : (b : Bool) → b ≡ true → b ≡ false → ⊥
not-both true h e = cc
not-both false h e = cc

items-none : (n : NodeState) → (IsTrue (has_items n) → ⊥) → n.items ≡ []
items-none n h = by n.items refl
  where
    by : (items : List SlotState) → n.items ≡ items → n.items ≡ []
    by [] e = e
    by (item ∷ items) e = absurd (h (ap (λ xs. has_items (record n { items = xs })) e))

module _ (plan : RunPlan) (w : Workflow) (outer : IsOuterPlan plan w) (v : View) (of_plan : IsViewOfPlan plan v) where
  abbrev at_all : List (ℕ × PlanNode)
  at_all = enumerate_from 0 plan.nodes

  module _ (i : ℕ) (p : PlanNode) (planned : node_numbered plan i ≡ Some p) where
    pub numbered-at : slice_get at_all i ≡ Some (i, p)
    numbered-at =
        let start : 0 + i ≡ i = omega arith in
        enumerated-at 0 plan.nodes i
        ∙ ap (option_map (λ x. (0 + i, x))) planned
        ∙ ap (λ k. Some (k, p)) start

    outer-instance : instance_of p ≡ []
    outer-instance = (task-node plan w outer v.state i p planned).inside

    pub no-items : (node_state v.state i).items ≡ []
    no-items =
        let target = (task-node plan w outer v.state i p planned).target in
        items-none (node_state v.state i)
        (λ has. not-both (is_array p.node) ((of_plan.state.nodes i p planned).array has) (ap is_array_target target))

    pub first-there : first_of plan v i ≡ option_to_list (first_question plan v (i, p))
    first-there =
        let of_node : Option PlanNode → List Question = λ o. flat_map (λ q. option_to_list (first_question plan v (i, q))) (option_to_list o) in
        ap of_node planned ∙ append-nothing (option_to_list (first_question plan v (i, p)))

    module _ (goes_on : is_broken plan v.state [] ≡ false) (told : List Told) where
      abbrev first : Option Question
      first = first_question plan v (i, p)

      abbrev second : Option Question
      second = second_question plan v told (i, p)

      abbrev ask : ℕ × PlanNode → List Question
      ask = node_questions plan v told

      abbrev both : List Question
      both = option_to_list first ++ option_to_list second

      -- a task node in a run that goes on has its two questions
      questions-two : ask (i, p) ≡ both
      questions-two =
          let items : List SlotState → List Question = λ xs. both ++ filter_map (item_question plan v p) (enumerate_from 0 xs) in
          let by : Bool → List Question = λ b. cond b [] (items (node_state v.state i).items) in
          ap by (ap (is_broken plan v.state) outer-instance ∙ goes_on)
          ∙ ap items no-items
          ∙ append-nothing both

      abbrev before : ℕ
      before = length (flat_map ask (take i at_all))

      count-first : (missed : Bool) → length (earlier_questions plan v told (progress i false missed)) ≡ before
      count-first missed = ap length (append-nothing (flat_map ask (take i at_all)))

      count-half : (missed : Bool) → length (earlier_questions plan v told (progress i true missed)) ≡ before + length (option_to_list first)
      count-half missed =
          length-append (flat_map ask (take i at_all)) (first_of plan v i) ∙ ap (λ xs. before + length xs) first-there

      count-second : length (earlier_questions plan v told (progress (i + 1) false false))
          ≡ before + (length (option_to_list first) + length (option_to_list second))
      count-second =
          ap length (append-nothing (flat_map ask (take (i + 1) at_all)))
          ∙ length-flat_map_more ask at_all i (i, p) numbered-at
          ∙ ap (λ xs. before + length xs) questions-two
          ∙ ap (λ k. before + k) (length-append (option_to_list first) (option_to_list second))

      asked-at : (k : ℕ) (q : Question) → slice_get both k ≡ Some q → slice_get (questions plan v told) (before + k) ≡ Some q
      asked-at k q e =
          slice_get-flat_map ask at_all i (i, p) k q numbered-at (ap (λ xs. slice_get xs k) questions-two ∙ e)

      small : i < length plan.nodes
      small = ⊎_elim (λ there. there.1) (λ past. absurd (none-some p (sym past.1 ∙ planned))) (slice_get_cases plan.nodes i).1

      module _ (count : ℕ) (missed : Bool) where
        -- ---- the first question

        pub come-first : HasCome plan v told (progress i false missed) count → HasCome plan v told (progress i true missed) (count + length (option_to_list first))
        come-first come = record {
          within = come.within;
          inside = λ _. small;
          behind = let a = count-half missed in let b = count-first missed in let c = come.behind in omega (arith, a, b, c);
          here = come.here;
          later = come.later;
        }

        pub next-first : (q : Question) → HasCome plan v told (progress i false missed) (length told) → first ≡ Some q → next_question plan v told ≡ Some q
        next-first q come is =
            let at : length told ≡ before + 0 = let b = count-first missed in let c = come.behind in omega (arith, b, c) in
            ap (slice_get (questions plan v told)) at
            ∙ asked-at 0 q (slice_get-front (option_to_list first) (option_to_list second) 0 q (ap (λ o. slice_get (option_to_list o) 0) is))

        -- ---- the second

        pub come-second : HasCome plan v told (progress i true missed) count
            → HasCome plan v told (progress (i + 1) false false) (count + length (option_to_list second))
        come-second come = record {
          within = let s = small in omega (arith, s);
          inside = λ e. absurd (not-both true refl (sym e));
          behind = let a = count-half missed in let b = count-second in let c = come.behind in omega (arith, a, b, c);
          here = λ r at. come.later (i + 1) r at (omega arith);
          later = λ j r at lt. come.later j r at (omega (arith, lt));
        }

        pub next-second : (q : Question) → HasCome plan v told (progress i true missed) (length told) → second ≡ Some q → next_question plan v told ≡ Some q
        next-second q come is =
            let firsts = option_to_list first in
            let at : length told ≡ before + (length firsts + 0) = let b = count-half missed in let c = come.behind in omega (arith, b, c) in
            ap (slice_get (questions plan v told)) at
            ∙ asked-at (length firsts + 0) q
            (slice_get-back firsts (option_to_list second) 0 ∙ ap (λ o. slice_get (option_to_list o) 0) is)

-- ---- the end

pub next-end : (plan : RunPlan) (v : View) (told : List Told) (next : ℕ) (half missed : Bool) → length plan.nodes ≤ next
    → HasCome plan v told (progress next half missed) (length told) → next_question plan v told ≡ None
next-end plan v told next true missed past come = let small = come.inside refl in absurd (omega (arith, past, small))
next-end plan v told next false missed past come =
    let ask = node_questions plan v told in
    let ats = enumerate_from 0 plan.nodes in
    let all : take next ats ≡ ats = take-whole ats next (let n = length-enumerate_from 0 plan.nodes in omega (arith, n, past)) in
    let long : length (flat_map ask ats) ≡ length told =
    ap (λ xs. length (flat_map ask xs)) (sym all) ∙ ap length (sym (append-nothing (flat_map ask (take next ats)))) ∙ come.behind in
    slice_get_past (questions plan v told) (length told) (omega (arith, long))

-- ---- what is asked

-- where an operation asks, there is a question
pub asks-some : (exec : Text) (o : Option Question) (a : Op) → AsksWhere exec o (Some a) → (q : Question) × (o ≡ Some q) × Asks exec q a
asks-some exec None a h = absurd h
asks-some exec (Some q) a h = (q, refl, h)

pub asks-none : (exec : Text) (o : Option Question) → AsksWhere exec o None → o ≡ None
asks-none exec None h = refl
asks-none exec (Some q) h = absurd h

reserve-no-look_up : (exec : Text) (path : Path) (a : Op) → Asks exec (reserve path) a → is_look_up a ≡ false
reserve-no-look_up exec path (op.Reserve e own) h = refl
reserve-no-look_up exec path _ h = absurd h

where-reserve : (exec : Text) (path : Path) (a : Op) (b : Bool) → AsksWhere exec (where_true b (Some (reserve path))) (Some a)
    → is_look_up a ≡ false
where-reserve exec path a true h = reserve-no-look_up exec path a h
where-reserve exec path a false h = absurd h

-- the second question is no look-up
second-no-look_up : (plan : RunPlan) (missed : Bool) (at : ℕ × PlanNode) (f : Phase) (exec : Text) (a : Op)
    → AsksWhere exec (second_in plan missed at f) (Some a) → is_look_up a ≡ false
second-no-look_up plan missed at phase.Queued exec a h = where-reserve exec at.1.path a (is_reserved plan at.1 && missed) h
second-no-look_up plan missed at phase.Running exec a h = where-reserve exec at.1.path a (is_reserved plan at.1) h
second-no-look_up plan missed at _ exec a h = absurd h

module _ (plan : RunPlan) (w : Workflow) (outer : IsOuterPlan plan w) (v : View) (of_plan : IsViewOfPlan plan v)
    (goes_on : is_broken plan v.state [] ≡ false) (i : ℕ) (p : PlanNode) (planned : node_numbered plan i ≡ Some p)
    (told : List Told) (missed : Bool) where
  abbrev one : Option Question
  one = first_question plan v (i, p)

  abbrev two : Option Question
  two = second_in plan missed (i, p) (phase_of v.state i)

  two-is : HasCome plan v told (progress i true missed) (length told) → second_question plan v told (i, p) ≡ two
  two-is come = ap (λ b. second_in plan b (i, p) (phase_of v.state i)) (come.here p planned)

  pub skip-first : HasCome plan v told (progress i false missed) (length told) → AsksWhere v.name one None
      → HasCome plan v told (progress i true missed) (length told)
  skip-first come none =
      let e = asks-none v.name one none in
      let n : length (option_to_list one) ≡ 0 = ap (λ o. length (option_to_list o)) e in
      let count : length told + length (option_to_list one) ≡ length told = omega (arith, n) in
      subst (HasCome plan v told (progress i true missed)) count
      (come-first plan w outer v of_plan i p planned goes_on told (length told) missed come)

  pub found-first : (a : Op) → HasCome plan v told (progress i false missed) (length told) → AsksWhere v.name one (Some a)
      → IsNext plan v told a (progress i true missed)
  found-first a come asked =
      let q = asks-some v.name one a asked in
      let n : length (option_to_list one) ≡ 1 = ap (λ o. length (option_to_list o)) q.1 in
      let count : length told + length (option_to_list one) ≡ length told + 1 = omega (arith, n) in
      record {
        asks = subst (λ o. AsksWhere v.name o (Some a)) (sym (next-first plan w outer v of_plan i p planned goes_on told (length told) missed q.0 come q.1)) q.2;
        come =
            subst (HasCome plan v told (progress i true missed)) count
            (come-first plan w outer v of_plan i p planned goes_on told (length told) missed come);
        at_hand = record {
          first = λ r at _. subst (λ x. AsksWhere v.name (first_question plan v (i, x)) (Some a)) (same_Some _ _ (sym planned ∙ at)) asked;
          second = λ e. absurd (not-both true refl e);
        };
      }

  pub skip-second : HasCome plan v told (progress i true missed) (length told) → AsksWhere v.name two None
      → HasCome plan v told (progress (i + 1) false false) (length told)
  skip-second come none =
      let e = two-is come ∙ asks-none v.name two none in
      let n : length (option_to_list (second_question plan v told (i, p))) ≡ 0 = ap (λ o. length (option_to_list o)) e in
      let count : length told + length (option_to_list (second_question plan v told (i, p))) ≡ length told = omega (arith, n) in
      subst (HasCome plan v told (progress (i + 1) false false)) count
      (come-second plan w outer v of_plan i p planned goes_on told (length told) missed come)

  pub found-second : (a : Op) → HasCome plan v told (progress i true missed) (length told) → AsksWhere v.name two (Some a)
      → IsNext plan v told a (progress (i + 1) false false)
  found-second a come asked =
      let q = asks-some v.name two a asked in
      let e = two-is come ∙ q.1 in
      let n : length (option_to_list (second_question plan v told (i, p))) ≡ 1 = ap (λ o. length (option_to_list o)) e in
      let count : length told + length (option_to_list (second_question plan v told (i, p))) ≡ length told + 1 = omega (arith, n) in
      record {
        asks = subst (λ o. AsksWhere v.name o (Some a)) (sym (next-second plan w outer v of_plan i p planned goes_on told (length told) missed q.0 come e)) q.2;
        come =
            subst (HasCome plan v told (progress (i + 1) false false)) count
            (come-second plan w outer v of_plan i p planned goes_on told (length told) missed come);
        at_hand = record {
          first = λ r at e. absurd (not-both true refl (sym e));
          second = λ _. second-no-look_up plan missed (i, p) (phase_of v.state i) v.name a asked;
        };
      }

-- nothing is asked in a broken run
pub next-broken : (plan : RunPlan) (w : Workflow) → IsOuterPlan plan w → (v : View) → is_broken plan v.state [] ≡ true → (told : List Told)
    → next_question plan v told ≡ None
next-broken plan w outer v broken told =
    ap (λ qs. slice_get qs (length told)) (flat-empty (node_questions plan v told) (enumerate_from 0 plan.nodes)
    (λ k x at. by k x (slice_get plan.nodes k) refl (sym (enumerated-at 0 plan.nodes k) ∙ at)))
  where
    by : (k : ℕ) (x : ℕ × PlanNode) (found : Option PlanNode) → slice_get plan.nodes k ≡ found
        → option_map (λ y. (0 + k, y)) (slice_get plan.nodes k) ≡ Some x → node_questions plan v told x ≡ []
    by k x None there at = absurd (none-some x (sym (ap (option_map (λ y. (0 + k, y))) there) ∙ at))
    by k x (Some p) there at =
        let x_is : (0 + k, p) ≡ x = same_Some _ _ (sym (ap (option_map (λ y. (0 + k, y))) there) ∙ at) in
        let inside : instance_of p ≡ [] = (task-node plan w outer v.state k p there).inside in
        let items : List Question =
        option_to_list (first_question plan v (0 + k, p)) ++ option_to_list (second_question plan v told (0 + k, p))
        ++ filter_map (item_question plan v p) (enumerate_from 0 (node_state v.state (0 + k)).items) in
        subst (λ y. node_questions plan v told y ≡ []) x_is
        (ap (λ b. cond b [] items) (ap (is_broken plan v.state) inside ∙ broken))

take-none : {X : Type 0} (xs : List X) → take 0 xs ≡ []
take-none [] = refl
take-none (x ∷ xs) = refl

-- a round begins before all questions
pub come-start : (plan : RunPlan) (v : View) → HasCome plan v [] (progress 0 false false) 0
come-start plan v = record {
  within = omega arith;
  inside = λ e. absurd (not-both true refl (sym e));
  behind = ap (λ ats. length (flat_map (node_questions plan v []) ats ++ [])) (take-none (enumerate_from 0 plan.nodes));
  here = λ p at. refl;
  later = λ i p at lt. refl;
}
