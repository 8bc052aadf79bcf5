-- The table of what was told of each node, answer by answer.
use Rattle.std.proofs.Common.{◌≡◌, ℕ, ◌+◌, ◌<◌, ◌==◌, arith, Bool, true, false, not, cond, List, [], ◌∷◌, ◌++◌, length, take, get_or, Some, refl, sym, ◌∙◌, ap, ⊎_elim}
use Rattle.std.specs.List.{slice_get, slice_set}
use Rattle.std.proofs.lemmas.Bool.{false≢true, eq-eqb}
use Rattle.std.proofs.lemmas.Map.Views.{exact_unsigned_eq as eqb-eq}
use Rattle.std.proofs.lemmas.List.Elements.{filter_more}
use Rattle.std.proofs.lemmas.Option.{same_Some, slice_get_cases}
use Rattle.fly_docs.specs.Plans.{PlanNode}
use Rattle.fly_state.specs.declared.view.View.{View}
use Rattle.fly_round.specs.declared.told.Told.{Told}
use Rattle.fly_round.specs.declared.answers.CatalogAnswer.{CatalogAnswer}
use Rattle.fly_round.specs.declared.answers.NodeAnswers.{NodeAnswers}
use Rattle.fly_round.specs.Moves.{is_about, told_of}
use Rattle.fly_round.specs.Answers.{answer_to, answers_with, answers_in}
use Rattle.fly_round.proofs.AttemptLemmas.{slice_get-set_same, slice_get-set_other}
use Rattle.fly_round.proofs.Lists.{append-nothing}

pub not-other : (b : Bool) → not b ≡ false → b ≡ true
not-other true e = refl
not-other false e = absurd (false≢true (sym e))

answers-more : (mine : List Told) (t : Told) → answers_in (mine ++ t ∷ []) ≡ answers_with (answers_in mine) (answer_to t)
answers-more [] t = refl
answers-more (a ∷ []) t = refl
answers-more (a ∷ b ∷ []) t = refl
answers-more (a ∷ b ∷ c ∷ more) t = refl

-- what was told of a node after one answer more, where it is known whether it is of the node
pub answers-step : (v : View) (p : PlanNode) (told : List Told) (k : ℕ) (t : Told) (b : Bool) → k < length told
    → t ≡ get_or told k t → is_about v p t.op ≡ b
    → answers_in (told_of v (take (k + 1) told) p)
    ≡ cond b (answers_with (answers_in (told_of v (take k told) p)) (answer_to t)) (answers_in (told_of v (take k told) p))
answers-step v p told k t b lt is about =
    let mine = told_of v (take k told) p in
    let of_node = λ (a : Told). is_about v p a.op in
    ap answers_in (filter_more of_node told k t lt)
    ∙ ap (λ (a : Told). answers_in (mine ++ cond (of_node a) (a ∷ []) [])) (sym is)
    ∙ ap (λ c. answers_in (mine ++ cond c (t ∷ []) [])) about
    ∙ by b
  where
    by : (c : Bool) → answers_in (told_of v (take k told) p ++ cond c (t ∷ []) [])
        ≡ cond c (answers_with (answers_in (told_of v (take k told) p)) (answer_to t)) (answers_in (told_of v (take k told) p))
    by true = answers-more (told_of v (take k told) p) t
    by false = ap answers_in (append-nothing (told_of v (take k told) p))

-- the table after an answer was added to a node
pub added-more : (xs ys : List NodeAnswers) (n : ℕ) (a : CatalogAnswer) → n < length xs
    → ((before : NodeAnswers) → slice_get xs n ≡ Some before → ys ≡ slice_set xs n (answers_with before a))
    → (i : ℕ) (x : NodeAnswers) → slice_get xs i ≡ Some x → slice_get ys i ≡ Some (cond (i == n) (answers_with x a) x)
added-more xs ys n a within added i x at =
    ⊎_elim (λ there. by there.0 there.2 (i == n) refl) (λ past. absurd (omega (arith, past.0, within))) (slice_get_cases xs n).1
  where
    by : (before : NodeAnswers) → slice_get xs n ≡ Some before → (b : Bool) → (i == n) ≡ b
        → slice_get ys i ≡ Some (cond b (answers_with x a) x)
    by before there true e =
        let same : x ≡ before = same_Some _ _ (sym at ∙ ap (slice_get xs) (eqb-eq i n e) ∙ there) in
        ap (λ zs. slice_get zs i) (added before there)
        ∙ ap (slice_get (slice_set xs n (answers_with before a))) (eqb-eq i n e)
        ∙ slice_get-set_same xs n (answers_with before a) within
        ∙ ap (λ y. Some (answers_with y a)) (sym same)
    by before there false e =
        ap (λ zs. slice_get zs i) (added before there)
        ∙ slice_get-set_other xs n i (answers_with before a) (λ one. absurd (false≢true (sym e ∙ eq-eqb i n one)))
        ∙ at
