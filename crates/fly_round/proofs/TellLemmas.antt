-- What an answer changes of how far a round has come.
use Rattle.std.proofs.Common.{◌≡◌, ℕ, zero, suc, ◌+◌, ◌<◌, arith, Bool, true, false, ◌&&◌, ◌||◌, if◌then◌else◌, List, [], ◌∷◌, ◌++◌, flat_map, filter_map, length, take, bytes_eq, Option, Some, None, option_map, option_to_list, refl, sym, ◌∙◌, ap, subst, ⊎_elim, length-append}
use Rattle.std.specs.List.{slice_get, list_any, enumerate_from}
use Rattle.std.proofs.lemmas.Bool.{false≢true, cases_Bool}
use Rattle.std.proofs.lemmas.Option.{none-some, same_Some, slice_get_cases}
use Rattle.std.proofs.lemmas.Slice.Eq.{bytes_eq-Decides}
use Rattle.fly_types.specs.declared.text.Text.{Text}
use Rattle.fly_docs.specs.declared.workflow.Workflow.{Workflow}
use Rattle.fly_docs.specs.Plans.{PlanNode}
use Rattle.fly_state.specs.declared.phase.Phase.{Phase}
use Rattle.fly_state.specs.declared.phase.Phase.TheVariants as phase
use Rattle.fly_state.specs.declared.entries.Op.{Op}
use Rattle.fly_state.specs.declared.entries.Op.TheVariants as op
use Rattle.fly_state.specs.declared.entries.Reply.{Reply}
use Rattle.fly_state.specs.declared.entries.Reply.TheVariants as reply
use Rattle.fly_state.specs.declared.view.View.{View}
use Rattle.fly_state.specs.declared.view.Known.{Known}
use Rattle.fly_state.specs.Moves.{where_true, is_on, is_miss}
use Rattle.fly_state.specs.PlanTables.{IsOuterPlan}
use Rattle.fly_state.specs.Plans.{RunPlan, Path, same_path, node_numbered, instance_of}
use Rattle.fly_state.specs.States.{node_state, phase_of, is_broken}
use Rattle.fly_state.proofs.Lists.{enumerated-at}
use Rattle.fly_state.proofs.PlanLemmas.{and-false}
use Rattle.fly_round.specs.declared.told.Told.{Told}
use Rattle.fly_round.specs.declared.progress.Progress.{Progress}
use Rattle.fly_round.specs.Questions.{Question, look_up, reserve, launch, expire, put, Asks, AsksWhere, entry_of, is_missed, question_by, first_in, first_question, second_in, item_question, node_questions}
use Rattle.fly_round.specs.Rounds.{answer_of, first_of, earlier_questions, is_look_up, is_miss_reply, HasCome, IsAtHand, IsRound}
use Rattle.fly_round.proofs.ComeLemmas.{progress}
use Rattle.fly_round.proofs.PathLemmas.{same-path, path-same, same-number}

or-false : (b : Bool) → b || false ≡ b
or-false true = refl
or-false false = refl

or-later : (a b c : Bool) → a || (b || c) ≡ (a || b) || c
or-later true b c = refl
or-later false b c = refl

any-push : {X : Type 0} (t : X → Bool) (xs : List X) (x : X) → list_any t (xs ++ x ∷ []) ≡ list_any t xs || t x
any-push t [] x = or-false (t x)
any-push t (y ∷ ys) x = ap (λ b. t y || b) (any-push t ys x) ∙ or-later (t y) (list_any t ys) (t x)

-- what is missed once one answer more was told
pub missed-more : (v : View) (told : List Told) (t : Told) (p : PlanNode)
    → is_missed v (told ++ t ∷ []) p ≡ is_missed v told p || is_miss v p (entry_of t)
missed-more v told t p = any-push (λ a. is_miss v p (entry_of a)) told t

-- only a look-up misses
pub no-look_up : (v : View) (p : PlanNode) (o : Op) (place : ℕ) (r : Reply) → is_look_up o ≡ false
    → is_miss v p (entry_of (answer_of o place r)) ≡ false
no-look_up v p (op.Lookup exec path) place r e = absurd (false≢true (sym e))
no-look_up v p _ place r e = refl

-- ---- questions stand on the paths of their nodes

abbrev path_in : Question → Path
path_in (look_up path) = path
path_in (reserve path) = path
path_in (launch path item attempt inputs) = path
path_in (expire path item attempt) = path
path_in (put path) = path

where-path : (b : Bool) (q asked : Question) → where_true b (Some q) ≡ Some asked → path_in asked ≡ path_in q
where-path true q asked e = ap path_in (sym (same_Some _ _ e))
where-path false q asked e = absurd (none-some asked e)

where-some : {X : Type 0} (b : Bool) (o : Option X) (x : X) → where_true b o ≡ Some x → o ≡ Some x
where-some true o x e = e
where-some false o x e = absurd (none-some x e)

launch-path : {I : Type 0} (make : I → Question) (path : Path) → ((i : I) → path_in (make i) ≡ path) → (o : Option I) (asked : Question)
    → option_map make o ≡ Some asked → path_in asked ≡ path
launch-path make path on None asked e = absurd (none-some asked e)
launch-path make path on (Some i) asked e = ap path_in (sym (same_Some _ _ e)) ∙ on i

known-path : (plan : RunPlan) (v : View) (p : PlanNode) (item : Option ℕ) (attempt : ℕ) (known : Option Known) (asked : Question)
    → question_by plan v p item attempt known ≡ Some asked → path_in asked ≡ p.path
known-path plan v p item attempt None asked e = launch-path (launch p.path item attempt) p.path (λ i. refl) _ asked e
known-path plan v p item attempt (Some k) asked e = where-path _ (expire p.path item attempt) asked e

first-path : (plan : RunPlan) (v : View) (at : ℕ × PlanNode) (f : Phase) (asked : Question) → first_in plan v at f ≡ Some asked
    → path_in asked ≡ at.1.path
first-path plan v at phase.Queued asked e = where-path _ (look_up at.1.path) asked e
first-path plan v at phase.Running asked e = known-path plan v at.1 None _ _ asked (where-some _ _ asked e)
first-path plan v at phase.Succeeding asked e = ap path_in (sym (same_Some _ _ e))
first-path plan v at _ asked e = absurd (none-some asked e)

look_up-on : (exec : Text) (q : Question) (e : Text) (path : Path) → Asks exec q (op.Lookup e path) → (e ≡ exec) × (path ≡ path_in q)
look_up-on exec (look_up own) e path h = h
look_up-on exec _ e path h = absurd h

first-on : (exec : Text) (o : Option Question) (e : Text) (path own : Path) → ((q : Question) → o ≡ Some q → path_in q ≡ own)
    → AsksWhere exec o (Some (op.Lookup e path)) → (e ≡ exec) × (path ≡ own)
first-on exec None e path own on h = absurd h
first-on exec (Some q) e path own on h = let at = look_up-on exec q e path h in (at.0, at.1 ∙ on q refl)

-- ---- misses

path-true : (v : View) (p : PlanNode) (e : Text) (path : Path) → e ≡ v.name → path ≡ p.path → is_on v p e path ≡ true
path-true v p e path exec own =
    ap (λ b. b && same_path p.path path) ((bytes_eq-Decides v.name e).1 (sym exec)) ∙ path-same p.path path (sym own)

path-false : (v : View) (p : PlanNode) (e : Text) (path : Path) → (p.path ≡ path → ⊥) → is_on v p e path ≡ false
path-false v p e path other =
    ⊎_elim (λ same. absurd (other (same-path p.path path same)))
    (λ apart. ap (λ b. bytes_eq v.name e && b) apart ∙ and-false (bytes_eq v.name e)) (cases_Bool (same_path p.path path))

-- the answer to the first question of a node says whether its outputs are missing
miss-here : (v : View) (p : PlanNode) (asked : Option Question) → ((q : Question) → asked ≡ Some q → path_in q ≡ p.path)
    → (o : Op) (place : ℕ) (r : Reply) → AsksWhere v.name asked (Some o)
    → is_miss v p (entry_of (answer_of o place r)) ≡ is_look_up o && is_miss_reply r
miss-here v p asked on (op.Lookup e path) place reply.Miss h =
    let at = first-on v.name asked e path p.path on h in path-true v p e path at.0 at.1
miss-here v p asked on (op.Lookup e path) place _ h = refl
miss-here v p asked on _ place r h = refl

-- and nothing of other nodes
miss-other : (v : View) (p other : PlanNode) (asked : Option Question) → ((q : Question) → asked ≡ Some q → path_in q ≡ p.path)
    → (other.path ≡ p.path → ⊥) → (o : Op) (place : ℕ) (r : Reply) → AsksWhere v.name asked (Some o)
    → is_miss v other (entry_of (answer_of o place r)) ≡ false
miss-other v p other asked on apart (op.Lookup e path) place reply.Miss h =
    let at = first-on v.name asked e path p.path on h in path-false v other e path (λ same. apart (same ∙ at.1))
miss-other v p other asked on apart (op.Lookup e path) place _ h = refl
miss-other v p other asked on apart _ place r h = refl

-- ---- questions of nodes of which nothing new was told

flat-same : {X Y : Type 0} (f g : X → List Y) (xs : List X) (n : ℕ) → ((k : ℕ) (x : X) → k < n → slice_get xs k ≡ Some x → f x ≡ g x)
    → flat_map f (take n xs) ≡ flat_map g (take n xs)
flat-same f g [] zero same = refl
flat-same f g [] (suc n) same = refl
flat-same f g (x ∷ xs) zero same = refl
flat-same f g (x ∷ xs) (suc n) same =
    ap (λ ys. ys ++ flat_map f (take n xs)) (same 0 x (omega arith) refl)
    ∙ ap (λ ys. g x ++ ys) (flat-same f g xs n (λ k y lt at. same (suc k) y (omega (arith, lt)) at))

same-questions : (plan : RunPlan) (v : View) (told more : List Told) (at : ℕ × PlanNode) → is_missed v more at.1 ≡ is_missed v told at.1
    → node_questions plan v more at ≡ node_questions plan v told at
same-questions plan v told more at e = ap asked e
  where
    asked : Bool → List Question
    asked missed =
        if is_broken plan v.state (instance_of at.1)
        then []
        else option_to_list (first_question plan v at) ++ option_to_list (second_in plan missed at (phase_of v.state at.0))
        ++ filter_map (item_question plan v at.1) (enumerate_from 0 (node_state v.state at.0).items)

module _ (plan : RunPlan) (w : Workflow) (outer : IsOuterPlan plan w) (v : View) (told : List Told) (o : Op) (place : ℕ) (r : Reply) where
  abbrev more : List Told
  more = told ++ answer_of o place r ∷ []

  abbrev misses : PlanNode → Bool
  misses p = is_miss v p (entry_of (answer_of o place r))

  abbrev found_missing : Bool
  found_missing = is_look_up o && is_miss_reply r

  abbrev after : Progress → Progress
  after at = record at { missed = at.missed || found_missing }

  unmissed : (p : PlanNode) → misses p ≡ false → is_missed v more p ≡ is_missed v told p
  unmissed p e = missed-more v told (answer_of o place r) p ∙ ap (λ b. is_missed v told p || b) e ∙ or-false (is_missed v told p)

  earlier-same : (next : ℕ) (half missed other : Bool) → ((k : ℕ) (p : PlanNode) → node_numbered plan k ≡ Some p → k < next → misses p ≡ false)
      → earlier_questions plan v more (progress next half other) ≡ earlier_questions plan v told (progress next half missed)
  earlier-same next half missed other unmoved =
      ap (λ qs. qs ++ (if half then first_of plan v next else []))
      (flat-same (node_questions plan v more) (node_questions plan v told) (enumerate_from 0 plan.nodes) next
      (λ k x lt at. by k x lt (slice_get plan.nodes k) refl (sym (enumerated-at 0 plan.nodes k) ∙ at)))
    where
      by : (k : ℕ) (x : ℕ × PlanNode) → k < next → (found : Option PlanNode) → slice_get plan.nodes k ≡ found
          → option_map (λ y. (0 + k, y)) (slice_get plan.nodes k) ≡ Some x → node_questions plan v more x ≡ node_questions plan v told x
      by k x lt None there at = absurd (none-some x (sym (ap (option_map (λ y. (0 + k, y))) there) ∙ at))
      by k x lt (Some p) there at =
          let x_is : (0 + k, p) ≡ x = same_Some _ _ (sym (ap (option_map (λ y. (0 + k, y))) there) ∙ at) in
          subst (λ y. node_questions plan v more y ≡ node_questions plan v told y) x_is
          (same-questions plan v told more (0 + k, p) (unmissed p (unmoved k p there lt)))

  length-more : length more ≡ length told + 1
  length-more = length-append told (answer_of o place r ∷ [])

  told-on : (next : ℕ) (half missed : Bool) (count : ℕ) → count ≡ length told + 1
      → ((k : ℕ) (p : PlanNode) → node_numbered plan k ≡ Some p → (k ≡ next → ⊥) → misses p ≡ false)
      → ((p : PlanNode) → node_numbered plan next ≡ Some p → misses p ≡ found_missing)
      → HasCome plan v told (progress next half missed) count → HasCome plan v more (progress next half (missed || found_missing)) (length more)
  told-on next half missed count counted others own come = record {
    within = come.within;
    inside = come.inside;
    behind =
        ap length (earlier-same next half missed (missed || found_missing) (λ k p at lt. others k p at (λ e. absurd (omega (arith, lt, e)))))
        ∙ come.behind ∙ counted ∙ sym length-more;
    here = λ p at.
        missed-more v told (answer_of o place r) p
        ∙ ap (λ b. is_missed v told p || b) (own p at) ∙ ap (λ b. b || found_missing) (come.here p at);
    later = λ i p at lt. unmissed p (others i p at (λ e. absurd (omega (arith, lt, e)))) ∙ come.later i p at lt;
  }

  -- how far a round has come once the question that waited was answered
  pub come-told : (next : ℕ) (half missed : Bool) → HasCome plan v told (progress next half missed) (length told + 1)
      → IsAtHand plan v (progress next half missed) o → HasCome plan v more (progress next half (missed || found_missing)) (length more)
  come-told next false missed come at_hand =
      let no = at_hand.second refl in
      told-on next false missed (length told + 1) refl (λ k p at other. no-look_up v p o place r no)
      (λ p at. no-look_up v p o place r no ∙ sym (ap (λ b. b && is_miss_reply r) no)) come
  come-told next true missed come at_hand =
      ⊎_elim (λ there.
      let p = there.0 in
      let planned : node_numbered plan next ≡ Some p = there.2 in
      let asked = at_hand.first p planned refl in
      let on = first-path plan v (next, p) (phase_of v.state next) in
      told-on next true missed (length told + 1) refl
      (λ k q at other. miss-other v p q (first_question plan v (next, p)) on
      (λ same. other (same-number plan w outer k next q p at planned same)) o place r asked)
      (λ q at. subst (λ x. misses x ≡ found_missing) (same_Some _ _ (sym planned ∙ at))
      (miss-here v p (first_question plan v (next, p)) on o place r asked)) come)
      (λ past. absurd (omega (arith, past.0, come.inside refl))) (slice_get_cases plan.nodes next).1

-- what a round keeps, once the question that waited was answered
pub round-told : (plan : RunPlan) (w : Workflow) → IsOuterPlan plan w → (v : View) (broken : Bool) (attempts : List (Option ℕ)) (told : List Told)
    (o : Op) (place : ℕ) (r : Reply) (at : Progress) → IsRound plan v broken attempts told (Some o) at
    → IsRound plan v broken attempts (told ++ answer_of o place r ∷ []) None
    (progress at.next at.half (at.missed || (is_look_up o && is_miss_reply r)))
round-told plan w outer v broken attempts told o place r at round =
    let next = at.next in
    let half = at.half in
    let missed = at.missed in
    let done = come-told plan w outer v told o place r next half missed round.come (round.waits o refl) in
    let count : length (told ++ answer_of o place r ∷ []) ≡ length (told ++ answer_of o place r ∷ []) + 0 = omega arith in
    record {
      of_plan = round.of_plan;
      ids = round.ids;
      broken_is = round.broken_is;
      attempts_are = round.attempts_are;
      come = subst (HasCome plan v (told ++ answer_of o place r ∷ []) (progress next half (missed || (is_look_up o && is_miss_reply r)))) count done;
      waits = λ a e. absurd (none-some a e);
    }
