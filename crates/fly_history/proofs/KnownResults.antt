-- What the current view knows of attempts is among the results that the entries record.
use Rattle.std.proofs.Common.{◌≡◌, ℕ, Bool, true, false, cond, ◌&&◌, eqb, List, [], ◌∷◌, map, filter, length, find, bytes_eq, Option, Some, None, option_map, refl, sym, ◌∙◌, ap, subst, arith}
use Rattle.std.specs.Cmp.Lexicographic.{pointwise_decides}
use Rattle.std.proofs.lemmas.Bool.{and_from, and_parts, true≢false, false≢true, eq-eqb, eqb-true}
use Rattle.std.proofs.lemmas.Option.{none-some, slice_get_past}
use Rattle.std.proofs.lemmas.Slice.Eq.{bytes_eq-Decides}
use Rattle.fly_types.specs.declared.text.Text.{Text}
use Rattle.fly_docs.specs.declared.attempt_name.AttemptName.{AttemptName}
use Rattle.fly_docs.specs.Plans.{PlanNode}
use Rattle.fly_policy.specs.declared.outcome.Outcome.{Outcome}
use Rattle.fly_state.specs.declared.view.Known.{Known}
use Rattle.fly_state.specs.Moves.{same_item, is_attempt, outcome_in}
use Rattle.fly_state.specs.Plans.{RunPlan, Path, same_path}
use Rattle.fly_state.proofs.AskedInputs.{found-in}
use Rattle.fly_state.proofs.FinalLemmas.{option_and_then-there}
use Rattle.fly_state.proofs.Lists.{of_map}
use Rattle.fly_state.proofs.OuterSteps.{same-path}
use Rattle.fly_world.specs.declared.versions.Past.{Past}
use Rattle.fly_world.specs.World.{World, Execution, Launch, Settlement, current_of, end_of, stands_before, world_before, known_of, outcome_of, current_view, same_name}
use Rattle.fly_world.specs.ReadOff.{settled_in}
use Rattle.fly_world.specs.Laws.{settlement_of}
use Rattle.fly_world.proofs.LaunchLemmas.{same_name-is}
use Rattle.fly_world.proofs.RoundLemmas.{same_item-refl}
use Rattle.fly_eval.specs.Results.{Slot, is_attempt_of, result_of}
use Rattle.fly_agreement.specs.Laws.{HasKnownResults}
use Rattle.fly_history.specs.Recorded.{recorded_results}

-- nothing is cut off by no end
uncut : (os : List Settlement) → filter (λ (s : Settlement). stands_before None s.place) os ≡ os
uncut [] = refl
uncut (s ∷ os) = ap (λ xs. s ∷ xs) (uncut os)

same_item-is : (a b : Option ℕ) → same_item a b ≡ true → a ≡ b
same_item-is None None is = refl
same_item-is None (Some k) is = absurd (false≢true is)
same_item-is (Some j) None is = absurd (false≢true is)
same_item-is (Some j) (Some k) is = ap Some (eqb-true j k is)

-- the first outcome that is recorded of an execution's attempt
abbrev recorded_by : Text → Path → Option ℕ → ℕ → List (AttemptName × Outcome) → Option Outcome
recorded_by exec path item k rs =
    option_map (λ (r : AttemptName × Outcome). r.1)
    (find (λ (r : AttemptName × Outcome). is_attempt_of (record { path = path; item = item }) k r.0)
    (filter (λ (r : AttemptName × Outcome). bytes_eq exec r.0.exec) rs))

-- ---- one name

module _ (n : AttemptName) where
  abbrev slot : Slot
  slot = record { path = n.path; item = n.item }

  abbrev of_exec : AttemptName × Outcome → Bool
  of_exec r = bytes_eq n.exec r.0.exec

  abbrev of_attempt : AttemptName × Outcome → Bool
  of_attempt r = is_attempt_of slot n.attempt r.0

  abbrev told : AttemptName × Outcome → Outcome
  told r = r.1

  -- what the attempt of the name came to, by settlements and by what they record
  abbrev settled : List Settlement → Option Outcome
  settled os = option_map (λ (s : Settlement). s.outcome) (find (λ (s : Settlement). same_name n s.name) os)

  abbrev recorded : List (AttemptName × Outcome) → Option Outcome
  recorded rs = recorded_by n.exec n.path n.item n.attempt rs

  own-attempt : is_attempt_of slot n.attempt n ≡ true
  own-attempt =
      and_from _ _
      (and_from _ _ ((pointwise_decides bytes_eq-Decides n.path n.path).1 refl) (same_item-refl n.item))
      (eq-eqb n.attempt n.attempt refl)

  -- a name is one by its parts
  named-by : (m : AttemptName) → bytes_eq n.exec m.exec ≡ true → is_attempt_of slot n.attempt m ≡ true
      → same_name n m ≡ true
  named-by m exec attempt =
      let last = and_parts (same_path n.path m.path && same_item n.item m.item) (eqb n.attempt m.attempt) attempt in
      let first = and_parts (same_path n.path m.path) (same_item n.item m.item) last.0 in
      and_from _ _ (and_from _ _ (and_from _ _ exec first.0) first.1) last.1

  -- one settlement more in front
  module _ (s : Settlement) (os : List Settlement) where
    abbrev pair : AttemptName × Outcome
    pair = (s.name, s.outcome)

    abbrev rest : List (AttemptName × Outcome)
    rest = filter of_exec (map settlement_of os)

    of-another-exec : of_exec pair ≡ false → recorded (map settlement_of (s ∷ os)) ≡ recorded (map settlement_of os)
    of-another-exec other = ap (λ b. option_map told (find of_attempt (cond b (pair ∷ rest) rest))) other

    of-exec : of_exec pair ≡ true
        → recorded (map settlement_of (s ∷ os)) ≡ option_map told
        (cond (of_attempt pair) (Some pair) (find of_attempt rest))
    of-exec here = ap (λ b. option_map told (find of_attempt (cond b (pair ∷ rest) rest))) here

    of-another : same_name n s.name ≡ false → (b c : Bool) → of_exec pair ≡ b → of_attempt pair ≡ c
        → recorded (map settlement_of (s ∷ os)) ≡ recorded (map settlement_of os)
    of-another other false c exec attempt = of-another-exec exec
    of-another other true false exec attempt =
        of-exec exec ∙ ap (λ b. option_map told (cond b (Some pair) (find of_attempt rest))) attempt
    of-another other true true exec attempt = absurd (true≢false (sym (named-by s.name exec attempt) ∙ other))

    of-name : same_name n s.name ≡ true → recorded (map settlement_of (s ∷ os)) ≡ Some s.outcome
    of-name same =
        let equal = same_name-is n s.name same in
        of-exec (subst (λ (m : AttemptName). bytes_eq n.exec m.exec ≡ true) equal
        ((bytes_eq-Decides n.exec n.exec).1 refl))
        ∙ ap (λ b. option_map told (cond b (Some pair) (find of_attempt rest)))
        (subst (λ m. is_attempt_of slot n.attempt m ≡ true) equal own-attempt)

  -- what was settled is recorded
  settled-recorded : (os : List Settlement) (o : Outcome) → settled os ≡ Some o
      → recorded (map settlement_of os) ≡ Some o
  settled-recorded [] o is = absurd (none-some o is)
  settled-recorded (s ∷ os) o is = by (same_name n s.name) refl is (settled-recorded os o)
    where
      by : (b : Bool) → same_name n s.name ≡ b
          → option_map (λ (x : Settlement). x.outcome)
          (cond b (Some s) (find (λ (x : Settlement). same_name n x.name) os)) ≡ Some o
          → (settled os ≡ Some o → recorded (map settlement_of os) ≡ Some o)
          → recorded (map settlement_of (s ∷ os)) ≡ Some o
      by true same is behind = of-name s os same ∙ is
      by false other is behind = of-another s os other (of_exec (pair s os)) (of_attempt (pair s os)) refl refl
          ∙ behind is

-- ---- views

module _ (plan : RunPlan) (w : World) (tells : map settlement_of w.outcomes ≡ settled_in w.entries)
    (at : ℕ × Execution) where
  ended : end_of at.1 (current_of at.1) ≡ None
  ended = ap (option_map (λ (p : Past). p.until)) (slice_get_past at.1.past (length at.1.past) (omega arith))

  -- what the view knows of an attempt
  known-recorded : (p : PlanNode) (item : Option ℕ) (k : ℕ) (o : Outcome)
      → outcome_in (current_view w at) p item k ≡ Some o
      → result_of (recorded_results w.entries at.1.name) (record { path = p.path; item = item }) k ≡ Some o
  known-recorded p item k o is =
      let view = current_view w at in
      let before = world_before w (end_of at.1 (current_of at.1)) in
      let of_known : Known → Bool = λ x. is_attempt view p item k x.name in
      let known = option_and_then-there (λ (x : Known). x.outcome) (find of_known view.launches) o is in
      let found = found-in of_known view.launches known.0 known.1 in
      let launch = of_map (known_of before)
      (filter (λ (l : Launch). bytes_eq at.1.name l.name.exec) before.launches) known.0 found.0 in
      let name = launch.0.name in
      let test : is_attempt view p item k name ≡ true = subst (λ (x : Known). is_attempt view p item k x.name ≡ true)
      (sym launch.2) found.1 in
      let last = and_parts (bytes_eq at.1.name name.exec && same_path p.path name.path && same_item item name.item)
      (eqb k name.attempt) test in
      let third = and_parts (bytes_eq at.1.name name.exec && same_path p.path name.path) (same_item item name.item)
      last.0 in
      let first = and_parts (bytes_eq at.1.name name.exec) (same_path p.path name.path) third.0 in
      let exec = (bytes_eq-Decides at.1.name name.exec).0 first.0 in
      let path = same-path p.path name.path first.1 in
      let part = same_item-is item name.item third.1 in
      let attempt = eqb-true k name.attempt last.1 in
      let came : settled name w.outcomes ≡ Some o =
      sym (ap (settled name) (uncut w.outcomes))
      ∙ sym (ap (λ e. outcome_of (world_before w e) name) ended)
      ∙ ap (λ (x : Known). x.outcome) launch.2
      ∙ known.2 in
      (λ j. recorded_by (exec j) (path j) (part j) (attempt j) (settled_in w.entries))
      ∙ subst (λ rs. recorded name rs ≡ Some o) tells (settled-recorded name w.outcomes o came)

  pub known-results : HasKnownResults plan (current_view w at) (recorded_results w.entries at.1.name)
  known-results i p item k o planned is = known-recorded p item k o is
