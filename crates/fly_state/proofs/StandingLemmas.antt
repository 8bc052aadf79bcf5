-- How nodes stand: one sign after another, what doesn't go by how others stand, and the one solution along an order.
use Rattle.std.proofs.Common.{◌≡◌, ◌≢◌, ◌⊎◌, ℕ, ◌+◌, ◌<◌, Bool, true, false, ◌||◌, if◌then◌else◌, List, [], ◌∷◌, ◌++◌, map, length, get_or, Contains, Some, None, refl, sym, ◌∙◌, ap, subst, arith, inl, inr, ⊎_elim}
use Rattle.std.specs.List.{list_any}
use Rattle.std.proofs.lemmas.List.Folds.{list_any-append}
use Rattle.std.proofs.lemmas.Bool.{cases_lt, cases_order}
use Rattle.std.proofs.lemmas.List.{length-map, get_or-map, get_or_default, get_or-set_same, get_or-set_other}
use Rattle.std.proofs.lemmas.List.Elements.{Contains-get_or}
use Rattle.std.proofs.lemmas.List.FromFn.{fill_by_all}
use Rattle.std.proofs.lemmas.Option.{unwrap_or-slice_get}
use Rattle.std.proofs.Math.ListN.{set}
use Rattle.fly_docs.specs.Plans.{PlanNode}
use Rattle.fly_rules.specs.Rules.{values_at, solution_of}
use Rattle.fly_rules.specs.Standing.{Standing, waiting, blocked, skipped, ready, is_waiting_standing, is_blocked_standing, is_skipped_standing, standing_among}
use Rattle.fly_rules.proofs.RuleLemmas.{values_at_agreeing, solves}
use Rattle.fly_graph.proofs.Members.{Contains-take_at}
use Rattle.fly_state.specs.declared.slots.ExecState.{ExecState}
use Rattle.fly_state.specs.Plans.{RunPlan, node_numbered, case_of, named_numbers, looks}
use Rattle.fly_state.specs.States.{phase_of}
use Rattle.fly_state.specs.Looks.{IsLookOrder}
use Rattle.fly_state.specs.declared.standing.Standing.{Standing as Told}
use Rattle.fly_state.specs.declared.standing.Standing.TheVariants as tells
use Rattle.fly_state.specs.Standing.{meaning_of, known_standing, AreStandings, sign_of, signs_at, standing_by_names, standing_by, standing_rule, standing_of}

-- ---- one sign after another

abbrev pub pick : Bool → Bool → Bool → Standing
pick a b c = if a then skipped else (if b then waiting else (if c then blocked else ready))

picked : (a b c : Bool) (x : Standing)
    → pick (a || (is_skipped_standing x || false)) (b || (is_waiting_standing x || false)) (c || (is_blocked_standing x || false))
    ≡ standing_among (pick a b c ∷ x ∷ [])
picked true b c waiting = refl
picked true b c blocked = refl
picked true b c skipped = refl
picked true b c ready = refl
picked false true c waiting = refl
picked false true c blocked = refl
picked false true c skipped = refl
picked false true c ready = refl
picked false false true waiting = refl
picked false false true blocked = refl
picked false false true skipped = refl
picked false false true ready = refl
picked false false false waiting = refl
picked false false false blocked = refl
picked false false false skipped = refl
picked false false false ready = refl

pub among-more : (xs : List Standing) (x : Standing) → standing_among (xs ++ x ∷ []) ≡ standing_among (standing_among xs ∷ x ∷ [])
among-more xs x =
    (λ i. pick (list_any-append is_skipped_standing xs (x ∷ []) i) (list_any-append is_waiting_standing xs (x ∷ []) i)
    (list_any-append is_blocked_standing xs (x ∷ []) i))
    ∙ picked (list_any is_skipped_standing xs) (list_any is_waiting_standing xs) (list_any is_blocked_standing xs) x

-- ---- signs

pub by_names : (s : ExecState) (f : ℕ → Standing) (numbers : List ℕ) → standing_by_names s (values_at f numbers) ≡ standing_among (signs_at s f numbers)
by_names s f numbers = ap standing_among (signs numbers)
  where
    signs : (us : List ℕ) → map (λ (at : ℕ × Standing). sign_of (phase_of s at.0) at.1) (values_at f us) ≡ signs_at s f us
    signs [] = refl
    signs (u ∷ us) = ap (λ r. sign_of (phase_of s u) (f u) ∷ r) (signs us)

-- a node that is no case stands by what it names
pub by_outer : (plan : RunPlan) (s : ExecState) (i : ℕ) (p : PlanNode) (f : ℕ → Standing) → node_numbered plan i ≡ Some p → case_of plan p ≡ None
    → standing_by plan s i (values_at f (looks plan i)) ≡ standing_among (signs_at s f (looks plan i))
by_outer plan s i p f is none = rw (is, none) (by_names s f (named_numbers plan p))

-- ---- what is known, and one number more

pub known-at : (known : List Told) (u : ℕ) → known_standing known u ≡ meaning_of (get_or known u tells.Blocked)
known-at known u = ap meaning_of (unwrap_or-slice_get known u tells.Blocked)

known-same : (known : List Told) (v : ℕ) (x : Told) → v < length known → known_standing (set known v x) v ≡ meaning_of x
known-same known v x within = known-at (set known v x) v ∙ ap meaning_of (get_or-set_same known v x tells.Blocked within)

known-other : (known : List Told) (v u : ℕ) (x : Told) → u ≢ v → known_standing (set known v x) u ≡ known_standing known u
known-other known v u x apart =
    known-at (set known v x) u ∙ ap meaning_of (get_or-set_other known v u x tells.Blocked apart) ∙ sym (known-at known u)

-- ---- along an order

module _ (plan : RunPlan) (s : ExecState) (order : List ℕ) (is : IsLookOrder (looks plan) (length plan.nodes) order) where
  pub standing-fixed : (v : ℕ) → v < length plan.nodes
      → standing_of plan s v ≡ standing_by plan s v (values_at (standing_of plan s) (looks plan v))
  unfolding solution_of
  standing-fixed v small =
      solves (standing_rule plan s) order is.back (length plan.nodes) (omega (arith, is.once.len)) v ((is.once.each v).0 small)

  -- what the order has before a place is known there
  pub known_before : (k : ℕ) (f : ℕ → Standing) → k < length order → ((j : ℕ) → j < k → f (get_or order j 0) ≡ standing_of plan s (get_or order j 0))
      → standing_by plan s (get_or order k 0) (values_at f (looks plan (get_or order k 0))) ≡ standing_of plan s (get_or order k 0)
  known_before k f within done =
      let v = get_or order k 0 in
      let small : v < length plan.nodes = (is.once.each v).1 (Contains-get_or order k 0 within) in
      ap (standing_by plan s v) (values_at_agreeing f (standing_of plan s) (looks plan v) (λ u looked.
      let at = Contains-take_at order k u (is.back k u within looked) in
      subst (λ x. f x ≡ standing_of plan s x) at.3 (done at.0 at.1)))
      ∙ sym (standing-fixed v small)

  -- and with the one at the place
  pub known_more : (k : ℕ) (known : List Told) (x : Told) → k < length order → length known ≡ length plan.nodes
      → ((j : ℕ) → j < k → known_standing known (get_or order j 0) ≡ standing_of plan s (get_or order j 0))
      → meaning_of x ≡ standing_by plan s (get_or order k 0) (values_at (known_standing known) (looks plan (get_or order k 0)))
      → (j : ℕ) → j < k + 1 → known_standing (set known (get_or order k 0) x) (get_or order j 0) ≡ standing_of plan s (get_or order j 0)
  known_more k known x within long done value j lt =
      let v = get_or order k 0 in
      let small : v < length known = omega (arith, long, (is.once.each v).1 (Contains-get_or order k 0 within)) in
      let here : meaning_of x ≡ standing_of plan s v = value ∙ known_before k (known_standing known) within done in
      ⊎_elim (λ same. ap (λ u. known_standing (set known v x) u) same ∙ known-same known v x small ∙ here ∙ ap (standing_of plan s) (sym same))
      (λ apart. known-other known v (get_or order j 0) x apart ∙ done j (before k j lt (λ e. apart (ap (λ i. get_or order i 0) e))))
      (same_or_apart (get_or order j 0) v)
    where
      before : (a b : ℕ) → b < a + 1 → (b ≡ a → ⊥) → b < a
      before a b le other = ⊎_elim (λ below. below) (λ above. absurd (other (omega arith))) (cases_lt b a)

      same_or_apart : (a b : ℕ) → (a ≡ b) ⊎ (a ≢ b)
      same_or_apart a b =
          ⊎_elim (λ same. inl same)
          (⊎_elim (λ lt. inr (λ e. omega (arith, e, lt))) (λ gt. inr (λ e. omega (arith, e, gt))))
          (cases_order a b)

  -- once the whole order is known
  pub all_known : (known : List Told) → length known ≡ length plan.nodes
      → ((j : ℕ) → j < length order → known_standing known (get_or order j 0) ≡ standing_of plan s (get_or order j 0)) → AreStandings plan s known
  all_known known long done =
      fill_by_all (standing_of plan s) (map meaning_of known) (length plan.nodes) blocked (length-map known meaning_of ∙ long) (λ k small.
      let has = (is.once.each k).0 small in
      let at : get_or order has.0 0 ≡ k = get_or_default order has.0 0 k has.1 ∙ has.2 in
      get_or-map meaning_of known k tells.Blocked blocked (omega (arith, long, small))
      ∙ sym (known-at known k)
      ∙ subst (λ u. known_standing known u ≡ standing_of plan s u) at (done has.0 has.1))
