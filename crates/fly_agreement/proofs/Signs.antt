-- How a node stands by the verdicts of others is how it stands in a state that tells them, unless it waits there.
use Rattle.std.proofs.Common.{◌≡◌, ℕ, Bool, true, false, if◌then◌else◌, List, [], ◌∷◌, map, Contains, refl, sym, ◌∙◌, ap, ⊎_elim}
use Rattle.std.specs.List.{list_any}
use Rattle.std.proofs.lemmas.Bool.{true≢false, false≢true, or_cases, or_left, or_right, or_parts}
use Rattle.fly_rules.specs.Standing.{Standing, waiting, blocked, skipped, ready, is_waiting_standing, is_blocked_standing, is_skipped_standing, standing_among}
use Rattle.fly_state.specs.declared.phase.Phase.{Phase}
use Rattle.fly_state.specs.declared.phase.Phase.TheVariants as phase
use Rattle.fly_state.specs.declared.slots.SlotState.{SlotState}
use Rattle.fly_state.specs.Standing as state
use Rattle.fly_state.specs.OfPlan.{is_aborted}
use Rattle.fly_state.proofs.Lists.{first_in, later_in}
use Rattle.fly_eval.specs.declared.verdict.Verdict.{Verdict}
use Rattle.fly_eval.specs.declared.verdict.Verdict.TheVariants as verdict
use Rattle.fly_eval.specs.Evaluation as eval
use Rattle.fly_eval.proofs.StandingKept.{IsKeptStanding}
use Rattle.fly_agreement.specs.Agreement.{TellsIn}

-- ---- among others

skip-ends : (x : Standing) → is_skipped_standing x ≡ true → is_waiting_standing x ≡ false
skip-ends waiting e = absurd (false≢true e)
skip-ends _ e = refl

abbrev pick : Bool → Bool → Bool → Standing
pick a b c = if a then skipped else (if b then waiting else (if c then blocked else ready))

module _ (f g : ℕ → Standing) where
  abbrev AreKeptAt : List ℕ → Type 0
  AreKeptAt us = (u : ℕ) → Contains us u → IsKeptStanding (f u) (g u)

  skips-kept : (us : List ℕ) → AreKeptAt us → list_any is_skipped_standing (map f us) ≡ true → list_any is_skipped_standing (map g us) ≡ true
  skips-kept [] each e = e
  skips-kept (u ∷ us) each e =
      ⊎_elim (λ here.
      or_left (is_skipped_standing (g u)) (list_any is_skipped_standing (map g us))
      (ap is_skipped_standing (each u (first_in u us) (skip-ends (f u) here)) ∙ here))
      (λ there.
      or_right (is_skipped_standing (g u)) (list_any is_skipped_standing (map g us))
      (skips-kept us (λ v has. each v (later_in u us v has)) there))
      (or_cases (is_skipped_standing (f u)) (list_any is_skipped_standing (map f us)) e)

  signs-same : (us : List ℕ) → AreKeptAt us → list_any is_waiting_standing (map f us) ≡ false → map g us ≡ map f us
  signs-same [] each e = refl
  signs-same (u ∷ us) each e =
      let parts = or_parts (is_waiting_standing (f u)) (list_any is_waiting_standing (map f us)) e in
      ap (λ x. x ∷ map g us) (each u (first_in u us) parts.0)
      ∙ ap (λ xs. f u ∷ xs) (signs-same us (λ v has. each v (later_in u us v has)) parts.1)

  pub among-kept : (us : List ℕ) → AreKeptAt us → IsKeptStanding (standing_among (map f us)) (standing_among (map g us))
  among-kept us each is = by (list_any is_skipped_standing (map f us)) (list_any is_waiting_standing (map f us)) refl refl
    where
      by : (a b : Bool) → list_any is_skipped_standing (map f us) ≡ a → list_any is_waiting_standing (map f us) ≡ b
          → standing_among (map g us) ≡ standing_among (map f us)
      by true b e h =
          let now : standing_among (map f us) ≡ skipped =
          ap (λ x. pick x (list_any is_waiting_standing (map f us)) (list_any is_blocked_standing (map f us))) e in
          let behind : standing_among (map g us) ≡ skipped =
          ap (λ x. pick x (list_any is_waiting_standing (map g us)) (list_any is_blocked_standing (map g us))) (skips-kept us each e) in
          behind ∙ sym now
      by false false e h = ap standing_among (signs-same us each h)
      by false true e h =
          let one : standing_among (map f us) ≡ pick false (list_any is_waiting_standing (map f us)) (list_any is_blocked_standing (map f us)) =
          ap (λ x. pick x (list_any is_waiting_standing (map f us)) (list_any is_blocked_standing (map f us))) e in
          let two : standing_among (map f us) ≡ waiting = one ∙ ap (λ x. pick false x (list_any is_blocked_standing (map f us))) h in
          absurd (true≢false (sym (ap is_waiting_standing two) ∙ is))

-- ---- one sign

-- what a node is to others by its phase, and where that is not yet started by its standing, it is to them by its verdict
pub sign-kept : (f : Phase) (x : Standing) (slot : SlotState) (v : Verdict) → TellsIn f slot v → is_aborted f ≡ false
    → (x ≡ blocked → v ≡ verdict.Blocked) → IsKeptStanding (state.sign_of f x) (eval.sign_of v)
sign-kept phase.Succeeded x slot v tells whole blocks = λ is. ap eval.sign_of tells.2
sign-kept phase.Failed x slot v tells whole blocks = λ is. ap eval.sign_of tells.2
sign-kept phase.TimedOut x slot v tells whole blocks = λ is. ap eval.sign_of tells.1
sign-kept phase.Skipped x slot v tells whole blocks = λ is. ap eval.sign_of tells
sign-kept phase.Aborted x slot v tells whole blocks = absurd (true≢false whole)
sign-kept phase.NotYetStarted blocked slot v tells whole blocks = λ is. ap eval.sign_of (blocks refl)
sign-kept phase.NotYetStarted waiting slot v tells whole blocks = λ is. absurd (true≢false is)
sign-kept phase.NotYetStarted skipped slot v tells whole blocks = λ is. absurd (true≢false is)
sign-kept phase.NotYetStarted ready slot v tells whole blocks = λ is. absurd (true≢false is)
sign-kept phase.Queued x slot v tells whole blocks = λ is. absurd (true≢false is)
sign-kept phase.Running x slot v tells whole blocks = λ is. absurd (true≢false is)
sign-kept phase.RetryableFailure x slot v tells whole blocks = λ is. absurd (true≢false is)
sign-kept phase.Succeeding x slot v tells whole blocks = λ is. absurd (true≢false is)
