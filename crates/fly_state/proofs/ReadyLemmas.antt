-- Whether a node is ready, or to be skipped, goes by the phases alone of those that it looks at.
use Rattle.std.proofs.Common.{◌≡◌, ℕ, ◌<◌, Bool, true, false, ◌&&◌, ◌||◌, List, [], ◌∷◌, length, refl, sym, ◌∙◌, ap}
use Rattle.std.specs.List.{list_any}
use Rattle.fly_docs.specs.declared.workflow.Workflow.{Workflow}
use Rattle.fly_rules.specs.Rules.{values_at}
use Rattle.fly_rules.specs.Standing.{Standing, waiting, blocked, skipped, ready, is_waiting_standing, is_blocked_standing, is_skipped_standing, is_ready_standing, standing_among}
use Rattle.fly_state.specs.declared.phase.Phase.{Phase}
use Rattle.fly_state.specs.declared.phase.Phase.TheVariants as phase
use Rattle.fly_state.specs.declared.slots.ExecState.{ExecState}
use Rattle.fly_state.specs.Looks.{IsLookOrder}
use Rattle.fly_state.specs.PlanTables.{IsOuterPlan, outer_node}
use Rattle.fly_state.specs.Plans.{RunPlan, looks}
use Rattle.fly_state.specs.Standing.{sign_of, signs_at, standing_by, standing_of}
use Rattle.fly_state.specs.States.{phase_of}
use Rattle.fly_state.proofs.OuterPlans.{planned-outer, case-none}
use Rattle.fly_state.proofs.StandingLemmas.{pick, by_outer, standing-fixed}

-- ---- one sign more in front

ready-waits : (a b c : Bool) → is_ready_standing (pick a (true || b) c) ≡ false
ready-waits true b c = refl
ready-waits false b c = refl

ready-blocks : (a b c : Bool) → is_ready_standing (pick a b (true || c)) ≡ false
ready-blocks true b c = refl
ready-blocks false true c = refl
ready-blocks false false c = refl

ready-cons : (x : Standing) (xs : List Standing)
    → is_ready_standing (standing_among (x ∷ xs)) ≡ is_ready_standing x && is_ready_standing (standing_among xs)
ready-cons waiting xs =
    ready-waits (list_any is_skipped_standing xs) (list_any is_waiting_standing xs) (list_any is_blocked_standing xs)
ready-cons blocked xs =
    ready-blocks (list_any is_skipped_standing xs) (list_any is_waiting_standing xs) (list_any is_blocked_standing xs)
ready-cons skipped xs = refl
ready-cons ready xs = refl

skipped-first : (a b c : Bool) → is_skipped_standing (pick a b c) ≡ a
skipped-first true b c = refl
skipped-first false true c = refl
skipped-first false false true = refl
skipped-first false false false = refl

skipped-any : (xs : List Standing) → is_skipped_standing (standing_among xs) ≡ list_any is_skipped_standing xs
skipped-any xs =
    skipped-first (list_any is_skipped_standing xs) (list_any is_waiting_standing xs) (list_any is_blocked_standing xs)

-- ---- signs

fresh-ready : (a : Standing) → is_ready_standing (sign_of phase.NotYetStarted a) ≡ false
fresh-ready waiting = refl
fresh-ready blocked = refl
fresh-ready skipped = refl
fresh-ready ready = refl

fresh-skipped : (a : Standing) → is_skipped_standing (sign_of phase.NotYetStarted a) ≡ false
fresh-skipped waiting = refl
fresh-skipped blocked = refl
fresh-skipped skipped = refl
fresh-skipped ready = refl

sign-ready : (f : Phase) (a b : Standing) → is_ready_standing (sign_of f a) ≡ is_ready_standing (sign_of f b)
sign-ready phase.NotYetStarted a b = fresh-ready a ∙ sym (fresh-ready b)
sign-ready phase.Queued a b = refl
sign-ready phase.Running a b = refl
sign-ready phase.RetryableFailure a b = refl
sign-ready phase.Succeeding a b = refl
sign-ready phase.Succeeded a b = refl
sign-ready phase.Failed a b = refl
sign-ready phase.TimedOut a b = refl
sign-ready phase.Skipped a b = refl
sign-ready phase.Aborted a b = refl

sign-skipped : (f : Phase) (a b : Standing) → is_skipped_standing (sign_of f a) ≡ is_skipped_standing (sign_of f b)
sign-skipped phase.NotYetStarted a b = fresh-skipped a ∙ sym (fresh-skipped b)
sign-skipped phase.Queued a b = refl
sign-skipped phase.Running a b = refl
sign-skipped phase.RetryableFailure a b = refl
sign-skipped phase.Succeeding a b = refl
sign-skipped phase.Succeeded a b = refl
sign-skipped phase.Failed a b = refl
sign-skipped phase.TimedOut a b = refl
sign-skipped phase.Skipped a b = refl
sign-skipped phase.Aborted a b = refl

among-ready : (s : ExecState) (f g : ℕ → Standing) (us : List ℕ)
    → is_ready_standing (standing_among (signs_at s f us)) ≡ is_ready_standing (standing_among (signs_at s g us))
among-ready s f g [] = refl
among-ready s f g (u ∷ us) =
    ready-cons (sign_of (phase_of s u) (f u)) (signs_at s f us)
    ∙ (λ i. sign-ready (phase_of s u) (f u) (g u) i && among-ready s f g us i)
    ∙ sym (ready-cons (sign_of (phase_of s u) (g u)) (signs_at s g us))

any-skipped : (s : ExecState) (f g : ℕ → Standing) (us : List ℕ)
    → list_any is_skipped_standing (signs_at s f us) ≡ list_any is_skipped_standing (signs_at s g us)
any-skipped s f g [] = refl
any-skipped s f g (u ∷ us) = λ i. sign-skipped (phase_of s u) (f u) (g u) i || any-skipped s f g us i

module _ (plan : RunPlan) (w : Workflow) (outer : IsOuterPlan plan w) (order : List ℕ)
    (is : IsLookOrder (looks plan) (length plan.nodes) order)
    (s : ExecState) (v : ℕ) (small : v < length plan.nodes) (f : ℕ → Standing) where
  abbrev among : (ℕ → Standing) → Standing
  among g = standing_among (signs_at s g (looks plan v))

  abbrev assumed : Standing
  assumed = standing_by plan s v (values_at f (looks plan v))

  both-ways : (test : Standing → Bool)
      → ((g : ℕ → Standing) → test (among g) ≡ test (among f)) → test (standing_of plan s v) ≡ test assumed
  both-ways test same =
      let node = planned-outer plan w outer v small in
      let alone = case-none plan w outer (outer_node w (v, node.0)) in
      ap test (standing-fixed plan s order is v small
      ∙ by_outer plan s v (outer_node w (v, node.0)) (standing_of plan s) node.1 alone)
      ∙ same (standing_of plan s)
      ∙ ap test (sym (by_outer plan s v (outer_node w (v, node.0)) f node.1 alone))

  pub ready-alike : is_ready_standing (standing_of plan s v) ≡ is_ready_standing assumed
  ready-alike = both-ways is_ready_standing (λ g. among-ready s g f (looks plan v))

  pub skipped-alike : is_skipped_standing (standing_of plan s v) ≡ is_skipped_standing assumed
  skipped-alike =
      both-ways is_skipped_standing (λ g.
      skipped-any (signs_at s g (looks plan v)) ∙ any-skipped s g f (looks plan v)
      ∙ sym (skipped-any (signs_at s f (looks plan v))))
