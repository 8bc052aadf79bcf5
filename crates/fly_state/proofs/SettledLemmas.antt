-- A run is settled just where each node is final, or would be blocked if all others that are not yet started were.
use Rattle.std.proofs.Common.{◌≡◌, ℕ, ◌<◌, Bool, true, false, ◌&&◌, ◌||◌, List, [], ◌∷◌, length, get_or, Contains, refl, sym, ◌∙◌, ap, subst, arith, ⊎_elim}
use Rattle.std.specs.Cmp.{both_ways}
use Rattle.std.specs.List.{list_all, range_with_len}
use Rattle.std.proofs.lemmas.Bool.{and_parts, and_from, or_cases, or_left, or_right, false≢true}
use Rattle.std.proofs.lemmas.List.{get_or_default}
use Rattle.fly_graph.proofs.Members.{Contains-take_at}
use Rattle.fly_docs.specs.declared.workflow.Workflow.{Workflow}
use Rattle.fly_rules.specs.Rules.{values_at}
use Rattle.fly_rules.specs.Standing.{Standing, waiting, blocked, skipped, ready, is_blocked_standing, standing_among}
use Rattle.fly_rules.proofs.RuleLemmas.{holds_along_order}
use Rattle.fly_state.specs.declared.phase.Phase.{Phase}
use Rattle.fly_state.specs.declared.phase.Phase.TheVariants as phase
use Rattle.fly_state.specs.declared.slots.ExecState.{ExecState}
use Rattle.fly_state.specs.Closing.{rests}
use Rattle.fly_state.specs.Looks.{IsLookOrder}
use Rattle.fly_state.specs.PlanTables.{IsOuterPlan, outer_node}
use Rattle.fly_state.specs.Plans.{RunPlan, looks}
use Rattle.fly_state.specs.Standing.{sign_of, signs_at, standing_by, standing_of, is_at_rest, is_settled}
use Rattle.fly_state.specs.States.{phase_of, is_final, is_not_yet_started}
use Rattle.fly_state.proofs.Lists.{first_in, later_in}
use Rattle.fly_state.proofs.Ranges.{all-at, all-from}
use Rattle.fly_state.proofs.OuterPlans.{all-nodes, planned-outer, case-none}
use Rattle.fly_state.proofs.StandingLemmas.{by_outer, standing-fixed}

-- ---- signs

sign-alike : (f : Phase) (a b : Standing) → (is_not_yet_started f ≡ true → a ≡ b) → sign_of f a ≡ sign_of f b
sign-alike phase.NotYetStarted a b same = ap (sign_of phase.NotYetStarted) (same refl)
sign-alike phase.Queued a b same = refl
sign-alike phase.Running a b same = refl
sign-alike phase.RetryableFailure a b same = refl
sign-alike phase.Succeeding a b same = refl
sign-alike phase.Succeeded a b same = refl
sign-alike phase.Failed a b same = refl
sign-alike phase.TimedOut a b same = refl
sign-alike phase.Skipped a b same = refl
sign-alike phase.Aborted a b same = refl

signs-alike : (s : ExecState) (f g : ℕ → Standing) (us : List ℕ)
    → ((u : ℕ) → Contains us u → is_not_yet_started (phase_of s u) ≡ true → f u ≡ g u)
    → signs_at s f us ≡ signs_at s g us
signs-alike s f g [] same = refl
signs-alike s f g (u ∷ us) same = λ i.
    sign-alike (phase_of s u) (f u) (g u) (same u (first_in u us)) i
    ∷ signs-alike s f g us (λ v has. same v (later_in u us v has)) i

is-blocked : (x : Standing) → is_blocked_standing x ≡ true → x ≡ blocked
is-blocked blocked e = refl
is-blocked waiting e = absurd (false≢true e)
is-blocked skipped e = absurd (false≢true e)
is-blocked ready e = absurd (false≢true e)

module _ (plan : RunPlan) (w : Workflow) (outer : IsOuterPlan plan w) (order : List ℕ)
    (is : IsLookOrder (looks plan) (length plan.nodes) order) (s : ExecState) where
  abbrev IsBlockedFresh : ℕ → Type 0
  IsBlockedFresh v = is_not_yet_started (phase_of s v) ≡ true → standing_of plan s v ≡ blocked

  abbrev assumed : ℕ → Standing
  assumed v = standing_by plan s v (values_at (λ u. blocked) (looks plan v))

  -- where those that are not yet started are blocked, a node stands as if they all were
  as-assumed : (v : ℕ) → v < length plan.nodes
      → ((u : ℕ) → Contains (looks plan v) u → IsBlockedFresh u)
      → standing_of plan s v ≡ assumed v
  as-assumed v small known =
      let node = planned-outer plan w outer v small in
      let alone = case-none plan w outer (outer_node w (v, node.0)) in
      standing-fixed plan s order is v small
      ∙ by_outer plan s v (outer_node w (v, node.0)) (standing_of plan s) node.1 alone
      ∙ ap standing_among (signs-alike s (standing_of plan s) (λ u. blocked) (looks plan v) known)
      ∙ sym (by_outer plan s v (outer_node w (v, node.0)) (λ u. blocked) node.1 alone)

  -- ---- all nodes at rest

  final-apart : (f : Phase) → is_not_yet_started f ≡ true → is_final f ≡ false
  final-apart phase.NotYetStarted e = refl
  final-apart phase.Queued e = absurd (false≢true e)
  final-apart phase.Running e = absurd (false≢true e)
  final-apart phase.RetryableFailure e = absurd (false≢true e)
  final-apart phase.Succeeding e = absurd (false≢true e)
  final-apart phase.Succeeded e = absurd (false≢true e)
  final-apart phase.Failed e = absurd (false≢true e)
  final-apart phase.TimedOut e = absurd (false≢true e)
  final-apart phase.Skipped e = absurd (false≢true e)
  final-apart phase.Aborted e = absurd (false≢true e)

  -- of what is final, or not yet started and so on: where it is not yet started, the rest holds
  second : (f : Phase) (rest : Bool) → is_final f || (is_not_yet_started f && rest) ≡ true
      → is_not_yet_started f ≡ true → rest ≡ true
  second f rest e fresh =
      ⊎_elim (λ final. absurd (false≢true (sym (final-apart f fresh) ∙ final)))
      (λ both. (and_parts (is_not_yet_started f) rest both).1)
      (or_cases (is_final f) (is_not_yet_started f && rest) e)

  -- and the other way round, with another rest
  swap : (f : Phase) (rest other : Bool) → is_final f || (is_not_yet_started f && rest) ≡ true
      → (is_not_yet_started f ≡ true → other ≡ true) → is_final f || (is_not_yet_started f && other) ≡ true
  swap f rest other e given =
      ⊎_elim (λ final. or_left (is_final f) (is_not_yet_started f && other) final)
      (λ both. let fresh = (and_parts (is_not_yet_started f) rest both).0 in
      or_right (is_final f) (is_not_yet_started f && other)
      (and_from (is_not_yet_started f) other fresh (given fresh)))
      (or_cases (is_final f) (is_not_yet_started f && rest) e)

  rest-from : ((v : ℕ) → v < length plan.nodes → rests plan s v ≡ true)
      → (v : ℕ) → v < length plan.nodes → is_at_rest plan s v ≡ true
  rest-from each v small =
      let all : (u : ℕ) → Contains order u → IsBlockedFresh u =
      holds_along_order (looks plan) order is.back IsBlockedFresh (λ u has known fresh.
      let below : u < length plan.nodes = (is.once.each u).1 has in
      as-assumed u below known
      ∙ is-blocked (assumed u) (second (phase_of s u) (is_blocked_standing (assumed u)) (each u below) fresh)) in
      swap (phase_of s v) (is_blocked_standing (assumed v)) (is_blocked_standing (standing_of plan s v)) (each v small)
      (λ fresh. ap is_blocked_standing (all v ((is.once.each v).0 small) fresh))

  rest-to : ((v : ℕ) → v < length plan.nodes → is_at_rest plan s v ≡ true)
      → (v : ℕ) → v < length plan.nodes → rests plan s v ≡ true
  rest-to each v small =
      let known : (u : ℕ) → u < length plan.nodes → IsBlockedFresh u =
      λ u below fresh.
      let standing = standing_of plan s u in
      is-blocked standing (second (phase_of s u) (is_blocked_standing standing) (each u below) fresh) in
      swap (phase_of s v) (is_blocked_standing (standing_of plan s v)) (is_blocked_standing (assumed v)) (each v small)
      (λ fresh.
      ap is_blocked_standing (sym (as-assumed v small (λ u looked. known u (looked-below v u small looked)))
      ∙ known v small fresh))
    where
      looked-below : (x u : ℕ) → x < length plan.nodes → Contains (looks plan x) u → u < length plan.nodes
      looked-below x u below looked =
          let has = (is.once.each x).0 below in
          let at : get_or order has.0 0 ≡ x = get_or_default order has.0 0 x has.1 ∙ has.2 in
          let before = is.back has.0 u has.1 (subst (λ v. Contains (looks plan v) u) (sym at) looked) in
          let there = Contains-take_at order has.0 u before in
          (is.once.each u).1 (there.0, there.2, get_or_default order there.0 u 0 there.2 ∙ there.3)

  pub settled-rests : is_settled plan s [] ≡ list_all (rests plan s) (range_with_len 0 (length plan.nodes))
  settled-rests =
      let count = length plan.nodes in
      let all = range_with_len 0 count in
      all-nodes plan w outer (is_at_rest plan s)
      ∙ both_ways (list_all (is_at_rest plan s) all) (list_all (rests plan s) all)
      (λ each. all-from (rests plan s) 0 count (λ v above below.
      rest-to (λ u small. all-at (is_at_rest plan s) 0 count each u (omega arith) (omega arith)) v (omega arith)))
      (λ each. all-from (is_at_rest plan s) 0 count (λ v above below.
      rest-from (λ u small. all-at (rests plan s) 0 count each u (omega arith) (omega arith)) v (omega arith)))
