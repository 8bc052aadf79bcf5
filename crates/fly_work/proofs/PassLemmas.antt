-- When the Write and the claim of a turn are due, and where a claim leads.
use Rattle.std.proofs.Common.{◌≡◌, ◌≢◌, ℕ, List, [], ◌∷◌, refl, sym, ◌∙◌, ap, subst}
use Rattle.fly_state.specs.declared.entries.Entry.{Entry}
use Rattle.fly_state.specs.declared.entries.Op.TheVariants as op
use Rattle.fly_state.specs.declared.moves.Move.{Move}
use Rattle.fly_state.specs.declared.view.View.{View}
use Rattle.fly_state.specs.Plans.{RunPlan}
use Rattle.fly_world.specs.declared.called.Called.{Called}
use Rattle.fly_round.specs.declared.told.Told.{Told}
use Rattle.fly_work.specs.Parts.{IsRoundOf}
use Rattle.fly_work.specs.Stages.{Turn, Stage, starting, sweeping, reading, asking, claiming, running, finishing, over, cut, closing_op, IsDue, IsDueInRound, AfterClaim, After}
use Rattle.fly_work.proofs.ActingLemmas.{told_of}

-- ---- the Write

write-closes : (v : View) (moves : List Move) → moves ≢ [] → op.Write v.name v.version moves ≡ closing_op v moves
write-closes v [] some = absurd (some refl)
write-closes v (m ∷ ms) some = refl

module _ (plan : RunPlan) (t : Turn) (v : View) (told : List Told) (exec : List ℕ) (base : ℕ) (moves : List Move)
    (round : IsRoundOf plan v told exec base moves) where
  -- where there are moves their Write is due
  pub write-due : moves ≢ [] → IsDue plan t (asking v told) (op.Write exec base moves)
  write-due some =
      subst (λ q. IsDueInRound plan v told q (op.Write exec base moves)) (sym round.all_asked)
      ((λ i. op.Write (round.exec_is i) (round.base_is i) moves) ∙ write-closes v moves some
      ∙ ap (closing_op v) round.moves_are)

  -- where there are none a claim is
  pub claim-due : moves ≡ [] → IsDue plan t (asking v told) op.Claim
  claim-due none =
      subst (λ q. IsDueInRound plan v told q op.Claim) (sym round.all_asked)
      (ap (closing_op v) (sym none ∙ round.moves_are))

-- ---- the claim

module _ (plan : RunPlan) (closure : List ℕ) (journal : List Entry) (t : Turn) (c : Called) (next : Stage) where
  pub after-claim : (from : Stage) → IsDue plan t from op.Claim
      → AfterClaim plan closure journal (told_of op.Claim c) c.reply next
      → After plan closure journal from (told_of op.Claim c) next
  after-claim starting due after = absurd due
  after-claim sweeping due after = absurd due
  after-claim reading due after = absurd due
  after-claim (asking v told) due after = after
  after-claim claiming due after = after
  after-claim (running work) due after = absurd due
  after-claim (finishing work) due after = absurd due
  after-claim over due after = absurd due
  after-claim cut due after = absurd due
