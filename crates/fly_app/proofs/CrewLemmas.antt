-- The first hand of a crew.
use Rattle.std.proofs.Common.{◌≡◌, ℕ, List, [], ◌∷◌, length, slice_set, get_or, refl, subst, arith}
use Rattle.fly_ports.specs.Clock.{ClockState}
use Rattle.fly_ports.specs.Spawner.{SpawnerState}
use Rattle.fly_app.specs.declared.status.Status.{Status}
use Rattle.fly_app.specs.Outside.{Outside}
use Rattle.fly_app.specs.RunOutside.{run_outside}
use Rattle.fly_app.specs.RunAnswers.{RunsRun, RunsByFirst}

-- where a run was made by the hand at place 0, the others have done nothing
pub by-first : {H : Type 0} (clock : H → ClockState) (spawner : H → SpawnerState) (words : List (List ℕ))
    (before after : Outside) (crew : List H)
    (hand next : H) (status : Status) → length crew ≡ 8 → hand ≡ get_or crew 0 hand
    → RunsRun words (run_outside before (clock hand) (spawner hand))
    (run_outside after (clock next) (spawner next)) status
    → RunsByFirst clock spawner words before after crew (slice_set crew 0 next) status
by-first clock spawner words before after [] hand next status eight is runs = absurd (omega arith)
by-first clock spawner words before after (first ∷ others) hand next status eight is runs = record {
  first = first;
  next = next;
  others = others;
  crew_is = refl;
  new_crew_is = refl;
  runs = subst
      (λ (h : _). RunsRun words (run_outside before (clock h) (spawner h)) (run_outside after (clock next) (spawner
      next)) status) is runs;
}
