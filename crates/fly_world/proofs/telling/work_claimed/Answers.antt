use Rattle.std.proofs.Common.{◌≡◌, ℕ, Option, Some, None, sym, ◌∙◌, ap}
use Rattle.fly_attempts.specs.Attempts.{AttemptLists, number_of, launch_at}
use Rattle.fly_attempts.specs.Parts.{same_name}
use Rattle.fly_state.proofs.PlaceLemmas.{find_at_place, find_nowhere}
use Rattle.fly_world.specs.Store.{attempts_in}
use Rattle.fly_world.specs.World.{Launch, launch_of}
use Rattle.fly_world.proofs.WorldLemmas.{work-found, work-nowhere}
use Rattle.fly_world.proofs.telling.work_claimed.Goals as goal

pub returns-in_default-2-clause-ok : goal.returns-in_default-2-clause-ok
returns-in_default-2-clause-ok c =
    let w = c.args.store.now.world in
    let name = c.in-Claimed.name in
    let none : number_of (attempts_in w) name ≡ None =
    sym (ap (λ (a : AttemptLists). number_of a name) c.attempts.ensures) ∙ sym c.in_ok-number.ensures ∙ c.in_default-2.is in
    rw c.in-Claimed.is
    (sym (work-nowhere c.args.store.now.plan w name (find_nowhere (λ (l : Launch). same_name name l.name) w.launches none)))

pub returns-clause-ok : goal.returns-clause-ok
returns-clause-ok c =
    let w = c.args.store.now.world in
    let name = c.in-Claimed.name in
    let n = c.in-Some-2.number in
    let l = c.launched-launch.result.now in
    let placed : number_of (attempts_in w) name ≡ Some n =
    sym (ap (λ (a : AttemptLists). number_of a name) c.attempts.ensures) ∙ sym c.in_ok-number.ensures ∙ c.in-Some-2.is in
    let there : launch_of w name ≡ Some l =
    find_at_place (λ (x : Launch). same_name name x.name) w.launches n placed
    ∙ sym (ap (λ (a : AttemptLists). launch_at a n) c.attempts-2.ensures) ∙ c.launched-launch.ensures in
    rw c.in-Claimed.is
    (ap Some c.in_ok-work_for.ensures
    ∙ sym (work-found c.args.store.now.plan w name l c.in-Some.task.now there (sym c.in-Some.ensures)))
