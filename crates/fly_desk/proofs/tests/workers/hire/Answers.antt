use Rattle.std.proofs.Common.{◌≡◌, ℕ, ◌+◌, ◌*◌, ◌∷◌, [], ◌∙◌, ap, refl, arith, length, length-append}
use Rattle.fly_desk.specs.declared.tests.workers.Job.{Job}
use Rattle.fly_desk.specs.Workers.{IsFresh}
use Rattle.fly_desk.proofs.WorkersLemmas.{each_push}
use Rattle.fly_desk.proofs.tests.workers.hire.Goals as goal

next_times : (workers calls : ℕ) → (workers + 1) * calls ≡ workers * calls + calls
next_times workers calls = grind arith

pub loop-worker-preserved : goal.loop-worker-preserved
loop-worker-preserved g c =
    let at = c.loop-worker in
    let i = at.invariant in
    let cut = c.in_ok-pass.ensures in
    let pushed = c.push_reserved.ensures in
    let Ready : ℕ → Job g.row.O.Denot g.row.O-Entry.Denot g.row.O-Basis.Denot g.O.Annals → Type 0 =
    λ n job. (job.worker ≡ n) × IsFresh c.args.desk.now c.args.calls job.pass in
    let left = cut.left.0 in
    let before = i.3 in
    let more = next_times at.worker c.args.calls in
    let long = ap (λ l. length l) pushed.items in
    let same = i.7 in
    let len = i.5 in
    let len' = pushed.len in (
      cut.desk.0,
      cut.idle.0,
      cut.own.0 ∙ i.2,
      omega arith,
      record {
        opening = cut.start.0.opening ∙ i.4.opening;
        basis = cut.start.0.basis ∙ i.4.basis;
        calls = cut.start.0.calls ∙ i.4.calls;
      },
      omega arith,
      pushed.capacity ∙ i.6,
      long ∙ length-append at.jobs.items _ ∙ ap (λ n. n + 1) same,
      each_push Ready at.worker at.jobs.items _ _ same pushed.items i.8
          (refl, record { place = cut.desk.1; idle = cut.idle.1; own_is = cut.own.1; left_is = cut.left.1 }),
    )
