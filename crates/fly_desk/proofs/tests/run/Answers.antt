use Rattle.std.proofs.Common.{◌≡◌, ℕ, ◌+◌, ◌*◌, List, [], ◌∙◌, ap, subst, arith, map}
use Rattle.fly_desk.specs.declared.tests.log.Log.{Log}
use Rattle.fly_desk.specs.declared.tests.log.Plan.{Plan}
use Rattle.fly_desk.specs.declared.tests.workers.Job.{Job}
use Rattle.fly_desk.specs.contracts.tests.log.LogAnnals.TheImpl.{ghosts}
use Rattle.fly_desk.specs.Annals.{IsMadeOf}
use Rattle.fly_desk.specs.Pass.{own, calls_left}
use Rattle.fly_desk.proofs.WorkersLemmas.{run_of, take_whole}
use Rattle.fly_desk.proofs.tests.run.Goals as goal

abbrev LogJob : Type 0
LogJob = Job Log (ℕ × ℕ) Plan ghosts

abbrev worker_of : LogJob → ℕ
worker_of job = job.worker

abbrev left_of : LogJob → ℕ
left_of job = calls_left job.pass

abbrev calls_of_job : LogJob → List (ℕ × (ℕ × ℕ))
calls_of_job job = own job.pass

pub close-requires-clause-last : goal.close-requires-clause-last
close-requires-clause-last g c =
    let start = c.in_ok-desk.ensures.pass in
    let hired = c.in_ok-jobs.ensures in
    let ready = hired.jobs in
    let worked = c.work_all.ensures.passes in
    let run = run_of worker_of left_of calls_of_job c.args.workers c.args.turns _ c.in_ok-jobs.jobs.items c.deref_mut.result.now
    c.work_all.new.jobs _ _ _ (hired.own ∙ start.own_is) c.gather.ensures.own
    (take_whole _ c.work_all.new.jobs _ (c.work_all.ensures.number ∙ c.deref_mut.ensures.len)) c.deref_mut.ensures.value c.deref_mut.ensures.len
    hired.number c.work_all.ensures.number (λ i d less. let r = ready i d less in (r.0, r.1.left_is))
    (λ i d less. (worked i d less).turns_are) in
    let number = run.0 in
    let times = ap (λ n. n * c.args.turns) c.from.ensures in
    let kept = c.gather.ensures.left in
    let given = hired.left in
    let all = start.left_is in
    let calls = c.gather.ensures.start.calls ∙ hired.start.calls ∙ start.calls_is in
    omega arith

pub returns-clause-work : goal.returns-clause-work
returns-clause-work g c =
    let start = c.in_ok-desk.ensures.pass in
    let hired = c.in_ok-jobs.ensures in
    let ready = hired.jobs in
    let worked = c.work_all.ensures.passes in
    let run = run_of worker_of left_of calls_of_job c.args.workers c.args.turns _ c.in_ok-jobs.jobs.items c.deref_mut.result.now
    c.work_all.new.jobs _ _ _ (hired.own ∙ start.own_is) c.gather.ensures.own
    (take_whole _ c.work_all.new.jobs _ (c.work_all.ensures.number ∙ c.deref_mut.ensures.len)) c.deref_mut.ensures.value c.deref_mut.ensures.len
    hired.number c.work_all.ensures.number (λ i d less. let r = ready i d less in (r.0, r.1.left_is))
    (λ i d less. (worked i d less).turns_are) in
    let opening = c.gather.ensures.start.opening ∙ hired.start.opening ∙ start.opening_is in
    let Made : List (ℕ × ℕ) → Type 0 = λ l. IsMadeOf c.close.result.marks.items l (own c.gather.new.pass) in
    (map calls_of_job c.work_all.new.jobs, run.1 c.close.result.marks.items (subst Made opening c.close.ensures.history))
