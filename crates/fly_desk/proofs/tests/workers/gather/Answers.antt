use Rattle.std.proofs.Common.{◌∙◌, ap, arith, length}
use Rattle.std.proofs.lemmas.List.{nil_from_length}
use Rattle.std.specs.Vec.Iter.{into_iter_items}
use Rattle.fly_desk.specs.declared.tests.workers.Job.{Job}
use Rattle.fly_desk.specs.Workers.{IsSpent}
use Rattle.fly_desk.proofs.WorkersLemmas.{first_of_all, join_next, join_all}
use Rattle.fly_desk.proofs.tests.workers.gather.Goals as goal

pub loop-job-preserved : goal.loop-job-preserved
loop-job-preserved g c =
    let at = c.loop-job in
    let joined = c.join.ensures in
    let steps = c.in-Some.ensures.steps.0 in
    let Spent : Job g.row.O.Denot g.row.O-Entry.Denot g.row.O-Basis.Denot g.O.Annals → Type 0 =
    λ job. IsSpent c.args.desk.now job.pass in
    let both = first_of_all Spent _ _ _ steps at.invariant.7 in
    let spent : IsSpent c.args.desk.now c.in-Some.job.pass = both.0 in
    let left = joined.left in
    let before = at.invariant.5 in
    let none = spent.left_is in (
      tt,
      tt,
      joined.desk,
      joined.idle,
      join_next _ _ _ _ _ _ _ joined.own steps at.invariant.4,
      omega arith,
      record {
        opening = joined.start.opening ∙ at.invariant.6.opening;
        basis = joined.start.basis ∙ at.invariant.6.basis;
        calls = joined.start.calls ∙ at.invariant.6.calls;
      },
      both.1,
      omega arith,
    )

pub returns-clause-own : goal.returns-clause-own
returns-clause-own g c =
    let at = c.loop-job in
    let end = c.in-None.ensures.steps.0 in
    let long = at.invariant.8 in
    join_all _ _ _ _ _ _ (nil_from_length (into_iter_items at.job-iterator) (omega arith)) c.into_iter-job-iterator.ensures.into_iter_gives.0 at.invariant.4
