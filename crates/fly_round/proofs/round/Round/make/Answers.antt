use Rattle.std.proofs.Common.{◌+◌, List, [], length, sym, subst}
use Rattle.std.proofs.lemmas.Option.{none-some}
use Rattle.fly_round.specs.declared.told.Told.{Told}
use Rattle.fly_round.specs.declared.progress.Progress.{Progress}
use Rattle.fly_round.specs.Rounds.{HasCome}
use Rattle.fly_round.proofs.ComeLemmas.{come-start}
use Rattle.fly_round.proofs.PathLemmas.{paths-of-ids}
use Rattle.fly_round.proofs.round.Round.make.Goals as goal

pub invariant_of-result : goal.invariant_of-result
invariant_of-result c =
    let plan = c.args.p.now in
    let v = c.args.view in
    let begun = subst (λ (at : Progress). HasCome plan v [] at 0) (sym c.start_of.ensures) (come-start plan v) in
    let come = subst (λ (told : List Told). HasCome plan v told c.start_of.result (length told + 0)) (sym c.new.ensures.items) begun in (
      record {
        of_plan = c.requires;
        ids = paths-of-ids plan c.primary.result.now c.primary.ensures;
        broken_is = c.is_run_broken-broken.ensures;
        attempts_are = c.in_ok-attempts.ensures;
        come = come;
        waits = λ o e. absurd (none-some o e);
      },
      λ o e. absurd (none-some o e),
    )
