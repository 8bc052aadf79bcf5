use Rattle.std.proofs.Common.{◌≡◌, false, rules, sym, ◌∙◌}
use Rattle.std.proofs.lemmas.Bool.{true≢false}
use Rattle.std.proofs.lemmas.Result.{err_from_is_err_and}
use Rattle.fly_work.specs.MemKeep.{fails_next}
use Rattle.fly_work.proofs.memory_keep.MemKeepKeep.keep.Goals as goal

pub returns-in_err-append_copies-clause-failed : goal.returns-in_err-append_copies-clause-failed
returns-in_err-append_copies-clause-failed c =
    let short = err_from_is_err_and c.from_residual.result c.from_residual.ensures.1 in
    let fine : fails_next c.args.self.now ≡ false = search rules in
    rw (short.1, short.2) (λ same. let no : ⊥ = cc in absurd no, λ bad. absurd (true≢false (sym bad ∙ fine)))

pub returns-clause-failed : goal.returns-clause-failed
returns-clause-failed c =
    let fine : fails_next c.args.self.now ≡ false = search rules in
    (λ same. let no : ⊥ = cc in absurd no, λ bad. absurd (true≢false (sym bad ∙ fine)))
