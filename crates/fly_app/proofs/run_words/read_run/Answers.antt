use Rattle.std.proofs.Common.{ℕ, List, subst}
use Rattle.fly_app.specs.Words.{IsFirstWrong}
use Rattle.fly_app.specs.GivenWords.{Completes, ReadsArgument}
use Rattle.fly_app.proofs.RunWordsLemmas.{reads_on, wrong_at, split_at, none_at, run_at_end, wrong_at_end}
use Rattle.fly_app.proofs.run_words.read_run.Goals as goal

pub loop-word-preserved : goal.loop-word-preserved
loop-word-preserved c =
    let words = split_at c.args.words.now c.in-Some.rest.now c.loop-word.at c.in-Some.word.now c.as_str.result.now
    c.in-Some.ensures.cases.0 c.as_str.ensures in
    reads_on c.args.words.now c.loop-word.at c.in-Ok.count c.loop-word.given c.in-Ok.more c.loop-word.invariant
    (subst (λ (ws : List (List ℕ)). ReadsArgument c.loop-word.given c.in-Ok.more ws c.in-Ok.count) words
    c.in-Ok.ensures)

pub returns-in-Err-clause-wrong : goal.returns-in-Err-clause-wrong
returns-in-Err-clause-wrong c =
    let words = split_at c.args.words.now c.in-Some.rest.now c.loop-word.at c.in-Some.word.now c.as_str.result.now
    c.in-Some.ensures.cases.0 c.as_str.ensures in
    wrong_at c.args.words.now c.loop-word.at c.in-Err.right c.loop-word.given c.loop-word.invariant
    (subst (λ (ws : List (List ℕ)). IsFirstWrong (Completes c.loop-word.given) ws c.in-Err.right) words
    c.in-Err.ensures)

pub returns-clause-run : goal.returns-clause-run
returns-clause-run c =
    run_at_end c.args.words.now c.loop-word.at c.loop-word.given c.run.result c.ok_or.result c.loop-word.invariant
    (none_at c.args.words.now c.loop-word.at c.in_default.ensures.cases) c.run.ensures c.ok_or.ensures.value

pub returns-clause-wrong : goal.returns-clause-wrong
returns-clause-wrong c =
    wrong_at_end c.args.words.now c.loop-word.at c.loop-word.given c.run.result c.ok_or.result c.loop-word.invariant
    (none_at c.args.words.now c.loop-word.at c.in_default.ensures.cases) c.run.ensures c.ok_or.ensures.value
