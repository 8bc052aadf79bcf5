use Rattle.std.proofs.Common.{sym}
use Rattle.fly_app.proofs.RunWordsLemmas.{reads_lag, reads_file, wrong_lag, wrong_option, wrong_file, none_named}
use Rattle.fly_app.proofs.run_words.Given.read_argument.Goals as goal

pub returns-in-Ok : goal.returns-in-Ok
returns-in-Ok c = reads_lag c.args.self c.args.word.now c.args.rest.now c.in-Ok.lag c.if-eq.ensures c.in-Ok.ensures

pub returns-in-Err : goal.returns-in-Err
returns-in-Err c = wrong_lag c.args.self c.args.word.now c.args.rest.now c.in-Err.right c.if-eq.ensures c.in-Err.ensures

pub returns-then-is_option : goal.returns-then-is_option
returns-then-is_option c =
    wrong_option c.args.self c.args.word.now c.args.rest.now (sym c.if-is_option.ensures)
    (none_named c.args.word.now c.if-eq.ensures)

pub returns-in-Some : goal.returns-in-Some
returns-in-Some c =
    reads_file c.args.self c.in-Some.files c.args.word.now c.args.rest.now
    (sym c.if-is_option.ensures) c.in-Some.ensures

pub returns-in-None : goal.returns-in-None
returns-in-None c =
    wrong_file c.args.self c.args.word.now c.args.rest.now (sym c.if-is_option.ensures) c.in-None.ensures
