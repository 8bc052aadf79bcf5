use Rattle.std.proofs.Common.{refl, inl}
use Rattle.fly_app.specs.GivenWords.{run_request_of}
use Rattle.fly_app.specs.Answers.{WrongWord}
use Rattle.fly_app.specs.Printing.{usage_text}
use Rattle.fly_app.specs.RunAnswers.{AsksForNoRun}
use Rattle.fly_app.proofs.CommandLemmas.{said_line}
use Rattle.fly_app.proofs.RunAnswerLemmas.{lag-few, runs_run}
use Rattle.fly_app.proofs.RunCommandLemmas.{said_run}
use Rattle.fly_app.proofs.run_line.run_line.Goals as goal

pub run-requires : goal.run-requires
run-requires g c = lag-few c.args.words.now (run_request_of c.in-Ok.request) c.in-Ok.ensures.run

pub returns-in-Ok : goal.returns-in-Ok
returns-in-Ok g c = runs_run _ _ _ _ (c.run.ensures c.args.words.now c.in-Ok.ensures.run)

pub returns-in-Err : goal.returns-in-Err
returns-in-Err g c =
    let files = g.F.Files.state c.args.files.now in
    let out = g.O.Sink.state c.args.out.now in
    let err = g.E.Sink.state c.args.err.now in
    let new_err = g.E.Sink.state c.say.new.err in
    runs_run _ _ _ _
    (said_run c.args.words.now files files out err new_err (g.C.Clock.state c.args.hand.now.clock) (g.S.Spawner.state c.args.hand.now.spawner)
    c.say.result
    (said_line (AsksForNoRun c.args.words.now) files files out err new_err (WrongWord c.in-Err.word) (usage_text c.in-Err.word) c.usage_line.result
    c.say.result (c.in-Err.ensures.wrong, refl) (inl refl) (λ p. p) (λ p. p) c.usage_line.ensures c.say.ensures))
