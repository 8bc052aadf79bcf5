use Rattle.fly_app.specs.GivenWords.{run_request_of}
use Rattle.fly_app.proofs.AcceptingLemmas.{submissions-stop, fitting-stop, journal-stop, journal-passed}
use Rattle.fly_app.proofs.accepting.accept_submissions.Goals as goal

pub returns-in-Err : goal.returns-in-Err
returns-in-Err g c =
    submissions-stop (g.F.Files.state c.args.files.now) (g.F.Files.state c.submissions_of_file.new.files) c.args.plan.now
    (run_request_of c.args.request.now) c.in-Err.unanswered c.in-Err.ensures

pub returns-in-Err-fit : goal.returns-in-Err-fit
returns-in-Err-fit g c =
    fitting-stop (g.F.Files.state c.args.files.now) (g.F.Files.state c.submissions_of_file.new.files) c.args.plan.now
    (run_request_of c.args.request.now) c.in-Ok.submissions c.in-Err-fit.unanswered c.in-Ok.ensures.1 c.in-Ok.ensures.0.there
    c.in-Err-fit.ensures

pub returns-in-Ok-check_journal : goal.returns-in-Ok-check_journal
returns-in-Ok-check_journal g c =
    journal-passed (g.F.Files.state c.args.files.now) (g.F.Files.state c.submissions_of_file.new.files)
    (g.F.Files.state c.check_journal.new.files) c.args.plan.now (run_request_of c.args.request.now) c.in-Ok.submissions
    c.in-Ok-fit.fitted _ c.in-Ok.ensures.1 c.in-Ok.ensures.0.there c.in-Ok-fit.ensures c.in-Ok-check_journal.ensures

pub returns-in-Err-check_journal : goal.returns-in-Err-check_journal
returns-in-Err-check_journal g c =
    journal-stop (g.F.Files.state c.args.files.now) (g.F.Files.state c.submissions_of_file.new.files)
    (g.F.Files.state c.check_journal.new.files) c.args.plan.now (run_request_of c.args.request.now) c.in-Ok.submissions
    c.in-Ok-fit.fitted c.in-Err-check_journal.unanswered c.in-Ok.ensures.1 c.in-Ok.ensures.0.there c.in-Ok-fit.ensures
    c.in-Err-check_journal.ensures
