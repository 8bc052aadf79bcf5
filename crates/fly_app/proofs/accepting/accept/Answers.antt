use Rattle.fly_app.specs.GivenWords.{run_request_of}
use Rattle.fly_app.proofs.AcceptingLemmas.{bundle-stop, submissions-stopped, accepted}
use Rattle.fly_app.proofs.accepting.accept.Goals as goal

pub returns-in-Err : goal.returns-in-Err
returns-in-Err g c =
    bundle-stop (g.F.Files.state c.args.files.now) (g.F.Files.state c.closure_of_file.new.files)
    (run_request_of c.args.request.now) c.in-Err.unanswered c.in-Err.ensures

pub returns-in-Ok-accept_submissions : goal.returns-in-Ok-accept_submissions
returns-in-Ok-accept_submissions g c =
    accepted (g.F.Files.state c.args.files.now) (g.F.Files.state c.closure_of_file.new.files)
    (g.F.Files.state c.accept_submissions.new.files) (run_request_of c.args.request.now) c.in-Ok.closure
    c.in-Ok-expand.plan c.in-Ok.ensures.2 c.in-Ok.ensures.0 c.in-Ok-expand.ensures c.in-Ok-closure_hash.hash
    c.in-Ok-accept_submissions.submissions c.in-Ok-closure_hash.ensures c.in-Ok.ensures.1 c.in-Ok-accept_submissions.ensures

pub returns : goal.returns
returns g c =
    submissions-stopped (g.F.Files.state c.args.files.now) (g.F.Files.state c.closure_of_file.new.files)
    (g.F.Files.state c.accept_submissions.new.files) (run_request_of c.args.request.now) c.in-Ok.closure
    c.in-Ok-expand.plan c.in-Ok.ensures.2 c.in-Ok.ensures.0 c.in-Ok-expand.ensures
    c.in-Err-accept_submissions.unanswered c.in-Err-accept_submissions.ensures
