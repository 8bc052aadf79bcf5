use Rattle.fly_app.proofs.FileReads.{submissions_unread, submissions_at}
use Rattle.fly_app.proofs.reading.submissions_of_file.Goals as goal

pub returns-in-Err : goal.returns-in-Err
returns-in-Err g c =
    submissions_unread (g.F.Files.state c.args.files.now) (g.F.Files.state c.read_bytes.new.files) c.args.path.now c.in-Err.unanswered c.in-Err.ensures

pub returns : goal.returns
returns g c =
    submissions_at (g.F.Files.state c.args.files.now) (g.F.Files.state c.read_bytes.new.files) c.args.path.now c.in-Ok.bytes.items
    c.submissions_of.result c.in-Ok.ensures.0 c.in-Ok.ensures.1 (rw c.deref.ensures.value at c.submissions_of.ensures)
