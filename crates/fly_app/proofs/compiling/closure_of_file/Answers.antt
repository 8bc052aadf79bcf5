use Rattle.fly_app.proofs.FileReads.{closure_unread, refused_file, closed_file}
use Rattle.fly_app.proofs.compiling.closure_of_file.Goals as goal

pub returns-in-Err : goal.returns-in-Err
returns-in-Err g c =
    closure_unread (g.F.Files.state c.args.files.now) (g.F.Files.state c.read_bytes.new.files) c.args.path.now c.in-Err.unanswered c.in-Err.ensures

pub returns-in-Err-bundle_of : goal.returns-in-Err-bundle_of
returns-in-Err-bundle_of g c =
    refused_file (g.F.Files.state c.args.files.now) (g.F.Files.state c.read_bytes.new.files) c.args.path.now c.in-Ok.bytes.items
    c.in-Err-bundle_of.unanswered c.in-Ok.ensures.0 c.in-Ok.ensures.1 (rw c.deref.ensures.value at c.in-Err-bundle_of.ensures.err)

pub returns : goal.returns
returns g c =
    closed_file c.no_faults_exactly_where_typed.ensures (g.F.Files.state c.args.files.now) (g.F.Files.state c.read_bytes.new.files) c.args.path.now
    c.in-Ok.bytes.items c.in-Ok-bundle_of.bundle c.closure_of.result c.in-Ok.ensures.0 c.in-Ok.ensures.1
    (rw c.deref.ensures.value at c.in-Ok-bundle_of.ensures.ok) c.in-Ok-bundle_of.ensures.form c.in-Ok-bundle_of.ensures.readable c.closure_of.ensures
