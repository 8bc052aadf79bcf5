use Rattle.std.proofs.Common.{◌≡◌, ◌++◌, drop, string_bytes}
use Rattle.fly_docs.specs.AttemptName.{path_text}
use Rattle.fly_report.proofs.PathTexts.{rest_of_path}
use Rattle.fly_report.proofs.lines.push_path.Given as goal

-- the ids so far and those that are left are those of the path
abbrev pub invariant-loop-id : goal.invariant-loop-id
invariant-loop-id l =
    string_bytes l.text ++ rest_of_path l.later (drop l.id-index l.path) ≡ string_bytes l.fn.text ++ path_text l.path
