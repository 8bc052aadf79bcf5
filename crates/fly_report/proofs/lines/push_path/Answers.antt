use Rattle.std.proofs.Common.{List, ℕ, ◌++◌, string_bytes, ap}
use Rattle.fly_report.proofs.PathTexts.{whole_path}
use Rattle.fly_report.proofs.lines.push_path.Goals as goal

pub loop-id-init : goal.loop-id-init
loop-id-init c = ap (λ (rest : List ℕ). string_bytes c.args.text.now ++ rest) (whole_path c.args.path.now)
