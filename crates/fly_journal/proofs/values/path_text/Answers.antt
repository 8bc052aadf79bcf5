use Rattle.std.proofs.Common.{◌++◌, false, ap, ◌∙◌}
use Rattle.fly_journal.proofs.PathTexts.{rest_of_path, whole_path}
use Rattle.fly_journal.proofs.values.path_text.Goals as goal

pub loop-id-init : goal.loop-id-init
loop-id-init c =
    ap (λ text. text ++ rest_of_path false c.args.path.now) c.new-text.ensures.bytes
    ∙ whole_path c.args.path.now
