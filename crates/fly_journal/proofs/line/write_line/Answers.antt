use Rattle.std.proofs.Common.{[], ◌∷◌, ◌++◌, ap, ◌∙◌}
use Rattle.fly_journal.specs.Lines.{newline}
use Rattle.fly_journal.proofs.LineTexts.{entry_text}
use Rattle.fly_journal.proofs.line.write_line.Goals as goal

pub returns : goal.returns
returns c =
    c.in_ok-push.ensures.items
    ∙ ap (λ text. text ++ newline ∷ []) (c.in_ok-line.ensures
    ∙ entry_text c.args.p.now c.args.e.now _ _ _ _ c.new-object.ensures
    c.in_ok-put_op.ensures c.in_ok-put_reply.ensures
    c.in_ok-put_common.ensures)
