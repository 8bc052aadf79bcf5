-- The text of an entry by its fields.
use Rattle.std.proofs.Common.{◌≡◌, [], ◌++◌, ap, sym, ◌∙◌}
use Rattle.serde_json.specs.Written.{compact_text}
use Rattle.fly_state.specs.declared.entries.Entry.{Entry}
use Rattle.fly_state.specs.Plans.{RunPlan}
use Rattle.fly_journal.specs.Texts.{FieldTexts, with_values, object_text}
use Rattle.fly_journal.specs.Ops.{op_fields}
use Rattle.fly_journal.specs.Replies.{reply_fields}
use Rattle.fly_journal.specs.Lines.{common_fields, entry_fields, entry_json}
use Rattle.fly_journal.proofs.ObjectTexts.{message_text, values_after}

-- an object that was given the fields of an entry, one part after another, has the entry's text
pub entry_text : (plan : RunPlan) (e : Entry) (none some more all : FieldTexts) → none ≡ []
    → some ≡ with_values none (op_fields plan e.op)
    → more ≡ with_values some (reply_fields e.reply) → all ≡ with_values more (common_fields e)
    → object_text all ≡ compact_text (entry_json plan e)
entry_text plan e none some more all n s m a =
    ap object_text (a ∙ ap (λ ts. with_values ts (common_fields e)) (m
    ∙ ap (λ ts. with_values ts (reply_fields e.reply)) (s ∙ ap (λ ts. with_values ts (op_fields plan e.op)) n)
    ∙ sym (values_after [] (op_fields plan e.op) (reply_fields e.reply)))
    ∙ sym (values_after [] (op_fields plan e.op ++ reply_fields e.reply) (common_fields e)))
    ∙ message_text (entry_fields plan e)
