use Rattle.std.proofs.Common.{take, ap, sym, refl, ◌∙◌, arith}
use Rattle.fly_docs.specs.Templates.{without_spaces}
use Rattle.fly_faults.proofs.TemplateSteps.{closed_by, rest_of}
use Rattle.fly_faults.proofs.templates.closed_name.Goals as goal

pub returns-then-starts_with : goal.returns-then-starts_with
returns-then-starts_with c =
    let text = c.args.text.now in
    let count = c.id_len-count.result in
    closed_by text count c.without_spaces-rest.result.now (take count text) c.id_len-count.ensures.count (omega arith) c.if-count-gt63.false
    (c.without_spaces-rest.ensures ∙ ap without_spaces (rest_of text count)) (sym c.starts_with.ensures.value ∙ c.if-starts_with.true) refl
