use Rattle.std.proofs.Common.{◌∙◌, string_bytes}
use Rattle.fly_docs.proofs.NameTexts.{printed_text}
use Rattle.fly_docs.proofs.naming.print_name.Goals as goal

pub returns : goal.returns
returns c =
    let whole = rw c.as_str-2.ensures.value at c.in_ok-push_str-3.ensures.bytes in
    c.from_string.ensures.value
    ∙ printed_text c.args.n.now _ (string_bytes c.loop-id.text) (string_bytes c.in_ok-numbers.numbers) c.as_slice-id-items.result.now c.loop-id.id-index
    c.loop-id.invariant c.loop-id-test.false c.as_slice-id-items.ensures whole c.in_ok-numbers.ensures
