use Rattle.std.proofs.Common.{arith}
use Rattle.std.proofs.lemmas.Str.Pattern.{starts_char}
use Rattle.fly_docs.proofs.NameTexts.{plus_is_no_number, zero_is_no_number}
use Rattle.fly_docs.proofs.naming.read_number.Goals as goal

pub returns-then-starts_with : goal.returns-then-starts_with
returns-then-starts_with c = λ n small e.
    plus_is_no_number c.args.text.now n (omega arith) ((starts_char 43 c.args.text.now _ c.starts_with.ensures.cases (omega arith) (omega arith)).0 c.if-starts_with.true) e

pub returns-then-starts_with-2 : goal.returns-then-starts_with-2
returns-then-starts_with-2 c = λ n small e.
    let first = (starts_char 48 c.args.text.now _ c.starts_with-2.ensures.cases (omega arith) (omega arith)).0 c.if-starts_with-2.true in
    zero_is_no_number c.args.text.now n (omega arith) first c.if-text-le1.false e
