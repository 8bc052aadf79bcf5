use Rattle.std.proofs.Common.{ap, sym, subst, ◌∙◌, length, take, drop, arith}
use Rattle.std.specs.Str.{IsUtf8}
use Rattle.std.specs.Str.Parse.{ParsesUnsigned}
use Rattle.fly_scalars.proofs.DigitLemmas.{count, front_utf8, parsed, parsed_front}
use Rattle.fly_scalars.proofs.digits.number.Goals as goal

pub returns-in_default : goal.returns-in_default
returns-in_default c =
    let text = c.args.text.now in
    let utf8 : IsUtf8 c.split_at.result.0.now = subst (λ bs. IsUtf8 bs) (sym (c.split_at.ensures.front ∙ ap (λ n. take n text) c.digits_len.ensures.len)) (front_utf8 text) in
    absurd (c.in_default.ensures.cases.0 utf8)

pub returns-in-Ok-parse : goal.returns-in-Ok-parse
returns-in-Ok-parse c =
    let text = c.args.text.now in
    let digits = c.in-Ok.ensures.cases.0 ∙ c.split_at.ensures.front ∙ ap (λ n. take n text) c.digits_len.ensures.len in
    let rest = c.split_at.ensures.back ∙ ap (λ n. drop n text) c.digits_len.ensures.len in
    let told = parsed text c.parse.result (subst (λ ds. ParsesUnsigned 64 10 ds c.parse.result) digits c.parse.ensures.value.0) in
    ap (λ r. parsed_front r c.split_at.result.1.now) (sym c.in-Ok-parse.is) ∙ ap (λ back. parsed_front c.parse.result back) rest ∙ told

pub returns-in-Err : goal.returns-in-Err
returns-in-Err c =
    let text = c.args.text.now in
    let digits = c.in-Ok.ensures.cases.0 ∙ c.split_at.ensures.front ∙ ap (λ n. take n text) c.digits_len.ensures.len in
    let told = parsed text c.parse.result (subst (λ ds. ParsesUnsigned 64 10 ds c.parse.result) digits c.parse.ensures.value.0) in
    ap (λ r. parsed_front r (drop (count text) text)) (sym c.in-Err.is) ∙ told
