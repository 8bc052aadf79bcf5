use Rattle.std.proofs.Common.{get_or, ◌≢◌, sym, ◌∙◌, arith}
use Rattle.std.proofs.lemmas.Bool.{false≢true}
use Rattle.std.proofs.lemmas.Str.Pattern.{starts_char}
use Rattle.fly_scalars.proofs.WholeLemmas.{i64_parsed, i64-plus}
use Rattle.fly_scalars.proofs.whole.read_i64.Goals as goal

pub returns-then-starts_with : goal.returns-then-starts_with
returns-then-starts_with c =
    sym (i64-plus c.args.text.now ((starts_char 43 c.args.text.now _ c.starts_with.ensures.cases (omega arith) (omega arith)).0 c.if-starts_with.true))

pub returns : goal.returns
returns c =
    let plain : get_or c.args.text.now 0 0 ≢ 43 = λ plus. false≢true (sym c.if-starts_with.false ∙ (starts_char 43 c.args.text.now _ c.starts_with.ensures.cases (omega arith) (omega arith)).1 plus) in
    c.ok.ensures.value ∙ i64_parsed c.args.text.now c.parse.result plain c.parse.ensures.value.0
