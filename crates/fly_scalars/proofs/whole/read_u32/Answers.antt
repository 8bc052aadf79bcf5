use Rattle.std.proofs.Common.{arith, rules, sym, ap, ◌∙◌, FitsSigned, w64}
use Rattle.std.proofs.lemmas.Grind.{common_steps}
use Rattle.std.proofs.lemmas.Int.{to_z-of_z}
use Rattle.fly_scalars.specs.Whole.{narrow}
use Rattle.fly_scalars.specs.Digits.{◌>>=◌}
use Rattle.fly_scalars.proofs.WholeLemmas.{u32-narrow, i64_fits}
use Rattle.fly_scalars.proofs.whole.read_u32.Goals as goal

pub returns-in_err-value : goal.returns-in_err-value
returns-in_err-value c = let split = u32-narrow c.args.text.now in first_of (search rules, grind (arith, common_steps))

pub returns : goal.returns
returns c =
    let range : FitsSigned w64 c.in_ok-value.value = i64_fits c.args.text.now c.in_ok-value.value c.in_ok-value.ensures in
    let narrowed = simp to_z-of_z at c.narrow.ensures in
    narrowed ∙ ap (λ o. o >>= narrow) c.in_ok-value.ensures ∙ sym (u32-narrow c.args.text.now)
