use Rattle.std.proofs.Common.{◌≡◌, ◌^◌, ◌*◌, ◌<◌, ◌≤◌, ◌-◌, length, Some, None, ap, sym, ◌∙◌, arith, rules}
use Rattle.std.proofs.lemmas.Grind.{common_steps}
use Rattle.fly_scalars.proofs.DigitLemmas.{count, front_of, count_is, front-below, placed-below, billionths-some, billionths-many, billionths-none, below_nine}
use Rattle.fly_scalars.proofs.digits.billionths.Goals as goal

pub returns-in_err-value-clause-value : goal.returns-in_err-value-clause-value
returns-in_err-value-clause-value c = let none = billionths-none c.args.text.now c.in_err-value.ensures in first_of (search rules, grind (arith, common_steps))

pub overflow_sub-count : goal.overflow_sub-count
overflow_sub-count c =
    let front = front_of c.args.text.now c.in_ok-value.value c.in_ok-value.rest.now c.in_ok-value.ensures in
    (count_is c.args.text.now c.in_ok-value.value c.in_ok-value.rest.now front).0

pub returns-then-count-gt9-clause-value : goal.returns-then-count-gt9-clause-value
returns-then-count-gt9-clause-value c =
    let front = front_of c.args.text.now c.in_ok-value.value c.in_ok-value.rest.now c.in_ok-value.ensures in
    let counted = count_is c.args.text.now c.in_ok-value.value c.in_ok-value.rest.now front in
    sym (billionths-many c.args.text.now (omega (arith, counted.1)))

pub overflow_cast-result : goal.overflow_cast-result
overflow_cast-result c =
    let front = front_of c.args.text.now c.in_ok-value.value c.in_ok-value.rest.now c.in_ok-value.ensures in
    let counted = count_is c.args.text.now c.in_ok-value.value c.in_ok-value.rest.now front in
    let below = below_nine c.args.text.now c.in_ok-value.value c.in_ok-value.rest.now front (omega (arith, counted.1)) in
    omega (arith, below)

pub overflow_mul-result : goal.overflow_mul-result
overflow_mul-result c =
    let front = front_of c.args.text.now c.in_ok-value.value c.in_ok-value.rest.now c.in_ok-value.ensures in
    let counted = count_is c.args.text.now c.in_ok-value.value c.in_ok-value.rest.now front in
    let placed = placed-below c.in_ok-value.value (count c.args.text.now) (omega (arith, counted.1)) (front-below c.args.text.now c.in_ok-value.value c.in_ok-value.rest.now front) in
    let same : c.in_ok-value.value * c.pow.result ≡ c.in_ok-value.value * 10 ^ (9 - count c.args.text.now) = ap (λ x. c.in_ok-value.value * x) (c.pow.ensures ∙ ap (λ n. 10 ^ (9 - n)) counted.1) in
    omega (arith, placed, same)

pub returns-clause-value : goal.returns-clause-value
returns-clause-value c =
    let front = front_of c.args.text.now c.in_ok-value.value c.in_ok-value.rest.now c.in_ok-value.ensures in
    let counted = count_is c.args.text.now c.in_ok-value.value c.in_ok-value.rest.now front in
    ap (λ x. Some (c.in_ok-value.value * x, c.in_ok-value.rest.now)) (c.pow.ensures ∙ ap (λ n. 10 ^ (9 - n)) counted.1)
    ∙ sym (billionths-some c.args.text.now c.in_ok-value.value c.in_ok-value.rest.now front (omega (arith, counted.1)))

pub returns-clause-bound : goal.returns-clause-bound
returns-clause-bound c =
    let front = front_of c.args.text.now c.in_ok-value.value c.in_ok-value.rest.now c.in_ok-value.ensures in
    let counted = count_is c.args.text.now c.in_ok-value.value c.in_ok-value.rest.now front in
    let placed = placed-below c.in_ok-value.value (count c.args.text.now) (omega (arith, counted.1)) (front-below c.args.text.now c.in_ok-value.value c.in_ok-value.rest.now front) in
    let same : c.in_ok-value.value * c.pow.result ≡ c.in_ok-value.value * 10 ^ (9 - count c.args.text.now) = ap (λ x. c.in_ok-value.value * x) (c.pow.ensures ∙ ap (λ n. 10 ^ (9 - n)) counted.1) in
    omega (arith, placed, same)
