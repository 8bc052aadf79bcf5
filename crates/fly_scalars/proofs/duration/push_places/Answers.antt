use Rattle.std.proofs.Common.{◌≡◌, suc, ◌+◌, ◌-◌, ◌*◌, ◌/◌, ◌^◌, ◌<◌, ◌≤◌, ◌%◌, ◌++◌, ◌∷◌, [], append_assoc, ap, sym, ◌∙◌, arith}
use Rattle.std.proofs.lemmas.List.{append-nil}
use Rattle.std.specs.String.{string_bytes}
use Rattle.std.proofs.lemmas.Nat.{div_below}
use native.Mathlib.Nat.{mod-lt, pow-suc}
use Rattle.jiff_fmt.specs.Text.{places}
use Rattle.jiff_fmt.proofs.TextLemmas.{places-step, places-end}
use Rattle.jiff_fmt.proofs.ReaderLemmas.{tenth, ten_pow-pos}
use Rattle.fly_scalars.proofs.duration.push_places.Goals as goal

pub nonzero_div-left : goal.nonzero_div-left
nonzero_div-left c =
    let l = c.loop-written in
    let j = 9 - (l.written + 1) in
    let next : 9 - l.written ≡ suc j = omega arith in
    let place : l.place / 10 ≡ 10 ^ j = omega (arith, tenth _ j next) in
    omega (arith, place, ten_pow-pos j)

pub nonzero_rem-left : goal.nonzero_rem-left
nonzero_rem-left c =
    let l = c.loop-written in
    let j = 9 - (l.written + 1) in
    let next : 9 - l.written ≡ suc j = omega arith in
    let place : l.place / 10 ≡ 10 ^ j = omega (arith, tenth _ j next) in
    omega (arith, place, ten_pow-pos j)

pub push_digit-requires : goal.push_digit-requires
push_digit-requires c =
    let l = c.loop-written in
    let j = 9 - (l.written + 1) in
    let next : 9 - l.written ≡ suc j = omega arith in
    let place : l.place / 10 ≡ 10 ^ j = omega (arith, tenth _ j next) in
    let whole : l.place ≡ 10 * (l.place / 10) = l.invariant.0 ∙ ap (λ i. 10 ^ i) next ∙ omega (arith, place, pow-suc 10 j) in
    div_below l.left (l.place / 10) 10 (omega (arith, place, ten_pow-pos j)) (omega (arith, whole))

pub loop-written-preserved : goal.loop-written-preserved
loop-written-preserved c =
    let l = c.loop-written in
    let j = 9 - (l.written + 1) in
    let next : 9 - l.written ≡ suc j = omega arith in
    let place : l.place / 10 ≡ 10 ^ j = omega (arith, tenth _ j next) in
    let positive : 0 < l.place / 10 = omega (arith, place, ten_pow-pos j) in
    let step = places-step (c.args.digits - l.written) (c.args.digits - (l.written + 1)) l.place l.left (omega arith) in
    let digit = l.left / (l.place / 10) in
    let rest = places (c.args.digits - (l.written + 1)) (l.place / 10) (l.left % (l.place / 10)) in
    let text = c.in_ok-push_digit.ensures in (
      place,
      mod-lt l.left positive,
      ap (λ t. t ++ rest) text ∙ append_assoc (string_bytes l.text) ((48 + digit) ∷ []) rest ∙ ap (λ x. string_bytes l.text ++ x) (sym step) ∙ l.invariant.2,
    )

pub returns : goal.returns
returns c =
    let l = c.loop-written in
    let none = places-end (c.args.digits - l.written) l.place l.left (omega arith) in
    sym (append-nil (string_bytes l.text)) ∙ ap (λ x. string_bytes l.text ++ x) (sym none) ∙ l.invariant.2
