use Rattle.std.proofs.Common.{[], ◌∷◌, ◌++◌, FitsSigned, w64, w32, nat_abs, ap, sym, ◌∙◌}
use Rattle.std.proofs.lemmas.Int.{to_z-of_z}
use Rattle.std.specs.Fmt.{decimal}
use Rattle.fly_scalars.specs.Datetime.{fraction_text}
use Rattle.fly_scalars.specs.Duration.{duration_of, duration_text}
use Rattle.fly_scalars.proofs.DurationLemmas.{duration_reads}
use Rattle.fly_scalars.proofs.duration.write_duration.Goals as goal

pub returns-clause-text : goal.returns-clause-text
unfolding duration_text
returns-clause-text c =
    let range : FitsSigned w64 c.args.seconds = c.ranges.seconds in
    let small : FitsSigned w32 c.args.nanos = c.ranges.nanos in
    let seconds = simp to_z-of_z at c.unsigned_abs-seconds.ensures.value in
    let nanos = simp to_z-of_z at c.unsigned_abs.ensures.value in
    let sign = simp to_z-of_z at c.sign-sign.ensures in
    c.in_ok-push_str.ensures.bytes
    ∙ ap (λ x. x ++ 115 ∷ []) (c.in_ok-push_fraction.ensures ∙ ap (λ x. x ++ fraction_text c.unsigned_abs.result) c.in_ok-text.ensures.ok)
    ∙ ap (λ x. ((c.sign-sign.result.now ++ decimal x) ++ fraction_text c.unsigned_abs.result) ++ 115 ∷ []) seconds
    ∙ ap (λ x. ((c.sign-sign.result.now ++ decimal (nat_abs c.args.seconds)) ++ fraction_text x) ++ 115 ∷ []) nanos
    ∙ ap (λ x. ((x ++ decimal (nat_abs c.args.seconds)) ++ fraction_text (nat_abs c.args.nanos)) ++ 115 ∷ []) sign

pub returns-clause-reads_back : goal.returns-clause-reads_back
unfolding duration_text
returns-clause-reads_back c = λ sound.
    let range : FitsSigned w64 c.args.seconds = c.ranges.seconds in
    let small : FitsSigned w32 c.args.nanos = c.ranges.nanos in
    let seconds = simp to_z-of_z at c.unsigned_abs-seconds.ensures.value in
    let nanos = simp to_z-of_z at c.unsigned_abs.ensures.value in
    let sign = simp to_z-of_z at c.sign-sign.ensures in
    ap duration_of
    (c.in_ok-push_str.ensures.bytes
    ∙ ap (λ x. x ++ 115 ∷ []) (c.in_ok-push_fraction.ensures ∙ ap (λ x. x ++ fraction_text c.unsigned_abs.result) c.in_ok-text.ensures.ok)
    ∙ ap (λ x. ((c.sign-sign.result.now ++ decimal x) ++ fraction_text c.unsigned_abs.result) ++ 115 ∷ []) seconds
    ∙ ap (λ x. ((c.sign-sign.result.now ++ decimal (nat_abs c.args.seconds)) ++ fraction_text x) ++ 115 ∷ []) nanos
    ∙ ap (λ x. ((x ++ decimal (nat_abs c.args.seconds)) ++ fraction_text (nat_abs c.args.nanos)) ++ 115 ∷ []) sign)
    ∙ duration_reads (record { seconds = c.args.seconds; nanos = c.args.nanos }) sound
