use Rattle.std.proofs.Common.{[], ◌∷◌, ◌++◌, ◌/◌, ◌%◌, Some, FitsSigned, w64, ap, sym, ◌∙◌}
use Rattle.std.proofs.lemmas.Int.{to_z-of_z}
use Rattle.jiff_fmt.specs.Text.{date_text, time_text}
use Rattle.fly_scalars.specs.Datetime.{datetime_of}
use Rattle.fly_scalars.proofs.DatetimeLemmas.{datetime_reads, text_is}
use Rattle.fly_scalars.proofs.datetime.write_datetime.Goals as goal

pub returns-clause-text : goal.returns-clause-text
returns-clause-text c =
    let range : FitsSigned w64 c.args.seconds = c.ranges.seconds in
    let second = simp to_z-of_z at c.second_of_day.ensures.value in
    let day = simp to_z-of_z at c.date_of-date.ensures in
    let date = c.date_of-date.result in
    let time = c.time_of-time.result in
    let written = c.in_ok-text.ensures.ok ∙ c.as_str.ensures.value ∙ c.printed-written.ensures ∙ ap (λ k. date_text date ++ 84 ∷ time_text (Some k) time) c.fraction_digits.ensures in
    c.in_ok-push_str.ensures.bytes ∙ ap (λ x. x ++ 90 ∷ []) written
    ∙ text_is (record { seconds = c.args.seconds; nanos = c.args.nanos }) date time c.requires day
    (c.time_of-time.ensures.hour ∙ ap (λ s. s / 3600) second) (c.time_of-time.ensures.minute ∙ ap (λ s. s / 60 % 60) second)
    (c.time_of-time.ensures.second ∙ ap (λ s. s % 60) second) c.time_of-time.ensures.nanos

pub returns-clause-reads_back : goal.returns-clause-reads_back
returns-clause-reads_back c =
    let range : FitsSigned w64 c.args.seconds = c.ranges.seconds in
    let second = simp to_z-of_z at c.second_of_day.ensures.value in
    let day = simp to_z-of_z at c.date_of-date.ensures in
    let date = c.date_of-date.result in
    let time = c.time_of-time.result in
    let written = c.in_ok-text.ensures.ok ∙ c.as_str.ensures.value ∙ c.printed-written.ensures ∙ ap (λ k. date_text date ++ 84 ∷ time_text (Some k) time) c.fraction_digits.ensures in
    let text = c.in_ok-push_str.ensures.bytes ∙ ap (λ x. x ++ 90 ∷ []) written
    ∙ text_is (record { seconds = c.args.seconds; nanos = c.args.nanos }) date time c.requires day
    (c.time_of-time.ensures.hour ∙ ap (λ s. s / 3600) second) (c.time_of-time.ensures.minute ∙ ap (λ s. s / 60 % 60) second)
    (c.time_of-time.ensures.second ∙ ap (λ s. s % 60) second) c.time_of-time.ensures.nanos in
    ap datetime_of text ∙ datetime_reads (record { seconds = c.args.seconds; nanos = c.args.nanos }) date c.requires day
