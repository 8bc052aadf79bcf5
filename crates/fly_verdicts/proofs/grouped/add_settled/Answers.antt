use Rattle.std.proofs.Common.{◌∷◌, ◌++◌, [], option_to_list, sym, ap, ◌∙◌}
use Rattle.std.proofs.lemmas.Result.{on_ok_weaker}
use Rattle.fly_verdicts.specs.Grouped.{lists_of, more_at, settled_at}
use Rattle.fly_verdicts.proofs.GroupLemmas.{lists-alike, settled-numbered}
use Rattle.fly_verdicts.proofs.grouped.add_settled.Goals as goal

pub returns-in-Some-get : goal.returns-in-Some-get
returns-in-Some-get c =
    let numbers = c.args.numbers.now in
    let e = c.args.entry.now in
    let r = c.in-Some.settled in
    let number = c.in-Some-get.number.now in
    on_ok_weaker c.push_at.result (λ pushed. λ count of has.
    lists-alike 0 count (more_at of number (r ∷ [])) (λ i. of i ++ settled_at numbers i (e ∷ []))
    (lists_of c.push_at.new.table.items)
    (λ i. ap (λ xs. of i ++ xs) (sym (settled-numbered numbers i number e r
    (ap option_to_list (sym c.in-Some.is) ∙ c.in_ok-settled.ensures) (sym c.in-Some-get.ensures.value))))
    (pushed count of has)) c.push_at.ensures
