use Rattle.std.proofs.Common.{◌==◌, ◌∷◌, ◌++◌, List, [], cond, flat_map, sym, ap, ◌∙◌}
use Rattle.std.proofs.lemmas.Result.{on_ok_weaker}
use Rattle.fly_state.specs.declared.moves.Move.{Move}
use Rattle.fly_world.specs.ReadOff.{hits_of_move}
use Rattle.fly_verdicts.specs.Grouped.{lists_of, more_at, answered_at}
use Rattle.fly_verdicts.proofs.GroupLemmas.{lists-alike, answered-numbered}
use Rattle.fly_verdicts.proofs.grouped.add_answered.Goals as goal

pub returns-in-Some : goal.returns-in-Some
returns-in-Some c =
    let numbers = c.args.numbers.now in
    let es = c.args.world.now.world.entries in
    let e = c.args.entry.now in
    let number = c.in-Some.number.now in
    let it = c.in-Write-Written in
    on_ok_weaker c.add_answers.result (λ added. λ count of has.
    lists-alike 0 count (more_at of number (flat_map (hits_of_move es) c.as_slice.result.now))
    (λ i. of i ++ answered_at es numbers i (e ∷ [])) (lists_of c.add_answers.new.table.items)
    (λ i. ap (λ xs. of i ++ xs)
    (ap (λ (ms : List Move). cond (number == i) (flat_map (hits_of_move es) ms) []) c.as_slice.ensures
    ∙ sym (answered-numbered numbers es i number e it.exec it.base-0 it.field-0-1 it.moves it.is-0 it.is-1
    (sym c.in-Some.ensures.value))))
    (added count of has)) c.add_answers.ensures
