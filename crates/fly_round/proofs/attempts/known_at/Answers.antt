use Rattle.std.proofs.Common.{option_and_then, sym, ap, ◌∙◌}
use Rattle.std.specs.List.{slice_get}
use Rattle.fly_state.proofs.PlanLemmas.{found_by_place}
use Rattle.fly_round.specs.Attempts.{is_present}
use Rattle.fly_round.proofs.attempts.known_at.Goals as goal

pub returns-in-Some : goal.returns-in-Some
returns-in-Some c = λ plan p planned has.
    let v = c.args.v.now in
    c.get.ensures
    ∙ ap (option_and_then (slice_get v.launches)) (c.in-Some.ensures _ (has c.args.number p planned))
    ∙ sym (found_by_place (is_present v c.args.number p) v.launches)

pub returns-in-None : goal.returns-in-None
returns-in-None c = λ plan p planned has.
    let v = c.args.v.now in
    ap (option_and_then (slice_get v.launches)) (c.in-None.ensures _ (has c.args.number p planned))
    ∙ sym (found_by_place (is_present v c.args.number p) v.launches)
