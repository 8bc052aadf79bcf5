use Rattle.std.proofs.Common.{◌<◌, ℕ, List, length, flat_map, option_to_list, refl, subst, arith}
use Rattle.std.proofs.lemmas.List.{take_all}
use Rattle.std.proofs.lemmas.Option.{slice_get-get_or}
use Rattle.fly_state.specs.declared.moves.Move.{Move}
use Rattle.fly_world.specs.ReadOff.{hits_of_move}
use Rattle.fly_verdicts.specs.Grouped.{Answered, lists_of, HasLists, more_at}
use Rattle.fly_verdicts.proofs.GroupLemmas.{cited-next, nothing-more}
use Rattle.fly_verdicts.proofs.grouped.add_answers.Goals as goal

pub loop-cited-init : goal.loop-cited-init
loop-cited-init c = (refl, λ count of has. nothing-more c.args.number count of (lists_of c.args.table.now.items) has)

pub loop-cited-preserved : goal.loop-cited-preserved
loop-cited-preserved c =
    let moves = c.args.moves.now in
    let at = c.loop-cited.cited-index in
    let within : at < length moves = omega arith in
    cited-next c.args.world.now.world.entries c.args.number moves at _ (slice_get-get_or moves at _ within)
    (option_to_list c.in_ok-answered.answered) c.in_ok-answered.ensures c.args.table.now.items c.loop-cited.table.items
    c.push_found.new.table.items c.loop-cited.invariant c.in_ok-push_found.ensures

pub returns : goal.returns
returns c =
    let moves = c.args.moves.now in
    subst (λ (front : List Move). (count : ℕ) (of : ℕ → List Answered)
    → HasLists count of (lists_of c.args.table.now.items)
    → HasLists count (more_at of c.args.number (flat_map (hits_of_move c.args.world.now.world.entries) front))
    (lists_of c.loop-cited.table.items))
    (take_all c.loop-cited.cited-index moves (omega arith)) c.loop-cited.invariant.1
