use Rattle.std.proofs.Common.{Some, true, false, option_map, sym, ◌∙◌, ap, subst}
use Rattle.fly_policy.specs.declared.outcome.Outcome.TheVariants as outcomes
use Rattle.fly_state.specs.declared.entries.Reply.TheVariants as replies
use Rattle.fly_world.specs.declared.answers.Answer as made
use Rattle.fly_world.specs.declared.answers.Change.TheVariants as changes
use Rattle.fly_world.specs.Answers.{answer_of, change_of, CanMake}
use Rattle.fly_world.specs.Attempts.{Stands}
use Rattle.fly_world.specs.Spots.{attempt_spot}
use Rattle.fly_world.specs.Steps.{does, is_outcome_at}
use Rattle.fly_world.specs.Store.{spot_at}
use Rattle.fly_world.proofs.AttemptLemmas.{found-spot, joined-spot, outcome-known, finished-over, finished-going, going-outcome, going-settles}
use Rattle.fly_world.proofs.attempts.on_finish.Goals as goal

pub returns-in-Overdue-clause-answer : goal.returns-in-Overdue-clause-answer
returns-in-Overdue-clause-answer c =
    let s = c.args.store.now in
    let name = c.args.name.now in
    let o = c.args.outcome.now in
    let number = c.in-Overdue.number in
    let found = found-spot (spot_at s.plan s.world c.in-Some.spot) (attempt_spot s.plan s.world name)
    (sym (ap (option_map (spot_at s.plan s.world)) c.in-Some.is) ∙ c.attempt_spot-spot.ensures) in
    let going = subst (Stands s found.0 name) c.in-Overdue.is (c.in_ok-standing_of.ensures found.0 found.2) in
    let is_one = ap (is_outcome_at s.plan o) (sym (joined-spot (spot_at s.plan s.world) c.attempt_spot-spot.result
    (attempt_spot s.plan s.world name) c.attempt_spot-spot.ensures))
    ∙ sym c.is_outcome_at.ensures ∙ c.if-not-is_outcome_at.false in
    ap (λ a. Some (answer_of s.plan s.world a)) c.timed_out.ensures
    ∙ ap (λ change. Some (does replies.Expired change))
    (going-outcome s name found.0 number true outcomes.TimedOut going)
    ∙ sym (outcome-known s.plan s.world name o found.0 is_one
    (sym c.are_ids.ensures ∙ c.if-not-are_ids.false) found.1
    ∙ ap Some (finished-over s name found.0 number o going))

pub returns-in-Overdue-clause-change : goal.returns-in-Overdue-clause-change
returns-in-Overdue-clause-change c =
    let s = c.args.store.now in
    let name = c.args.name.now in
    let found = found-spot (spot_at s.plan s.world c.in-Some.spot) (attempt_spot s.plan s.world name)
    (sym (ap (option_map (spot_at s.plan s.world)) c.in-Some.is) ∙ c.attempt_spot-spot.ensures) in
    let going = subst (Stands s found.0 name) c.in-Overdue.is (c.in_ok-standing_of.ensures found.0 found.2) in
    subst (λ (a : made.Answer). CanMake s a.change) (sym c.timed_out.ensures)
    (going-settles s found.0 name c.in-Overdue.number true outcomes.TimedOut going)

pub returns-in_ok-copy-in-Going-clause-answer : goal.returns-in_ok-copy-in-Going-clause-answer
returns-in_ok-copy-in-Going-clause-answer c =
    let s = c.args.store.now in
    let name = c.args.name.now in
    let o = c.args.outcome.now in
    let number = c.in-Going.number in
    let found = found-spot (spot_at s.plan s.world c.in-Some.spot) (attempt_spot s.plan s.world name)
    (sym (ap (option_map (spot_at s.plan s.world)) c.in-Some.is) ∙ c.attempt_spot-spot.ensures) in
    let going = subst (Stands s found.0 name) c.in-Going.is (c.in_ok-standing_of.ensures found.0 found.2) in
    let is_one = ap (is_outcome_at s.plan o) (sym (joined-spot (spot_at s.plan s.world) c.attempt_spot-spot.result
    (attempt_spot s.plan s.world name) c.attempt_spot-spot.ensures))
    ∙ sym c.is_outcome_at.ensures ∙ c.if-not-is_outcome_at.false in
    (λ i. Some (does replies.Recorded
    (change_of s.plan s.world (changes.Outcome number (c.in_ok-copy-in-Going.ensures i)))))
    ∙ ap (λ change. Some (does replies.Recorded change)) (going-outcome s name found.0 number false o going)
    ∙ sym (outcome-known s.plan s.world name o found.0 is_one
    (sym c.are_ids.ensures ∙ c.if-not-are_ids.false) found.1
    ∙ ap Some (finished-going s name found.0 number o going))

pub returns-in_ok-copy-in-Going-clause-change : goal.returns-in_ok-copy-in-Going-clause-change
returns-in_ok-copy-in-Going-clause-change c =
    let s = c.args.store.now in
    let name = c.args.name.now in
    let found = found-spot (spot_at s.plan s.world c.in-Some.spot) (attempt_spot s.plan s.world name)
    (sym (ap (option_map (spot_at s.plan s.world)) c.in-Some.is) ∙ c.attempt_spot-spot.ensures) in
    let going = subst (Stands s found.0 name) c.in-Going.is (c.in_ok-standing_of.ensures found.0 found.2) in
    going-settles s found.0 name c.in-Going.number false c.in_ok-copy-in-Going.field-0 going
