use Rattle.std.proofs.Common.{Some, true, option_map, sym, ◌∙◌, ap, subst}
use Rattle.fly_policy.specs.declared.outcome.Outcome.TheVariants as outcomes
use Rattle.fly_state.specs.declared.entries.Reply.TheVariants as replies
use Rattle.fly_world.specs.declared.answers.Answer as made
use Rattle.fly_world.specs.Answers.{answer_of, CanMake}
use Rattle.fly_world.specs.Attempts.{Stands}
use Rattle.fly_world.specs.Spots.{attempt_spot}
use Rattle.fly_world.specs.Steps.{does, expired}
use Rattle.fly_world.specs.Store.{spot_at}
use Rattle.fly_world.proofs.AttemptLemmas.{found-spot, attempt-known, expired-over, going-outcome, going-settles}
use Rattle.fly_world.proofs.attempts.on_expire.Goals as goal

pub returns-in-Overdue-clause-answer : goal.returns-in-Overdue-clause-answer
returns-in-Overdue-clause-answer c =
    let s = c.args.store.now in
    let name = c.args.name.now in
    let number = c.in-Overdue.number in
    let found = found-spot (spot_at s.plan s.world c.in-Some.spot) (attempt_spot s.plan s.world name)
    (sym (ap (option_map (spot_at s.plan s.world)) c.in-Some.is) ∙ c.attempt_spot.ensures) in
    let going = subst (Stands s found.0 name) c.in-Overdue.is (c.in_ok-standing_of.ensures found.0 found.2) in
    ap (λ a. Some (answer_of s.plan s.world a)) c.timed_out.ensures
    ∙ ap (λ change. Some (does replies.Expired change))
    (going-outcome s name found.0 number true outcomes.TimedOut going)
    ∙ sym (attempt-known s.plan s.world name (expired s.plan s.world name) found.0
    (sym c.are_ids.ensures ∙ c.if-not-are_ids.false) found.1
    ∙ ap Some (expired-over s name found.0 number going))

pub returns-in-Overdue-clause-change : goal.returns-in-Overdue-clause-change
returns-in-Overdue-clause-change c =
    let s = c.args.store.now in
    let name = c.args.name.now in
    let found = found-spot (spot_at s.plan s.world c.in-Some.spot) (attempt_spot s.plan s.world name)
    (sym (ap (option_map (spot_at s.plan s.world)) c.in-Some.is) ∙ c.attempt_spot.ensures) in
    let going = subst (Stands s found.0 name) c.in-Overdue.is (c.in_ok-standing_of.ensures found.0 found.2) in
    subst (λ (a : made.Answer). CanMake s a.change) (sym c.timed_out.ensures)
    (going-settles s found.0 name c.in-Overdue.number true outcomes.TimedOut going)
