use Rattle.std.proofs.Common.{Some, None, cond, option_map, ap, sym, ◌∙◌, slice_get}
use Rattle.std.proofs.lemmas.Option.{IfSome_then}
use Rattle.fly_attempts.specs.Parts.{ending_of}
use Rattle.fly_attempts.specs.Attempts.{AttemptLists, settlement_at}
use Rattle.fly_world.proofs.LaunchViews.{outcome-before}
use Rattle.fly_world.proofs.views.outcome_before.Goals as goal

pub returns-in_ok-copy-in-Some : goal.returns-in_ok-copy-in-Some
returns-in_ok-copy-in-Some c =
    let s = c.args.store.now in
    let at = λ (a : AttemptLists). option_map (ending_of c.args.number) (settlement_at a c.args.number) in
    IfSome_then (slice_get s.world.launches c.args.number)
    (outcome-before s c.requires c.args.end c.args.number (Some c.in-Some.ending.now)
    (c.in-Some.ensures ∙ ap at c.attempts.ensures))
    (λ l h. ap Some c.in_ok-copy-in-Some.ensures
    ∙ sym (ap (λ b. cond b (Some c.in-Some.ending.now.outcome) None)
    (sym c.stands_before.ensures ∙ c.if-stands_before.true))
    ∙ h)

pub returns-else-stands_before : goal.returns-else-stands_before
returns-else-stands_before c =
    let s = c.args.store.now in
    let at = λ (a : AttemptLists). option_map (ending_of c.args.number) (settlement_at a c.args.number) in
    IfSome_then (slice_get s.world.launches c.args.number)
    (outcome-before s c.requires c.args.end c.args.number (Some c.in-Some.ending.now)
    (c.in-Some.ensures ∙ ap at c.attempts.ensures))
    (λ l h. sym (ap (λ b. cond b (Some c.in-Some.ending.now.outcome) None)
    (sym c.stands_before.ensures ∙ c.if-stands_before.false))
    ∙ h)

pub returns-in-None : goal.returns-in-None
returns-in-None c =
    let s = c.args.store.now in
    let at = λ (a : AttemptLists). option_map (ending_of c.args.number) (settlement_at a c.args.number) in
    outcome-before s c.requires c.args.end c.args.number None (c.in-None.ensures ∙ ap at c.attempts.ensures)
