use Rattle.std.proofs.Common.{Some, None, option_map, ap, ◌∙◌, slice_get}
use Rattle.std.proofs.lemmas.Option.{IfSome_then}
use Rattle.fly_attempts.specs.Parts.{handout_of}
use Rattle.fly_attempts.specs.Attempts.{AttemptLists, claim_at}
use Rattle.fly_world.proofs.LaunchViews.{claimed-before}
use Rattle.fly_world.proofs.views.was_claimed.Goals as goal

pub returns-in-Some : goal.returns-in-Some
returns-in-Some c =
    let s = c.args.store.now in
    let at = λ (a : AttemptLists). option_map handout_of (claim_at a c.args.number) in
    IfSome_then (slice_get s.world.launches c.args.number)
    (claimed-before s c.requires c.args.end c.args.number (Some c.in-Some.handout.now)
    (c.in-Some.ensures ∙ ap at c.attempts.ensures))
    (λ l h. c.stands_before.ensures ∙ h)

pub returns-in-None : goal.returns-in-None
returns-in-None c =
    let s = c.args.store.now in
    let at = λ (a : AttemptLists). option_map handout_of (claim_at a c.args.number) in
    claimed-before s c.requires c.args.end c.args.number None (c.in-None.ensures ∙ ap at c.attempts.ensures)
