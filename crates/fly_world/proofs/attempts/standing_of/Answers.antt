use Rattle.std.proofs.Common.{◌≡◌, true, false, Some, option_map, is_some, sym, ◌∙◌, ap}
use Rattle.std.specs.Option.{option_copied}
use Rattle.fly_cast.proofs.Fits.{is_some-copied}
use Rattle.fly_attempts.specs.Parts.{handout_of, ending_of}
use Rattle.fly_attempts.specs.Attempts.{number_of, claim_at, settlement_at}
use Rattle.fly_world.specs.Store.{attempts_in}
use Rattle.fly_world.proofs.AttemptLemmas.{claim-launched, unclaimed-number, claimed-number, settled-number, going-by}
use Rattle.fly_world.proofs.attempts.standing_of.Goals as goal

pub returns-in_default : goal.returns-in_default
returns-in_default c = λ place at.
    let w = c.args.store.now.world in
    claim-launched w c.args.name.now c.requires.claimed_launched
    (ap (λ a. number_of a c.args.name.now) (sym c.attempts-attempts.ensures)
    ∙ sym c.in_ok-number.ensures ∙ c.in_default.is)

pub returns-in_default-claim_of : goal.returns-in_default-claim_of
returns-in_default-claim_of c = λ place at.
    let w = c.args.store.now.world in
    let name = c.args.name.now in
    let number = c.in-Some.number in
    unclaimed-number w name number
    (ap (λ a. number_of a name) (sym c.attempts-attempts.ensures) ∙ sym c.in_ok-number.ensures ∙ c.in-Some.is)
    (ap (λ a. option_map handout_of (claim_at a number)) (sym c.attempts-attempts.ensures)
    ∙ sym c.claim_of.ensures ∙ ap option_copied c.in_default-claim_of.is)

pub returns-then-is_some : goal.returns-then-is_some
returns-then-is_some c = λ place at.
    let w = c.args.store.now.world in
    let name = c.args.name.now in
    let number = c.in-Some.number in
    let numbered : number_of (attempts_in w) name ≡ Some number =
    ap (λ a. number_of a name) (sym c.attempts-attempts.ensures) ∙ sym c.in_ok-number.ensures ∙ c.in-Some.is in
    let claim = claimed-number w name number numbered c.in-Some-claim_of.handout.now
    (ap (λ a. option_map handout_of (claim_at a number)) (sym c.attempts-attempts.ensures)
    ∙ sym c.claim_of.ensures ∙ ap option_copied c.in-Some-claim_of.is) in (
      ap is_some claim.1,
      sym (settled-number w name number numbered)
          ∙ ap (λ a. is_some (option_map (ending_of number) (settlement_at a number)))
          (sym c.attempts-attempts.ensures)
          ∙ ap is_some (sym c.outcome_of.ensures) ∙ sym (is_some-copied c.outcome_of.result)
          ∙ sym c.is_some.ensures ∙ c.if-is_some.true,
    )

pub returns-then-is_overdue : goal.returns-then-is_overdue
returns-then-is_overdue c = λ place at.
    let name = c.args.name.now in
    let number = c.in-Some.number in
    going-by c.args.store.now place name number true c.in-Some-claim_of.handout.now
    (ap (λ a. number_of a name) (sym c.attempts-attempts.ensures) ∙ sym c.in_ok-number.ensures ∙ c.in-Some.is)
    (ap (λ a. option_map handout_of (claim_at a number)) (sym c.attempts-attempts.ensures)
    ∙ sym c.claim_of.ensures ∙ ap option_copied c.in-Some-claim_of.is)
    (ap (λ a. is_some (option_map (ending_of number) (settlement_at a number))) (sym c.attempts-attempts.ensures)
    ∙ ap is_some (sym c.outcome_of.ensures) ∙ sym (is_some-copied c.outcome_of.result)
    ∙ sym c.is_some.ensures ∙ c.if-is_some.false)
    (λ claim is. sym (c.is_overdue.ensures place claim at is) ∙ c.if-is_overdue.true)

pub returns-else-is_overdue : goal.returns-else-is_overdue
returns-else-is_overdue c = λ place at.
    let name = c.args.name.now in
    let number = c.in-Some.number in
    going-by c.args.store.now place name number false c.in-Some-claim_of.handout.now
    (ap (λ a. number_of a name) (sym c.attempts-attempts.ensures) ∙ sym c.in_ok-number.ensures ∙ c.in-Some.is)
    (ap (λ a. option_map handout_of (claim_at a number)) (sym c.attempts-attempts.ensures)
    ∙ sym c.claim_of.ensures ∙ ap option_copied c.in-Some-claim_of.is)
    (ap (λ a. is_some (option_map (ending_of number) (settlement_at a number))) (sym c.attempts-attempts.ensures)
    ∙ ap is_some (sym c.outcome_of.ensures) ∙ sym (is_some-copied c.outcome_of.result)
    ∙ sym c.is_some.ensures ∙ c.if-is_some.false)
    (λ claim is. sym (c.is_overdue.ensures place claim at is) ∙ c.if-is_overdue.false)
