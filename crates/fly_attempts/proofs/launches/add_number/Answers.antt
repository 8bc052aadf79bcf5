use Rattle.std.proofs.Common.{◌≡◌, refl, ◌∙◌, ap, [], ◌∷◌, ◌++◌}
use Rattle.fly_attempts.specs.Launches.{listed}
use Rattle.fly_attempts.proofs.LaunchLemmas.{listed_changed, listed_is}
use Rattle.fly_attempts.proofs.launches.add_number.Goals as goal

pub returns-in-Ok : goal.returns-in-Ok
returns-in-Ok c = λ t.
    let found = c.in-Some.ensures.value in
    let old = listed_is c.args.lists.now c.args.text.now c.in-Some.numbers.now found in
    let pushed : c.push.new.self.items ≡ listed c.args.lists.now c.args.text.now ++ c.args.number ∷ [] =
    c.in-Ok.ensures.items ∙ ap (λ xs. xs ++ c.args.number ∷ []) old in
    let written = (c.get_mut.follows.holds c.push.new.self).3 (rw (← found) refl) in
    listed_changed c.args.lists.now (c.get_mut.follows.lender c.push.new.self) c.args.text.now c.push.new.self
    written.0 (λ xs. xs ++ c.args.number ∷ [])
    pushed t
