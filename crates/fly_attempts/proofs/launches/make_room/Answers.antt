use Rattle.std.proofs.Common.{◌+◌, ◌≤◌, refl, ◌∙◌, vec_len, vec_capacity, arith}
use Rattle.fly_attempts.proofs.LaunchLemmas.{listed_alike, listed_is}
use Rattle.fly_attempts.proofs.launches.make_room.Goals as goal

pub returns-in_err-reserve-clause-same : goal.returns-in_err-reserve-clause-same
returns-in_err-reserve-clause-same c = λ t.
    let found = c.in-Some.ensures.value in
    let written = (c.get_mut.follows.holds c.reserve.new.self).3 (rw (← found) refl) in
    listed_alike c.add_text.new.lists (c.get_mut.follows.lender c.reserve.new.self) c.args.text.now c.reserve.new.self
    written.0 (c.reserve.ensures.items
    ∙ listed_is c.add_text.new.lists c.args.text.now c.in-Some.numbers.now found) t
    ∙ c.add_text.ensures.same t

pub returns-in_ok-reserve-clause-same : goal.returns-in_ok-reserve-clause-same
returns-in_ok-reserve-clause-same c = λ t.
    let found = c.in-Some.ensures.value in
    let written = (c.get_mut.follows.holds c.reserve.new.self).3 (rw (← found) refl) in
    listed_alike c.add_text.new.lists (c.get_mut.follows.lender c.reserve.new.self) c.args.text.now c.reserve.new.self
    written.0 (c.reserve.ensures.items
    ∙ listed_is c.add_text.new.lists c.args.text.now c.in-Some.numbers.now found) t
    ∙ c.add_text.ensures.same t

pub returns-in_ok-reserve-clause-room : goal.returns-in_ok-reserve-clause-room
returns-in_ok-reserve-clause-room c =
    let found = c.in-Some.ensures.value in
    let written = (c.get_mut.follows.holds c.reserve.new.self).3 (rw (← found) refl) in
    let room : vec_len c.reserve.new.self + 1 ≤ vec_capacity c.reserve.new.self = c.in_ok-reserve.ensures.ok in
    (c.reserve.new.self, written.1, omega (arith, room))
