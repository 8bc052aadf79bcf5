use Rattle.std.proofs.Common.{◌≡◌, length, ◌∙◌}
use Rattle.fly_attempts.proofs.LaunchLemmas.{indexed_more}
use Rattle.fly_attempts.proofs.launches.Launches.push.Goals as goal

pub invariant_of-self-2 : goal.invariant_of-self-2
invariant_of-self-2 c =
    let f = c.self.inside in
    let number : c.len-number.result ≡ length f.items.items =
    c.len-number.ensures ∙ c.reserve.ensures.len ∙ f.items.ok.0 in
    let absent = rw (← c.self.view_is) at c.requires in
    rw (c.in-Ok.ensures.items, c.reserve.ensures.items)
    (indexed_more f.items.items f.numbers c.insert.new.self f.executions c.make_room.new.lists c.add_number.new.lists
    c.self.invariant c.args.launch c.in_ok-text.text c.in_ok-text.ensures absent
    (λ q. rw number at (c.in_ok-insert.ensures.updates.0 q)) c.make_room.ensures.same
    (λ t. rw number at (c.add_number.ensures t)))
