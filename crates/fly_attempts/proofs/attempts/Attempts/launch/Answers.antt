use Rattle.std.proofs.Common.{◌≡◌, ◌<◌, ◌+◌, length, vec_capacity, ◌∙◌, ap, length-append, arith}
use Rattle.fly_attempts.proofs.TableLemmas.{launch_kept, launch_view}
use Rattle.fly_attempts.proofs.attempts.Attempts.launch.Goals as goal

pub invariant_of-self-2 : goal.invariant_of-self-2
invariant_of-self-2 c =
    let f = c.self.inside in
    let room = c.in_ok-make_room.ensures in
    let absent = rw (← c.self.view_is) at c.requires in
    let longer : length c.push.new.self ≡ length f.launches + 1 =
    ap length c.in_ok-push.ensures.ok ∙ length-append f.launches _ in
    let claims : length f.launches < vec_capacity c.make_room.new.handouts = rw c.len.ensures at room.handouts_room in
    let ends : length f.launches < vec_capacity c.make_room.new.endings = rw c.len.ensures at room.endings_room in
    record {
      tables = rw (c.in_ok-push.ensures.ok, c.in-Ok.ensures.items, room.handouts, room.endings, room.ends)
          (launch_kept _ _ _ _ _ c.self.invariant.tables _ absent);
      claims_fit = omega (arith, longer, claims);
      ends_fit = omega (arith, longer, ends);
    }

pub returns-clause-ok : goal.returns-clause-ok
returns-clause-ok c =
    let room = c.in_ok-make_room.ensures in
    rw (c.in_ok-push.ensures.ok, room.handouts, room.endings, ← c.self.view_is)
    (launch_view _ _ _ _ _ c.self.invariant.tables _)
