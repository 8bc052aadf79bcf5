use Rattle.std.proofs.Common.{rules, ◌≤◌}
use Rattle.fly_desk.proofs.Dividing.{splits}
use Rattle.fly_desk.proofs.shares.cut.Goals as goal

pub split_seat-requires : goal.split_seat-requires
split_seat-requires g c = let a = g.O.Annals in
    let few : g.N.Amount.amount ≤ c.args.seat.now.me.0.left = search rules in
    (search rules, search rules, splits a.entries a.spare a.basis _ _ _ g.N.Amount.amount few c.requires.idle.0 c.requires.idle.1)
