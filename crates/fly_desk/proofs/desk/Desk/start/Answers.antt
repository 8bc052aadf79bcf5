use Rattle.std.proofs.Common.{rules, ◌≡◌, ◌∷◌, [], Some, ◌<◌, ◌^◌, ap, sym}
use Rattle.fly_desk.proofs.Keeps.{starts_with}
use Rattle.fly_desk.proofs.desk.Desk.start.Goals as goal

pub new-requires : goal.new-requires
new-requires g c = let a = g.O.Annals in
    let items : c.push_reserved.new.self.items ≡ Some c.args.object ∷ [] = search rules in
    let fits : c.args.calls < 2 ^ 64 = search rules in
    starts_with a.entries a.spare a.basis _ c.args.object _ items (ap a.entries (sym c.of.ensures)) (ap a.basis (sym c.of.ensures)) c.requires fits
