use Rattle.std.proofs.Common.{rules}
use Rattle.fly_desk.proofs.Keeps.{passes_home}
use Rattle.fly_desk.proofs.PlayLemmas.{passed_home}
use Rattle.fly_desk.proofs.steps.bring_home.Goals as goal

pub fetch_add-served-requires : goal.fetch_add-served-requires
fetch_add-served-requires g c = let a = g.O.Annals in let v = c.args.seat.now.me.0 in let t = c.requires.turn in
    (search rules, search rules, passes_home a.entries a.spare a.basis _ _ _ c.exchange-emptied.new.seat.me v c.args.seat.now.me.1 c.args.object c.exchange-emptied.ensures.3 t.2 t.0 t.1 c.requires.entry c.requires.spare c.requires.basis)

pub returns : goal.returns
returns g c = let a = g.O.Annals in let v = c.args.seat.now.me.0 in let t = c.requires.turn in record {
  place = search rules;
  turn = λ entry adds. passed_home a.entries a.spare a.basis c.exchange-emptied.new.seat.me v c.fetch_add-served.new.seat.me c.args.seat.now.me.1 c.args.object c.exchange-emptied.ensures.3 t.2 t.1 c.fetch_add-served.ensures.2 entry adds;
}
