use Rattle.std.proofs.Common.{rules, ap, ◌∙◌, arith}
use Rattle.fly_desk.proofs.Dividing.{is_full, hands}
use Rattle.fly_desk.proofs.Options.{none_of}
use Rattle.fly_desk.proofs.desk.Desk.close.Goals as goal

pub unwrap-requires : goal.unwrap-requires
unwrap-requires g c = let a = g.O.Annals in let p = c.args.pass in let last = c.shut-closed.ensures.last in
    is_full a.entries a.spare a.basis last.0 _ _ p.seat.me.0 _ _ _ (ap (λ s. s.me.0) c.into_seat.ensures) (none_of _ (p.drawn ∙ c.requires.idle)) (none_of _ c.requires.idle) p.live (search rules)
    last.1 c.take-slot.ensures.value

pub returns : goal.returns
returns g c = let a = g.O.Annals in let p = c.args.pass in let last = c.shut-closed.ensures.last in
    let h = hands a.entries a.spare a.basis last.0 _ _ p.seat.me.0 _ _ _ (ap (λ s. s.me.0) c.into_seat.ensures) (none_of _ (p.drawn ∙ c.requires.idle)) (none_of _ c.requires.idle) p.live (search rules)
    last.1 c.take-slot.ensures.value c.unwrap.result c.unwrap.ensures in
    record { seen = h.seen; basis = h.same; history = h.made; number = let n = h.made.number in let l = c.requires.last in omega arith }
