use Rattle.std.proofs.Common.{rules, ◌<◌, ℕ, ◌∙◌, subst}
use Rattle.fly_desk.proofs.Keeps.{draws}
use Rattle.fly_desk.proofs.Options.{none_of}
use Rattle.fly_desk.proofs.desk.Desk.enter.Goals as goal

pub fetch_add-ticket-requires : goal.fetch_add-ticket-requires
fetch_add-ticket-requires g c = let a = g.O.Annals in let p = c.args.pass.now in let some_left : ℕ → Type 0 = λ n. 0 < n in (
  search rules,
  search rules,
  draws a.entries a.spare a.basis _ _ _ _ _ (none_of _ (p.drawn ∙ c.requires.idle)) (none_of _ c.requires.idle) (subst some_left p.counted c.requires.left),
)
