use Rattle.std.proofs.Common.{◌≡◌, subst, sym}
use Rattle.std.specs.Bool.{Decides}
use Rattle.std.specs.Cmp.Lexicographic.{pointwise_decides}
use Rattle.std.proofs.lemmas.Slice.Eq.{bytes_eq-Decides}
use Rattle.fly_state.proofs.entries.is_same_path.Goals as goal

pub returns : goal.returns
returns c = subst (λ r. Decides r (c.args.a.now ≡ c.args.b.now)) (sym c.eq.ensures) (pointwise_decides bytes_eq-Decides c.args.a.now c.args.b.now)
