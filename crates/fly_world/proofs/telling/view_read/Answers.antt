use Rattle.std.proofs.Common.{◌≡◌, ℕ, subst, sym, ◌∙◌}
use Rattle.std.specs.Option.{option_map}
use Rattle.std.specs.Prelude.{IfOk}
use Rattle.fly_world.specs.World.{Execution, view_of}
use Rattle.fly_world.proofs.WorldLemmas.{numbered_named}
use Rattle.fly_world.proofs.telling.view_read.Goals as goal

pub returns-in-Some-clause-ok : goal.returns-in-Some-clause-ok
returns-in-Some-clause-ok c =
    let w = c.args.store.now.world in
    rw c.in-Viewed.is (subst (λ o. IfOk c.view_at.result (λ v. v ≡ option_map (λ (at : ℕ × Execution). view_of w at c.in-Viewed.version) o))
    (numbered_named w c.in-Viewed.exec c.in-Some.number (sym c.number_of.ensures ∙ c.in-Some.is)) c.view_at.ensures)
