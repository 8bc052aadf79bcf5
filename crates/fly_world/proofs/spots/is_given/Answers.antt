use Rattle.std.proofs.Common.{◌&&◌, sym, ◌∙◌, ap}
use Rattle.std.proofs.lemmas.Bool.Decides.{same_from_decides}
use Rattle.fly_cast.specs.Fitting.{is_of}
use Rattle.fly_cast.proofs.Members.{is_of-Decides}
use Rattle.fly_world.proofs.spots.is_given.Goals as goal

pub returns-then-eq : goal.returns-then-eq
returns-then-eq c =
    let x = c.args.variable.now in
    let entry = c.args.entry.now in
    sym (same_from_decides (is_of x.kind entry.1) c.is_member.result (is_of-Decides x.kind entry.1) c.is_member.ensures)
    ∙ ap (λ b. b && is_of x.kind entry.1) (sym c.if-eq.true ∙ c.eq.ensures.value)
