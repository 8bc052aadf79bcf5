use Rattle.std.proofs.Common.{refl, ap, ◌++◌, ◌∷◌, []}
use Rattle.fly_world.specs.World.{empty_world}
use Rattle.fly_world.proofs.JournalLemmas.{leads-on}
use Rattle.fly_world.proofs.laws.steps_extend.Goals as goal

pub returns : goal.returns
returns c plan closure journal w new e history s = record {
  later = history.later ++ e ∷ [];
  begins = ap (λ es. es ++ e ∷ []) history.begins;
  leads = leads-on plan empty_world w new journal (e ∷ []) history.leads (new, s, refl);
}
