use Rattle.std.proofs.Common.{subst, All}
use Rattle.std.proofs.lemmas.List.Elements.{All-weaker}
use Rattle.fly_generator.specs.Adder.{IsAnswered, IsSum}
use Rattle.fly_generator.proofs.Summands.{sums_from}
use Rattle.fly_generator.proofs.adder.Adder.runs.Goals as goal

pub returns-clause-sums : goal.returns-clause-sums
returns-clause-sums c =
    subst (All IsSum) c.self.view_is
    (All-weaker IsAnswered IsSum (sums_from c.literal_maps_are_read_back.ensures)
    c.self.inside.runs.items c.self.invariant)
