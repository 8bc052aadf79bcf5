use Rattle.std.proofs.Common.{rules, ◌≡◌, ◌≤◌, length, subst, sym}
use Rattle.fly_ports.specs.declared.spawner.TheConstants.{MAX_OUTPUT}
use Rattle.fly_writers.specs.Literals.{literal_map_text}
use Rattle.fly_generator.specs.Adder.{output}
use Rattle.fly_generator.proofs.Summands.{output_short}
use Rattle.fly_generator.proofs.adder.outputs.Goals as goal

pub returns-clause-bound : goal.returns-clause-bound
returns-clause-bound c =
    let is : c.from_vec.result ≡ literal_map_text (output c.args.z) = search rules in
    subst (λ out. length out ≤ MAX_OUTPUT) (sym is) (output_short c.args.z c.requires)
