use Rattle.fly_compile.specs.Outputs.{output_variable}
use Rattle.fly_compile.proofs.OutputLemmas.{has-found, has-nothing}
use Rattle.fly_compile.proofs.outputs.Outputs.has.Goals as goal

pub returns-in-Output : goal.returns-in-Output
returns-in-Output c = has-found c.args.self.now (output_variable c.args.output) _ _ c.requires.sorted c.in-Output.ensures c.is_same.ensures

pub returns-in_default : goal.returns-in_default
returns-in_default c = has-nothing c.args.self.now (output_variable c.args.output) _ c.requires.sorted c.in_default.not-Output c.find.ensures
