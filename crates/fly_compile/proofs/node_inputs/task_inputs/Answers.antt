use Rattle.std.proofs.Common.{Option, Some, None, sym, ap, is_some}
use Rattle.std.specs.Prelude.{if◌then◌else◌}
use Rattle.std.specs.Option.{option_map, option_and_then}
use Rattle.fly_types.specs.declared.text.Text.{Text}
use Rattle.fly_docs.specs.declared.task.Task.{Task}
use Rattle.fly_docs.specs.Interfaces.{type_of}
use Rattle.fly_docs.specs.NodeInterfaces.{Found, Wanted, value}
use Rattle.fly_compile.proofs.OutputLemmas.{task_in_form}
use Rattle.fly_compile.proofs.node_inputs.task_inputs.Goals as goal

abbrev found : Option Task → Found
found o = option_map (λ (t : Task). t.interface.inputs) o

abbrev wanted : Option Task → Option (Text → Option Wanted)
wanted o = if is_some (found o) then Some (λ name. option_and_then (λ variables. option_map value (type_of name variables)) (found o)) else None

pub returns-in-Some : goal.returns-in-Some
returns-in-Some c = record {
  wanted = ap wanted c.in-Some.ensures;
  variables = ap found c.in-Some.ensures;
  sorted = (task_in_form c.args.directory.now c.args.id.now c.in-Some.task.now c.requires (sym c.in-Some.ensures)).interface.inputs;
}
