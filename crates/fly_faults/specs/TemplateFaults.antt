-- The faults of templates by their names.
use Rattle.std.specs.Prelude.{not, List, map, filter}
use Rattle.std.specs.List.{list_any}
use Rattle.std.specs.Str.{bytes_eq}
use Rattle.fly_types.specs.declared.text.Text.{Text}
use Rattle.fly_docs.specs.declared.task.Task.{Task}
use Rattle.fly_docs.specs.Interfaces.{names_of}
use Rattle.fly_faults.specs.declared.fault.Code.TheVariants as code
use Rattle.fly_faults.specs.declared.fault.Fault.{Fault}
use Rattle.fly_faults.specs.Places.{task_name, fault_with}

-- TemplateInput for each of these names that is no input of the task
abbrev pub name_faults : Task → List Text → List Fault
name_faults t names =
    map (λ name. fault_with code.TemplateInput (task_name t) name)
    (filter (λ name. not (list_any (bytes_eq name) (names_of t.interface.inputs))) names)
