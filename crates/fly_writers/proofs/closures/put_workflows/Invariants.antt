use Rattle.std.proofs.Common.{◌≡◌, ◌++◌, false, drop}
use Rattle.std.specs.Slice.Iter.{iter_rest}
use Rattle.serde_json.specs.View.{items_of}
use Rattle.serde_json.specs.Written.{items_text}
use Rattle.fly_writers.specs.Closures.{compiled_workflows}
use Rattle.fly_writers.proofs.closures.put_workflows.Given as goal

-- the text so far and that of what is left are those of all
abbrev pub invariant-loop-workflow : goal.invariant-loop-workflow
invariant-loop-workflow l =
    l.text.items ++ items_text l.later (items_of (compiled_workflows (drop l.workflow-index l.workflows) (iter_rest l.connections)))
    ≡ l.initial.text.items ++ items_text false (items_of (compiled_workflows l.workflows l.fn.connections))
