-- The inputs of a slot over what its instance knows, and what a branch chooses by its inputs.
use Rattle.std.specs.Prelude.{◌≡◌, ℕ, Bool, false, length, position, codes, Option, Some, None, option_map, Result, Ok, Err, ⊤}
use Rattle.std.specs.Option.{option_or}
use Rattle.fly_types.specs.declared.text.Text.{Text}
use Rattle.fly_types.specs.declared.literals.LiteralMap.{LiteralMap}
use Rattle.fly_exprs.specs.declared.expr.Expr.{Expr}
use Rattle.fly_exprs.specs.TruthValue.{truth_of}
use Rattle.fly_docs.specs.declared.node.Node.{Node}
use Rattle.fly_docs.specs.declared.node.Case.{Case}
use Rattle.fly_docs.specs.declared.node.Target.{Target, out-Target}
use Rattle.fly_docs.specs.declared.node.Target.TheOpen.{Target-F}
use Rattle.fly_docs.specs.Plans.{PlanNode}
use Rattle.fly_docs.specs.SlotInputs as docs
use Rattle.fly_docs.specs.SlotInputs.{Taken, slot_inputs, or_unknown, mapped_of, lengths_of, item_count}
use Rattle.fly_state.specs.declared.faults.InputFault.{InputFault}
use Rattle.fly_state.specs.declared.faults.InputFault.TheVariants as fault
use Rattle.fly_state.specs.declared.slots.ExecState.{ExecState}
use Rattle.fly_state.specs.declared.moves.At.{At}
use Rattle.fly_state.specs.Plans.{RunPlan, node_numbered, instance_of}
use Rattle.fly_state.specs.States.{known_in}

-- the inputs of a node, or of one of its items
abbrev pub inputs_of_node : RunPlan → ExecState → PlanNode → Option ℕ → Taken LiteralMap
inputs_of_node plan s p item = slot_inputs plan.documents p.workflow (known_in plan s (instance_of p)) p.node item

-- the inputs of a slot: of the root, what was submitted
abbrev pub inputs_at : RunPlan → ExecState → At → Taken LiteralMap
inputs_at plan s at = by_number at.node
  where
    of_node : Option PlanNode → Taken LiteralMap
    of_node (Some p) = inputs_of_node plan s p at.item
    of_node None = Err docs.unknown

    by_number : Option ℕ → Taken LiteralMap
    by_number (Some i) = of_node (node_numbered plan i)
    by_number None = or_unknown s.root.inputs

abbrev pub value_in : {X : Type 0} → Taken X → Option X
value_in (Ok x) = Some x
value_in (Err fault) = None

-- the code of a slot whose inputs have a fault
abbrev pub code_of_fault : docs.InputFault → Option Text
code_of_fault (docs.enum_outside text) = Some (codes "EnumOutside")
code_of_fault (docs.unequal_lengths first second) = Some (codes "UnequalLengths")
code_of_fault (docs.too_many_items count) = Some (codes "TooManyItems")
code_of_fault docs.unknown = None

abbrev pub fault_code : {X : Type 0} → Taken X → Option Text
fault_code (Ok x) = None
fault_code (Err fault) = code_of_fault fault

-- an answer that is this one, or want of memory
abbrev pub IsAnswer : Taken LiteralMap → Result LiteralMap InputFault → Type 0
IsAnswer wanted (Ok inputs) = wanted ≡ Ok inputs
IsAnswer wanted (Err (fault.EnumOutside text)) = wanted ≡ Err (docs.enum_outside text)
IsAnswer wanted (Err (fault.UnequalLengths first second)) = wanted ≡ Err (docs.unequal_lengths first second)
IsAnswer wanted (Err (fault.TooManyItems count)) = wanted ≡ Err (docs.too_many_items count)
IsAnswer wanted (Err fault.NoMemory) = ⊤

-- how many items an array has that takes these inputs: one for each element of its mapped inputs
abbrev pub count_of_items : RunPlan → PlanNode → LiteralMap → ℕ
count_of_items plan p inputs = item_count (lengths_of (mapped_of plan.documents p.workflow p.node) inputs)

-- ---- choices

abbrev pub condition_holds : LiteralMap → Option Expr → Bool
condition_holds inputs (Some condition) = truth_of inputs condition
condition_holds inputs None = false

-- the first case that is true, and else the else node, whose number is the count of the cases
abbrev pub choice_in : LiteralMap → Target-F Target Case Node → Option ℕ
choice_in inputs (Target-F.Branch cases otherwise error) =
    option_or (position (λ (c : Case). condition_holds inputs c.condition) cases) (option_map (λ _. length cases) otherwise)
choice_in inputs _ = None

abbrev pub choice_of : LiteralMap → Node → Option ℕ
choice_of inputs n = choice_in inputs (out-Target n.target)
