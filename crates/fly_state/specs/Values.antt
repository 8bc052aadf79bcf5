-- Values that are taken, or why they are not there.
use Rattle.std.specs.Prelude.{◌≡◌, [], IsTrue, List, Contains, Some, Result, Ok, Err, ⊤}
use Rattle.fly_types.specs.declared.kinds.LiteralType.{LiteralType}
use Rattle.fly_types.specs.declared.literals.Literal.{Literal}
use Rattle.fly_types.specs.declared.variable.Variable.{Variable}
use Rattle.fly_types.specs.Membership.{IsMember}
use Rattle.fly_docs.specs.declared.binding.Binding.{Binding}
use Rattle.fly_docs.specs.Bindings.{Promised, binding_of}
use Rattle.fly_docs.specs.Fitting.{bound_fits}
use Rattle.fly_docs.specs.NodeInterfaces.{Source, of_type}
use Rattle.fly_docs.specs.SlotInputs as docs
use Rattle.fly_docs.specs.SlotInputs.{Taken, known_literal}
use Rattle.fly_state.specs.declared.values.ValueFault.{ValueFault}
use Rattle.fly_state.specs.declared.values.ValueFault.TheVariants as fault
use Rattle.fly_state.specs.declared.slots.ExecState.{ExecState}
use Rattle.fly_state.specs.Origins.{source_in_run}
use Rattle.fly_state.specs.Plans.{RunPlan}
use Rattle.fly_state.specs.States.{known_in}

-- an answer that is this one, or want of memory
abbrev pub IsTaken : {X : Type 0} → Taken X → Result X ValueFault → Type 0
IsTaken wanted (Ok x) = wanted ≡ Ok x
IsTaken wanted (Err (fault.Outside text)) = wanted ≡ Err (docs.enum_outside text)
IsTaken wanted (Err fault.Unknown) = wanted ≡ Err docs.unknown
IsTaken wanted (Err fault.NoMemory) = ⊤

-- what is known of a promise in the primary workflow is of the promised type
abbrev pub HasKnownTypes : RunPlan → ExecState → Type 0
HasKnownTypes plan s =
    (promise : Promised) (t : LiteralType) (l : Literal) → source_in_run plan promise ≡ of_type t
    → known_literal (known_in plan s []) promise ≡ Some l → IsMember t l

-- what is bound to a variable fits its type
abbrev pub FitVariable : (Promised → Source) → List Binding → Variable → Type 0
FitVariable source bindings v = (x : Binding) → binding_of v.name bindings ≡ Some x → IsTrue (bound_fits source x.bound v.kind)

abbrev pub FitVariables : (Promised → Source) → List Binding → List Variable → Type 0
FitVariables source bindings variables = (v : Variable) → Contains variables v → FitVariable source bindings v
