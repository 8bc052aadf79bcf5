-- Where bindings stand, as it is kept.
use Rattle.std.specs.Prelude.{◌≡◌, Bool, false, if◌then◌else◌, [], Option, Some, None, is_some, option_map, ⊤}
use Rattle.fly_types.specs.declared.text.Text.{Text}
use Rattle.fly_types.specs.Lookup.{AreVariablesSorted}
use Rattle.fly_docs.specs.Interfaces.{type_of}
use Rattle.fly_docs.specs.declared.binding.Bound.TheOpen.{Bound-F}
use Rattle.fly_docs.specs.declared.node.Node.{Node}
use Rattle.fly_docs.specs.declared.node.Case.{Case}
use Rattle.fly_docs.specs.declared.node.Target.{Target, out-Target}
use Rattle.fly_docs.specs.declared.node.Target.TheOpen.{Target-F}
use Rattle.fly_docs.specs.declared.workflow.Bundle.{Bundle}
use Rattle.fly_faults.specs.Places.{node_place}
use Rattle.fly_docs.specs.Layer.{BoundLayer}
use Rattle.fly_docs.specs.Bindings.{Promised, source_node}
use Rattle.fly_docs.specs.NodeInterfaces as interfaces
use Rattle.fly_compile.specs.declared.site.Inputs.{Inputs}
use Rattle.fly_compile.specs.declared.site.Inputs.TheVariants as inputs
use Rattle.fly_compile.specs.declared.site.Wanted.{Wanted}
use Rattle.fly_compile.specs.declared.site.Wanted.TheVariants as wanted
use Rattle.fly_compile.specs.declared.site.Site.{Site}
use Rattle.fly_compile.specs.Scopes.{source_there}
use Rattle.fly_faults.specs.BindingFaults as faults

abbrev pub wanted_value : Wanted → interfaces.Wanted
wanted_value (wanted.Value t) = interfaces.value t.now
wanted_value (wanted.Items t) = interfaces.items t.now
wanted_value wanted.Primitive = interfaces.primitive

-- what each name wants
abbrev pub wanted_by_name : Inputs → Option (Text → Option interfaces.Wanted)
wanted_by_name inputs.Unknown = None
wanted_by_name (inputs.Values variables) = Some (λ name. option_map interfaces.value (type_of name variables.now))
wanted_by_name (inputs.Lists variables) = Some (λ name. option_map interfaces.items (type_of name variables.now))
wanted_by_name inputs.Primitives = Some (λ name. Some interfaces.primitive)

abbrev pub site_of : Site → faults.Site
site_of s = record {
  place = s.place;
  source = source_there s.sources.now;
  wanted = wanted_by_name s.inputs;
}

-- the names of the inputs rise
abbrev pub HasSortedNames : Inputs → Type 0
HasSortedNames (inputs.Values variables) = AreVariablesSorted variables.now
HasSortedNames (inputs.Lists variables) = AreVariablesSorted variables.now
HasSortedNames _ = ⊤

-- what is bound is a promise of anything
abbrev pub is_promise_of_anything_there : (Promised → interfaces.Source) → BoundLayer → Bool
is_promise_of_anything_there source (Bound-F.Promise node var) = faults.is_anything (source (source_node node, var))
is_promise_of_anything_there source _ = false

-- the variables that are wanted, none where they are unknown
abbrev pub input_variables : Inputs → interfaces.Found
input_variables inputs.Unknown = None
input_variables (inputs.Values variables) = Some variables.now
input_variables (inputs.Lists variables) = Some variables.now
input_variables inputs.Primitives = Some []

-- what each name wants of what a node runs
abbrev pub wanted_for_target : Bundle → Target-F Target Case Node → Option (Text → Option interfaces.Wanted)
wanted_for_target b target = if is_some (interfaces.inputs_by b target) then Some (λ name. interfaces.wanted_by b name target) else None

-- the inputs are those of what the node runs
pub record AreInputsOf (b : Bundle) (target : Target-F Target Case Node) (i : Inputs) : Type 0 where
  pub wanted : wanted_by_name i ≡ wanted_for_target b target
  pub variables : input_variables i ≡ interfaces.inputs_by b target
  pub sorted : HasSortedNames i

-- the bindings of the node stand there
pub record IsSiteOf (n : Node) (s : Site) : Type 0 where
  pub place : s.place ≡ node_place s.sources.now.workflow n
  pub inputs : AreInputsOf s.sources.now.bundle (out-Target n.target) s.inputs
