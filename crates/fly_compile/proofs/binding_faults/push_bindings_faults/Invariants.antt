use Rattle.std.proofs.Common.{◌≡◌, ℕ, ◌++◌, take}
use Rattle.std.specs.List.{flat_map, enumerate_from}
use Rattle.fly_docs.specs.declared.binding.Binding.{Binding}
use Rattle.fly_faults.specs.BindingFaults.{binding_faults}
use Rattle.fly_compile.specs.BoundNames.{HasNames}
use Rattle.fly_compile.specs.Sites.{site_of}
use Rattle.fly_compile.proofs.binding_faults.push_bindings_faults.Given as goal

abbrev pub invariant-loop-x : goal.invariant-loop-x
invariant-loop-x l = record {
  faults : l.faults.items ≡ l.initial.faults.items
      ++ flat_map (λ (at : ℕ × Binding). binding_faults (site_of l.site) (take at.0 l.bindings) at.1) (enumerate_from 0 (take l.x-index l.bindings));
  names : HasNames (take l.x-index l.bindings) l.names;
}
