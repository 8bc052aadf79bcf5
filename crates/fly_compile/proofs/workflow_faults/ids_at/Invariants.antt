use Rattle.std.proofs.Common.{◌≡◌, map, take}
use Rattle.std.specs.List.{flat_map, slice_get}
use Rattle.std.specs.Option.{option_to_list}
use Rattle.fly_docs.specs.declared.node.Node.{Node}
use Rattle.fly_compile.proofs.workflow_faults.ids_at.Given as goal

abbrev pub invariant-loop-place : goal.invariant-loop-place
invariant-loop-place l =
    map (λ id. id.now) l.ids.items
    ≡ flat_map (λ place. map (λ (n : Node). n.id) (option_to_list (slice_get (map (λ n. n.now) l.nodes) place))) (take l.place-index l.places)
