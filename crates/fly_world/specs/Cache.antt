-- The node that an operation on the cache names, or what is answered where there is none.
use Rattle.std.specs.Prelude.{◌≡◌, true, false, Some}
use Rattle.fly_types.specs.declared.text.Text.{Text}
use Rattle.fly_docs.specs.declared.task.Task.{Task}
use Rattle.fly_state.specs.Plans.{Path}
use Rattle.fly_world.specs.declared.cache.Cached.{Cached}
use Rattle.fly_world.specs.declared.cache.Cached.TheVariants as cached
use Rattle.fly_world.specs.Spots.{Spot, are_ids, spot_of, cached_task}
use Rattle.fly_world.specs.Steps.{Answer, says, if_known, on_cached}
use Rattle.fly_world.specs.Store.{StoreLists, spot_at}

-- Illegal where the names are no ids; one reply, whatever is asked of the node, where there is none or its task is not
-- cached; else the node and its task.
abbrev pub IsCachedNode : StoreLists → Text → Path → Cached → Type 0
IsCachedNode s exec path cached.Illegal = are_ids exec path ≡ false
IsCachedNode s exec path (cached.Says reply) =
    (are_ids exec path ≡ true)
    × ((f : Spot → Task → Answer)
    → if_known (λ spot. on_cached s.plan spot (f spot)) (spot_of s.plan s.world exec path) ≡ says reply)
IsCachedNode s exec path (cached.At number task) =
    (are_ids exec path ≡ true)
    × (spot : Spot) × (spot_at s.plan s.world number ≡ Some spot) × (spot_of s.plan s.world exec path ≡ Some spot)
    × (cached_task s.plan spot.node ≡ Some task.now)
