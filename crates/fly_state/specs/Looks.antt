-- What nodes look at, and orders in which each comes after that.
use Rattle.std.specs.Prelude.{ℕ, ◌<◌, List, map, filter, filter_map, length, take, slice_index, Contains, Option, not, bytes_eq}
use Rattle.fly_types.specs.declared.text.Text.{Text}
use Rattle.fly_docs.specs.declared.binding.Bound.{Bound}
use Rattle.fly_docs.specs.Names.{start_node}
use Rattle.fly_docs.specs.Bindings.{promises_of}
use Rattle.fly_graph.specs.Orders.{HasEachOnce}

-- the nodes that are promised from
abbrev pub promised_ids : Bound → List Text
promised_ids x = map (λ promise. promise.0) (promises_of x)

-- the places of ids; the start is no node
abbrev pub places_among : (Text → Option ℕ) → List Text → List ℕ
places_among place ids = filter_map place (filter (λ id. not (bytes_eq id start_node)) ids)

-- the list has each number below count once, each after those that it looks at
pub record IsLookOrder (looks : ℕ → List ℕ) (count : ℕ) (order : List ℕ) : Type 0 where
  pub once : HasEachOnce count order
  pub back : (i u : ℕ) → i < length order → Contains (looks (slice_index order i)) u → Contains (take i order) u
