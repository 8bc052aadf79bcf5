-- The artifacts of a world in the order in which they were made.
use Rattle.std.specs.Prelude.{ℕ, ◌&&◌, Option, option_map, option_and_then, find, slice_get}
use Rattle.fly_catalog.specs.declared.parts.Artifact.{Artifact}
use Rattle.fly_catalog.specs.declared.parts.Tag.{Tag}
use Rattle.fly_catalog.specs.Catalog.{CatalogLists}
use Rattle.fly_catalog.specs.Parts.{same_text, same_dataset}
use Rattle.fly_world.specs.declared.stored.Stored.{Stored}
use Rattle.fly_world.specs.World.{World}

-- the first tag of an artifact
abbrev pub tag_naming : CatalogLists → Artifact → Option Tag
tag_naming c a = find (λ (t : Tag). same_dataset t.dataset a.dataset && same_text t.artifact a.id) c.tags

abbrev pub stored_as : CatalogLists → Artifact → Option Stored
stored_as c a = option_map (λ (t : Tag). record { dataset = a.dataset; tag = t.name; content = a.content })
    (tag_naming c a)

-- the n-th artifact, from 0, with its tag; none where there are at most n
abbrev pub stored_at : World → ℕ → Option Stored
stored_at w n = option_and_then (stored_as w.catalog) (slice_get w.catalog.artifacts n)
