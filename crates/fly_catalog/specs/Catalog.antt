-- A catalog as four lists, and what is kept beside them so that each part is found by its key.
use Rattle.std.specs.Prelude.{◌≡◌, ℕ, Option, List, length, slice_get}
use Rattle.std.specs.declared.cmp.Ordering.{Ordering}
use Rattle.std.specs.Ordering.{nat_cmp, ordering_then}
use Rattle.std.specs.BTreeMap.{BTreeMap, get, values, IsOrdered}
use Rattle.fly_docs.specs.declared.dataset.DatasetId.{DatasetId}
use Rattle.fly_catalog.specs.declared.parts.Artifact.{Artifact}
use Rattle.fly_catalog.specs.declared.parts.Tag.{Tag}
use Rattle.fly_catalog.specs.declared.parts.Reservation.{Reservation}
use Rattle.fly_catalog.specs.Names.{Numbers, DatasetKey, ItemKey, IsNumbering, dataset_key, item_key}
use Rattle.fly_catalog.specs.Index.{Indexes}

-- datasets, artifacts, tags and reservations, each in the order in which they were made
pub record CatalogLists : Type 0 where
  pub datasets : List DatasetId
  pub artifacts : List Artifact
  pub tags : List Tag
  pub reservations : List Reservation

-- the order of keys, number by number
abbrev pub dataset_cmp : DatasetKey → DatasetKey → Ordering
dataset_cmp x y = ordering_then (ordering_then (ordering_then (nat_cmp x.0 y.0) (nat_cmp x.1 y.1)) (nat_cmp x.2 y.2)) (nat_cmp x.3 y.3)

abbrev pub item_cmp : ItemKey → ItemKey → Ordering
item_cmp x y =
    ordering_then (ordering_then (ordering_then (ordering_then (nat_cmp x.0 y.0) (nat_cmp x.1 y.1)) (nat_cmp x.2 y.2)) (nat_cmp x.3 y.3)) (nat_cmp x.4 y.4)

-- the keys of an artifact, a tag and a reservation
abbrev pub artifact_key : Numbers → Artifact → Option ItemKey
artifact_key numbers a = item_key numbers a.dataset a.id

abbrev pub tag_key : Numbers → Tag → Option ItemKey
tag_key numbers t = item_key numbers t.dataset t.name

abbrev pub reservation_key : Numbers → Reservation → Option ItemKey
reservation_key numbers r = item_key numbers r.dataset r.tag

-- each item of a list is found by its key
abbrev pub AreFound : {K X : Type 0} → (K → K → Ordering) → BTreeMap K ℕ → List X → (X → Option K) → Type 0
AreFound cmp places items key = Indexes (λ k. get cmp places k) (λ i. slice_get items i) key (length items)

-- each reservation is found by its key; the number of a key may lead to none
pub record AreReserved (numbers : Numbers) (live : BTreeMap ℕ Reservation) (serials : BTreeMap ItemKey ℕ) (next : ℕ) : Type 0 where
  pub found : Indexes (λ k. get item_cmp serials k) (λ i. get nat_cmp live i) (reservation_key numbers) next
  pub ordered : IsOrdered nat_cmp live

-- the texts have numbers, and every part is found by its key
pub record IsIndexed (numbers : Numbers) (datasets : List DatasetId) (dataset_places : BTreeMap DatasetKey ℕ) (artifacts : List Artifact)
    (artifact_places : BTreeMap ItemKey ℕ) (tags : List Tag) (tag_places : BTreeMap ItemKey ℕ) (live : BTreeMap ℕ Reservation)
    (serials : BTreeMap ItemKey ℕ) (next : ℕ) : Type 0 where
  pub numbering : IsNumbering numbers
  pub datasets_found : AreFound dataset_cmp dataset_places datasets (dataset_key numbers)
  pub artifacts_found : AreFound item_cmp artifact_places artifacts (artifact_key numbers)
  pub tags_found : AreFound item_cmp tag_places tags (tag_key numbers)
  pub reserved : AreReserved numbers live serials next
