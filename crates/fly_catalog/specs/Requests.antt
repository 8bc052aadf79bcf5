-- What each call of the catalog answers and leaves, over the catalog as four lists.
use Rattle.std.specs.Prelude.{◌≡◌, ℕ, ℤ, pos, ◌+ℤ◌, ◌*ℤ◌, int_lt, Bool, true, false, not, ◌&&◌, if◌then◌else◌, List, [], ◌∷◌, ◌++◌, filter, Result, MatchResult, Option, Some, None, option_and_then, option_map, is_some}
use Rattle.std.specs.Int.{int_min}
use Rattle.std.specs.List.{find}
use Rattle.std.specs.Option.{option_map_or}
use Rattle.fly_types.specs.declared.text.Text.{Text}
use Rattle.fly_types.specs.declared.literals.LiteralMap.{LiteralMap}
use Rattle.fly_docs.specs.declared.dataset.DatasetId.{DatasetId}
use Rattle.fly_catalog.specs.declared.parts.Artifact.{Artifact}
use Rattle.fly_catalog.specs.declared.parts.Tag.{Tag}
use Rattle.fly_catalog.specs.declared.parts.Reservation.{Reservation}
use Rattle.fly_catalog.specs.declared.requests.CatalogFault.{CatalogFault}
use Rattle.fly_catalog.specs.declared.requests.CatalogFault.TheVariants.{AlreadyExists, NoDataset, NoArtifact, NoMemory}
use Rattle.fly_catalog.specs.declared.requests.Selector.{Selector}
use Rattle.fly_catalog.specs.declared.requests.Selector.TheVariants.{Id, Tag as Tagged}
use Rattle.fly_catalog.specs.declared.requests.Grant.{Grant}
use Rattle.fly_catalog.specs.declared.requests.Grant.TheVariants.{Granted, HeldBy}
use Rattle.fly_catalog.specs.Parts.{same_text, same_dataset, is_artifact, is_tag, is_reservation}
use Rattle.fly_catalog.specs.Catalog.{CatalogLists}

-- ---- what is there

-- the dataset is there
abbrev pub has_dataset : CatalogLists → DatasetId → Bool
has_dataset c d = is_some (find (same_dataset d) c.datasets)

-- the dataset's artifact of this id
abbrev pub artifact_of : CatalogLists → DatasetId → Text → Option Artifact
artifact_of c d id = find (is_artifact d id) c.artifacts

-- the dataset's tag of this name
abbrev pub tag_of : CatalogLists → DatasetId → Text → Option Tag
tag_of c d name = find (is_tag d name) c.tags

-- the reservation of a key, which is a dataset and the name of a tag
abbrev pub reservation_of : CatalogLists → DatasetId → Text → Option Reservation
reservation_of c d tag = find (is_reservation d tag) c.reservations

-- what was stored under the id, or under the id that the tag names
abbrev pub content_of : CatalogLists → DatasetId → Selector → Option LiteralMap
content_of c d (Id id) = option_map (λ a. a.content) (artifact_of c d id)
content_of c d (Tagged name) = option_and_then (λ t. option_map (λ a. a.content) (artifact_of c d t.artifact)) (tag_of c d name)

-- ---- datasets, artifacts and tags

-- why a dataset is not made
abbrev pub dataset_fault : CatalogLists → DatasetId → Option CatalogFault
dataset_fault c d = if has_dataset c d then Some AlreadyExists else None

-- why an artifact is not made
abbrev pub artifact_fault : CatalogLists → DatasetId → Text → Option CatalogFault
artifact_fault c d id = if has_dataset c d then (if is_some (artifact_of c d id) then Some AlreadyExists else None) else Some NoDataset

-- why an artifact does not get a tag
abbrev pub tag_fault : CatalogLists → DatasetId → Text → Text → Option CatalogFault
tag_fault c d name id =
    if has_dataset c d then (if is_some (artifact_of c d id) then (if is_some (tag_of c d name) then Some AlreadyExists else None) else Some NoArtifact) else Some NoDataset

-- with one more dataset, artifact or tag, the last
abbrev pub with_dataset : CatalogLists → DatasetId → CatalogLists
with_dataset c d = record c { datasets = c.datasets ++ d ∷ [] }

abbrev pub with_artifact : CatalogLists → Artifact → CatalogLists
with_artifact c a = record c { artifacts = c.artifacts ++ a ∷ [] }

abbrev pub with_tag : CatalogLists → Tag → CatalogLists
with_tag c t = record c { tags = c.tags ++ t ∷ [] }

-- why an artifact is not stored with a tag
abbrev pub store_fault : CatalogLists → DatasetId → Text → Text → Option CatalogFault
store_fault c d id tag = if is_some (tag_of c d tag) then Some AlreadyExists else (if is_some (artifact_of c d id) then Some AlreadyExists else None)

-- with an artifact and its tag, and with their dataset where it is missing
abbrev pub with_stored : CatalogLists → Artifact → Tag → CatalogLists
with_stored c a t = with_tag (with_artifact (if has_dataset c a.dataset then c else with_dataset c a.dataset) a) t

-- a call that has a cause is refused with it; else it is done, but for want of memory; only what is done changes the catalog
abbrev pub Answers : Option CatalogFault → CatalogLists → CatalogLists → CatalogLists → Result (Unit {0}) CatalogFault → Type 0
Answers (Some fault) old done new result = (result ≡ Result.Err fault) × (new ≡ old)
Answers None old done new result = MatchResult result (λ _. new ≡ done) (λ fault. (fault ≡ NoMemory) × (new ≡ old))

-- ---- reservations

-- the moment until which a reservation is granted: three heartbeats on, of 10 seconds at most
abbrev pub lease_end : ℤ → ℤ → ℤ
lease_end moment heartbeat = moment +ℤ (pos 3 *ℤ int_min heartbeat (pos 10000))

-- the reservation keeps the owner off: it is another's and has not expired
abbrev pub keeps_off : Reservation → Text → ℤ → Bool
keeps_off r owner moment = int_lt moment r.expiry && not (same_text owner r.owner)

-- the reservation that keeps the owner off a key at a moment
abbrev pub bar_of : CatalogLists → DatasetId → Text → Text → ℤ → Option Reservation
bar_of c d tag owner moment = option_and_then (λ r. if keeps_off r owner moment then Some r else None) (reservation_of c d tag)

-- the answer to an owner that asks for a key at a moment
abbrev pub grant_of : CatalogLists → DatasetId → Text → Text → ℤ → ℤ → Grant
grant_of c d tag owner moment heartbeat =
    option_map_or (λ r. HeldBy r.owner r.expiry) (bar_of c d tag owner moment) (Granted (lease_end moment heartbeat))

-- the reservations with the new one in the place of its key's, or at the end
abbrev pub with_reservation : List Reservation → Reservation → List Reservation
with_reservation [] new = new ∷ []
with_reservation (r ∷ rs) new = if is_reservation new.dataset new.tag r then new ∷ rs else r ∷ with_reservation rs new

-- the reservations without the key's
abbrev pub without_reservation : List Reservation → DatasetId → Text → List Reservation
without_reservation [] d tag = []
without_reservation (r ∷ rs) d tag = if is_reservation d tag r then rs else r ∷ without_reservation rs d tag

-- the catalog after an answer to an owner that asked for a key
abbrev pub after_grant : CatalogLists → DatasetId → Text → Text → Grant → CatalogLists
after_grant c d tag owner (Granted expiry) =
    record c { reservations = with_reservation c.reservations (record { dataset = d; tag = tag; owner = owner; expiry = expiry }) }
after_grant c d tag owner (HeldBy holder expiry) = c

-- the owner holds the key, expired or not
abbrev pub holds : CatalogLists → DatasetId → Text → Text → Bool
holds c d tag owner = option_map_or (λ r. same_text owner r.owner) (reservation_of c d tag) false

-- the catalog after the owner gave the key back
abbrev pub after_release : CatalogLists → DatasetId → Text → Text → CatalogLists
after_release c d tag owner = if holds c d tag owner then record c { reservations = without_reservation c.reservations d tag } else c

-- the catalog without the reservations whose owner passes
abbrev pub after_sweep : CatalogLists → (Text → Bool) → CatalogLists
after_sweep c ends = record c { reservations = filter (λ r. not (ends r.owner)) c.reservations }
