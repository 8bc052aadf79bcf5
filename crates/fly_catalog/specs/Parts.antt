-- What a catalog holds, and how its parts are told apart.
use Rattle.std.specs.Prelude.{ℕ, Bool, ◌&&◌, List, nat_eq}
use Rattle.std.specs.Cmp.Lexicographic.{pointwise}
use Rattle.fly_types.specs.declared.text.Text.{Text}
use Rattle.fly_docs.specs.declared.dataset.DatasetId.{DatasetId}
use Rattle.fly_catalog.specs.declared.parts.Artifact.{Artifact}
use Rattle.fly_catalog.specs.declared.parts.Tag.{Tag}
use Rattle.fly_catalog.specs.declared.parts.Reservation.{Reservation}

-- two texts have the same bytes
abbrev pub same_text : Text → Text → Bool
same_text = pointwise nat_eq

-- two datasets have the same project, domain, name and version
abbrev pub same_dataset : DatasetId → DatasetId → Bool
same_dataset d e = ((same_text d.project e.project && same_text d.domain e.domain) && same_text d.name e.name) && same_text d.version e.version

-- the artifact is the dataset's of this id
abbrev pub is_artifact : DatasetId → Text → Artifact → Bool
is_artifact d id a = same_dataset d a.dataset && same_text id a.id

-- the tag is the dataset's of this name
abbrev pub is_tag : DatasetId → Text → Tag → Bool
is_tag d name t = same_dataset d t.dataset && same_text name t.name

-- the reservation is of this key, which is a dataset and the name of a tag
abbrev pub is_reservation : DatasetId → Text → Reservation → Bool
is_reservation d tag r = same_dataset d r.dataset && same_text tag r.tag
