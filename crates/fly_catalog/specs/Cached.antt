-- Under which dataset and tag the outputs of a cached node are kept, and the owner of its reservation.
use Rattle.std.specs.Prelude.{ℕ, List, ◌∷◌, ◌++◌, codes}
use Rattle.std.specs.List.{join_with_byte}
use Rattle.base64.specs.Engines.{url_safe_no_pad}
use Rattle.base64.specs.GeneralPurpose.{encode_of}
use Rattle.sha2.specs.Sha256.{sha256}
use Rattle.fly_types.specs.declared.text.Text.{Text}
use Rattle.fly_types.specs.declared.literals.LiteralMap.{LiteralMap}
use Rattle.fly_types.specs.Canonical.{map_bytes}
use Rattle.fly_docs.specs.declared.dataset.DatasetId.{DatasetId}
use Rattle.fly_docs.specs.declared.task.Task.{Task}
use Rattle.fly_docs.specs.AttemptName.{slash}

-- the task's project, domain and cache version, and its name behind `flyte_task-`
abbrev pub cached_dataset : Task → DatasetId
cached_dataset task =
    record { project = task.id.project; domain = task.id.domain; name = codes "flyte_task-" ++ task.id.name; version = task.cache_version }

-- `flyte_cached-`, and the sha-256 of the inputs' canonical bytes in base64 of the URL alphabet without padding
abbrev pub cached_tag : LiteralMap → Text
cached_tag inputs = codes "flyte_cached-" ++ encode_of url_safe_no_pad (sha256 (map_bytes inputs))

-- the execution and the ids of the path, with a slash between each two
abbrev pub owner_text : Text → List Text → Text
owner_text exec path = join_with_byte slash (exec ∷ path)
