-- Which texts are ids and fields of identifiers (`core/identifier.proto` of flyteidl). The limits are this project's own.
use Rattle.std.specs.Prelude.{ℕ, ◌≤◌, ◌==◌, ◌||◌, Bool, List, length, codes, nat_le, ◌&&◌}
use Rattle.std.specs.List.{AllPass}
use Rattle.std.specs.Char.{is_ascii_alphanumeric}
use Rattle.fly_docs.specs.declared.names.Identifier.{Identifier}

-- the id by which a promise names an input of the workflow, and which stands before the first nodes in its connections
abbrev pub start_node : List ℕ
start_node = codes "start-node"

-- the id that stands for the outputs of the workflow, behind the last nodes
abbrev pub end_node : List ℕ
end_node = codes "end-node"

-- a letter, a digit, `-` or `_`
abbrev pub is_id_byte : ℕ → Bool
is_id_byte b = is_ascii_alphanumeric b || b == 45 || b == 95

-- the id of a node or an execution, or the name of a variable
pub record IsId (id : List ℕ) : Type 0 where
  pub some : 1 ≤ length id
  pub short : length id ≤ 63
  pub bytes : AllPass is_id_byte id

-- visible ASCII
abbrev pub is_field_byte : ℕ → Bool
is_field_byte b = nat_le 33 b && nat_le b 126

-- a field of an identifier
pub record IsField (text : List ℕ) : Type 0 where
  pub short : length text ≤ 255
  pub bytes : AllPass is_field_byte text

-- what may name a task or a workflow
pub record IsIdentifier (i : Identifier) : Type 0 where
  pub project : IsField i.project
  pub domain : IsField i.domain
  pub name : IsField i.name
  pub named : 1 ≤ length i.name
  pub version : IsField i.version
