-- What values under construction stand for.
use Rattle.std.specs.Prelude.{List, map}
use Rattle.serde_json.specs.Data.{Data, Members}
use Rattle.serde_json.specs.View.{view, members_view}
use Rattle.fly_writers.specs.declared.json.Json.{Json}
use Rattle.fly_writers.specs.declared.json.Message.{Message}
use Rattle.fly_writers.specs.declared.json.Elements.{Elements}

-- the JSON that a value is
abbrev pub data_of : Json → Data
data_of j = view j.tree

-- the fields of a message so far
abbrev pub members_of : Message → Members
members_of m = members_view m.fields.entries

-- the elements of a list so far
abbrev pub elements_of : Elements → List Data
elements_of e = map view e.values.items
