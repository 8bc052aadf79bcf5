-- The table of messages: a row for each, with its fields in reading order.
use Rattle.std.specs.Prelude.{ℕ, Bool, List, Option}
use Rattle.fly_schema.specs.declared.table.Level.{Level}
use Rattle.fly_schema.specs.declared.table.When.{When}

-- a field's spellings: in lowerCamelCase, and with underscores
pub record Named : Type 0 where
  pub camel : List ℕ
  pub original : List ℕ

-- which texts may stand: any, or those of so many bytes, each in one of the ranges
pub data Texts : Type 0 where
  any_text : Texts
  bytes_within : (least most : ℕ) → List (ℕ × ℕ) → Texts

-- a value of an enum
pub record Value : Type 0 where
  pub name : List ℕ
  pub number : ℕ

-- scalars: numbers of 64 bits, numbers from 0 to a greatest one, enums with the values that are read and those that
-- are refused as floats, durations that may be negative and those that may not, and floats
pub data Scalars : Type 0 where
  boolean_form : Scalars
  text_form : Texts → Scalars
  integer_form : Scalars
  whole_form : ℕ → Scalars
  enum_form : (values refused : List Value) → Scalars
  bytes_form : Scalars
  datetime_form : Scalars
  duration_form : Scalars
  timeout_form : Scalars
  float_form : Scalars

-- one value: a scalar, a message by the number of its row, a STRUCT, or an object that is passed over
pub data Kinds : Type 0 where
  scalar : Scalars → Kinds
  message : ℕ → Kinds
  struct : Kinds
  empty : Kinds

-- one value, a list, or a map by keys of a form
pub data Shapes : Type 0 where
  one : Shapes
  list : Shapes
  map_by : Texts → Shapes

pub record Forms : Type 0 where
  pub shape : Shapes
  pub kind : Kinds
  pub level : Level

-- whether a field may be absent: always, never, or where another one is filled
pub data Needs : Type 0 where
  optional : Needs
  required : Needs
  unless_filled : Named → Needs

pub record FieldRow : Type 0 where
  pub name : Named
  pub need : Needs
  pub form : Forms

-- a field, or a `oneof` that may be unset or not
pub data Parts : Type 0 where
  single : FieldRow → Parts
  one_of : (needed : Bool) → List FieldRow → Parts

pub record LeftOutRow : Type 0 where
  pub name : Named
  pub when : When

-- another row, where the field has one of the texts
pub record InsteadRow : Type 0 where
  pub name : Named
  pub texts : List (List ℕ)
  pub row : ℕ

pub record MessageRow : Type 0 where
  pub instead : Option InsteadRow
  pub left_out : List LeftOutRow
  pub parts : List Parts
