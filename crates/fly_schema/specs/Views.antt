-- The rows that the table of the code stands for: its references are what they lead to.
use Rattle.std.specs.Prelude.{List, map}
use Rattle.std.specs.Option.{option_map}
use Rattle.fly_schema.specs.declared.table.Name.{Name}
use Rattle.fly_schema.specs.declared.table.TextForm.{TextForm}
use Rattle.fly_schema.specs.declared.table.TextForm.TheVariants.{Any, Bytes}
use Rattle.fly_schema.specs.declared.table.EnumValue.{EnumValue}
use Rattle.fly_schema.specs.declared.table.Scalar.{Scalar}
use Rattle.fly_schema.specs.declared.table.Scalar.TheVariants as scalars
use Rattle.fly_schema.specs.declared.table.Kind.{Kind}
use Rattle.fly_schema.specs.declared.table.Kind.TheVariants as kinds
use Rattle.fly_schema.specs.declared.table.Shape.{Shape}
use Rattle.fly_schema.specs.declared.table.Shape.TheVariants as shapes
use Rattle.fly_schema.specs.declared.table.Form.{Form}
use Rattle.fly_schema.specs.declared.table.Need.{Need}
use Rattle.fly_schema.specs.declared.table.Need.TheVariants as needs
use Rattle.fly_schema.specs.declared.table.Field.{Field}
use Rattle.fly_schema.specs.declared.table.Part.{Part}
use Rattle.fly_schema.specs.declared.table.Part.TheVariants as parts
use Rattle.fly_schema.specs.declared.table.LeftOut.{LeftOut}
use Rattle.fly_schema.specs.declared.table.Instead.{Instead}
use Rattle.fly_schema.specs.declared.table.Row.{Row}
use Rattle.fly_schema.specs.Table.{Named, Texts, any_text, bytes_within, Value, Scalars, boolean_form, text_form, integer_form, whole_form, enum_form, bytes_form, datetime_form, duration_form, timeout_form, float_form, Kinds, scalar, message, struct, empty, Shapes, one, list, map_by, Forms, Needs, optional, required, unless_filled, FieldRow, Parts, single, one_of, LeftOutRow, InsteadRow, MessageRow}

abbrev pub name_of : Name → Named
name_of n = record { camel = n.camel.now; original = n.original.now }

abbrev pub texts_of : TextForm → Texts
texts_of Any = any_text
texts_of (Bytes least most ranges) = bytes_within least most ranges.now

abbrev pub value_of : EnumValue → Value
value_of v = record { name = v.name.now; number = v.number }

abbrev pub scalar_of : Scalar → Scalars
scalar_of scalars.Bool = boolean_form
scalar_of (scalars.Text texts) = text_form (texts_of texts)
scalar_of scalars.Integer = integer_form
scalar_of (scalars.Whole most) = whole_form most
scalar_of (scalars.Enum values refused) = enum_form (map value_of values.now) (map value_of refused.now)
scalar_of scalars.Bytes = bytes_form
scalar_of scalars.Datetime = datetime_form
scalar_of scalars.Duration = duration_form
scalar_of scalars.Timeout = timeout_form
scalar_of scalars.Float = float_form

abbrev pub kind_of : Kind → Kinds
kind_of (kinds.Scalar s) = scalar (scalar_of s)
kind_of (kinds.Message row) = message row
kind_of kinds.Struct = struct
kind_of kinds.Empty = empty

abbrev pub shape_of : Shape → Shapes
shape_of shapes.One = one
shape_of shapes.List = list
shape_of (shapes.Map keys) = map_by (texts_of keys)

abbrev pub form_of : Form → Forms
form_of f = record { shape = shape_of f.shape; kind = kind_of f.kind; level = f.level }

abbrev pub need_of : Need → Needs
need_of needs.Optional = optional
need_of needs.Required = required
need_of (needs.UnlessFilled other) = unless_filled (name_of other)

abbrev pub field_of : Field → FieldRow
field_of f = record { name = name_of f.name; need = need_of f.need; form = form_of f.form }

abbrev pub part_of : Part → Parts
part_of (parts.Single field) = single (field_of field)
part_of (parts.OneOf needed members) = one_of needed (map field_of members.now)

abbrev pub left_out_of : LeftOut → LeftOutRow
left_out_of l = record { name = name_of l.name; when = l.when }

abbrev pub instead_of : Instead → InsteadRow
instead_of i = record { name = name_of i.name; texts = map (λ t. t.now) i.texts.now; row = i.row }

abbrev pub row_of : Row → MessageRow
row_of r =
    record {
      instead = option_map instead_of r.instead;
      left_out = map left_out_of r.left_out.now;
      parts = map part_of r.parts.now;
    }

-- the table that the code's rows are
abbrev pub table_of : List Row → List MessageRow
table_of rows = map row_of rows
