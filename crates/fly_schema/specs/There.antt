-- Which of a list of fields are there.
use Rattle.std.specs.Prelude.{◌≡◌, List, [], ◌∷◌, Some}
use Rattle.serde_json.specs.Data.{Data}
use Rattle.serde_json.specs.View.{view}
use Rattle.fly_schema.specs.declared.rules.There.{There}
use Rattle.fly_schema.specs.declared.rules.There.TheVariants.{No, One, More}
use Rattle.fly_schema.specs.declared.table.Field.{Field}
use Rattle.fly_schema.specs.Lookups.{value_at}
use Rattle.fly_schema.specs.Views.{name_of}

-- of these fields of a message
abbrev pub AreThere : Data → There → List Field → Type 0
AreThere d No fields = fields ≡ []
AreThere d (One field value) fields =
    (fields ≡ field.now ∷ []) × (Some (view value.now) ≡ value_at (name_of field.now.name) d)
AreThere d More fields = (f : Field) × (g : Field) × (rest : List Field) × (fields ≡ f ∷ g ∷ rest)
