-- A field under either of its spellings.
use Rattle.std.proofs.Common.{◌≡◌, cond, Option, Some, None, is_some, refl, ap, ◌∙◌}
use Rattle.std.specs.Option.{option_or, option_and_then}
use Rattle.serde_json.specs.Data.{Data}
use Rattle.serde_json.specs.Find.{get}
use Rattle.fly_schema.specs.Table.{Named}
use Rattle.fly_schema.specs.Lookups.{key_at, value_at, unless_null}

at_first : {A B : Type 0} (f : A → Option B) (a b : A) (o : Option B) → f a ≡ o
    → f (cond (is_some o) a b) ≡ option_or o (f b)
at_first f a b None e = refl
at_first f a b (Some x) e = e

-- what stands under the spelling that counts
pub get_at : (name : Named) (d : Data) → get (key_at name d) d ≡ option_or (get name.camel d) (get name.original d)
get_at name d = at_first (λ k. get k d) name.camel name.original (get name.camel d) refl

pub value_by : (name : Named) (d : Data) (camel original : Option Data) → get name.camel d ≡ camel
    → get name.original d ≡ original
    → value_at name d ≡ option_and_then unless_null (option_or camel original)
value_by name d camel original e f = ap (option_and_then unless_null) (get_at name d ∙ rw (e, f) refl)
