-- The members of a `oneof` that are there, as far as a loop has come.
use Rattle.std.proofs.Common.{◌≡◌, ℕ, ◌+◌, ◌<◌, List, ◌∷◌, Bool, true, cond, length, get_or, drop, Some, is_some, refl, sym, ap, ◌∙◌}
use Rattle.std.specs.List.{filter}
use Rattle.std.proofs.lemmas.List.{drop_more}
use Rattle.serde_json.specs.Data.{Data}
use Rattle.serde_json.specs.View.{view}
use Rattle.fly_schema.specs.declared.rules.There.{There}
use Rattle.fly_schema.specs.declared.rules.There.TheVariants.{No, One, More}
use Rattle.fly_schema.specs.declared.table.Field.{Field}
use Rattle.fly_schema.specs.Lookups.{value_at, is_there}
use Rattle.fly_schema.specs.Views.{name_of}

-- all that are there, where these are still to come
abbrev pub SoFar : Data → There → (all rest : List Field) → Type 0
SoFar d No all rest = all ≡ rest
SoFar d (One field value) all rest =
    (all ≡ field.now ∷ rest) × (Some (view value.now) ≡ value_at (name_of field.now.name) d)
SoFar d More all rest = ⊥

abbrev pub is_member : Data → Field → Bool
is_member d f = is_there (name_of f.name) d

-- those of the fields from this number on
abbrev pub still : Data → List Field → ℕ → List Field
still d fields n = filter (is_member d) (drop n fields)

by_test : (d : Data) (f : Field) (fs : List Field) (b : Bool) → is_member d f ≡ b
    → filter (is_member d) (f ∷ fs) ≡ cond b (f ∷ filter (is_member d) fs) (filter (is_member d) fs)
by_test d f fs b e = ap (λ t. cond t (f ∷ filter (is_member d) fs) (filter (is_member d) fs)) e

pub at_there : (d : Data) (fields : List Field) (n : ℕ) (x : Field) (v : Data) → n < length fields
    → Some v ≡ value_at (name_of (get_or fields n x).name) d
    → still d fields n ≡ get_or fields n x ∷ still d fields (n + 1)
at_there d fields n x v h e =
    ap (filter (is_member d)) (drop_more fields n x h)
    ∙ by_test d (get_or fields n x) (drop (n + 1) fields) true (ap is_some (sym e))

-- a second one that is there
pub two : (d : Data) (t : There) (fields : List Field) (n : ℕ) (x : Field) (v : Data)
    → SoFar d t (still d fields 0) (still d fields n)
    → (t ≡ No → ⊥) → n < length fields → Some v ≡ value_at (name_of (get_or fields n x).name) d
    → (a : Field) × (b : Field) × (rest : List Field) × (still d fields 0 ≡ a ∷ b ∷ rest)
two d No fields n x v so_far other h e = absurd (other refl)
two d (One g w) fields n x v so_far other h e =
    (g.now, get_or fields n x, still d fields (n + 1), so_far.0 ∙ ap (λ fs. g.now ∷ fs) (at_there d fields n x v h e))
two d More fields n x v so_far other h e = absurd so_far
