use Rattle.std.proofs.Common.{rules, ◌≡◌, ◌==◌, map, Bool, true, false, List, [], ◌∷◌, cond, Option, is_some, option_map, Some, ◌||◌, refl}
use Rattle.std.specs.List.{find, list_any}
use Rattle.std.specs.Str.{bytes_eq}
use Rattle.serde_json.specs.declared.value.Value.{the_lemmas}
use Rattle.fly_schema.specs.Table.{Value}
use Rattle.fly_schema.specs.Views.{value_of}
use Rattle.fly_schema.specs.declared.table.EnumValue.{EnumValue}
use Rattle.fly_schema.proofs.scalars.is_among.Goals as goal

found_or_not : (b : Bool) (v : Value) (rest : Option Value) (more : Bool)
    → is_some (option_map (λ (w : Value). w.number) rest) ≡ more
    → is_some (option_map (λ (w : Value). w.number) (cond b (Some v) rest)) ≡ b || more
found_or_not true v rest more e = refl
found_or_not false v rest more e = e

find_any : (p : Value → Bool) (vs : List EnumValue)
    → is_some (option_map (λ (w : Value). w.number) (find p (map value_of vs))) ≡ list_any (λ v. p (value_of v)) vs
find_any p [] = refl
find_any p (v ∷ vs) = found_or_not (p (value_of v)) (value_of v) _ _ (find_any p vs)

pub returns-in-String : goal.returns-in-String
returns-in-String c =
    let e = find_any (λ v. bytes_eq c.as_str.result.now v.name) c.args.values.now in search (rules, the_lemmas, e)

pub returns-in-Some : goal.returns-in-Some
returns-in-Some c =
    let e = find_any (λ v. c.in-Some.number == v.number) c.args.values.now in search (rules, the_lemmas, e)

pub returns-in-None : goal.returns-in-None
returns-in-None c = search (rules, the_lemmas)

pub returns-in_default : goal.returns-in_default
returns-in_default c = search (rules, the_lemmas)
