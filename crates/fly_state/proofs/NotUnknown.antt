-- What is bound and fits has a value, or a text outside its enum, where what it promises is known.
use Rattle.std.proofs.Common.{◌≡◌, ◌≢◌, ℕ, zero, suc, ◌+◌, ◌-◌, ◌≤◌, Bool, true, false, List, [], ◌∷◌, ◌++◌, map, filter, Contains, Option, Some, None, Result, Ok, Err, is_some, refl, sym, ◌∙◌, ap, subst, arith}
use Rattle.std.specs.Prelude.{⊤}
use Rattle.std.specs.List.{flat_map, list_all}
use Rattle.std.proofs.lemmas.Bool.{false≢true}
use Rattle.fly_types.specs.declared.text.Text.{Text}
use Rattle.fly_types.specs.declared.kinds.LiteralType.{LiteralType, out-LiteralType}
use Rattle.fly_types.specs.declared.kinds.LiteralType.TheOpen.{LiteralType-F}
use Rattle.fly_types.specs.declared.literals.Literal.{Literal}
use Rattle.fly_types.specs.declared.literals.Literal.TheVariants as literal
use Rattle.fly_types.specs.Layer.{TypeLayer}
use Rattle.fly_types.specs.Levels.{type_levels}
use Rattle.fly_cast.specs.Castable.{sole_element}
use Rattle.fly_cast.specs.Conversion.{Conversion, result_map, result_ahead_of, each_result, entry_result, conversion_of}
use Rattle.fly_cast.specs.Fitting.{fitting_of}
use Rattle.fly_cast.proofs.Levels.{layer_levels, type_levels-out, type_levels-positive, sole_element-levels}
use Rattle.fly_cast.proofs.Lists.{sole_element-passes}
use Rattle.fly_docs.specs.declared.binding.Bound.{Bound, out-Bound}
use Rattle.fly_docs.specs.declared.binding.Bound.TheOpen.{Bound-F}
use Rattle.fly_docs.specs.declared.binding.Bound.TheFolds.{fold_out-Bound, map-Bound}
use Rattle.fly_docs.specs.Layer.{BoundLayer}
use Rattle.fly_docs.specs.Bindings.{Promised, source_node, promises_of, promises_by}
use Rattle.fly_docs.specs.Fitting.{source_fits, bound_form_fits, bound_fits}
use Rattle.fly_docs.specs.NodeInterfaces.{Source, of_type, of_anything, no_node, no_variable}
use Rattle.fly_docs.specs.SlotInputs.{Known, Taken, enum_outside, known_literal, or_unknown, of_conversion, promise_value, variant_value, bound_form_value, bound_value}
use Rattle.fly_rules.proofs.GroundLemmas.{Contains-map, Contains-flat_map}
use Rattle.fly_state.proofs.BindingFits.{bound_fits-step}
use Rattle.fly_state.proofs.BindingValues.{bound_value-step}
use Rattle.fly_state.proofs.Lists.{first_in, later_in}
use Rattle.fly_state.proofs.TakenLemmas.{all-test}

-- it is a value, or has a text outside its enum
abbrev pub IsClear : {X : Type 0} → Taken X → Type 0
IsClear (Ok x) = ⊤
IsClear (Err (enum_outside text)) = ⊤
IsClear _ = ⊥

clear-conversion : (c : Conversion) → IsClear (of_conversion c)
clear-conversion (Ok l) = tt
clear-conversion (Err text) = tt

pub clear-map : {X Y : Type 0} (g : X → Y) (r : Taken X) → IsClear r → IsClear (result_map g r)
clear-map g (Ok x) h = tt
clear-map g (Err (enum_outside text)) h = tt
clear-map g (Err _) h = absurd h

clear-ahead : {Y : Type 0} (rest : Taken (List Y)) (one : Taken Y) → IsClear rest → IsClear one → IsClear (result_ahead_of rest one)
clear-ahead rest (Ok y) h k = clear-map (λ ys. y ∷ ys) rest h
clear-ahead rest (Err (enum_outside text)) h k = tt
clear-ahead rest (Err _) h k = absurd k

pub clear-each : {X Y : Type 0} (f : X → Taken Y) (xs : List X) → ((x : X) → Contains xs x → IsClear (f x)) → IsClear (each_result f xs)
clear-each f [] each = tt
clear-each f (x ∷ xs) each =
    clear-ahead (each_result f xs) (f x) (clear-each f xs (λ y has. each y (later_in x xs y has))) (each x (first_in x xs))

-- what passes a test of all
pub passes : {X : Type 0} (p : X → Bool) (xs : List X) (x : X) → list_all p xs ≡ true → Contains xs x → p x ≡ true
passes p xs x all has = subst (λ y. p y ≡ true) has.2 (all-test p xs all has.0 x has.1)

abbrev layer_promises : BoundLayer → List Promised
layer_promises layer = promises_by (map-Bound Bound (List Promised) promises_of layer)

promises-layer : (x : Bound) (layer : BoundLayer) → out-Bound x ≡ layer → promises_of x ≡ layer_promises layer
promises-layer x layer e = fold_out-Bound (List Promised) promises_by x ∙ ap layer_promises e

module _ (source : Promised → Source) (known : Known) where
  -- a promise of a known type is known
  abbrev pub IsKnownPromise : Promised → Type 0
  IsKnownPromise promise =
      (source promise ≢ of_anything) × ((t : LiteralType) → source promise ≡ of_type t → (l : Literal) × (known_literal known promise ≡ Some l))

  abbrev pub AllKnown : Bound → Type 0
  AllKnown x = (promise : Promised) → Contains (promises_of x) promise → IsKnownPromise promise

  clear-promise : (t : LiteralType) (promise : Promised) (s : Source) → source promise ≡ s → source_fits t s ≡ true → IsKnownPromise promise
      → IsClear (promise_value t s (known_literal known promise))
  clear-promise t promise (of_type u) is fits known_one =
      let there = known_one.1 u is in
      subst (λ o. IsClear (promise_value t (of_type u) o)) (sym there.1) (clear-conversion (conversion_of there.0 u t))
  clear-promise t promise of_anything is fits known_one = absurd (known_one.0 is)
  clear-promise t promise no_node is fits known_one = absurd (false≢true fits)
  clear-promise t promise no_variable is fits known_one = absurd (false≢true fits)

  clear-some : (o : Option Literal) → is_some o ≡ true → IsClear (or_unknown o)
  clear-some (Some l) e = tt
  clear-some None e = absurd (false≢true e)

  clear-variant : (value : LiteralType → Taken Literal) (o : Option LiteralType) → is_some o ≡ true
      → ((t : LiteralType) → o ≡ Some t → IsClear (value t)) → IsClear (variant_value value o)
  clear-variant value (Some t) e each = clear-map (λ l. literal.Union l t) (value t) (each t refl)
  clear-variant value None e each = absurd (false≢true e)

  abbrev ClearBelow : ℕ → Type 0
  ClearBelow n = (x : Bound) (t : LiteralType) → type_levels t ≤ n → bound_fits source x t ≡ true → AllKnown x → IsClear (bound_value source known x t)

  clear-union : (n : ℕ) (x : Bound) (ts : List LiteralType) → ClearBelow n → layer_levels (LiteralType-F.Union ts) ≤ n + 1 → AllKnown x
      → is_some (sole_element (filter (bound_fits source x) ts)) ≡ true
      → IsClear (variant_value (bound_value source known x) (sole_element (filter (bound_fits source x) ts)))
  clear-union n x ts before le all e =
      clear-variant (bound_value source known x) (sole_element (filter (bound_fits source x) ts)) e (λ t is.
      before x t (omega (arith, le, sole_element-levels (bound_fits source x) ts t is)) (sole_element-passes (bound_fits source x) ts t is) all)

  clear-form : (n : ℕ) (x : Bound) (t : LiteralType) (p : BoundLayer) (q : TypeLayer) → ClearBelow n → out-Bound x ≡ p → layer_levels q ≤ n + 1 → AllKnown x
      → bound_form_fits source (bound_fits source) x t p q ≡ true → IsClear (bound_form_value source known (bound_value source known) x t p q)
  clear-form n x t (Bound-F.Promise node var) q before is le all e =
      let promise : Promised = (source_node node, var) in
      clear-promise t promise (source promise) refl e
      (all promise (subst (λ ps. Contains ps promise) (sym (promises-layer x (Bound-F.Promise node var) is)) (first_in promise [])))
  clear-form n x t (Bound-F.Scalar l) q before is le all e = clear-some (fitting_of l t) e
  clear-form n x t (Bound-F.Collection es) (LiteralType-F.Collection y) before is le all e =
      clear-map literal.Collection (each_result (λ v. bound_value source known v y) es) (clear-each (λ v. bound_value source known v y) es (λ v has.
      before v y (omega arith) (passes (λ u. bound_fits source u y) es v e has) (λ promise inside.
      all promise (subst (λ ps. Contains ps promise) (sym (promises-layer x (Bound-F.Collection es) is))
      (Contains-flat_map (λ (ps : List Promised). ps) (map promises_of es) (promises_of v) promise (Contains-map promises_of es v has) inside)))))
  clear-form n x t (Bound-F.Map es) (LiteralType-F.Map y) before is le all e =
      clear-map literal.Map (each_result (entry_result (λ v. bound_value source known v y)) es)
      (clear-each (entry_result (λ v. bound_value source known v y)) es (λ entry has.
      clear-map (λ l. (entry.0, l)) (bound_value source known entry.1 y)
      (before entry.1 y (omega arith) (passes (λ (u : Text × Bound). bound_fits source u.1 y) es entry e has) (λ promise inside.
      all promise (subst (λ ps. Contains ps promise) (sym (promises-layer x (Bound-F.Map es) is))
      (Contains-flat_map (λ (u : Text × List Promised). u.1) (map (λ (u : Text × Bound). (u.0, promises_of u.1)) es) (entry.0, promises_of entry.1) promise
      (Contains-map (λ (u : Text × Bound). (u.0, promises_of u.1)) es entry has) inside))))))
  clear-form n x t (Bound-F.Collection es) (LiteralType-F.Union ts) before is le all e = clear-union n x ts before le all e
  clear-form n x t (Bound-F.Map es) (LiteralType-F.Union ts) before is le all e = clear-union n x ts before le all e
  clear-form n x t (Bound-F.Collection es) q before is le all e = absurd (false≢true e)
  clear-form n x t (Bound-F.Map es) q before is le all e = absurd (false≢true e)

  clear-below : (n : ℕ) → ClearBelow n
  clear-below zero x t le fits all = absurd (omega (arith, le, type_levels-positive t))
  clear-below (suc n) x t le fits all =
      subst IsClear (sym (bound_value-step source known x t))
      (clear-form n x t (out-Bound x) (out-LiteralType t) (clear-below n) refl (omega (arith, le, type_levels-out t)) all
      (sym (bound_fits-step source x t) ∙ fits))

  pub clear-value : (x : Bound) (t : LiteralType) → bound_fits source x t ≡ true → AllKnown x → IsClear (bound_value source known x t)
  clear-value x t fits all = clear-below (type_levels t) x t (omega arith) fits all
