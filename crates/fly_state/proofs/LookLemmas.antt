-- The places of what is named, part by part.
use Rattle.std.proofs.Common.{◌≡◌, ℕ, Bool, ◌+◌, ◌<◌, List, [], ◌∷◌, ◌++◌, map, filter, length, get_or, take, Option, refl, sym, ◌∙◌, ap, bytes_eq, not, append-nil}
use Rattle.std.specs.List.{flat_map, filter_map}
use Rattle.std.proofs.lemmas.List.{map-append}
use Rattle.std.proofs.lemmas.Grind.{flat_map-append}
use Rattle.std.proofs.lemmas.List.Folds.{flat_map-map}
use Rattle.std.proofs.lemmas.List.Elements.{filter-append, filter_map-append}
use Rattle.fly_types.specs.declared.text.Text.{Text}
use Rattle.fly_docs.specs.declared.binding.Binding.{Binding}
use Rattle.fly_docs.specs.declared.binding.Bound.{Bound}
use Rattle.fly_docs.specs.declared.binding.Bound.TheOpen.{Bound-F}
use Rattle.fly_docs.specs.declared.binding.Bound.TheVariants as bound
use Rattle.fly_docs.specs.declared.binding.Bound.TheViews as view
use Rattle.fly_docs.specs.declared.binding.Bound.TheFolds.{fold-roll-Bound}
use Rattle.fly_docs.specs.Names.{start_node}
use Rattle.fly_docs.specs.Bindings.{Promised, promises_by, promises_of, sources_of}
use Rattle.fly_state.specs.Looks.{promised_ids, places_among}
use Rattle.fly_state.proofs.Loops.{more}

map-flat_map : {X A B : Type 0} (g : A → B) (f : X → List A) (xs : List X)
    → map g (flat_map f xs) ≡ flat_map (λ x. map g (f x)) xs
map-flat_map g f [] = refl
map-flat_map g f (x ∷ xs) = map-append g (f x) (flat_map f xs) ∙ ap (λ r. map g (f x) ++ r) (map-flat_map g f xs)

promises-Collection : (es : List Bound) → promises_of (bound.Collection es) ≡ flat_map promises_of es
promises-Collection es =
    ap promises_of (sym (view.rolls-Collection es))
    ∙ fold-roll-Bound (List Promised) promises_by (Bound-F.Collection es)
    ∙ flat_map-map (λ promises. promises) promises_of es

promises-Map : (es : List (Text × Bound)) → promises_of (bound.Map es) ≡ flat_map (λ e. promises_of e.1) es
promises-Map es =
    ap promises_of (sym (view.rolls-Map es)) ∙ fold-roll-Bound (List Promised) promises_by (Bound-F.Map es)
    ∙ flat_map-map (λ entry. entry.1) (λ (e : Text × Bound). (e.0, promises_of e.1)) es

abbrev id_of : Promised → Text
id_of promise = promise.0

pub ids-collection : (x : Bound) (es es' : List Bound) → x ≡ bound.Collection es → es' ≡ es
    → flat_map promised_ids es' ≡ promised_ids x
ids-collection x es es' is same =
    ap (flat_map promised_ids) same
    ∙ sym (map-flat_map id_of promises_of es)
    ∙ ap (map id_of) (sym (promises-Collection es)) ∙ ap promised_ids (sym is)

pub ids-map : (x : Bound) (es es' : List (Text × Bound)) → x ≡ bound.Map es → es' ≡ es
    → flat_map (λ (e : Text × Bound). promised_ids e.1) es' ≡ promised_ids x
ids-map x es es' is same =
    ap (flat_map (λ (e : Text × Bound). promised_ids e.1)) same
    ∙ sym (map-flat_map id_of (λ (e : Text × Bound). promises_of e.1) es)
    ∙ ap (map id_of) (sym (promises-Map es)) ∙ ap promised_ids (sym is)

module _ (place : Text → Option ℕ) where
  abbrev not_start : Text → Bool
  not_start id = not (bytes_eq id start_node)

  pub among-append : (xs ys : List Text)
      → places_among place (xs ++ ys) ≡ places_among place xs ++ places_among place ys
  among-append xs ys =
      ap (filter_map place) (filter-append not_start xs ys)
      ∙ filter_map-append place (filter not_start xs) (filter not_start ys)

  among-flat_map : {X : Type 0} (f : X → List Text) (xs : List X)
      → places_among place (flat_map f xs) ≡ flat_map (λ x. places_among place (f x)) xs
  among-flat_map f [] = refl
  among-flat_map f (x ∷ xs) =
      among-append (f x) (flat_map f xs) ∙ ap (λ r. places_among place (f x) ++ r) (among-flat_map f xs)

  pub among-collection : (x : Bound) (es es' : List Bound) → x ≡ bound.Collection es → es' ≡ es
      → flat_map (λ e. places_among place (promised_ids e)) es' ≡ places_among place (promised_ids x)
  among-collection x es es' is same =
      sym (among-flat_map promised_ids es') ∙ ap (places_among place) (ids-collection x es es' is same)

  pub among-map : (x : Bound) (es es' : List (Text × Bound)) → x ≡ bound.Map es → es' ≡ es
      → flat_map (λ e. places_among place (promised_ids e.1)) es' ≡ places_among place (promised_ids x)
  among-map x es es' is same =
      sym (among-flat_map (λ (e : Text × Bound). promised_ids e.1) es')
      ∙ ap (places_among place) (ids-map x es es' is same)

  -- one binding more, and one id more
  pub sources-more : (xs : List Binding) (i : ℕ) (x : Binding) → i < length xs → x ≡ get_or xs i x
      → places_among place (sources_of (take (i + 1) xs))
      ≡ places_among place (sources_of (take i xs)) ++ places_among place (promised_ids x.bound)
  sources-more xs i x lt is =
      ap (λ ys. places_among place (sources_of ys)) (more xs i x lt is)
      ∙ ap (places_among place) (flat_map-append (λ (y : Binding). promised_ids y.bound) (take i xs) (x ∷ [])
      ∙ ap (λ r. sources_of (take i xs) ++ r) (append-nil (promised_ids x.bound)))
      ∙ among-append (sources_of (take i xs)) (promised_ids x.bound)

  pub ids-more : (ids : List Text) (i : ℕ) (id : Text) → i < length ids → id ≡ get_or ids i id
      → places_among place (take (i + 1) ids) ≡ places_among place (take i ids) ++ places_among place (id ∷ [])
  ids-more ids i id lt is = ap (places_among place) (more ids i id lt is) ∙ among-append (take i ids) (id ∷ [])
