-- The places of the nodes that ids name, list by list.
use Rattle.std.proofs.Common.{◌≡◌, List, [], ◌∷◌, ◌++◌, map, not, refl, sym, ◌∙◌, ap, bytes_eq}
use Rattle.std.specs.List.{filter, flat_map, filter_map}
use Rattle.std.proofs.lemmas.List.Elements.{filter-append, filter_map-append}
use Rattle.std.proofs.lemmas.List.Folds.{flat_map-map}
use Rattle.fly_types.specs.declared.text.Text.{Text}
use Rattle.fly_docs.specs.declared.binding.Binding.{Binding}
use Rattle.fly_docs.specs.declared.binding.Bound.{Bound}
use Rattle.fly_docs.specs.declared.binding.Bound.TheOpen.{Bound-F}
use Rattle.fly_docs.specs.declared.binding.Bound.TheVariants as bound
use Rattle.fly_docs.specs.declared.binding.Bound.TheViews as view
use Rattle.fly_docs.specs.declared.binding.Bound.TheFolds.{fold-roll-Bound}
use Rattle.fly_docs.specs.declared.workflow.Workflow.{Workflow}
use Rattle.fly_docs.specs.Names.{start_node}
use Rattle.fly_docs.specs.Bindings.{Promised, promises_by, promises_of, sources_of}
use Rattle.fly_docs.specs.Plans.{place_named}
use Rattle.fly_links.specs.Named.{places_named, promised_ids}
use Rattle.fly_links.proofs.LoopLemmas.{map-flat_map}

module _ (w : Workflow) where
  pub named_append : (xs ys : List Text) → places_named w (xs ++ ys) ≡ places_named w xs ++ places_named w ys
  named_append xs ys =
      ap (filter_map (place_named w)) (filter-append (λ id. not (bytes_eq id start_node)) xs ys)
      ∙ filter_map-append (place_named w) (filter (λ id. not (bytes_eq id start_node)) xs) (filter (λ id. not (bytes_eq id start_node)) ys)

  pub named_flat : {X : Type 0} (f : X → List Text) (xs : List X) → places_named w (flat_map f xs) ≡ flat_map (λ x. places_named w (f x)) xs
  named_flat f [] = refl
  named_flat f (x ∷ xs) = named_append (f x) (flat_map f xs) ∙ ap (λ r. places_named w (f x) ++ r) (named_flat f xs)

  pub named_ones : (ids : List Text) → flat_map (λ id. places_named w (id ∷ [])) ids ≡ places_named w ids
  named_ones [] = refl
  named_ones (id ∷ ids) = ap (λ r. places_named w (id ∷ []) ++ r) (named_ones ids) ∙ sym (named_append (id ∷ []) ids)

  pub named_inputs : (inputs : List Binding) → flat_map (λ (x : Binding). places_named w (promised_ids x.bound)) inputs ≡ places_named w (sources_of inputs)
  named_inputs inputs = sym (named_flat (λ (x : Binding). promised_ids x.bound) inputs)

  promises-Collection : (es : List Bound) → promises_of (bound.Collection es) ≡ flat_map promises_of es
  promises-Collection es =
      ap promises_of (sym (view.rolls-Collection es)) ∙ fold-roll-Bound (List Promised) promises_by (Bound-F.Collection es)
      ∙ flat_map-map (λ promises. promises) promises_of es

  promises-Map : (es : List (Text × Bound)) → promises_of (bound.Map es) ≡ flat_map (λ e. promises_of e.1) es
  promises-Map es =
      ap promises_of (sym (view.rolls-Map es)) ∙ fold-roll-Bound (List Promised) promises_by (Bound-F.Map es)
      ∙ flat_map-map (λ entry. entry.1) (λ (e : Text × Bound). (e.0, promises_of e.1)) es

  pub named_collection : (x : Bound) (es es' : List Bound) → x ≡ bound.Collection es → es' ≡ es
      → flat_map (λ e. places_named w (promised_ids e)) es' ≡ places_named w (promised_ids x)
  named_collection x es es' is same =
      ap (flat_map (λ e. places_named w (promised_ids e))) same
      ∙ sym (ap (λ y. places_named w (promised_ids y)) is
      ∙ ap (places_named w) (ap (map (λ promise. promise.0)) (promises-Collection es) ∙ map-flat_map (λ promise. promise.0) promises_of es)
      ∙ named_flat promised_ids es)

  pub named_map : (x : Bound) (es es' : List (Text × Bound)) → x ≡ bound.Map es → es' ≡ es
      → flat_map (λ e. places_named w (promised_ids e.1)) es' ≡ places_named w (promised_ids x)
  named_map x es es' is same =
      ap (flat_map (λ (e : Text × Bound). places_named w (promised_ids e.1))) same
      ∙ sym (ap (λ y. places_named w (promised_ids y)) is
      ∙ ap (places_named w) (ap (map (λ promise. promise.0)) (promises-Map es) ∙ map-flat_map (λ promise. promise.0) (λ (e : Text × Bound). promises_of e.1) es)
      ∙ named_flat (λ (e : Text × Bound). promised_ids e.1) es)
