-- The promises in lists and maps of bindings.
use Rattle.std.proofs.Common.{◌≡◌, List, [], ◌∷◌, ◌++◌, map, refl, sym, ◌∙◌, ap}
use Rattle.std.specs.List.{flat_map}
use Rattle.std.proofs.lemmas.List.{map-append}
use Rattle.std.proofs.lemmas.List.Folds.{flat_map-map}
use Rattle.fly_types.specs.declared.text.Text.{Text}
use Rattle.fly_docs.specs.declared.binding.Bound.{Bound}
use Rattle.fly_docs.specs.declared.binding.Bound.TheOpen.{Bound-F}
use Rattle.fly_docs.specs.declared.binding.Bound.TheVariants as bound
use Rattle.fly_docs.specs.declared.binding.Bound.TheViews as view
use Rattle.fly_docs.specs.declared.binding.Bound.TheFolds.{fold-roll-Bound}
use Rattle.fly_docs.specs.Bindings.{Promised, promises_by, promises_of}
use Rattle.fly_docs.specs.NodeInterfaces.{Source}
use Rattle.fly_compile.specs.Promises.{with_sources}

map-flat_map : {X A B : Type 0} (g : A → B) (f : X → List A) (xs : List X) → map g (flat_map f xs) ≡ flat_map (λ x. map g (f x)) xs
map-flat_map g f [] = refl
map-flat_map g f (x ∷ xs) = map-append g (f x) (flat_map f xs) ∙ ap (λ r. map g (f x) ++ r) (map-flat_map g f xs)

promises-Collection : (es : List Bound) → promises_of (bound.Collection es) ≡ flat_map promises_of es
promises-Collection es =
    ap promises_of (sym (view.rolls-Collection es)) ∙ fold-roll-Bound (List Promised) promises_by (Bound-F.Collection es)
    ∙ flat_map-map (λ promises. promises) promises_of es

promises-Map : (es : List (Text × Bound)) → promises_of (bound.Map es) ≡ flat_map (λ e. promises_of e.1) es
promises-Map es =
    ap promises_of (sym (view.rolls-Map es)) ∙ fold-roll-Bound (List Promised) promises_by (Bound-F.Map es)
    ∙ flat_map-map (λ entry. entry.1) (λ (e : Text × Bound). (e.0, promises_of e.1)) es

pub promises-collection : (source : Promised → Source) (x : Bound) (es es' : List Bound) → x ≡ bound.Collection es → es' ≡ es
    → flat_map (λ e. with_sources source (promises_of e)) es' ≡ with_sources source (promises_of x)
promises-collection source x es es' is same =
    ap (flat_map (λ e. with_sources source (promises_of e))) same
    ∙ sym (ap (λ y. with_sources source (promises_of y)) is ∙ ap (with_sources source) (promises-Collection es)
    ∙ map-flat_map (λ promise. (promise, source promise)) promises_of es)

pub promises-map : (source : Promised → Source) (x : Bound) (es es' : List (Text × Bound)) → x ≡ bound.Map es → es' ≡ es
    → flat_map (λ e. with_sources source (promises_of e.1)) es' ≡ with_sources source (promises_of x)
promises-map source x es es' is same =
    ap (flat_map (λ (e : Text × Bound). with_sources source (promises_of e.1))) same
    ∙ sym (ap (λ y. with_sources source (promises_of y)) is ∙ ap (with_sources source) (promises-Map es)
    ∙ map-flat_map (λ promise. (promise, source promise)) (λ (e : Text × Bound). promises_of e.1) es)
