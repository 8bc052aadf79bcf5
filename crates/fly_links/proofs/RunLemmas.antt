-- What nodes run, node by node.
use Rattle.std.proofs.Common.{◌≡◌, ℕ, ◌+◌, ◌<◌, List, [], ◌∷◌, ◌++◌, map, length, take, get_or, Option, Some, None, option_to_list, refl, sym, ◌∙◌, ap}
use Rattle.std.specs.Borrow.{Bor}
use Rattle.std.specs.List.{filter_map, cons_option}
use Rattle.std.proofs.lemmas.List.{map_more}
use Rattle.std.proofs.lemmas.List.Elements.{filter_map-append}

in_case : {Y : Type 0} (o : Option Y) → cons_option o [] ≡ option_to_list o
in_case None = refl
in_case (Some y) = refl

one : {X Y : Type 0} (f : X → Option Y) (x : X) → filter_map f (x ∷ []) ≡ option_to_list (f x)
one f x = in_case (f x)

module _ {X Y : Type 0} (f : X → Option Y) (xs : List (Bor X)) (i : ℕ) (x : Bor X) (below : i < length xs) (here : x ≡ get_or xs i x) where
  abbrev found_before : ℕ → List Y
  found_before n = filter_map f (map (λ b. b.now) (take n xs))

  pub runs_more : (o : Option Y) → f x.now ≡ o → found_before (i + 1) ≡ found_before i ++ option_to_list o
  runs_more o e =
      ap (filter_map f) (map_more (λ (b : Bor X). b.now) xs i x below)
      ∙ filter_map-append f (map (λ (b : Bor X). b.now) (take i xs)) ((get_or xs i x).now ∷ [])
      ∙ ap (λ ys. found_before i ++ ys) (ap (λ (b : Bor X). filter_map f (b.now ∷ [])) (sym here) ∙ one f x.now ∙ ap option_to_list e)
