-- An index after each change of what it tells, and what a search finds by it.
use Rattle.std.proofs.Common.{◌≡◌, ◌⊎◌, ℕ, suc, ◌+◌, ◌<◌, ◌≤◌, Bool, true, false, List, inl, inr, sym, ◌∙◌, subst, refl, arith}
use Rattle.std.specs.Prelude.{Option, Some, None, option_and_then, slice_get}
use Rattle.std.specs.List.{find}
use Rattle.fly_catalog.specs.Index.{Indexes}
use Rattle.fly_catalog.proofs.Finds.{find_unique, find_none}

-- a value that is reached through an option, in its two steps
pub option_steps : {X Y : Type 0} (f : X → Option Y) (o : Option X) (y : Y) → option_and_then f o ≡ Some y → (x : X) × (o ≡ Some x) × (f x ≡ Some y)
option_steps f None y h = cc
option_steps f (Some x) y h = (x, refl, h)

-- an option is none or some
pub option_cases : {X : Type 0} (o : Option X) → (o ≡ None) ⊎ ((x : X) × (o ≡ Some x))
option_cases None = inl refl
option_cases (Some x) = inr (x, refl)

module _ {K X : Type 0} (f : K → Option ℕ) (g : ℕ → Option X) (key : X → Option K) (limit : ℕ) (indexes : Indexes f g key limit) where
  -- the number of an item that has the key
  pub number_at : (i : ℕ) (x : X) (k : K) → g i ≡ Some x → key x ≡ Some k → f k ≡ Some i
  number_at i x k h e =
      let P : Option K → Type 0 = λ o. option_and_then f o ≡ Some i in
      subst P e (indexes.complete i x h)

  -- an item has a key
  pub key_at : (i : ℕ) (x : X) → g i ≡ Some x → (k : K) × (key x ≡ Some k)
  key_at i x h = let s = option_steps f (key x) i (indexes.complete i x h) in (s.0, s.1)

  -- the keys of items stay when there are more keys
  pub grow : (key' : X → Option K) → ((x : X) (k : K) → key x ≡ Some k → key' x ≡ Some k) → Indexes f g key' limit
  grow key' grows = record {
    sound = λ k i x e h. grows x k (indexes.sound k i x e h);
    complete = λ i x h. (
        let s = key_at i x h in
        let P : Option K → Type 0 = λ o. option_and_then f o ≡ Some i in
        subst P (sym (grows x s.0 s.1)) (number_at i x s.0 h s.1));
    below = indexes.below;
    within = indexes.within;
  }

  -- keys may lead to their numbers by another map
  pub alike : (f' : K → Option ℕ) → ((k : K) → f' k ≡ f k) → Indexes f' g key limit
  alike f' same = record {
    sound = λ k i x e h. indexes.sound k i x (sym (same k) ∙ e) h;
    complete = λ i x h. (
        let s = key_at i x h in
        let P : Option K → Type 0 = λ o. option_and_then f' o ≡ Some i in
        subst P (sym s.1) (same s.0 ∙ number_at i x s.0 h s.1));
    below = λ k i e. indexes.below k i (sym (same k) ∙ e);
    within = indexes.within;
  }

  -- items may go, and may change but for their keys
  pub change : (g' : ℕ → Option X) → ((i : ℕ) (y : X) → g' i ≡ Some y → (x : X) × (g i ≡ Some x) × (key y ≡ key x)) → Indexes f g' key limit
  change g' changed = record {
    sound = λ k i y e h. (let s = changed i y h in s.2 ∙ indexes.sound k i s.0 e s.1);
    complete = λ i y h. (
        let s = changed i y h in
        let P : Option K → Type 0 = λ o. option_and_then f o ≡ Some i in
        subst P (sym s.2) (indexes.complete i s.0 s.1));
    below = indexes.below;
    within = λ i y h. (let s = changed i y h in indexes.within i s.0 s.1);
  }

  module _ (f' : K → Option ℕ) (k0 : K) (others : (q : K) → ((k0 ≡ q) × (f' q ≡ Some limit)) ⊎ (f' q ≡ f q))
      (unused : (i : ℕ) (x : X) → f k0 ≡ Some i → g i ≡ Some x → ⊥) where
    below' : (k : K) (i : ℕ) → f' k ≡ Some i → i < limit + 1
    below' k i e =
        elim (others k) [
          | inl (same, here) ↦ (let is : i ≡ limit = cc in omega arith)
          | inr same ↦ (let lt : i < limit = indexes.below k i (sym same ∙ e) in omega arith)
        ]

    -- an item that was there keeps its number
    kept : (i : ℕ) (x : X) (k : K) → g i ≡ Some x → key x ≡ Some k → f' k ≡ Some i
    kept i x k h e =
        elim (others k) [
          | inl (same, here) ↦ (let P : K → Type 0 = λ q. f q ≡ Some i in absurd (unused i x (subst P (sym same) (number_at i x k h e)) h))
          | inr same ↦ same ∙ number_at i x k h e
        ]

    complete_old : (i : ℕ) (x : X) → g i ≡ Some x → option_and_then f' (key x) ≡ Some i
    complete_old i x h =
        let s = key_at i x h in
        let P : Option K → Type 0 = λ o. option_and_then f' o ≡ Some i in
        subst P (sym s.1) (kept i x s.0 h s.1)

    -- nothing stands under the limit
    nothing_at : (i : ℕ) (x : X) → i ≡ limit → g i ≡ Some x → ⊥
    nothing_at i x is h = let lt : i < limit = indexes.within i x h in absurd (omega arith)

    sound_old : (k : K) (i : ℕ) (x : X) → f' k ≡ Some i → g i ≡ Some x → key x ≡ Some k
    sound_old k i x e h =
        elim (others k) [
          | inl (same, here) ↦ absurd (nothing_at i x (cc) h)
          | inr same ↦ indexes.sound k i x (sym same ∙ e) h
        ]

    -- a key that leads to nothing gets the number at the limit, and nothing stands under it
    pub promise : Indexes f' g key (limit + 1)
    promise = record {
      sound = sound_old;
      complete = complete_old;
      below = below';
      within = λ i x h. (let lt : i < limit = indexes.within i x h in omega arith);
    }

    module _ (here : f' k0 ≡ Some limit) (g' : ℕ → Option X) (x0 : X) (has : key x0 ≡ Some k0)
        (puts : (i : ℕ) → ((i ≡ limit) × (g' i ≡ Some x0)) ⊎ (g' i ≡ g i)) where
      sound_new : (k : K) (i : ℕ) (x : X) → f' k ≡ Some i → g' i ≡ Some x → key x ≡ Some k
      sound_new k i x e h =
          elim (puts i) [
            | inl (at, is) ↦ elim (others k) [
              | inl (same, to) ↦ (let ex : x0 ≡ x = cc in cc)
              | inr same ↦ (let lt : i < limit = indexes.below k i (sym same ∙ e) in absurd (omega arith))
            ]
            | inr old ↦ sound_old k i x e (sym old ∙ h)
          ]

      complete_new : (i : ℕ) (x : X) → g' i ≡ Some x → option_and_then f' (key x) ≡ Some i
      complete_new i x h =
          elim (puts i) [
            | inl (at, is) ↦ (
                let ex : x0 ≡ x = cc in
                let e : key x ≡ Some k0 = cc in
                let to : f' k0 ≡ Some i = cc in
                let P : Option K → Type 0 = λ o. option_and_then f' o ≡ Some i in
                subst P (sym e) to)
            | inr old ↦ complete_old i x (sym old ∙ h)
          ]

      within_new : (i : ℕ) (x : X) → g' i ≡ Some x → i < limit + 1
      within_new i x h =
          elim (puts i) [
            | inl (at, is) ↦ omega arith
            | inr old ↦ (let lt : i < limit = indexes.within i x (sym old ∙ h) in omega arith)
          ]

      -- a key that led to nothing leads to the new item
      pub add : Indexes f' g' key (limit + 1)
      add = record { sound = sound_new; complete = complete_new; below = below'; within = within_new }

  module _ (xs : List X) (shown : (j : ℕ) (y : X) → slice_get xs j ≡ Some y → (i : ℕ) × (g i ≡ Some y))
      (listed : (i : ℕ) (x : X) → g i ≡ Some x → (j : ℕ) × (slice_get xs j ≡ Some x))
      (p : X → Bool) (wanted : Option K) (passes : (x : X) → p x ≡ true → key x ≡ wanted)
      (own : (x : X) (k : K) → wanted ≡ Some k → key x ≡ Some k → p x ≡ true) where
    -- of what passes, the number is that of the wanted key
    number_of_passing : (j : ℕ) (y : X) → slice_get xs j ≡ Some y → p y ≡ true → (i : ℕ) × (g i ≡ Some y) × (option_and_then f wanted ≡ Some i)
    number_of_passing j y h passed =
        let s = shown j y h in
        let P : Option K → Type 0 = λ o. option_and_then f o ≡ Some s.0 in
        (s.0, s.1, subst P (passes y passed) (indexes.complete s.0 y s.1))

    found_by : (o : Option ℕ) → option_and_then f wanted ≡ o → find p xs ≡ option_and_then g o
    found_by None e = find_none p xs (λ j y h passed. (let s = number_of_passing j y h passed in let q : Some s.0 ≡ None = sym s.2 ∙ e in cc))
    found_by (Some i) e = under i e (g i) refl
      where
        under : (i : ℕ) → option_and_then f wanted ≡ Some i → (o : Option X) → g i ≡ o → find p xs ≡ o
        under i e None h = find_none p xs (λ j y at passed. (let s = number_of_passing j y at passed in let same : s.0 ≡ i = (let t : Some s.0 ≡ Some i = sym s.2 ∙ e in cc) in let P : ℕ → Type 0 = λ n. g n ≡ Some y in let there : g i ≡ Some y = subst P same s.1 in cc))
        under i e (Some x) h =
            let w = option_steps f wanted i e in
            let at = listed i x h in
            find_unique p xs x at.0 at.1 (own x w.0 w.1 (indexes.sound w.0 i x w.2 h))
            (λ j y k passed. (let s = number_of_passing j y k passed in let same : s.0 ≡ i = (let t : Some s.0 ≡ Some i = sym s.2 ∙ e in cc) in let P : ℕ → Type 0 = λ n. g n ≡ Some y in let there : g i ≡ Some y = subst P same s.1 in cc))

    -- a search finds what stands under the number of the wanted key
    pub found : find p xs ≡ option_and_then g (option_and_then f wanted)
    found = found_by (option_and_then f wanted) refl
