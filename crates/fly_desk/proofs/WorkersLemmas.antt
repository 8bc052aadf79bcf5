-- The turns of one worker, and the parts of all.
use Rattle.std.proofs.Common.{◌≡◌, ℕ, suc, ◌+◌, ◌*◌, ◌<◌, List, [], ◌∷◌, ◌++◌, length, get_or, map, take, All, refl, sym, ap, ◌∙◌, subst, arith, length-append, append_assoc, append-nil}
use Rattle.std.specs.Prelude.{flat_map}
use Rattle.std.proofs.lemmas.List.{get_or_push, get_or_append_left, get_or-map, length-map}
use Rattle.std.proofs.lemmas.List.Folds.{flat_map-map}
use Rattle.std.proofs.lemmas.Option.{slice_get_within}
use Rattle.std.proofs.Math.Seq.{take-append_seam}
use mathlib.Core.Logic.{dite}
use native.Mathlib.Decide.{ℕ_discrete}
use Rattle.fly_desk.specs.Annals.{HasCalls, IsMadeOf}
use Rattle.fly_desk.specs.Workers.{HasTurns, IsWorkOf}

pub no_turns : (worker : ℕ) → HasTurns worker 0 []
no_turns worker = record {
  number = refl;
  marks = λ turn d less. absurd (omega arith);
  rising = λ earlier later d before less. absurd (omega arith);
}

-- one turn more, behind all before it
pub one_more_turn : (worker turns place : ℕ) (calls : List (ℕ × (ℕ × ℕ))) → HasTurns worker turns calls
    → All (λ call. call.0 < place) calls → HasTurns worker (turns + 1) (calls ++ (place, (worker, turns)) ∷ [])
one_more_turn worker turns place calls has below =
    let one : ℕ × (ℕ × ℕ) = (place, (worker, turns)) in
    let count = has.number in
    let last : (d : ℕ × (ℕ × ℕ)) → get_or (calls ++ one ∷ []) turns d ≡ one = λ d. get_or_push calls one d turns count in
    let old : (i : ℕ) (d : ℕ × (ℕ × ℕ)) → i < turns → get_or (calls ++ one ∷ []) i d ≡ get_or calls i d =
    λ i d less. get_or_append_left calls (one ∷ []) d i (omega arith) in
    record {
      number = omega (arith, length-append calls (one ∷ []));
      marks = λ turn d less. dite (ℕ_discrete turn turns)
          (λ e. ap (λ (i : ℕ). (get_or (calls ++ one ∷ []) i d).1) e ∙ ap (λ (c : ℕ × (ℕ × ℕ)). c.1) (last d) ∙ ap (λ (i : ℕ). (worker, i)) (sym e))
          (λ ne. ap (λ (c : ℕ × (ℕ × ℕ)). c.1) (old turn d (omega arith)) ∙ has.marks turn d (omega arith));
      rising = λ earlier later d before less. dite (ℕ_discrete later turns)
          (λ e. let top = ap (λ (i : ℕ). (get_or (calls ++ one ∷ []) i d).0) e in
          let at = ap (λ (c : ℕ × (ℕ × ℕ)). c.0) (last d) in
          let low = ap (λ (c : ℕ × (ℕ × ℕ)). c.0) (old earlier d (omega arith)) in
          let under = below earlier d (omega arith) in omega arith)
          (λ ne. let high = ap (λ (c : ℕ × (ℕ × ℕ)). c.0) (old later d (omega arith)) in
          let low = ap (λ (c : ℕ × (ℕ × ℕ)). c.0) (old earlier d (omega arith)) in
          let less_than = has.rising earlier later d before (omega arith) in omega arith);
    }

-- calls that stand in a list are before its end
pub before_end : {E : Type 0} (list : List E) (calls : List (ℕ × E)) (place : ℕ) → HasCalls list calls → length list ≡ place
    → All (λ call. call.0 < place) calls
before_end list calls place has long k d less =
    let at : ℕ = (get_or calls k d).0 in
    let within : at < length list = slice_get_within list at (get_or calls k d).1 (has k d less) in omega arith

-- parts of one length
pub length_of_parts : {A : Type 0} (turns : ℕ) (parts : List (List A))
    → ((i : ℕ) → i < length parts → length (get_or parts i []) ≡ turns)
    → length (flat_map (λ part. part) parts) ≡ length parts * turns
length_of_parts {A = A} turns [] each = grind arith
length_of_parts {A = A} turns (part ∷ parts) each =
    let head : length part ≡ turns = each 0 (omega arith) in
    let tail = length_of_parts turns parts (λ i less. each (suc i) (omega arith)) in
    let both = length-append part (flat_map (λ (p : List A). p) parts) in
    grind arith

module _ {J : Type 0} where
  -- what holds of each job holds with one more
  pub each_push : (P : ℕ → J → Type 0) (n : ℕ) (xs ys : List J) (x : J) → length xs ≡ n → ys ≡ xs ++ x ∷ []
      → ((i : ℕ) (d : J) → i < n → P i (get_or xs i d)) → P n x
      → (i : ℕ) (d : J) → i < n + 1 → P i (get_or ys i d)
  each_push P n xs ys x long is old new i d less = dite (ℕ_discrete i n)
      (λ e. let at : get_or ys i d ≡ x = ap (λ (l : List J). get_or l i d) is ∙ get_or_push xs x d i (omega arith) in
      subst (P i) (sym at) (subst (λ (k : ℕ). P k x) (sym e) new))
      (λ ne. let at : get_or ys i d ≡ get_or xs i d =
      ap (λ (l : List J). get_or l i d) is ∙ get_or_append_left xs (x ∷ []) d i (omega arith) in
      subst (P i) (sym at) (old i d (omega arith)))

  -- the first of a list, and the rest
  pub first_of_all : (P : J → Type 0) (x : J) (xs items : List J) → items ≡ x ∷ xs → All P items → P x × All P xs
  first_of_all P x xs items steps each =
      let whole : All P (x ∷ xs) = subst (λ (l : List J). All P l) steps each in
      (whole 0 x (omega arith), λ k d less. whole (suc k) d (omega arith))

  -- one job after the other is joined
  pub join_next : {A : Type 0} (f : J → List A) (whole now more : List A) (x : J) (xs items : List J) → more ≡ now ++ f x
      → items ≡ x ∷ xs → now ++ flat_map f items ≡ whole → more ++ flat_map f xs ≡ whole
  join_next f whole now more x xs items is steps before = ap (λ l. l ++ flat_map f xs) is
      ∙ append_assoc now (f x) (flat_map f xs) ∙ ap (λ (l : List J). now ++ flat_map f l) (sym steps) ∙ before

  pub join_all : {A : Type 0} (f : J → List A) (first now : List A) (items jobs all : List J) → items ≡ [] → jobs ≡ all
      → now ++ flat_map f items ≡ first ++ flat_map f jobs → now ≡ first ++ flat_map f all
  join_all f first now items jobs all none same joined = sym (append-nil now)
      ∙ ap (λ (l : List J). now ++ flat_map f l) (sym none) ∙ joined ∙ ap (λ (l : List J). first ++ flat_map f l) same

  -- each job's worker has its number, and had so many calls
  pub turns_of_each : (worker left : J → ℕ) (calls : J → List (ℕ × (ℕ × ℕ))) (turns : ℕ) (hired old new : List J) → old ≡ hired
      → ((i : ℕ) (d : J) → i < length hired → (worker (get_or hired i d) ≡ i) × (left (get_or hired i d) ≡ turns))
      → ((i : ℕ) (d : J) → i < length old → HasTurns (worker (get_or old i d)) (left (get_or old i d)) (calls (get_or new i d)))
      → (i : ℕ) (d : J) → i < length hired → HasTurns i turns (calls (get_or new i d))
  turns_of_each worker left calls turns hired old new same ready worked i d less =
      let long = ap (λ (l : List J). length l) same in
      let at : get_or old i d ≡ get_or hired i d = ap (λ (l : List J). get_or l i d) same in
      let is = ready i d less in
      let who : worker (get_or old i d) ≡ i = ap worker at ∙ is.0 in
      let many : left (get_or old i d) ≡ turns = ap left at ∙ is.1 in
      let done = worked i d (omega arith) in
      subst (λ (w : ℕ). HasTurns w turns (calls (get_or new i d))) who
      (subst (λ (n : ℕ). HasTurns (worker (get_or old i d)) n (calls (get_or new i d))) many done)

  module _ (calls : J → List (ℕ × (ℕ × ℕ))) (workers turns : ℕ) (jobs : List J) (number : length jobs ≡ workers)
      (each : (i : ℕ) (d : J) → i < workers → HasTurns i turns (calls (get_or jobs i d))) where
    part : (i : ℕ) → i < workers → HasTurns i turns (get_or (map calls jobs) i [])
    part i less =
        let d : J = first_or jobs (omega arith) in
        subst (HasTurns i turns) (sym (get_or-map calls jobs i d [] (omega arith))) (each i d less)
      where
        first_or : (l : List J) → 0 < length l → J
        first_or [] less = absurd (omega arith)
        first_or (x ∷ xs) less = x

    pub length_of_turns : length (flat_map calls jobs) ≡ workers * turns
    length_of_turns =
        let long = length-map jobs calls in
        let parts = length_of_parts turns (map calls jobs) (λ i less. (part i (omega arith)).number) in
        ap (λ l. length l) (sym (flat_map-map (λ l. l) calls jobs)) ∙ parts ∙ ap (λ (n : ℕ). n * turns) (long ∙ number)

    pub work_of : (list : List (ℕ × ℕ)) → IsMadeOf list [] (flat_map calls jobs) → IsWorkOf workers turns list (map calls jobs)
    work_of list made = record {
      number = length-map jobs calls ∙ number;
      turns_are = part;
      made = subst (IsMadeOf list []) (sym (flat_map-map (λ l. l) calls jobs)) made;
    }

-- a list that was written whole
pub take_whole : {J : Type 0} (n : ℕ) (new rest : List J) → length new ≡ n → take n (new ++ rest) ≡ new
take_whole n new rest long = ap (λ (k : ℕ). take k (new ++ rest)) (sym long) ∙ take-append_seam new rest

-- what the calls of a joined pass are, where each job's worker had its number and made all its calls
pub run_of : {J : Type 0} (worker left : J → ℕ) (calls : J → List (ℕ × (ℕ × ℕ))) (workers turns count : ℕ) (hired old new joined : List J)
    (first now : List (ℕ × (ℕ × ℕ))) → first ≡ [] → now ≡ first ++ flat_map calls joined → joined ≡ new → old ≡ hired → length old ≡ count
    → count ≡ workers → length new ≡ length old
    → ((i : ℕ) (d : J) → i < count → (worker (get_or hired i d) ≡ i) × (left (get_or hired i d) ≡ turns))
    → ((i : ℕ) (d : J) → i < length old → HasTurns (worker (get_or old i d)) (left (get_or old i d)) (calls (get_or new i d)))
    → (length now ≡ workers * turns)
    × ((list : List (ℕ × ℕ)) → IsMadeOf list [] now → IsWorkOf workers turns list (map calls new))
run_of {J = J} worker left calls workers turns count hired old new joined first now empty made_of whole same long many kept ready worked =
    let all : now ≡ flat_map calls new = made_of ∙ ap (λ l. l ++ flat_map calls joined) empty ∙ ap (λ (l : List J). flat_map calls l) whole in
    let size = ap (λ (l : List J). length l) same in
    let number : length new ≡ workers = omega arith in
    let each : (i : ℕ) (d : J) → i < workers → HasTurns i turns (calls (get_or new i d)) =
    λ i d less. turns_of_each worker left calls turns hired old new same (λ k e within. ready k e (omega arith)) worked i d (omega arith) in (
      ap (λ l. length l) all ∙ length_of_turns calls workers turns new number each,
      λ list made. work_of calls workers turns new number each list (subst (λ l. IsMadeOf list [] l) all made),
    )
