-- The tables of launches with one launch more.
use Rattle.std.proofs.Common.{◌≡◌, ℕ, ◌<◌, All, arith, Bool, true, false, cond, List, [], ◌∷◌, ◌++◌, length, map, filter, Option, Some, None, refl, sym, ◌∙◌, ap, subst, ⊎_elim, bytes_eq, nat_cmp}
use Rattle.std.proofs.lemmas.List.{map-append, append-nil}
use Rattle.std.specs.List.{enumerate_from}
use Rattle.std.specs.Global.{Vec}
use Rattle.std.specs.Option.{option_map_or, is_some}
use Rattle.std.specs.Ordering.{is_eq}
use Rattle.std.specs.Cmp.Lexicographic.{slice_cmp}
use Rattle.std.specs.BTreeMap.{BTreeMap, get}
use Rattle.std.proofs.lemmas.Bool.{true≢false, cases_Bool, cond-true, cond-false}
use Rattle.std.proofs.lemmas.List.Elements.{All-map, All-filter, filter-append}
use Rattle.std.proofs.lemmas.Slice.Eq.{bytes_eq-Decides}
use Rattle.std.proofs.lemmas.Map.Text.{is_eq-slice_cmp}
use Rattle.fly_docs.specs.declared.attempt_name.AttemptName.{AttemptName}
use Rattle.fly_docs.specs.AttemptName.{IsTextOf}
use Rattle.fly_attempts.specs.declared.parts.Launch.{Launch}
use Rattle.fly_attempts.specs.Parts.{same_name}
use Rattle.fly_attempts.specs.Launches.{number_in, numbers_in, NumberLists, listed, IsIndexed}
use Rattle.fly_attempts.proofs.ListLemmas.{position_last, position_kept, enumerate_last, enumerated_within}
use Rattle.fly_attempts.proofs.NameLemmas.{same_texts, same_is, bytes_back}

-- the number of a name, with one launch more
numbered_more : (launches : List Launch) (l : Launch) (name : AttemptName) → number_in launches l.name ≡ None
    → number_in (launches ++ l ∷ []) name
    ≡ cond (same_name name l.name) (Some (length launches)) (number_in launches name)
numbered_more launches l name absent =
    ⊎_elim (λ yes. position_last (λ (x : Launch). same_name name x.name) launches l
    (subst (λ n. number_in launches n ≡ None) (sym (same_is name l.name yes)) absent) yes
    ∙ sym (cond-true (same_name name l.name) (Some (length launches)) (number_in launches name) yes))
    (λ no. position_kept (λ (x : Launch). same_name name x.name) launches l no
    ∙ sym (cond-false (same_name name l.name) (Some (length launches)) (number_in launches name) no))
    (cases_Bool (same_name name l.name))

abbrev number_at : ℕ × Launch → ℕ
number_at at = at.0

own_number : (b : Bool) (n : ℕ) (l : Launch) (rest : List ℕ)
    → rest ++ map number_at (cond b ((n, l) ∷ []) []) ≡ cond b (rest ++ n ∷ []) rest
own_number true n l rest = refl
own_number false n l rest = append-nil rest

-- the numbers of an execution, with one launch more
grouped_more : (launches : List Launch) (l : Launch) (exec : List ℕ) → numbers_in (launches ++ l ∷ []) exec
    ≡ cond (bytes_eq exec l.name.exec) (numbers_in launches exec ++ length launches ∷ []) (numbers_in launches exec)
grouped_more launches l exec =
    let p : ℕ × Launch → Bool = λ at. bytes_eq exec at.1.name.exec in
    let old = enumerate_from 0 launches in
    let new : List (ℕ × Launch) = (length launches, l) ∷ [] in
    ap (λ all. map number_at (filter p all)) (enumerate_last launches l)
    ∙ ap (map number_at) (filter-append p old new)
    ∙ map-append number_at (filter p old) (filter p new)
    ∙ own_number (bytes_eq exec l.name.exec) (length launches) l (numbers_in launches exec)

-- the tables fit the launches with one more
pub indexed_more : (launches : List Launch) (numbers numbers' : BTreeMap (List ℕ) ℕ)
    (executions between executions' : NumberLists)
    → IsIndexed launches numbers executions → (l : Launch) (text : List ℕ) → IsTextOf text l.name
    → number_in launches l.name ≡ None
    → ((q : List ℕ) → get (slice_cmp nat_cmp) numbers' q
    ≡ cond (is_eq (slice_cmp nat_cmp text q)) (Some (length launches)) (get (slice_cmp nat_cmp) numbers q))
    → ((t : List ℕ) → listed between t ≡ listed executions t)
    → ((t : List ℕ) → listed executions' t
    ≡ cond (bytes_eq l.name.exec t) (listed between t ++ length launches ∷ []) (listed between t))
    → IsIndexed (launches ++ l ∷ []) numbers' executions'
indexed_more launches numbers numbers' executions between executions' indexed l text of_l absent put same
    added = record {
      numbered = λ q name of_name.
          put q
          ∙ ap (λ b. cond b (Some (length launches)) (get (slice_cmp nat_cmp) numbers q))
          (is_eq-slice_cmp text q ∙ same_texts q text name l.name of_name of_l)
          ∙ ap (cond (same_name name l.name) (Some (length launches))) (indexed.numbered q name of_name)
          ∙ sym (numbered_more launches l name absent);
      grouped = λ exec.
          added exec
          ∙ ap (λ b. cond b (listed between exec ++ length launches ∷ []) (listed between exec))
          (bytes_back l.name.exec exec)
          ∙ ap (λ list. cond (bytes_eq exec l.name.exec) (list ++ length launches ∷ []) list)
          (same exec ∙ indexed.grouped exec)
          ∙ sym (grouped_more launches l exec);
    }

-- ---- lists of numbers by texts

-- the numbers of a list, where there is one
abbrev numbers_of : Option (Vec ℕ) → List ℕ
numbers_of o = option_map_or (λ (v : Vec ℕ). v.items) o []

chosen : (b : Bool) (w : Vec ℕ) (o : Option (Vec ℕ))
    → numbers_of (cond b (Some w) o) ≡ cond b w.items (numbers_of o)
chosen true w o = refl
chosen false w o = refl

module _ (before after : NumberLists) (text : List ℕ) (w : Vec ℕ)
    (put : (q : List ℕ) → get (slice_cmp nat_cmp) after q
    ≡ cond (is_eq (slice_cmp nat_cmp text q)) (Some w) (get (slice_cmp nat_cmp) before q)) where
  -- the lists after a text has got another one
  listed_put : (t : List ℕ) → listed after t ≡ cond (bytes_eq text t) w.items (listed before t)
  listed_put t =
      ap numbers_of (put t)
      ∙ ap (λ b. numbers_of (cond b (Some w) (get (slice_cmp nat_cmp) before t))) (is_eq-slice_cmp text t)
      ∙ chosen (bytes_eq text t) w (get (slice_cmp nat_cmp) before t)

  -- made from its old one
  pub listed_changed : (change : List ℕ → List ℕ) → w.items ≡ change (listed before text)
      → (t : List ℕ) → listed after t ≡ cond (bytes_eq text t) (change (listed before t)) (listed before t)
  listed_changed change made t =
      listed_put t
      ∙ ⊎_elim (λ same. cond-true (bytes_eq text t) w.items (listed before t) same
      ∙ (made ∙ ap (λ u. change (listed before u)) ((bytes_eq-Decides text t).0 same)
      ∙ sym (cond-true (bytes_eq text t) (change (listed before t)) (listed before t) same)))
      (λ apart. cond-false (bytes_eq text t) w.items (listed before t) apart
      ∙ sym (cond-false (bytes_eq text t) (change (listed before t)) (listed before t) apart))
      (cases_Bool (bytes_eq text t))

  both_alike : (b : Bool) (xs : List ℕ) → cond b xs xs ≡ xs
  both_alike true xs = refl
  both_alike false xs = refl

  -- with the same numbers
  pub listed_alike : w.items ≡ listed before text → (t : List ℕ) → listed after t ≡ listed before t
  listed_alike made t = listed_changed (λ xs. xs) made t ∙ both_alike (bytes_eq text t) (listed before t)

  -- the text has that list
  pub listed_at : get (slice_cmp nat_cmp) after text ≡ Some w
  listed_at =
      put text ∙ cond-true (is_eq (slice_cmp nat_cmp text text)) (Some w) (get (slice_cmp nat_cmp) before text)
      (is_eq-slice_cmp text text ∙ (bytes_eq-Decides text text).1 refl)

-- the list that was found
pub listed_is : (lists : NumberLists) (text : List ℕ) (v : Vec ℕ) → Some v ≡ get (slice_cmp nat_cmp) lists text
    → v.items ≡ listed lists text
listed_is lists text v e = ap numbers_of e

pub none_listed : (lists : NumberLists) (text : List ℕ) → is_some (get (slice_cmp nat_cmp) lists text) ≡ false
    → [] ≡ listed lists text
none_listed lists text none = by (get (slice_cmp nat_cmp) lists text) none
  where
    by : (o : Option (Vec ℕ)) → is_some o ≡ false → [] ≡ numbers_of o
    by None h = refl
    by (Some v) h = absurd (true≢false h)

-- the numbers of an execution are those of launches
pub numbers_within : (launches : List Launch) (exec : List ℕ)
    → All (λ n. n < length launches) (numbers_in launches exec)
numbers_within launches exec =
    let own : ℕ × Launch → Bool = λ at. bytes_eq exec at.1.name.exec in
    let all = enumerate_from 0 launches in
    let below : ℕ × Launch → Type 0 = λ at. number_at at < length launches in
    All-map (λ n. n < length launches) number_at (filter own all)
    (All-filter own below all (enumerated_within 0 launches (length launches) (omega arith)))
