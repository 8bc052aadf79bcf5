-- Keys: they stay while numbers are kept, and those that are equal are of the same texts.
use Rattle.std.proofs.Common.{◌≡◌, ℕ, Bool, true, false, ◌&&◌, sym, ◌∙◌, refl, subst}
use Rattle.std.specs.Prelude.{Option, Some, None, option_map}
use Rattle.std.specs.declared.cmp.Ordering.{Ordering}
use Rattle.std.specs.declared.cmp.Ordering.TheVariants.{Less, Equal, Greater}
use Rattle.std.specs.Cmp.{unsigned_Decides}
use Rattle.std.specs.Cmp.Lexicographic.{pointwise_decides, nat_list_eq_equiv}
use Rattle.std.proofs.lemmas.Map.Lookups.{CmpEqualImpliesEq, exact_unsigned}
use Rattle.std.specs.Ordering.{nat_cmp, ordering_then}
use Rattle.fly_types.specs.declared.text.Text.{Text}
use Rattle.fly_docs.specs.declared.dataset.DatasetId.{DatasetId}
use Rattle.fly_catalog.specs.Names.{Numbers, number_of, both, dataset_key, item_key, DatasetKey, ItemKey, IsNumbering, KeepsNumbers}
use Rattle.fly_catalog.specs.Parts.{same_text, same_dataset}
use Rattle.fly_catalog.specs.Catalog.{dataset_cmp, item_cmp}

-- ---- comparisons tell keys apart

dataset_parts : (a a' b b' c c' d d' : ℕ) → a ≡ a' → b ≡ b' → c ≡ c' → d ≡ d' → (let x : DatasetKey = (a, b, c, d) in let y : DatasetKey = (a', b', c', d') in x ≡ y)
dataset_parts a a' b b' c c' d d' p q r s = rw (p, q, r, s) refl

item_parts : (k k' : DatasetKey) (n n' : ℕ) → k ≡ k' → n ≡ n' → (let x : ItemKey = (k.0, k.1, k.2, k.3, n) in let y : ItemKey = (k'.0, k'.1, k'.2, k'.3, n') in x ≡ y)
item_parts k k' n n' p q = rw (p, q) refl

then_equal : (a b : Ordering) → ordering_then a b ≡ Equal → (a ≡ Equal) × (b ≡ Equal)
then_equal Less b h = cc
then_equal Equal b h = (refl, h)
then_equal Greater b h = cc

pub exact_dataset : CmpEqualImpliesEq dataset_cmp
exact_dataset x y h =
    let a = then_equal _ _ h in
    let b = then_equal _ _ a.0 in
    let c = then_equal _ _ b.0 in
    let e0 = exact_unsigned _ _ c.0 in
    let e1 = exact_unsigned _ _ c.1 in
    let e2 = exact_unsigned _ _ b.1 in
    let e3 = exact_unsigned _ _ a.1 in
    dataset_parts x.0 y.0 x.1 y.1 x.2 y.2 x.3 y.3 e0 e1 e2 e3

pub exact_item : CmpEqualImpliesEq item_cmp
exact_item x y h =
    let a = then_equal _ _ h in
    let e = exact_dataset (x.0, x.1, x.2, x.3) (y.0, y.1, y.2, y.3) a.0 in
    let e4 = exact_unsigned _ _ a.1 in
    item_parts (x.0, x.1, x.2, x.3) (y.0, y.1, y.2, y.3) x.4 y.4 e e4

-- ---- pairs of options

both_steps : {X Y : Type 0} (o : Option X) (p : Option Y) (z : X × Y) → both o p ≡ Some z → (o ≡ Some z.0) × (p ≡ Some z.1)
both_steps None p z h = cc
both_steps (Some x) None z h = cc
both_steps {X} {Y} (Some x) (Some y) z h = let e : (x, y) ≡ z = cc in let P : X × Y → Type 0 = λ w. (Some x ≡ Some w.0) × (Some y ≡ Some w.1) in subst P e (refl, refl)

both_some : {X Y : Type 0} (o : Option X) (p : Option Y) (z : X × Y) → o ≡ Some z.0 → p ≡ Some z.1 → both o p ≡ Some z
both_some o p z e f = rw (e, f) refl

option_map_steps : {X Y : Type 0} (f : X → Y) (back : Y → X) → ((x : X) → back (f x) ≡ x) → (o : Option X) (y : Y) → option_map f o ≡ Some y → o ≡ Some (back y)
option_map_steps f back undoes None y h = cc
option_map_steps {X} {Y} f back undoes (Some x) y h =
    let e : f x ≡ y = cc in
    let P : X → Type 0 = λ w. Some w ≡ Some (back y) in
    let P' : Y → Type 0 = λ w. Some (back w) ≡ Some (back y) in
    subst P (undoes x) (subst P' (sym e) refl)

-- ---- the numbers of a key

module _ (n : Numbers) where
  pub record DatasetNumbers (d : DatasetId) (k : DatasetKey) : Type 0 where
    pub project : number_of n d.project ≡ Some k.0
    pub domain : number_of n d.domain ≡ Some k.1
    pub name : number_of n d.name ≡ Some k.2
    pub version : number_of n d.version ≡ Some k.3

  pub numbers_from_key : (d : DatasetId) (k : DatasetKey) → dataset_key n d ≡ Some k → DatasetNumbers d k
  numbers_from_key d k h =
      let a = option_map_steps _ (λ (q : DatasetKey). ((q.0, q.1), (q.2, q.3))) (λ p. refl) _ k h in
      let s = both_steps _ _ _ a in
      let front = both_steps _ _ _ s.0 in
      let back = both_steps _ _ _ s.1 in
      record { project = front.0; domain = front.1; name = back.0; version = back.1 }

  pub key_from_numbers : (d : DatasetId) (k : DatasetKey) → DatasetNumbers d k → dataset_key n d ≡ Some k
  key_from_numbers d k s = rw (s.project, s.domain, s.name, s.version) refl

  pub item_numbers : (d : DatasetId) (t : Text) (k : ItemKey) → item_key n d t ≡ Some k → (dataset_key n d ≡ Some (k.0, k.1, k.2, k.3)) × (number_of n t ≡ Some k.4)
  item_numbers d t k h =
      let a = option_map_steps _ (λ (q : ItemKey). ((q.0, q.1, q.2, q.3), q.4)) (λ p. refl) _ k h in
      both_steps _ _ _ a

-- ---- keys stay

module _ (old new : Numbers) (keeps : KeepsNumbers old new) where
  pub dataset_key_kept : (d : DatasetId) (k : DatasetKey) → dataset_key old d ≡ Some k → dataset_key new d ≡ Some k
  dataset_key_kept d k h =
      let s = numbers_from_key old d k h in
      key_from_numbers new d k (record {
        project = keeps.kept d.project k.0 s.project;
        domain = keeps.kept d.domain k.1 s.domain;
        name = keeps.kept d.name k.2 s.name;
        version = keeps.kept d.version k.3 s.version;
      })

  pub item_key_kept : (d : DatasetId) (name : Text) (k : ItemKey) → item_key old d name ≡ Some k → item_key new d name ≡ Some k
  item_key_kept d name k h =
      let s = item_numbers old d name k h in
      let there = dataset_key_kept d (k.0, k.1, k.2, k.3) s.0 in
      rw (there, keeps.kept name k.4 s.1) refl

-- ---- texts that are the same

text_is : (t u : Text) → same_text t u ≡ true → t ≡ u
text_is t u h = (pointwise_decides unsigned_Decides t u).0 h

same_itself : (t u : Text) → t ≡ u → same_text t u ≡ true
same_itself t u e = (pointwise_decides unsigned_Decides t u).1 e

and_parts : (a b : Bool) → (a && b) ≡ true → (a ≡ true) × (b ≡ true)
and_parts true b h = (refl, h)
and_parts false b h = cc

and_both : (a b : Bool) → a ≡ true → b ≡ true → (a && b) ≡ true
and_both a b e f = rw (e, f) refl

-- the same dataset has the same key
pub dataset_key_same : (n : Numbers) (d e : DatasetId) → same_dataset d e ≡ true → dataset_key n e ≡ dataset_key n d
dataset_key_same n d e h =
    let a = and_parts _ _ h in
    let b = and_parts _ _ a.0 in
    let c = and_parts _ _ b.0 in
    rw (text_is d.project e.project c.0, text_is d.domain e.domain c.1, text_is d.name e.name b.1, text_is d.version e.version a.1) refl

pub item_key_same : (n : Numbers) (d e : DatasetId) (t u : Text) → (same_dataset d e && same_text t u) ≡ true → item_key n e u ≡ item_key n d t
item_key_same n d e t u h =
    let a = and_parts _ _ h in
    rw (dataset_key_same n d e a.0, text_is t u a.1) refl

-- a key is one dataset's
pub dataset_of_key : (n : Numbers) → IsNumbering n → (d e : DatasetId) (k : DatasetKey) → dataset_key n d ≡ Some k → dataset_key n e ≡ Some k → same_dataset d e ≡ true
dataset_of_key n own d e k h i =
    let s = numbers_from_key n d k h in
    let t = numbers_from_key n e k i in
    and_both _ _ (and_both _ _ (and_both _ _
    (same_itself _ _ (own.own d.project e.project k.0 s.project t.project))
    (same_itself _ _ (own.own d.domain e.domain k.1 s.domain t.domain)))
    (same_itself _ _ (own.own d.name e.name k.2 s.name t.name)))
    (same_itself _ _ (own.own d.version e.version k.3 s.version t.version))

-- a key is one name's in one dataset
pub item_of_key : (n : Numbers) → IsNumbering n → (d e : DatasetId) (t u : Text) (k : ItemKey) → item_key n d t ≡ Some k → item_key n e u ≡ Some k → (same_dataset d e && same_text t u) ≡ true
item_of_key n own d e t u k h i =
    let s = item_numbers n d t k h in
    let r = item_numbers n e u k i in
    and_both _ _ (dataset_of_key n own d e (k.0, k.1, k.2, k.3) s.0 r.0) (same_itself _ _ (own.own t u k.4 s.1 r.1))
