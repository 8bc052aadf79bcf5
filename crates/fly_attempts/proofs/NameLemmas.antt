-- Names of attempts and their texts: same names are equal, and no two have one text.
use Rattle.std.proofs.Common.{◌≡◌, ℕ, true, eqb, List, bytes_eq, Option, Some, None, refl, sym, ◌∙◌, ap, subst}
use Rattle.std.specs.Option.{option_eq}
use Rattle.std.specs.Cmp.{both_ways}
use Rattle.std.specs.Cmp.Lexicographic.{pointwise, pointwise_decides}
use Rattle.std.proofs.lemmas.Bool.{and_from, and_parts, false≢true, eq-eqb, eqb-true}
use Rattle.std.proofs.lemmas.Slice.Eq.{bytes_eq-Decides}
use Rattle.fly_docs.specs.declared.attempt_name.AttemptName.{AttemptName}
use Rattle.fly_docs.specs.contracts.attempt_name.AttemptName as name_type
use Rattle.fly_docs.specs.AttemptName.{IsTextOf}
use Rattle.fly_docs.proofs.NameTexts.{one_name}
use Rattle.fly_attempts.specs.Parts.{same_name}

item_itself : (a : Option ℕ) → option_eq eqb a a ≡ true
item_itself None = refl
item_itself (Some n) = eq-eqb n n refl

item_is : (a b : Option ℕ) → option_eq eqb a b ≡ true → a ≡ b
item_is None None h = refl
item_is None (Some n) h = absurd (false≢true h)
item_is (Some m) None h = absurd (false≢true h)
item_is (Some m) (Some n) h = ap Some (eqb-true m n h)

-- a name is its own
pub same_itself : (n : AttemptName) → same_name n n ≡ true
same_itself n =
    and_from _ _
    (and_from _ _
    (and_from _ _ ((bytes_eq-Decides n.exec n.exec).1 refl)
    ((pointwise_decides bytes_eq-Decides n.path n.path).1 refl))
    (item_itself n.item))
    (eq-eqb n.attempt n.attempt refl)

-- names of the same parts are one
of_parts : (m n : AttemptName) → m.exec ≡ n.exec → m.path ≡ n.path → m.item ≡ n.item → m.attempt ≡ n.attempt → m ≡ n
of_parts m n e p i a = name_type.the_row.coded.inj m n (rw (e, p, i, a) refl)

-- same names are equal
pub same_is : (a b : AttemptName) → same_name a b ≡ true → a ≡ b
same_is a b h =
    let last = and_parts _ (eqb a.attempt b.attempt) h in
    let third = and_parts _ (option_eq eqb a.item b.item) last.0 in
    let first = and_parts (bytes_eq a.exec b.exec) (pointwise bytes_eq a.path b.path) third.0 in
    of_parts a b ((bytes_eq-Decides a.exec b.exec).0 first.0)
    ((pointwise_decides bytes_eq-Decides a.path b.path).0 first.1)
    (item_is a.item b.item third.1) (eqb-true a.attempt b.attempt last.1)

pub same_back : (a b : AttemptName) → same_name a b ≡ true → same_name b a ≡ true
same_back a b h = subst (λ n. same_name n a ≡ true) (same_is a b h) (same_itself a)

-- names are same exactly where their texts are
pub same_texts : (t u : List ℕ) (a b : AttemptName) → IsTextOf t a → IsTextOf u b → bytes_eq u t ≡ same_name a b
same_texts t u a b of_a of_b =
    both_ways _ _
    (λ e. (let one : a ≡ b =
    one_name t b a (subst (λ x. IsTextOf x b) ((bytes_eq-Decides u t).0 e) of_b) of_a in
    subst (λ n. same_name a n ≡ true) one (same_itself a)))
    (λ e. (let one : IsTextOf t b = subst (IsTextOf t) (same_is a b e) of_a in
    (bytes_eq-Decides u t).1 (of_b.text ∙ sym one.text)))

pub bytes_back : (x y : List ℕ) → bytes_eq x y ≡ bytes_eq y x
bytes_back x y =
    both_ways _ _ (λ e. (bytes_eq-Decides y x).1 (sym ((bytes_eq-Decides x y).0 e)))
    (λ e. (bytes_eq-Decides x y).1 (sym ((bytes_eq-Decides y x).0 e)))
