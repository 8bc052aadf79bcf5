-- The laws of `==`: a source file names no file of `proofs`, so their proofs stand here.
use Rattle.std.specs.Prelude.{◌≡◌, Bool, true, false, ◌&&◌, refl}
use Rattle.std.specs.Bool.{Decides}
use Rattle.std.specs.Coded.{Coded}
use Rattle.std.specs.Cmp.{IsPartialEquivalence, IsEquivalence, partial_equiv_from_equiv}
use Rattle.std.proofs.Common.{sym, ap, subst}
use Rattle.std.proofs.lemmas.Bool.Decides.{Decides-eqb, Decides-like, same_from_decides}
use base.Stored.{Gv, gnil, gnum, gcons}
use Rattle.fly_types.specs.contracts.kinds.BlobType as form
use Rattle.fly_types.specs.contracts.kinds.LiteralType as type
use Rattle.fly_types.specs.contracts.literals.Literal as literal
use Rattle.fly_types.specs.contracts.literals.LiteralMap as map
use Rattle.fly_types.specs.contracts.literals.Tree as tree
use Rattle.fly_types.specs.contracts.variable.Variable as variable
use Rattle.fly_types.specs.contracts.said.Said as said
use Rattle.fly_types.specs.Same.{same_code, equal, same_form, same_type, same_tree, same_literal, same_map, same_variable, same_said}

both : (a b : Bool) → (a && b) ≡ true → (a ≡ true) × (b ≡ true)
both true true e = (refl, refl)
both true false e = cc
both false b e = cc

one_code : (a b : Gv) → same_code a b ≡ true → a ≡ b
unfolding same_code
one_code gnil gnil e = refl
one_code gnil (gnum n) e = cc
one_code gnil (gcons c d) e = cc
one_code (gnum m) gnil e = cc
one_code (gnum m) (gnum n) e = ap gnum ((Decides-eqb m n).0 e)
one_code (gnum m) (gcons c d) e = cc
one_code (gcons a b) gnil e = cc
one_code (gcons a b) (gnum n) e = cc
one_code (gcons a b) (gcons c d) e =
    let h = both (same_code a c) (same_code b d) e in
    let p : a ≡ c = one_code a c h.0 in
    let q : b ≡ d = one_code b d h.1 in
    cc (p, q)

itself : (a : Gv) → same_code a a ≡ true
unfolding same_code
itself gnil = refl
itself (gnum n) = (Decides-eqb n n).1 refl
itself (gcons a b) = λ i. itself a i && itself b i

pub equal-Decides : {A : Type 0} (c : Coded A) (a b : A) → Decides (equal c a b) (a ≡ b)
unfolding equal
equal-Decides c a b = (λ e. c.inj a b (one_code _ _ e), λ p. subst (λ x. same_code (c.code a) (c.code x) ≡ true) p (itself (c.code a)))

pub equal-laws : {A : Type 0} (c : Coded A) → IsEquivalence (equal c)
equal-laws c = record {
  refl = λ x. (equal-Decides c x x).1 refl;
  symm = λ x y. same_from_decides _ _ (equal-Decides c x y) (Decides-like _ sym sym (equal-Decides c y x));
  congr = λ x y z e. ap (λ w. equal c w z) ((equal-Decides c x y).0 e);
}

pub same_form-laws : IsEquivalence same_form
unfolding same_form
same_form-laws = equal-laws form.the_row.coded

pub same_form-partial_laws : IsPartialEquivalence same_form
same_form-partial_laws = partial_equiv_from_equiv same_form-laws

pub same_type-laws : IsEquivalence same_type
unfolding same_type
same_type-laws = equal-laws type.the_row.coded

pub same_type-partial_laws : IsPartialEquivalence same_type
same_type-partial_laws = partial_equiv_from_equiv same_type-laws

pub same_tree-laws : IsEquivalence same_tree
unfolding same_tree
same_tree-laws = equal-laws tree.the_row.coded

pub same_tree-partial_laws : IsPartialEquivalence same_tree
same_tree-partial_laws = partial_equiv_from_equiv same_tree-laws

pub same_literal-laws : IsEquivalence same_literal
unfolding same_literal
same_literal-laws = equal-laws literal.the_row.coded

pub same_literal-partial_laws : IsPartialEquivalence same_literal
same_literal-partial_laws = partial_equiv_from_equiv same_literal-laws

pub same_map-laws : IsEquivalence same_map
unfolding same_map
same_map-laws = equal-laws map.the_row.coded

pub same_map-partial_laws : IsPartialEquivalence same_map
same_map-partial_laws = partial_equiv_from_equiv same_map-laws

pub same_variable-laws : IsEquivalence same_variable
unfolding same_variable
same_variable-laws = equal-laws variable.the_row.coded

pub same_variable-partial_laws : IsPartialEquivalence same_variable
same_variable-partial_laws = partial_equiv_from_equiv same_variable-laws

pub same_said-laws : IsEquivalence same_said
unfolding same_said
same_said-laws = equal-laws said.the_row.coded

pub same_said-partial_laws : IsPartialEquivalence same_said
same_said-partial_laws = partial_equiv_from_equiv same_said-laws
