use Rattle.std.proofs.Common.{◌≡◌, ◌+◌, ℕ, List, All, Bor, map, length, sym, ap, subst, ◌∙◌, arith}
use Rattle.std.proofs.Math.Dec.{eqb}
use Rattle.std.proofs.lemmas.Bool.{false≢true}
use Rattle.std.proofs.lemmas.List.Splits.{join_with_byte-slice_split, length-slice_split}
use Rattle.std.specs.List.{slice_split, count_by}
use Rattle.fly_docs.specs.Names.{IsId}
use Rattle.fly_docs.specs.AttemptName.{path_text}
use Rattle.fly_docs.proofs.NameTexts.{split_path}
use Rattle.fly_docs.proofs.naming.ids_of.Goals as goal

abbrev nows : List (Bor (List ℕ)) → List (List ℕ)
nows ps = map (λ (p : Bor (List ℕ)). p.now) ps

pub returns-then-not-are_ids : goal.returns-then-not-are_ids
returns-then-not-are_ids c = λ ids h some e.
    let same : nows c.in_ok-parts.parts.items ≡ ids = c.in_ok-parts.ensures ∙ ap (slice_split (λ b. eqb b 47)) e ∙ split_path ids h some in
    let all = rw c.deref.ensures.value at c.are_ids.ensures in
    false≢true (sym c.if-not-are_ids.true ∙ all.1 (subst (All IsId) (sym same) h))

pub returns : goal.returns
returns c =
    let text = c.args.text.now in
    let made = rw c.deref-2.ensures.value at c.in_ok-texts_of.ensures in
    let cut : c.in_ok-texts_of.field-0 ≡ slice_split (λ b. eqb b 47) text = made ∙ c.in_ok-parts.ensures in
    let all = rw c.deref.ensures.value at c.are_ids.ensures in
    let ids : All IsId (nows c.in_ok-parts.parts.items) = all.0 c.if-not-are_ids.false in
    let count : length c.in_ok-texts_of.field-0 ≡ count_by (λ b. eqb b 47) text + 1 = ap length cut ∙ length-slice_split (λ b. eqb b 47) text in (
      sym (ap path_text cut ∙ join_with_byte-slice_split 47 text),
      subst (All IsId) (sym made) ids,
      omega (arith, count),
    )
