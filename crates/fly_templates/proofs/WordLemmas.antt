-- How a word with its inputs put in goes on, from byte to byte and behind each template.
use Rattle.std.proofs.Common.{◌≡◌, ℕ, zero, suc, ◌+◌, ◌-◌, ◌<◌, ◌≤◌, List, [], ◌∷◌, ◌++◌, length, get_or, take, drop, codes, Option, Some, None, refl, sym, ap, ◌∙◌, subst, append_assoc, append-nil, add-zero, arith}
use Rattle.std.specs.Str.{IsUtf8, IsCharBoundary}
use Rattle.std.proofs.Math.ListN.{drop_of_length-le}
use Rattle.std.proofs.Math.Seq.{drop-cons, take-suc, drop-append-add}
use Rattle.std.proofs.lemmas.List.{length-drop, drop-drop, get_or-drop, take_all}
use Rattle.std.proofs.lemmas.Str.{IsCharBoundary-before_ascii, IsCharBoundary-after_ascii}
use Rattle.fly_types.specs.declared.literals.LiteralMap.{LiteralMap}
use Rattle.fly_faults.proofs.TemplateSteps.{rest_of}
use Rattle.fly_templates.specs.Plain.{plain_text}
use Rattle.fly_templates.specs.Words.{Input, behind_template, input_at, with_more, word_within, word_of}
use Rattle.fly_templates.specs.Finding.{IsFirstInput}
use Rattle.fly_templates.proofs.TemplateParts.{slice_from, front, input_parts, template_len, first_brace, last_brace, whole}

module _ (inputs : LiteralMap) where
  rest_below : (text : List ℕ) (input : Input) → input_at inputs text ≡ Some input → length input.rest + 2 ≤ length text
  rest_below text input is =
      let has = input_parts inputs text input is in
      let long = template_len has.name text has.template in
      let same = ap length has.rest in omega arith

  same_more : (n m byte : ℕ) (text : List ℕ)
      → ((r : List ℕ) → length r ≤ length text → word_within n inputs r ≡ word_within m inputs r)
      → (o : Option Input) → input_at inputs (byte ∷ text) ≡ o
      → with_more (word_within n inputs) byte text o ≡ with_more (word_within m inputs) byte text o
  same_more n m byte text same None is = ap (λ (r : List ℕ). byte ∷ r) (same text (omega arith))
  same_more n m byte text same (Some input) is =
      let below = rest_below (byte ∷ text) input is in
      ap (λ (r : List ℕ). plain_text input.value ++ r) (same input.rest (omega arith))

  -- more bytes to go than there are change nothing
  enough : (n m : ℕ) (text : List ℕ) → length text ≤ n → length text ≤ m
      → word_within n inputs text ≡ word_within m inputs text
  unfolding word_within
  enough zero zero text a b = refl
  enough zero (suc m) [] a b = refl
  enough zero (suc m) (byte ∷ text) a b = absurd (omega arith)
  enough (suc n) zero [] a b = refl
  enough (suc n) zero (byte ∷ text) a b = absurd (omega arith)
  enough (suc n) (suc m) [] a b = refl
  enough (suc n) (suc m) (byte ∷ text) a b =
      same_more n m byte text (λ r l. enough n m r (omega arith) (omega arith)) (input_at inputs (byte ∷ text)) refl

  pub word_empty : word_of inputs [] ≡ []
  unfolding word_of word_within
  word_empty = refl

  pub word_byte : (byte : ℕ) (text : List ℕ) → input_at inputs (byte ∷ text) ≡ None
      → word_of inputs (byte ∷ text) ≡ byte ∷ word_of inputs text
  unfolding word_of word_within
  word_byte byte text none = ap (with_more (word_within (length text) inputs) byte text) none

  pub word_input : (text : List ℕ) (input : Input) → input_at inputs text ≡ Some input
      → word_of inputs text ≡ plain_text input.value ++ word_of inputs input.rest
  unfolding word_of word_within
  word_input [] input is = absurd (omega (arith, rest_below [] input is))
  word_input (byte ∷ text) input is =
      let below = rest_below (byte ∷ text) input is in
      ap (with_more (word_within (length text) inputs) byte text) is
      ∙ ap (λ (r : List ℕ). plain_text input.value ++ r)
      (enough (length text) (length input.rest) input.rest (omega arith) (omega arith))

  -- ---- the first template of an input

  -- no template of an input begins before this place
  abbrev pub IsPlainBelow : List ℕ → ℕ → Type 0
  IsPlainBelow text start = word_of inputs text ≡ take start text ++ word_of inputs (drop start text)

  pub plain_more : (text : List ℕ) (start : ℕ) → start < length text → IsPlainBelow text start
      → input_at inputs (drop start text) ≡ None → IsPlainBelow text (start + 1)
  plain_more text start below plain none =
      let byte = get_or text start 0 in
      let rest : drop start text ≡ byte ∷ drop (suc start) text = drop-cons text start 0 below in
      let next : suc start ≡ start + 1 = omega arith in
      let step : word_of inputs (drop start text) ≡ byte ∷ word_of inputs (drop (suc start) text) =
      ap (word_of inputs) rest ∙ word_byte byte (drop (suc start) text) (sym (ap (input_at inputs) rest) ∙ none) in
      subst (IsPlainBelow text) next
      (plain ∙ ap (λ (r : List ℕ). take start text ++ r) step
      ∙ sym (append_assoc (take start text) (byte ∷ []) (word_of inputs (drop (suc start) text)))
      ∙ ap (λ (r : List ℕ). r ++ word_of inputs (drop (suc start) text)) (sym (take-suc text start 0 below)))

  -- what was found where the search stands
  pub found_here : (text bytes : List ℕ) (start : ℕ) (o : Option Input) → bytes ≡ text
      → o ≡ input_at inputs (slice_from start bytes) → input_at inputs (drop start text) ≡ o
  found_here text bytes start o same is =
      ap (input_at inputs) (sym (ap (slice_from start) same ∙ rest_of text start)) ∙ sym is

  pub rest_fits : (text : List ℕ) (start : ℕ) (input : Input) → input_at inputs (drop start text) ≡ Some input
      → length input.rest ≤ length text
  rest_fits text start input is =
      let below = rest_below (drop start text) input is in
      let left = length-drop start text in omega arith

  pub plain_whole : (text : List ℕ) (start : ℕ) → length text ≤ start → IsPlainBelow text start
      → word_of inputs text ≡ text
  plain_whole text start ends plain =
      let before = take start text in
      plain ∙ ap (λ (r : List ℕ). before ++ word_of inputs r) (drop_of_length-le text ends)
      ∙ ap (λ (r : List ℕ). before ++ r) word_empty ∙ append-nil before
      ∙ take_all start text ends

  pub first_here : (text : List ℕ) (start end : ℕ) (input : Input) → IsUtf8 text → start < length text
      → IsPlainBelow text start → input_at inputs (drop start text) ≡ Some input → end ≡ length text - length input.rest
      → IsFirstInput inputs text start end input.value
  first_here text start end input utf8 below plain is ends =
      let rest = drop start text in
      let has = input_parts inputs rest input is in
      let size = length (front has.name rest) in
      let long : length rest ≡ size + 2 + length (behind_template has.name rest) =
      template_len has.name rest has.template in
      let left : length rest ≡ length text - start = length-drop start text in
      let same : length input.rest ≡ length (behind_template has.name rest) = ap length has.rest in
      let place : start + (size + 1) + 1 ≡ end = omega arith in
      let first : get_or text start 0 ≡ 123 =
      subst (λ (k : ℕ). get_or text k 0 ≡ 123) (add-zero start)
      (sym (get_or-drop start text 0 0) ∙ first_brace has.name rest has.template) in
      let last : get_or text (start + (size + 1)) 0 ≡ 125 =
      sym (get_or-drop start text (size + 1) 0) ∙ last_brace has.name rest has.template in
      let after : drop end text ≡ input.rest =
      ap (λ (k : ℕ). drop k text) (sym (omega arith)) ∙ sym (drop-drop (size + 2) start text)
      ∙ ap (λ (r : List ℕ). drop (size + 2) r) (whole has.name rest has.template)
      ∙ drop-append-add (front has.name rest) (codes "}}" ++ behind_template has.name rest) 2 ∙ sym has.rest in
      record {
        some = omega arith;
        before = IsCharBoundary-before_ascii text start below (omega arith);
        behind = subst (IsCharBoundary text) place
            (IsCharBoundary-after_ascii text (start + (size + 1)) utf8 (omega arith) (omega arith));
        word = plain ∙ ap (λ (r : List ℕ). take start text ++ r) (word_input rest input is)
            ∙ sym (append_assoc (take start text) (plain_text input.value) (word_of inputs input.rest))
            ∙ ap (λ (r : List ℕ). take start text ++ plain_text input.value ++ word_of inputs r) (sym after);
      }
