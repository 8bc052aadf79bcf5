-- The parts of a template with which a text begins.
use Rattle.std.proofs.Common.{◌≡◌, ℕ, ◌+◌, ◌-◌, ◌≤◌, Bool, true, false, ◌&&◌, cond, List, ◌++◌, length, get_or, take, drop, take_while, codes, Option, Some, None, option_map, refl, sym, ap, ◌∙◌, subst, nat_eq, ◌==◌, append_assoc, take-append-drop, arith}
use Rattle.std.specs.List.{starts_with, prefix_len}
use Rattle.std.proofs.lemmas.Bool.{and_parts}
use Rattle.std.proofs.lemmas.Bool.Decides.{Decides-eqb}
use Rattle.std.proofs.lemmas.List.{length-append, length-drop, length-take, get_or-append-add}
use Rattle.std.proofs.lemmas.List.Folds.{length-prefix_len}
use Rattle.std.proofs.lemmas.Slice.Eq.{starts_is}
use Rattle.fly_types.specs.declared.literals.Literal.{Literal}
use Rattle.fly_types.specs.declared.literals.LiteralMap.{LiteralMap}
use Rattle.fly_types.specs.Lookup.{value_of}
use Rattle.fly_docs.specs.Names.{is_id_byte}
use Rattle.fly_docs.specs.Templates.{behind, without_spaces, is_id_text, closed_name, template_name}
use Rattle.fly_faults.proofs.Lists.{and_then_some}
use Rattle.fly_faults.proofs.TemplateSteps.{rest_of}
use Rattle.fly_templates.specs.Words.{Input, behind_template, input_at}

-- the slice from a place on
abbrev pub slice_from : ℕ → List ℕ → List ℕ
slice_from n text = take (length text - n) (drop n text)

-- what stands behind the opening braces, and behind `.inputs.`
abbrev pub opened : List ℕ → List ℕ
opened text = drop 2 text

abbrev pub named : List ℕ → List ℕ
named text = drop 8 (without_spaces (opened text))

-- A template of the name at the front of the text, part by part.
pub record HasTemplate (name text : List ℕ) : Type 0 where
  pub opens : text ≡ codes "{{" ++ opened text
  pub names : without_spaces (opened text) ≡ codes ".inputs." ++ named text
  pub fits : length name ≤ length (named text)
  pub closes : without_spaces (drop (length name) (named text)) ≡ codes "}}" ++ behind_template name text

-- ---- from the name that was found

starts_front : (start text : List ℕ) → starts_with nat_eq text start ≡ true → text ≡ start ++ drop (length start) text
starts_front start text e = (starts_is Decides-eqb text start (starts_with nat_eq text start) refl).0 e

behind_is : (start text rest : List ℕ) → behind start text ≡ Some rest
    → (text ≡ start ++ drop (length start) text) × (rest ≡ drop (length start) text)
behind_is start text rest e = at (starts_with nat_eq text start) refl e
  where
    at : (b : Bool) → starts_with nat_eq text start ≡ b → cond b (Some (drop (length start) text)) None ≡ Some rest
        → (text ≡ start ++ drop (length start) text) × (rest ≡ drop (length start) text)
    at true is found = (starts_front start text is, cc)
    at false is found = let no : ⊥ = cc in absurd no

front_fits : (text : List ℕ) → length (take_while is_id_byte text) ≤ length text
front_fits text =
    let count = prefix_len is_id_byte text in
    let long = ap length (take-append-drop count text) in
    omega (
      arith,
      length-prefix_len is_id_byte text,
      long,
      length-append (take count text) (drop count text),
      length-take count text,
      length-drop count text,
    )

closed_is : (text name : List ℕ) → closed_name text ≡ Some name
    → (length name ≤ length text)
    × (without_spaces (drop (length name) text) ≡ codes "}}" ++ drop 2 (without_spaces (drop (length name) text)))
closed_is text name e =
    let whole = take_while is_id_byte text in
    at (is_id_text whole && starts_with nat_eq (without_spaces (drop (length whole) text)) (codes "}}")) refl e
  where
    at : (b : Bool)
        → (is_id_text (take_while is_id_byte text) && starts_with nat_eq
        (without_spaces (drop (length (take_while is_id_byte text)) text)) (codes "}}")) ≡ b
        → cond b (Some (take_while is_id_byte text)) None ≡ Some name
        → (length name ≤ length text)
        × (without_spaces (drop (length name) text) ≡ codes "}}" ++ drop 2 (without_spaces (drop (length name) text)))
    at true is found =
        let same : take_while is_id_byte text ≡ name = cc in
        let parts = and_parts (is_id_text (take_while is_id_byte text)) _ is in (
          subst (λ n. length n ≤ length text) same (front_fits text),
          subst
              (λ (n : List ℕ). without_spaces (drop (length n) text)
              ≡ codes "}}" ++ drop 2 (without_spaces (drop (length n) text))) same
              (starts_front (codes "}}") _ parts.1),
        )
    at false is found = let no : ⊥ = cc in absurd no

pub template_parts : (name text : List ℕ) → template_name text ≡ Some name → HasTemplate name text
template_parts name text is =
    let outer = and_then_some closed_name _ name is in
    let inner = and_then_some (λ (rest : List ℕ). behind (codes ".inputs.") (without_spaces rest))
    (behind (codes "{{") text)
    outer.0 outer.1 in
    let first = behind_is (codes "{{") text inner.0 inner.1 in
    let second = behind_is (codes ".inputs.") (without_spaces inner.0) outer.0 inner.2 in
    let same : outer.0 ≡ named text = second.1 ∙ ap (λ (r : List ℕ). drop 8 (without_spaces r)) first.1 in
    let last = subst (λ (r : List ℕ). (length name ≤ length r)
    × (without_spaces (drop (length name) r) ≡ codes "}}" ++ drop 2 (without_spaces (drop (length name) r)))) same
    (closed_is outer.0 name outer.2) in
    record {
      opens = first.0;
      names = subst (λ (r : List ℕ). without_spaces r ≡ codes ".inputs." ++ drop 8 (without_spaces r)) first.1 second.0;
      fits = last.0;
      closes = last.1;
    }

-- ---- what the template leaves

-- all of the template but its closing braces
abbrev pub front : List ℕ → List ℕ → List ℕ
front name text =
    codes "{{" ++ (take (prefix_len (λ byte. byte == 32) (opened text)) (opened text)
    ++ (codes ".inputs." ++ (take (length name) (named text)
    ++ take (prefix_len (λ byte. byte == 32) (drop (length name) (named text))) (drop (length name) (named text)))))

parts_joined : (a s i n t z : List ℕ) → a ++ (s ++ (i ++ (n ++ (t ++ z)))) ≡ (a ++ (s ++ (i ++ (n ++ t)))) ++ z
parts_joined a s i n t z = sym (simp append_assoc)

module _ (name text : List ℕ) (has : HasTemplate name text) where
  spaced : (xs : List ℕ) → xs ≡ take (prefix_len (λ byte. byte == 32) xs) xs ++ without_spaces xs
  spaced xs = sym (take-append-drop (prefix_len (λ byte. byte == 32) xs) xs)

  pub whole : text ≡ front name text ++ (codes "}}" ++ behind_template name text)
  whole =
      let left = take (prefix_len (λ byte. byte == 32) (opened text)) (opened text) in
      let own = take (length name) (named text) in
      let tail = drop (length name) (named text) in
      let right = take (prefix_len (λ byte. byte == 32) tail) tail in
      let end = codes "}}" ++ behind_template name text in
      let ends : tail ≡ right ++ end = spaced tail ∙ ap (λ (r : List ℕ). right ++ r) has.closes in
      let middle : named text ≡ own ++ (right ++ end) =
      sym (take-append-drop (length name) (named text)) ∙ ap (λ (r : List ℕ). own ++ r) ends in
      let begins : opened text ≡ left ++ (codes ".inputs." ++ (own ++ (right ++ end))) =
      spaced (opened text)
      ∙ ap (λ (r : List ℕ). left ++ r) (has.names ∙ ap (λ (r : List ℕ). codes ".inputs." ++ r) middle) in
      has.opens ∙ ap (λ (r : List ℕ). codes "{{" ++ r) begins
      ∙ parts_joined (codes "{{") left (codes ".inputs.") own right end

  -- its bytes, of which the first and the last are braces
  pub template_len : length text ≡ length (front name text) + 2 + length (behind_template name text)
  template_len =
      ap length whole ∙ length-append (front name text) (codes "}}" ++ behind_template name text) ∙ omega arith

  pub first_brace : get_or text 0 0 ≡ 123
  first_brace = ap (λ (t : List ℕ). get_or t 0 0) has.opens

  pub last_brace : get_or text (length (front name text) + 1) 0 ≡ 125
  last_brace =
      ap (λ (t : List ℕ). get_or t (length (front name text) + 1) 0) whole
      ∙ get_or-append-add (front name text) (codes "}}" ++ behind_template name text) 1 0

-- ---- by slices

module _ (name text past closed : List ℕ) where
  slice_of_closed : past ≡ without_spaces (slice_from 2 text)
      → closed ≡ without_spaces (slice_from (length name) (slice_from 8 past))
      → closed ≡ without_spaces (drop (length name) (named text))
  slice_of_closed o e =
      e ∙ ap without_spaces (rest_of (slice_from 8 past) (length name))
      ∙ ap (λ (r : List ℕ). without_spaces (drop (length name) r))
      (rest_of past 8 ∙ ap (λ (r : List ℕ). drop 8 r) (o ∙ ap without_spaces (rest_of text 2)))

  -- the closing braces stand there
  pub closed_slice : HasTemplate name text → past ≡ without_spaces (slice_from 2 text)
      → closed ≡ without_spaces (slice_from (length name) (slice_from 8 past)) → 2 ≤ length closed
  closed_slice has o e =
      let same : closed ≡ codes "}}" ++ behind_template name text = slice_of_closed o e ∙ has.closes in
      let long = ap length same ∙ length-append (codes "}}") (behind_template name text) in omega arith

  pub behind_slice : past ≡ without_spaces (slice_from 2 text)
      → closed ≡ without_spaces (slice_from (length name) (slice_from 8 past))
      → slice_from 2 closed ≡ behind_template name text
  behind_slice o e = rest_of closed 2 ∙ ap (λ (r : List ℕ). drop 2 r) (slice_of_closed o e)

-- ---- an input

pub record HasInput (inputs : LiteralMap) (text : List ℕ) (input : Input) : Type 0 where
  pub name : List ℕ
  pub template : HasTemplate name text
  pub value : value_of inputs.entries name ≡ Some input.value
  pub rest : input.rest ≡ behind_template name text

abbrev input_of : Literal → List ℕ → Input
input_of value rest = record { value = value; rest = rest }

mapped_some : {X Y : Type 0} (f : X → Y) (o : Option X) (y : Y) → option_map f o ≡ Some y
    → (x : X) × (o ≡ Some x) × (y ≡ f x)
mapped_some f None y e = let no : ⊥ = cc in absurd no
mapped_some f (Some x) y e = (x, refl, cc)

pub input_parts : (inputs : LiteralMap) (text : List ℕ) (input : Input) → input_at inputs text ≡ Some input
    → HasInput inputs text input
input_parts inputs text input is =
    let found = and_then_some
    (λ (name : List ℕ). option_map (λ (value : Literal). input_of value (behind_template name text))
    (value_of inputs.entries name))
    (template_name text) input is in
    let given = mapped_some (λ (value : Literal). input_of value (behind_template found.0 text))
    (value_of inputs.entries found.0) input found.2 in
    record {
      name = found.0;
      template = template_parts found.0 text found.1;
      value = given.1 ∙ ap (λ (i : Input). Some i.value) (sym given.2);
      rest = ap (λ (i : Input). i.rest) given.2;
    }
