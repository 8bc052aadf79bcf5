-- The names in the templates of a word are those of which a template stands in it.
use Rattle.std.proofs.Common.{◌≡◌, ℕ, zero, suc, ◌+◌, ◌==◌, nat_le, nat_eq, Bool, true, false, not, ◌&&◌, cond, List, [], ◌∷◌, ◌++◌, length, drop, replicate, take_while, map, flat_map, codes, Contains, Some, None, option_and_then, option_to_list, bytes_eq, refl, sym, ap, ◌∙◌, subst, ⊎_elim, append_assoc, take-append-drop, one-add, leb-true, le-leb}
use Rattle.std.specs.List.{list_any, list_all, starts_with, prefix_len}
use Rattle.std.proofs.lemmas.Bool.{and_parts, and_from, eqb-true, cond-true, not-false, not_from_true}
use Rattle.std.proofs.lemmas.Bool.Decides.{Decides-eqb}
use Rattle.std.proofs.lemmas.List.Elements.{All-contains, Contains-append_left, Contains-append_right, Contains-append_cases}
use Rattle.std.proofs.lemmas.List.Folds.{length-prefix_len}
use Rattle.std.proofs.lemmas.List.Prefix.{front_rest}
use Rattle.std.proofs.lemmas.List.Sums.{take_while-cons, list_all-from_AllPass, AllPass-from_list_all}
use Rattle.std.proofs.lemmas.Slice.Eq.{starts_is}
use Rattle.fly_types.specs.declared.text.Text.{Text}
use Rattle.fly_docs.specs.declared.task.Task.{Task}
use Rattle.fly_docs.specs.Interfaces.{names_of}
use Rattle.fly_docs.specs.Names.{IsId, is_id_byte}
use Rattle.fly_docs.specs.Templates.{template, HasTemplateOf, AsksFor, words_of, behind, without_spaces, is_id_text, closed_name, template_name, template_names}
use Rattle.fly_docs.specs.Typed.{HasInputs}
use Rattle.fly_graph.proofs.Members.{Contains-nil}
use Rattle.fly_faults.specs.FaultList.{template_faults}
use Rattle.fly_faults.proofs.Lists.{all_of, and_then_some, any_at, any_found, filter_none, filter_nothing, in_flat_map, in_option, map_none, of_flat_map, of_option}
use Rattle.fly_faults.proofs.Distinct.{same_text, text_same}

-- ---- a text that begins with another

starts_append : (start rest : List ℕ) → starts_with nat_eq (start ++ rest) start ≡ true
starts_append start rest =
    (starts_is Decides-eqb (start ++ rest) start (starts_with nat_eq (start ++ rest) start) refl).1 rest refl

starts_front : (start text : List ℕ) → starts_with nat_eq text start ≡ true → text ≡ start ++ drop (length start) text
starts_front start text e = (starts_is Decides-eqb text start (starts_with nat_eq text start) refl).0 e

behind_append : (start rest : List ℕ) → behind start (start ++ rest) ≡ Some rest
behind_append start rest =
    cond-true (starts_with nat_eq (start ++ rest) start) (Some (drop (length start) (start ++ rest))) None
    (starts_append start rest)
    ∙ ap Some (front_rest (start ++ rest) start rest refl)

behind_is : (start text rest : List ℕ) → behind start text ≡ Some rest → text ≡ start ++ rest
behind_is start text rest e = at (starts_with nat_eq text start) refl e
  where
    at : (b : Bool) → starts_with nat_eq text start ≡ b → cond b (Some (drop (length start) text)) None ≡ Some rest
        → text ≡ start ++ rest
    at true is found = let same : drop (length start) text ≡ rest = cc in starts_front start text is
        ∙ ap (λ r. start ++ r) same
    at false is found = cc

-- ---- spaces at the front

without_more : (text : List ℕ) → without_spaces (32 ∷ text) ≡ without_spaces text
without_more text = ap (λ k. drop k (32 ∷ text)) (one-add (prefix_len (λ byte. byte == 32) text))

without_front : (n byte : ℕ) (rest : List ℕ) → (byte == 32) ≡ false → without_spaces (replicate n 32 ++ byte ∷ rest)
    ≡ byte ∷ rest
without_front zero byte rest e = ap (λ b. drop (cond b (1 + prefix_len (λ x. x == 32) rest) 0) (byte ∷ rest)) e
without_front (suc n) byte rest e = without_more (replicate n 32 ++ byte ∷ rest) ∙ without_front n byte rest e

without_is : (text : List ℕ) → (n : ℕ) × (text ≡ replicate n 32 ++ without_spaces text)
without_is [] = (0, refl)
without_is (byte ∷ text) = at (byte == 32) refl (without_is text)
  where
    at : (b : Bool) → (byte == 32) ≡ b → (n : ℕ) × (text ≡ replicate n 32 ++ without_spaces text)
        → (n : ℕ) × (byte ∷ text ≡ replicate n 32 ++ without_spaces (byte ∷ text))
    at true is rest =
        let same : byte ≡ 32 = eqb-true byte 32 is in (
          suc rest.0,
          ap (λ r. byte ∷ r) rest.1 ∙ ap (λ x. x ∷ (replicate rest.0 32 ++ without_spaces text)) same
              ∙ ap (λ r. 32 ∷ (replicate rest.0 32 ++ r)) (sym (without_more text))
              ∙ ap (λ x. 32 ∷ (replicate rest.0 32 ++ without_spaces (x ∷ text))) (sym same),
        )
    at false is rest = (0, sym (ap (λ b. drop (cond b (1 + prefix_len (λ x. x == 32) text) 0) (byte ∷ text)) is))

-- ---- the name at the front

take_while_none : (byte : ℕ) (rest : List ℕ) → is_id_byte byte ≡ false → take_while is_id_byte (byte ∷ rest) ≡ []
take_while_none byte rest e = take_while-cons is_id_byte byte rest
    ∙ ap (λ b. cond b (byte ∷ take_while is_id_byte rest) []) e

take_while_all : (name tail : List ℕ) → list_all is_id_byte name ≡ true → take_while is_id_byte tail ≡ []
    → take_while is_id_byte (name ++ tail) ≡ name
take_while_all [] tail all none = none
take_while_all (x ∷ name) tail all none =
    let parts = and_parts (is_id_byte x) (list_all is_id_byte name) all in
    take_while-cons is_id_byte x (name ++ tail)
    ∙ ap (λ b. cond b (x ∷ take_while is_id_byte (name ++ tail)) []) parts.0
    ∙ ap (λ r. x ∷ r) (take_while_all name tail parts.1 none)

take_while_front : (text : List ℕ)
    → text ≡ take_while is_id_byte text ++ drop (length (take_while is_id_byte text)) text
take_while_front text =
    sym (take-append-drop (prefix_len is_id_byte text) text)
    ∙ ap (λ k. take_while is_id_byte text ++ drop k text) (sym (length-prefix_len is_id_byte text))

id_from : (name : List ℕ) → is_id_text name ≡ true → IsId name
id_from name e =
    let outer = and_parts (nat_le 1 (length name) && nat_le (length name) 63) (list_all is_id_byte name) e in
    let inner = and_parts (nat_le 1 (length name)) (nat_le (length name) 63) outer.0 in record {
      some = leb-true 1 (length name) inner.0;
      short = leb-true (length name) 63 inner.1;
      bytes = AllPass-from_list_all is_id_byte name outer.1;
    }

id_text : (name : List ℕ) → IsId name → is_id_text name ≡ true
id_text name id =
    and_from (nat_le 1 (length name) && nat_le (length name) 63) (list_all is_id_byte name)
    (and_from (nat_le 1 (length name)) (nat_le (length name) 63) (le-leb 1 (length name) id.some)
    (le-leb (length name) 63 id.short))
    (list_all-from_AllPass is_id_byte name id.bytes)

-- what stands behind the name in a template
abbrev closing : ℕ → List ℕ → List ℕ
closing right after = replicate right 32 ++ (codes "}}" ++ after)

closing_none : (right : ℕ) (after : List ℕ) → take_while is_id_byte (closing right after) ≡ []
closing_none zero after = take_while_none 125 (125 ∷ after) refl
closing_none (suc n) after = take_while_none 32 (closing n after) refl

closed_append : (name : List ℕ) (right : ℕ) (after : List ℕ) → IsId name → closed_name (name ++ closing right after)
    ≡ Some name
closed_append name right after id =
    let text = name ++ closing right after in
    let whole : take_while is_id_byte text ≡ name =
    take_while_all name (closing right after) (list_all-from_AllPass is_id_byte name id.bytes)
    (closing_none right after) in
    let rest : drop (length (take_while is_id_byte text)) text ≡ closing right after =
    ap (λ n. drop (length n) text) whole ∙ front_rest text name (closing right after) refl in
    let closes : starts_with nat_eq (without_spaces (drop (length (take_while is_id_byte text)) text))
    (codes "}}") ≡ true =
    ap (λ r. starts_with nat_eq r (codes "}}")) (ap without_spaces rest ∙ without_front right 125 (125 ∷ after) refl)
    ∙ starts_append (codes "}}") after in
    cond-true
    (is_id_text (take_while is_id_byte text) && starts_with nat_eq
    (without_spaces (drop (length (take_while is_id_byte text)) text)) (codes "}}"))
    (Some (take_while is_id_byte text)) None
    (and_from _ _ (ap is_id_text whole ∙ id_text name id) closes) ∙ ap Some whole

closed_is : (text name : List ℕ) → closed_name text ≡ Some name
    → IsId name × ((right : ℕ) × (after : List ℕ) × (text ≡ name ++ closing right after))
closed_is text name e =
    at (is_id_text (take_while is_id_byte text) && starts_with nat_eq
    (without_spaces (drop (length (take_while is_id_byte text)) text)) (codes "}}")) refl e
  where
    at : (b : Bool)
        → (is_id_text (take_while is_id_byte text) && starts_with nat_eq
        (without_spaces (drop (length (take_while is_id_byte text)) text)) (codes "}}")) ≡ b
        → cond b (Some (take_while is_id_byte text)) None ≡ Some name
        → IsId name × ((right : ℕ) × (after : List ℕ) × (text ≡ name ++ closing right after))
    at true is found =
        let parts = and_parts (is_id_text (take_while is_id_byte text))
        (starts_with nat_eq (without_spaces (drop (length (take_while is_id_byte text)) text)) (codes "}}")) is in
        let same : take_while is_id_byte text ≡ name = cc in
        let tail = drop (length (take_while is_id_byte text)) text in
        let left = without_is tail in
        let after = drop 2 (without_spaces tail) in
        let shut : without_spaces tail ≡ codes "}}" ++ after =
        starts_front (codes "}}") (without_spaces tail) parts.1 in (
          subst IsId same (id_from (take_while is_id_byte text) parts.0),
          (
            left.0,
            after,
            take_while_front text ∙ ap (λ n. n ++ tail) same
                ∙ ap (λ r. name ++ r) (left.1 ∙ ap (λ r. replicate left.0 32 ++ r) shut),
          ),
        )
    at false is found = cc

-- ---- a template

flat : (a i n r z t : List ℕ) → a ++ i ++ n ++ r ++ z ++ t ≡ a ++ (i ++ (n ++ (r ++ (z ++ t))))
flat a i n r z t =
    append_assoc (a ++ i ++ n ++ r) z t ∙ append_assoc (a ++ i ++ n) r (z ++ t)
    ∙ append_assoc (a ++ i) n (r ++ (z ++ t)) ∙ append_assoc a i (n ++ (r ++ (z ++ t)))

abbrev opening : ℕ → List ℕ → List ℕ
opening left rest = codes "{{" ++ (replicate left 32 ++ (codes ".inputs." ++ rest))

template_flat : (name : List ℕ) (left right : ℕ) (after : List ℕ)
    → template name left right ++ after ≡ opening left (name ++ closing right after)
template_flat name left right after =
    ap (λ r. codes "{{" ++ r)
    (flat (replicate left 32) (codes ".inputs.") name (replicate right 32) (codes "}}") after)

template_append : (name : List ℕ) (left right : ℕ) (after : List ℕ) → IsId name
    → template_name (opening left (name ++ closing right after)) ≡ Some name
template_append name left right after id =
    let rest = name ++ closing right after in
    let inner = replicate left 32 ++ (codes ".inputs." ++ rest) in
    let opened : behind (codes ".inputs.") (without_spaces inner) ≡ Some rest =
    ap (behind (codes ".inputs.")) (without_front left 46 (codes "inputs." ++ rest) refl)
    ∙ behind_append (codes ".inputs.") rest in
    ap (λ o. option_and_then closed_name (option_and_then (λ r. behind (codes ".inputs.") (without_spaces r)) o))
    (behind_append (codes "{{") inner)
    ∙ ap (option_and_then closed_name) opened ∙ closed_append name right after id

pub template_is : (text name : List ℕ) → template_name text ≡ Some name
    → IsId name × ((left right : ℕ) × (after : List ℕ) × (text ≡ template name left right ++ after))
template_is text name e =
    let outer =
    and_then_some closed_name
    (option_and_then (λ r. behind (codes ".inputs.") (without_spaces r)) (behind (codes "{{") text)) name e in
    let inner = and_then_some (λ r. behind (codes ".inputs.") (without_spaces r))
    (behind (codes "{{") text) outer.0 outer.1 in
    let closed = closed_is outer.0 name outer.2 in
    let spaced = without_is inner.0 in
    let rest : without_spaces inner.0 ≡ codes ".inputs." ++ (name ++ closing closed.1.0 closed.1.1) =
    behind_is (codes ".inputs.") (without_spaces inner.0) outer.0 inner.2
    ∙ ap (λ r. codes ".inputs." ++ r) closed.1.2 in (
      closed.0,
      (
        spaced.0,
        closed.1.0,
        closed.1.1,
        behind_is (codes "{{") text inner.0 inner.1
            ∙ ap (λ r. codes "{{" ++ r) (spaced.1 ∙ ap (λ r. replicate spaced.0 32 ++ r) rest)
            ∙ sym (template_flat name spaced.0 closed.1.0 closed.1.1),
      ),
    )

-- ---- a word

in_names : (before : List ℕ) (byte : ℕ) (rest name : List ℕ) → template_name (byte ∷ rest) ≡ Some name
    → Contains (template_names (before ++ byte ∷ rest)) name
in_names [] byte rest name e =
    Contains-append_left (option_to_list (template_name (byte ∷ rest))) (template_names rest) name
    (in_option (template_name (byte ∷ rest)) name e)
in_names (x ∷ before) byte rest name e =
    Contains-append_right (option_to_list (template_name (x ∷ (before ++ byte ∷ rest))))
    (template_names (before ++ byte ∷ rest)) name
    (in_names before byte rest name e)

pub names_from_template : (word name : List ℕ) → HasTemplateOf word name → Contains (template_names word) name
names_from_template word name h =
    let found = h.1 in
    let rest = replicate found.2 32 ++ (codes ".inputs." ++ (name ++ closing found.3 found.1)) in
    let is : word ≡ found.0 ++ 123 ∷ (123 ∷ rest) =
    found.4 ∙ append_assoc found.0 (template name found.2 found.3) found.1
    ∙ ap (λ r. found.0 ++ r) (template_flat name found.2 found.3 found.1) in
    subst (λ w. Contains (template_names w) name) (sym is)
    (in_names found.0 123 (123 ∷ rest) name (template_append name found.2 found.3 found.1 h.0))

pub template_from_names : (word name : List ℕ) → Contains (template_names word) name → HasTemplateOf word name
template_from_names [] name has = absurd (Contains-nil name has)
template_from_names (byte ∷ word) name has =
    ⊎_elim (λ here. let first = template_is (byte ∷ word) name (of_option (template_name (byte ∷ word)) name here) in
    (first.0, ([], first.1.2, first.1.0, first.1.1, first.1.3)))
    (λ later. let more = template_from_names word name later in
    (more.0, (byte ∷ more.1.0, more.1.1, more.1.2, more.1.3, ap (λ w. byte ∷ w) more.1.4)))
    (Contains-append_cases (option_to_list (template_name (byte ∷ word))) (template_names word) name has)

-- ---- a task

abbrev asked : Task → List Text
asked t = flat_map template_names (words_of t)

pub templates_none : (t : Task) → template_faults t ≡ [] → HasInputs t
templates_none t e =
    all_of (AsksFor t.interface.inputs) (words_of t) (λ word has name stands.
    let there = in_flat_map template_names (words_of t) word name has (names_from_template word name stands) in
    let found = any_found (bytes_eq name) (names_of t.interface.inputs)
    (not-false (list_any (bytes_eq name) (names_of t.interface.inputs))
    (filter_none (λ n. not (list_any (bytes_eq n) (names_of t.interface.inputs))) (asked t)
    (map_none _ _ e) name there)) in
    subst (Contains (names_of t.interface.inputs)) (sym (same_text name found.0 found.2)) found.1)

pub templates_nothing : (t : Task) → HasInputs t → template_faults t ≡ []
templates_nothing t all =
    ap (map _) (filter_nothing (λ n. not (list_any (bytes_eq n) (names_of t.interface.inputs))) (asked t) (λ name has.
    let word = of_flat_map template_names (words_of t) name has in
    not_from_true (list_any (bytes_eq name) (names_of t.interface.inputs))
    (any_at (bytes_eq name) (names_of t.interface.inputs) name
    (All-contains (AsksFor t.interface.inputs) (words_of t) word.0 all word.1 name
    (template_from_names word.0 name word.2)) (text_same name name refl))))
