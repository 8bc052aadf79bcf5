-- The templates of a word from each byte on, and the faults of names.
use Rattle.std.proofs.Common.{◌≡◌, ℕ, suc, ◌+◌, ◌-◌, ◌<◌, ◌≤◌, nat_lt, nat_le, Bool, true, false, not, ◌&&◌, ◌||◌, cond, List, [], ◌∷◌, ◌++◌, map, filter, length, get_or, take, drop, take_while, codes, nat_eq, Option, Some, None, is_some, option_to_list, bytes_eq, find, refl, sym, ap, ◌∙◌, subst, arith, append_assoc, append-nil, drop-cons, ⊎_elim}
use Rattle.std.specs.List.{flat_map, list_any, list_all, starts_with, prefix_len}
use Rattle.std.specs.Borrow.{Bor}
use Rattle.std.specs.Option.{option_copied}
use Rattle.std.specs.Str.{IsUtf8}
use Rattle.std.proofs.lemmas.List.{map-append, take_all}
use Rattle.std.proofs.Math.ListN.{length-drop}
use Rattle.std.proofs.lemmas.List.Elements.{filter-append}
use Rattle.std.proofs.lemmas.Grind.{flat_map-append}
use Rattle.std.proofs.lemmas.Bool.{and_parts, and_from, or_cases, eqb-true, leb-true, le-leb, cond-true}
use Rattle.std.proofs.lemmas.List.Sums.{list_all-from_AllPass, take_while-cons}
use Rattle.std.proofs.lemmas.List.Folds.{length-prefix_len}
use Rattle.std.proofs.lemmas.Str.{IsUtf8-from_ascii}
use Rattle.std.proofs.lemmas.Str.Ascii.{IsAscii-from_all}
use Rattle.fly_types.specs.declared.text.Text.{Text}
use Rattle.fly_types.specs.declared.variable.Variable.{Variable}
use Rattle.fly_docs.specs.declared.task.Task.{Task}
use Rattle.fly_docs.specs.Interfaces.{names_of}
use Rattle.fly_docs.specs.Names.{IsId, is_id_byte}
use Rattle.fly_docs.specs.Templates.{without_spaces, is_id_text, closed_name, template_name, template_names, words_of}
use Rattle.fly_faults.specs.declared.fault.Fault.{Fault}
use Rattle.fly_faults.specs.declared.fault.Code.TheVariants as code
use Rattle.fly_faults.specs.Places.{task_name, fault_with}
use Rattle.fly_faults.specs.FaultList.{template_faults}
use Rattle.fly_faults.specs.TemplateFaults.{name_faults}
use Rattle.fly_faults.proofs.Distinct.{same_text, text_same}
use Rattle.fly_faults.proofs.TemplateLemmas.{template_is}
use Rattle.fly_faults.proofs.Lists.{all_at, all_of}

-- ---- names

name_faults-append : (t : Task) (xs ys : List Text) → name_faults t (xs ++ ys) ≡ name_faults t xs ++ name_faults t ys
name_faults-append t xs ys =
    ap (map (λ name. fault_with code.TemplateInput (task_name t) name)) (filter-append (λ name. not (list_any (bytes_eq name) (names_of t.interface.inputs))) xs ys)
    ∙ map-append (λ name. fault_with code.TemplateInput (task_name t) name)
    (filter (λ name. not (list_any (bytes_eq name) (names_of t.interface.inputs))) xs)
    (filter (λ name. not (list_any (bytes_eq name) (names_of t.interface.inputs))) ys)

-- ---- from a byte on

-- a slice from a place to the end
pub rest_of : (text : List ℕ) (i : ℕ) → take (length text - i) (drop i text) ≡ drop i text
rest_of text i = take_all (length text - i) (drop i text) (omega (arith, length-drop i text))

names_from : (word : List ℕ) (i : ℕ) → i < length word
    → template_names (drop i word) ≡ option_to_list (template_name (drop i word)) ++ template_names (drop (i + 1) word)
names_from word i lt =
    let next : suc i ≡ i + 1 = omega arith in
    subst (λ rest. template_names rest ≡ option_to_list (template_name rest) ++ template_names (drop (i + 1) word)) (sym (drop-cons word i 0 lt))
    (ap (λ k. option_to_list (template_name (get_or word i 0 ∷ drop (suc i) word)) ++ template_names (drop k word)) next)

pub word_more : (t : Task) (word : List ℕ) (i : ℕ) (old now next : List Fault) → i < length word
    → now ++ name_faults t (template_names (drop i word)) ≡ old ++ name_faults t (template_names word)
    → next ≡ now ++ name_faults t (option_to_list (template_name (drop i word)))
    → next ++ name_faults t (template_names (drop (i + 1) word)) ≡ old ++ name_faults t (template_names word)
word_more t word i old now next lt before step =
    let first = option_to_list (template_name (drop i word)) in
    let rest = template_names (drop (i + 1) word) in
    ap (λ r. r ++ name_faults t rest) step ∙ append_assoc now (name_faults t first) (name_faults t rest)
    ∙ ap (λ r. now ++ r) (sym (name_faults-append t first rest))
    ∙ ap (λ names. now ++ name_faults t names) (sym (names_from word i lt)) ∙ before

-- ---- the words of a task

by_word : (t : Task) (words : List Text) → flat_map (λ word. name_faults t (template_names word)) words ≡ name_faults t (flat_map template_names words)
by_word t [] = refl
by_word t (word ∷ words) =
    ap (λ r. name_faults t (template_names word) ++ r) (by_word t words)
    ∙ sym (name_faults-append t (template_names word) (flat_map template_names words))

pub both_lists : (t : Task) → flat_map (λ word. name_faults t (template_names word)) t.command ++ flat_map (λ word. name_faults t (template_names word)) t.args
    ≡ template_faults t
both_lists t =
    sym (flat_map-append (λ word. name_faults t (template_names word)) t.command t.args) ∙ by_word t (words_of t)

-- ---- one name

same_test : (a b : Bool) → (a ≡ true → b ≡ true) → (b ≡ true → a ≡ true) → a ≡ b
same_test true true f g = refl
same_test false false f g = refl
same_test true false f g = sym (f refl)
same_test false true f g = g refl

bytes_eq_back : (x y : Text) → bytes_eq x y ≡ bytes_eq y x
bytes_eq_back x y = same_test (bytes_eq x y) (bytes_eq y x) (λ e. text_same y x (sym (same_text x y e))) (λ e. text_same x y (sym (same_text y x e)))

found_any : (name : Text) (vs : List Variable) → is_some (find (λ (v : Variable). bytes_eq v.name name) vs) ≡ list_any (bytes_eq name) (names_of vs)
found_any name [] = refl
found_any name (v ∷ vs) =
    at (bytes_eq v.name name) (bytes_eq name v.name) (bytes_eq_back v.name name) (found_any name vs)
  where
    at : (a b : Bool) → a ≡ b → is_some (find (λ (v : Variable). bytes_eq v.name name) vs) ≡ list_any (bytes_eq name) (names_of vs)
        → is_some (cond a (Some v) (find (λ (v : Variable). bytes_eq v.name name) vs)) ≡ (b || list_any (bytes_eq name) (names_of vs))
    at true true e rest = refl
    at false false e rest = rest
    at true false e rest = cc
    at false true e rest = cc

name_fault : (t : Task) (name : Text) (found : Bool) → found ≡ is_some (find (λ (v : Variable). bytes_eq v.name name) t.interface.inputs)
    → name_faults t (name ∷ []) ≡ cond found [] (fault_with code.TemplateInput (task_name t) name ∷ [])
name_fault t name found e =
    let same : list_any (bytes_eq name) (names_of t.interface.inputs) ≡ found = sym (e ∙ found_any name t.interface.inputs) in
    ap (λ b. map (λ (n : Text). fault_with code.TemplateInput (task_name t) n) (cond (not b) (name ∷ []) [])) same ∙ at found
  where
    at : (b : Bool) → map (λ (n : Text). fault_with code.TemplateInput (task_name t) n) (cond (not b) (name ∷ []) [])
        ≡ cond b [] (fault_with code.TemplateInput (task_name t) name ∷ [])
    at true = refl
    at false = refl

copied_some : {X : Type 0} (o : Option (Bor X)) → is_some o ≡ is_some (option_copied o)
copied_some None = refl
copied_some (Some x) = refl

-- the fault of the template at the front, by whether its name was found
pub name_faults_at : (t : Task) (text name : List ℕ) (found : Bool) (r : Option (Bor Variable)) (test : Bool) → Some name ≡ template_name text
    → found ≡ is_some r → option_copied r ≡ find (λ (v : Variable). bytes_eq v.name name) t.interface.inputs → found ≡ test
    → cond test [] (fault_with code.TemplateInput (task_name t) name ∷ []) ≡ name_faults t (option_to_list (template_name text))
name_faults_at t text name found r test e is looked same =
    sym (ap (λ (o : Option Text). name_faults t (option_to_list o)) (sym e) ∙ name_fault t name found (is ∙ copied_some r ∙ ap is_some looked)
    ∙ ap (λ b. cond b [] (fault_with code.TemplateInput (task_name t) name ∷ [])) same)

-- ---- a name that closing braces follow

front_more : (x : ℕ) (rest : List ℕ) (passes : Bool) → is_id_byte x ≡ passes → list_all is_id_byte rest ≡ true
    → list_all is_id_byte (cond passes (x ∷ rest) []) ≡ true
front_more x rest true is all = and_from (is_id_byte x) (list_all is_id_byte rest) is all
front_more x rest false is all = refl

all_front : (text : List ℕ) → list_all is_id_byte (take_while is_id_byte text) ≡ true
all_front [] = refl
all_front (x ∷ xs) =
    ap (list_all is_id_byte) (take_while-cons is_id_byte x xs) ∙ front_more x (take_while is_id_byte xs) (is_id_byte x) refl (all_front xs)

pub closed_by : (text : List ℕ) (count : ℕ) (rest name : List ℕ) → count ≡ prefix_len is_id_byte text → 1 ≤ count → count ≤ 63
    → rest ≡ without_spaces (drop count text) → starts_with nat_eq rest (codes "}}") ≡ true → name ≡ take count text
    → Some name ≡ closed_name text
closed_by text count rest name is some short behind closes front =
    let whole = take_while is_id_byte text in
    let same : name ≡ whole = front ∙ ap (λ n. take n text) is in
    let long : length whole ≡ count = length-prefix_len is_id_byte text ∙ sym is in
    let id : is_id_text whole ≡ true =
    and_from (nat_le 1 (length whole) && nat_le (length whole) 63) (list_all is_id_byte whole)
    (and_from (nat_le 1 (length whole)) (nat_le (length whole) 63) (le-leb 1 (length whole) (omega (arith, long)))
    (le-leb (length whole) 63 (omega (arith, long))))
    (all_front text) in
    let shut : starts_with nat_eq (without_spaces (drop (length whole) text)) (codes "}}") ≡ true =
    ap (λ n. starts_with nat_eq (without_spaces (drop n text)) (codes "}}")) long
    ∙ ap (λ r. starts_with nat_eq r (codes "}}")) (sym behind) ∙ closes in
    ap Some same
    ∙ sym (cond-true (is_id_text whole && starts_with nat_eq (without_spaces (drop (length whole) text)) (codes "}}")) (Some whole) None
    (and_from _ _ id shut))

-- ---- the name of a template is a text

in_low : (low high byte : ℕ) → high < 128 → (nat_le low byte && nat_le byte high) ≡ true → byte < 128
in_low low high byte small e =
    let le : byte ≤ high = leb-true byte high (and_parts (nat_le low byte) (nat_le byte high) e).1 in omega arith

id_low : (byte : ℕ) → is_id_byte byte ≡ true → byte < 128
id_low byte e =
    ⊎_elim
    (λ named. ⊎_elim
    (λ alnum. ⊎_elim
    (λ two. ⊎_elim (in_low 48 57 byte (omega arith)) (in_low 65 90 byte (omega arith)) (or_cases _ _ two))
    (in_low 97 122 byte (omega arith)) (or_cases _ _ alnum))
    (λ dash. let is : byte ≡ 45 = eqb-true byte 45 dash in omega arith) (or_cases _ _ named))
    (λ under. let is : byte ≡ 95 = eqb-true byte 95 under in omega arith) (or_cases _ _ e)

pub name_is_text : (text name : List ℕ) → template_name text ≡ Some name → IsUtf8 name
name_is_text text name e =
    let id : IsId name = (template_is text name e).0 in
    IsUtf8-from_ascii name
    (IsAscii-from_all name
    (all_of (λ byte. byte < 128) name (λ byte has. id_low byte (all_at is_id_byte name (list_all-from_AllPass is_id_byte name id.bytes) byte has))))
