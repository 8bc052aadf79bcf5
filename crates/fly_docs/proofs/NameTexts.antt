-- What parts the name of an attempt, and that no two names have one text.
use Rattle.std.proofs.Common.{◌≡◌, ◌≢◌, ℕ, zero, suc, ◌+◌, ◌^◌, ◌<◌, ◌≤◌, List, [], ◌∷◌, ◌++◌, length, get_or, take, true, false, Bool, All, Option, Some, None, Result, Ok, Err, Bor, refl, sym, ap, subst, ◌∙◌, append_assoc, arith, rules}
use Rattle.std.proofs.Math.Dec.{eqb}
use Rattle.std.proofs.lemmas.Bool.{ne_eqb, false≢true}
use Rattle.std.proofs.lemmas.List.{append_cancel_left, append-nil, take_more, take_all}
use Rattle.std.proofs.lemmas.Grind.{flat_map-append}
use Rattle.std.proofs.lemmas.List.Elements.{All-nil, All-cons, All-head, All-tail, All-append, All-weaker, recursion_from_All, All-from_get_or}
use Rattle.std.proofs.lemmas.List.Splits.{slice_split_none, slice_split_at}
use Rattle.std.proofs.lemmas.Fmt.{digits_decimal, decimal_injective, decimal_nonempty, decimal_digit, first_decimal, decimal-digits_value, parse-decimal}
use Rattle.std.proofs.lemmas.Str.Pattern.{IsSplitOnceResult, split_parts}
use Rattle.std.proofs.lemmas.Str.Parse.{IsNumeralModel, numerals_by_value, tells_digits, not_in_digits, parse_plain}
use Rattle.std.specs.Fmt.{decimal}
use Rattle.std.specs.Int.{IsInRange}
use Rattle.std.specs.List.{AllByRecursion, slice_split, flat_map}
use Rattle.std.specs.Result.{MatchResult}
use Rattle.std.specs.Option.{MatchOption}
use Rattle.std.specs.Str.Parse.{AllDigits, digits_value, ParsesUnsigned}
use Rattle.fly_docs.specs.Names.{IsId, is_id_byte}
use Rattle.fly_docs.specs.declared.attempt_name.AttemptName.{AttemptName}
use Rattle.fly_docs.specs.contracts.attempt_name.AttemptName as name_type
use Rattle.fly_docs.specs.AttemptName.{path_text, item_text, name_text, IsItem, IsTextOf, Lacks, AreParts}

-- ---- a byte that parts two texts

fails : (c : ℕ) (xs : List ℕ) → Lacks c xs → All (λ b. eqb b c ≡ false) xs
fails c xs h = All-weaker (λ b. b ≢ c) (λ b. eqb b c ≡ false) (λ b ne. ne_eqb b c ne) xs h

itself : (c : ℕ) → eqb c c ≡ true
itself c = search rules

-- what stands before the first such byte, and behind it
pub parted : (c : ℕ) (xs ys us vs : List ℕ) → Lacks c xs → Lacks c us → xs ++ c ∷ ys ≡ us ++ c ∷ vs → (xs ≡ us) × (ys ≡ vs)
parted c xs ys us vs h k e =
    let p : ℕ → Bool = λ b. eqb b c in
    let first = slice_split_at p xs c ys (fails c xs h) (itself c) in
    let second = slice_split_at p us c vs (fails c us k) (itself c) in
    let parts : xs ∷ slice_split p ys ≡ us ∷ slice_split p vs = sym first ∙ ap (slice_split p) e ∙ second in
    let same : xs ≡ us = cc in
    let rest : c ∷ ys ≡ c ∷ vs = append_cancel_left us (c ∷ ys) (c ∷ vs) (subst (λ zs. zs ++ c ∷ ys ≡ us ++ c ∷ vs) same e) in
    (same, cc)

-- a text without the byte is no text with it
pub unparted : (c : ℕ) (xs us vs : List ℕ) → Lacks c xs → xs ≡ us ++ c ∷ vs → ⊥
unparted c xs us vs h e =
    let there : Lacks c (us ++ c ∷ vs) = subst (Lacks c) e h in
    middle us there where
      middle : (us : List ℕ) → Lacks c (us ++ c ∷ vs) → ⊥
      middle [] there = All-head (λ b. b ≢ c) c vs there refl
      middle (u ∷ us) there = middle us (All-tail (λ b. b ≢ c) u (us ++ c ∷ vs) there)

-- ---- ids and numbers

pub id_lacks : (c : ℕ) (id : List ℕ) → is_id_byte c ≡ false → IsId id → Lacks c id
id_lacks c id bad h =
    All-weaker (λ b. is_id_byte b ≡ true) (λ b. b ≢ c) (λ b yes same. let both : false ≡ true = sym bad ∙ ap is_id_byte (sym same) ∙ yes in false≢true both) id h.bytes

own : IsNumeralModel (AllDigits 10) (digits_value 10)
own = numerals_by_value (AllDigits 10) tells_digits

pub decimal_lacks : (c n : ℕ) → (IsInRange 48 57 c → ⊥) → n < 2 ^ 64 → Lacks c (decimal n)
decimal_lacks c n out small =
    All-from_get_or (λ b. b ≢ c) (decimal n) 0 (λ i within. not_in_digits own (decimal n) c (digits_decimal own n small) out i within)

path_lacks-list : (c : ℕ) (ids : List (List ℕ)) → is_id_byte c ≡ false → 47 ≢ c → AllByRecursion IsId ids → Lacks c (path_text ids)
path_lacks-list c [] bad slash h = All-nil (λ b. b ≢ c)
path_lacks-list c (id ∷ []) bad slash h = id_lacks c id bad h.0
path_lacks-list c (id ∷ next ∷ ids) bad slash h =
    All-append (λ b. b ≢ c) id (47 ∷ path_text (next ∷ ids)) (id_lacks c id bad h.0) (All-cons (λ b. b ≢ c) 47 (path_text (next ∷ ids)) slash (path_lacks-list c (next ∷ ids) bad slash h.1))

pub path_lacks : (c : ℕ) (ids : List (List ℕ)) → is_id_byte c ≡ false → 47 ≢ c → All IsId ids → Lacks c (path_text ids)
path_lacks c ids bad slash h = path_lacks-list c ids bad slash (recursion_from_All IsId ids h)

pub item_lacks : (item : Option ℕ) → IsItem item → Lacks 64 (item_text item)
item_lacks None h = All-nil (λ b. b ≢ 64)
item_lacks (Some n) h = All-cons (λ b. b ≢ 64) 35 (decimal n) (omega arith) (decimal_lacks 64 n (λ within. omega arith) (omega arith))

-- ---- paths

split_path-list : (ids : List (List ℕ)) → AllByRecursion IsId ids → 1 ≤ length ids → slice_split (λ b. eqb b 47) (path_text ids) ≡ ids
split_path-list [] h some = absurd (omega arith)
split_path-list (id ∷ []) h some = slice_split_none (λ b. eqb b 47) id (fails 47 id (id_lacks 47 id refl h.0))
split_path-list (id ∷ next ∷ ids) h some =
    slice_split_at (λ b. eqb b 47) id 47 (path_text (next ∷ ids)) (fails 47 id (id_lacks 47 id refl h.0)) refl ∙ ap (λ rest. id ∷ rest) (split_path-list (next ∷ ids) h.1 (omega arith))

-- the slashes of a path part its ids
pub split_path : (ids : List (List ℕ)) → All IsId ids → 1 ≤ length ids → slice_split (λ b. eqb b 47) (path_text ids) ≡ ids
split_path ids h some = split_path-list ids (recursion_from_All IsId ids h) some

-- each id behind a slash
abbrev pub slashed : List (List ℕ) → List ℕ
slashed = flat_map (λ id. 47 ∷ id)

-- a path behind a slash is each of its ids behind one
pub slashed_path : (ids : List (List ℕ)) → 1 ≤ length ids → slashed ids ≡ 47 ∷ path_text ids
slashed_path [] some = absurd (omega arith)
slashed_path (id ∷ []) some = ap (λ rest. 47 ∷ rest) (append-nil id)
slashed_path (id ∷ next ∷ ids) some = ap (λ rest. 47 ∷ id ++ rest) (slashed_path (next ∷ ids) (omega arith))

pub slashed_more : (ids : List (List ℕ)) (k : ℕ) (id : List ℕ) → k < length ids → id ≡ get_or ids k id → slashed (take (k + 1) ids) ≡ slashed (take k ids) ++ 47 ∷ id
slashed_more ids k id within at =
    let more : slashed (take (k + 1) ids) ≡ slashed (take k ids ++ id ∷ []) = ap slashed (take_more ids k id within) ∙ ap (λ x. slashed (take k ids ++ x ∷ [])) (sym at) in
    more ∙ flat_map-append (λ x. 47 ∷ x) (take k ids) (id ∷ []) ∙ ap (λ rest. slashed (take k ids) ++ 47 ∷ rest) (append-nil id)

-- ---- whole names

-- what stands before the attempt
abbrev pub ids_text : List ℕ → List (List ℕ) → List ℕ
ids_text exec path = exec ++ 47 ∷ path_text path

pub ids_lack : (c : ℕ) (exec : List ℕ) (path : List (List ℕ)) → is_id_byte c ≡ false → 47 ≢ c → IsId exec → All IsId path → Lacks c (ids_text exec path)
ids_lack c exec path bad slash h hs =
    All-append (λ b. b ≢ c) exec (47 ∷ path_text path) (id_lacks c exec bad h) (All-cons (λ b. b ≢ c) 47 (path_text path) slash (path_lacks c path bad slash hs))

-- ---- numbers

pub plus_is_no_number : (text : List ℕ) (n : ℕ) → n < 2 ^ 64 → get_or text 0 0 ≡ 43 → text ≢ decimal n
plus_is_no_number text n small plus e =
    not_in_digits own (decimal n) 43 (digits_decimal own n small) (λ within. omega arith) 0 (decimal_nonempty n small) (subst (λ t. get_or t 0 0 ≡ 43) e plus)

zero_first : (n : ℕ) → n < 2 ^ 64 → get_or (decimal n) 0 0 ≡ 48 → length (decimal n) ≤ 1
zero_first zero small first = subst (λ t. length t ≤ 1) (sym (decimal_digit 0 (omega arith))) (omega arith)
zero_first (suc n) small first = let more = first_decimal (suc n) (omega arith) small in absurd (omega (arith, more, first))

pub zero_is_no_number : (text : List ℕ) (n : ℕ) → n < 2 ^ 64 → get_or text 0 0 ≡ 48 → 1 < length text → text ≢ decimal n
zero_is_no_number text n small first long e =
    let short = zero_first n small (subst (λ t. get_or t 0 0 ≡ 48) e first) in
    let same : length text ≡ length (decimal n) = ap length e in
    omega (arith, short, same, long)

-- what a number is read from without a plus and without a zero before another digit
pub number_is_read : {E : Type 0} (text : List ℕ) (r : Result ℕ E) → get_or text 0 0 ≢ 43 → (get_or text 0 0 ≡ 48 → length text ≤ 1) → ParsesUnsigned 32 10 text r
    → MatchResult r (λ n. (n < 2 ^ 32) × (text ≡ decimal n)) (λ _. (n : ℕ) → n < 2 ^ 32 → text ≢ decimal n)
number_is_read {E} text (Ok x) plus lone says =
    let plain = parse_plain own {E = E} 32 text (Ok x) says plus in
    let digits : AllDigits 10 text = plain.0.0 in
    let some : 0 < length text = plain.0.1 in
    let small : digits_value 10 text < 2 ^ 32 = plain.0.2 in
    let same : x ≡ digits_value 10 text = plain.1 in
    let wide : digits_value 10 text < 2 ^ 64 = omega (arith, small) in
    let written : decimal (digits_value 10 text) ≡ text = decimal-digits_value own text digits some (λ first. omega (arith, lone first, some)) wide in
    (omega (arith, small, same), sym written ∙ ap decimal (sym same))
number_is_read {E} text (Err e) plus lone says = λ n small same.
    let read : Err e ≡ Ok n = parse-decimal {E = E} 32 n text (Err e) small (omega arith) same says in
    cc

-- ---- cuts

indexed_lacks : (c : ℕ) (bs : List ℕ) → ((i : ℕ) → i < length bs → get_or bs i 0 ≢ c) → Lacks c bs
indexed_lacks c bs h = All-from_get_or (λ b. b ≢ c) bs 0 h

-- where `split_once` cuts
pub cut_at : (c : ℕ) (bs : List ℕ) (r : Option (Bor (List ℕ) × Bor (List ℕ))) → IsSplitOnceResult c bs r → c < 128 → MatchOption r (Lacks c bs) (λ x. AreParts c bs x.0.now x.1.now)
cut_at c bs None says small = indexed_lacks c bs (split_parts c bs None says small)
cut_at c bs (Some x) says small =
    let parts = split_parts c bs (Some x) says small in
    record { lacks = indexed_lacks c x.0.now parts.1; joined = parts.0 }

-- no other text before the byte and behind it gives the whole
pub one_cut : (c : ℕ) (whole before behind us vs : List ℕ) → AreParts c whole before behind → Lacks c us → whole ≡ us ++ c ∷ vs → (before ≡ us) × (behind ≡ vs)
one_cut c whole before behind us vs h lacks e = parted c before behind us vs h.lacks lacks (sym h.joined ∙ e)

pub no_cut : (c : ℕ) (whole us vs : List ℕ) → Lacks c whole → whole ≢ us ++ c ∷ vs
no_cut c whole us vs lacks e = unparted c whole us vs lacks e

-- what is no number behind the `@` makes no name
pub attempt_unread : (whole before behind : List ℕ) → AreParts 64 whole before behind → ((n : ℕ) → n < 2 ^ 32 → behind ≢ decimal n)
    → (rest : List ℕ) (n : ℕ) → Lacks 64 rest → n < 2 ^ 32 → whole ≢ rest ++ 64 ∷ decimal n
attempt_unread whole before behind parts unread rest n lacks small e = unread n small (one_cut 64 whole before behind rest (decimal n) parts lacks e).1

pub item_unread : (whole before behind : List ℕ) → AreParts 35 whole before behind → ((n : ℕ) → n < 2 ^ 32 → behind ≢ decimal n)
    → (ids : List ℕ) (item : Option ℕ) → Lacks 35 ids → IsItem item → whole ≢ ids ++ item_text item
item_unread whole before behind parts unread ids None lacks small e =
    unparted 35 ids before behind lacks (sym (append-nil ids) ∙ sym e ∙ parts.joined)
item_unread whole before behind parts unread ids (Some n) lacks small e = unread n small (one_cut 35 whole before behind ids (decimal n) parts lacks e).1

-- ids and an item have one text
items_apart : (ids : List ℕ) (i : Option ℕ) (us : List ℕ) (j : Option ℕ) → Lacks 35 ids → Lacks 35 us → IsItem i → IsItem j → ids ++ item_text i ≡ us ++ item_text j
    → (ids ≡ us) × (i ≡ j)
items_apart ids None us None l k p q e = (sym (append-nil ids) ∙ e ∙ append-nil us, refl)
items_apart ids None us (Some n) l k p q e = absurd (unparted 35 ids us (decimal n) l (sym (append-nil ids) ∙ e))
items_apart ids (Some m) us None l k p q e = absurd (unparted 35 us ids (decimal m) k (sym (append-nil us) ∙ sym e))
items_apart ids (Some m) us (Some n) l k p q e =
    let apart = parted 35 ids (decimal m) us (decimal n) l k e in
    (apart.0, ap Some (decimal_injective m n (omega (arith, p)) (omega (arith, q)) apart.1))

-- ---- names

-- what stands before the attempt in a name
abbrev pub rest_text : AttemptName → List ℕ
rest_text n = ids_text n.exec n.path ++ item_text n.item

named : (n : AttemptName) → name_text n ≡ rest_text n ++ 64 ∷ decimal n.attempt
named n = refl

rest_lacks : (n : AttemptName) → IsItem n.item → Lacks 64 (rest_text n)
rest_lacks n small =
    All-append (λ b. b ≢ 64) (ids_text n.exec n.path) (item_text n.item) (ids_lack 64 n.exec n.path refl (omega arith) n.exec_is_id n.path_of_ids) (item_lacks n.item small)

-- a text that is cut at no number of an attempt is no name's
pub no_attempt : (t : List ℕ) → ((rest : List ℕ) (n : ℕ) → Lacks 64 rest → n < 2 ^ 32 → t ≢ rest ++ 64 ∷ decimal n) → (n : AttemptName) → IsTextOf t n → ⊥
no_attempt t none n is = none (rest_text n) n.attempt (rest_lacks n is.item) is.attempt (is.text ∙ named n)

rest_is : (t rest : List ℕ) (a : ℕ) → Lacks 64 rest → a < 2 ^ 32 → t ≡ rest ++ 64 ∷ decimal a → (n : AttemptName) → IsTextOf t n → (rest ≡ rest_text n) × (a ≡ n.attempt)
rest_is t rest a lacks small e n is =
    let apart = parted 64 rest (decimal a) (rest_text n) (decimal n.attempt) lacks (rest_lacks n is.item) (sym e ∙ is.text ∙ named n) in
    let low = is.attempt in
    (apart.0, decimal_injective a n.attempt (omega (arith, small)) (omega (arith, low)) apart.1)

pub no_item : (t rest : List ℕ) (a : ℕ) → Lacks 64 rest → a < 2 ^ 32 → t ≡ rest ++ 64 ∷ decimal a
    → ((ids : List ℕ) (item : Option ℕ) → Lacks 35 ids → IsItem item → rest ≢ ids ++ item_text item) → (n : AttemptName) → IsTextOf t n → ⊥
no_item t rest a lacks small e none n is =
    none (ids_text n.exec n.path) n.item (ids_lack 35 n.exec n.path refl (omega arith) n.exec_is_id n.path_of_ids) is.item (rest_is t rest a lacks small e n is).0

-- the text was cut into these ids, this item and this attempt
pub record IsCutInto (t ids : List ℕ) (item : Option ℕ) (a : ℕ) : Type 0 where
  pub rest : List ℕ
  pub at : Lacks 64 rest
  pub hash : Lacks 35 ids
  pub attempt : a < 2 ^ 32
  pub number : IsItem item
  pub whole : t ≡ rest ++ 64 ∷ decimal a
  pub front : rest ≡ ids ++ item_text item

cut_is : (t ids : List ℕ) (item : Option ℕ) (a : ℕ) → IsCutInto t ids item a → (n : AttemptName) → IsTextOf t n
    → (ids ≡ ids_text n.exec n.path) × (item ≡ n.item) × (a ≡ n.attempt)
cut_is t ids item a h n is =
    let first = rest_is t h.rest a h.at h.attempt h.whole n is in
    let second = items_apart ids item (ids_text n.exec n.path) n.item h.hash (ids_lack 35 n.exec n.path refl (omega arith) n.exec_is_id n.path_of_ids) h.number is.item (sym h.front ∙ first.0) in
    (second.0, second.1, first.1)

pub no_exec : (t ids : List ℕ) (item : Option ℕ) (a : ℕ) → IsCutInto t ids item a → ((exec path : List ℕ) → IsId exec → ids ≢ exec ++ 47 ∷ path) → (n : AttemptName) → IsTextOf t n → ⊥
no_exec t ids item a h none n is = none n.exec (path_text n.path) n.exec_is_id (cut_is t ids item a h n is).0

path_is : (t ids exec path : List ℕ) (item : Option ℕ) (a : ℕ) → IsCutInto t ids item a → IsId exec → ids ≡ exec ++ 47 ∷ path → (n : AttemptName) → IsTextOf t n
    → (exec ≡ n.exec) × (path ≡ path_text n.path)
path_is t ids exec path item a h id e n is =
    parted 47 exec path n.exec (path_text n.path) (id_lacks 47 exec refl id) (id_lacks 47 n.exec refl n.exec_is_id) (sym e ∙ (cut_is t ids item a h n is).0)

pub no_path : (t ids exec path : List ℕ) (item : Option ℕ) (a : ℕ) → IsCutInto t ids item a → IsId exec → ids ≡ exec ++ 47 ∷ path
    → ((ps : List (List ℕ)) → All IsId ps → 1 ≤ length ps → path ≢ path_text ps) → (n : AttemptName) → IsTextOf t n → ⊥
no_path t ids exec path item a h id e none n is = none n.path n.path_of_ids n.path_is_some (path_is t ids exec path item a h id e n is).1

-- paths have one text
one_path : (ps qs : List (List ℕ)) → All IsId ps → All IsId qs → 1 ≤ length ps → 1 ≤ length qs → path_text ps ≡ path_text qs → ps ≡ qs
one_path ps qs h k p q e = sym (split_path ps h p) ∙ ap (slice_split (λ b. eqb b 47)) e ∙ split_path qs k q

-- names of the same parts are one
same_name : (m n : AttemptName) → m.exec ≡ n.exec → m.path ≡ n.path → m.item ≡ n.item → m.attempt ≡ n.attempt → m ≡ n
same_name m n e p i a = name_type.the_row.coded.inj m n (rw (e, p, i, a) refl)

-- the text of the parts that a text was cut into
pub cut_text : (t ids exec path : List ℕ) (item : Option ℕ) (a : ℕ) → IsCutInto t ids item a → ids ≡ exec ++ 47 ∷ path → t ≡ exec ++ 47 ∷ path ++ item_text item ++ 64 ∷ decimal a
cut_text t ids exec path item a h e =
    h.whole ∙ ap (λ rest. rest ++ 64 ∷ decimal a) (h.front ∙ ap (λ front. front ++ item_text item) e)

-- a text is of one name
pub one_name : (t : List ℕ) (m n : AttemptName) → IsTextOf t m → IsTextOf t n → n ≡ m
one_name t m n h is =
    let own : IsCutInto t (ids_text m.exec m.path) m.item m.attempt = record {
      rest = rest_text m;
      at = rest_lacks m h.item;
      hash = ids_lack 35 m.exec m.path refl (omega arith) m.exec_is_id m.path_of_ids;
      attempt = h.attempt;
      number = h.item;
      whole = h.text ∙ named m;
      front = refl;
    } in
    let cuts = cut_is t (ids_text m.exec m.path) m.item m.attempt own n is in
    let paths = path_is t (ids_text m.exec m.path) m.exec (path_text m.path) m.item m.attempt own m.exec_is_id refl n is in
    same_name n m (sym paths.0) (one_path n.path m.path n.path_of_ids m.path_of_ids n.path_is_some m.path_is_some (sym paths.1)) (sym cuts.1) (sym cuts.2)

-- what is printed: the execution and the path, and then the numbers
pub printed_text : (n : AttemptName) (whole front numbers : List ℕ) (items : List (List ℕ)) (k : ℕ) → front ≡ n.exec ++ slashed (take k items) → length items ≤ k → items ≡ n.path
    → whole ≡ front ++ numbers → numbers ≡ item_text n.item ++ 64 ∷ decimal n.attempt → whole ≡ name_text n
printed_text n whole front numbers items k so_far all same joined two =
    let path : slashed (take k items) ≡ 47 ∷ path_text n.path = ap slashed (take_all k items all ∙ same) ∙ slashed_path n.path n.path_is_some in
    let ids : front ≡ n.exec ++ 47 ∷ path_text n.path = so_far ∙ ap (λ rest. n.exec ++ rest) path in
    joined ∙ ap (λ x. x ++ numbers) ids ∙ ap (λ x. (n.exec ++ 47 ∷ path_text n.path) ++ x) two ∙ sym (append_assoc (n.exec ++ 47 ∷ path_text n.path) (item_text n.item) (64 ∷ decimal n.attempt))
