-- What is read is no longer than its text: each text in it, and each list and object.
use Rattle.std.proofs.Common.{◌≡◌, ℕ, zero, suc, ◌+◌, ◌≤◌, ◌^◌, cond, List, [], ◌∷◌, length, take, drop, ◌-◌, nat_eq, Bool, true, false, ◌&&◌, ◌==◌, nat_lt, nat_le, FitsSigned, Option, Some, None, option_map, option_and_then, Ordering, Less, Equal, Greater, nat_cmp, refl, subst, arith}
use Rattle.std.proofs.lemmas.Int.{ints}
use Rattle.std.proofs.lemmas.List.{length-append}
use Rattle.std.proofs.lemmas.Bool.{and_parts, leb-true}
use Rattle.std.specs.Prelude.{⊤, slice_index}
use Rattle.std.specs.Float.{binary64, float_is_finite}
use Rattle.std.specs.Ordering.{match_ordering}
use Rattle.std.specs.List.{AllByRecursion, starts_with}
use Rattle.std.specs.Cmp.Lexicographic.{slice_cmp}
use Rattle.json.specs.Token.{Token}
use Rattle.std.specs.Char.{encode_utf8}
use Rattle.json.specs.Text.{code_unit, short_escape, is_high_surrogate, is_low_surrogate, surrogate_pair, Within, plain, after_backslash, after_u, after_high, prepend, content}
use Rattle.json.specs.Word.{word, after_number, number_before, literal, ends_word, head}
use Rattle.json.specs.Ascii as ascii
use Rattle.json.specs.Lex.{Lexeme, token, comma, colon, Class, quote, backslash, operator, space, other, class, operator_lexeme, string_token, Mode, between, in_word, in_string, in_escape, lex_byte, lex, Place, fresh, after_value, after_comma, after_key, begins_colon, may_begin, may_close, if_allowed, place_token, punctuate, tokens}
use Rattle.json.specs.Json as json
use Rattle.json.specs.Json.{Json, Parse, parse_map, after_end_array, read_key, items_step, members_step, items, members, value_with, value}
use Rattle.serde_json.specs.Data.{Num, unsigned, negative, float, Data, null, boolean, number, string, array, object, Items, no_items, item, Members, no_members, member, put}
use Rattle.fast_float.specs.Text.{minus, Parts, scan, digits_of, nearest, with_sign}
use Rattle.std.specs.Int.{w64}
use Rattle.serde_json.specs.Read.{is_integer, float_of, number_from, number_of, of_json, of_items, of_members, max_depth, read}
use Rattle.fly_values.specs.Fields.{members_in, field, first_there, unless_null, member_at, original_name, listed, items_in, entries_of, text_value}
use Rattle.serde_json.specs.Find.{get_member}
use Rattle.fly_idl.proofs.Ordered.{WhereSome, where-map, where-then}

-- ---- the content of a string

abbrev AtMost : ℕ → Option (List ℕ) → Type 0
AtMost n None = ⊤
AtMost n (Some s) = length s ≤ n

at_most-if : (n : ℕ) (b : Bool) (x y : Option (List ℕ)) → AtMost n x → AtMost n y → AtMost n (cond b x y)
at_most-if n true x y f g = f
at_most-if n false x y f g = g

at_most-then : (n : ℕ) (f : ℕ → Option (List ℕ)) (o : Option ℕ) → ((u : ℕ) → AtMost n (f u)) → AtMost n
    (option_and_then f o)
at_most-then n f None h = tt
at_most-then n f (Some u) h = h u

at_most-more : (n m : ℕ) (r : Option (List ℕ)) → AtMost m r → m ≤ n → AtMost n r
at_most-more n m None h le = tt
at_most-more n m (Some s) h le = omega arith

longer : (n m : ℕ) (a : List ℕ) (r : Option (List ℕ)) → AtMost m r → length a + m ≤ n → AtMost n (prepend a r)
longer n m a None h le = tt
longer n m a (Some s) h le = omega (arith, length-append a s)

length-encode : (u : ℕ) → length (encode_utf8 u) ≤ 4
unfolding encode_utf8
length-encode u = grind arith

content-short : (w : Within) (xs : List ℕ) → AtMost (length xs) (content w xs)
unfolding content
content-short plain [] = tt
content-short plain (x ∷ xs) =
    let n = length (x ∷ xs) in
    at_most-if n (x == 34) _ _ (omega arith)
    (at_most-if n (x == 92) _ _ (at_most-more n _ _ (content-short after_backslash xs) (omega arith))
    (at_most-if n (nat_lt x 32) _ _ tt (longer n _ (x ∷ []) _ (content-short plain xs) (omega arith))))
content-short after_backslash [] = tt
content-short after_backslash (x ∷ xs) =
    let n = length (x ∷ xs) in
    at_most-if n (x == 117) _ _ (at_most-more n _ _ (content-short after_u xs) (omega arith))
    (at_most-then n _ (short_escape x) (λ c. longer n _ (c ∷ []) _ (content-short plain xs) (omega arith)))
content-short after_u [] = tt
content-short after_u (a ∷ []) = tt
content-short after_u (a ∷ b ∷ []) = tt
content-short after_u (a ∷ b ∷ c ∷ []) = tt
content-short after_u (a ∷ b ∷ c ∷ d ∷ xs) =
    let n = length (a ∷ b ∷ c ∷ d ∷ xs) in
    at_most-then n _ (code_unit a b c d) (λ u.
    at_most-if n (is_high_surrogate u) _ _ (at_most-more n _ _ (content-short (after_high u) xs) (omega arith))
    (at_most-if n (is_low_surrogate u) _ _ tt
    (longer n _ (encode_utf8 u) _ (content-short plain xs) (omega (arith, length-encode u)))))
content-short (after_high h) [] = tt
content-short (after_high h) (s ∷ []) = tt
content-short (after_high h) (s ∷ u ∷ []) = tt
content-short (after_high h) (s ∷ u ∷ a ∷ []) = tt
content-short (after_high h) (s ∷ u ∷ a ∷ b ∷ []) = tt
content-short (after_high h) (s ∷ u ∷ a ∷ b ∷ c ∷ []) = tt
content-short (after_high h) (s ∷ u ∷ a ∷ b ∷ c ∷ d ∷ xs) =
    let n = length (s ∷ u ∷ a ∷ b ∷ c ∷ d ∷ xs) in
    at_most-if n ((s == ascii.backslash) && (u == ascii.lower_u)) _ _
    (at_most-then n _ (code_unit a b c d) (λ l.
    at_most-if n (is_low_surrogate l) _ _
    (longer n _ (encode_utf8 (surrogate_pair h l)) _ (content-short plain xs)
    (omega (arith, length-encode (surrogate_pair h l))))
    tt)) tt

module _ (n : ℕ) where
  -- ---- lexemes

  abbrev IsTokenShort : Token → Type 0
  IsTokenShort (Token.key s) = length s ≤ n
  IsTokenShort (Token.string s) = length s ≤ n
  IsTokenShort _ = ⊤

  abbrev IsLexemeShort : Lexeme → Type 0
  IsLexemeShort (token t) = IsTokenShort t
  IsLexemeShort _ = ⊤

  token_if : (b : Bool) (s t : Token) → IsTokenShort s → IsTokenShort t → IsTokenShort (cond b s t)
  token_if true s t p q = p
  token_if false s t p q = q

  lexeme_if : (b : Bool) (s t : Lexeme) → IsLexemeShort s → IsLexemeShort t → IsLexemeShort (cond b s t)
  lexeme_if true s t p q = p
  lexeme_if false s t p q = q

  operator-short : (x : ℕ) → IsLexemeShort (operator_lexeme x)
  operator-short x =
      lexeme_if (x == ascii.open_brace) (token Token.begin_object) _ tt
      (lexeme_if (x == ascii.close_brace) (token Token.end_object) _ tt
      (lexeme_if (x == ascii.open_bracket) (token Token.begin_array) _ tt
      (lexeme_if (x == ascii.close_bracket) (token Token.end_array) _ tt
      (lexeme_if (x == ascii.comma) comma colon tt tt))))

  number-short : (t : List ℕ) (o : Option (List ℕ)) → IsTokenShort (number_before t o)
  number-short t None = tt
  number-short t (Some rest) = token_if (ends_word rest) (Token.number (take (length t - length rest) t))
      Token.bad tt tt

  literal-short : (name t : List ℕ) (k : Token) → IsTokenShort k → IsTokenShort (literal name k t)
  literal-short name t k p = token_if (starts_with nat_eq t name && ends_word (drop (length name) t)) k Token.bad p tt

  word-short : (t : List ℕ) → IsTokenShort (word t)
  unfolding word
  word-short t =
      token_if (head t == ascii.lower_t) _ _ (literal-short ascii.true_text t (Token.boolean true) tt)
      (token_if (head t == ascii.lower_f) _ _ (literal-short ascii.false_text t (Token.boolean false) tt)
      (token_if (head t == ascii.lower_n) _ _ (literal-short ascii.null_text t Token.null tt)
      (number-short t (after_number t))))

  text-short : (m : ℕ) (o : Option (List ℕ)) → AtMost m o → m ≤ n → IsTokenShort (string_token o)
  text-short m None h le = tt
  text-short m (Some s) h le = omega arith

  -- each lexeme is short, and there are no more of them than bytes
  abbrev AreShort : ℕ → List Lexeme → Type 0
  AreShort m ls = (length ls ≤ m) × AllByRecursion IsLexemeShort ls

  wider : (m : ℕ) (ls : List Lexeme) → AreShort m ls → AreShort (m + 1) ls
  wider m ls h = (omega (arith, h.0), h.1)

  one_more : (m : ℕ) (l : Lexeme) (ls : List Lexeme) → IsLexemeShort l → AreShort m ls → AreShort (m + 1) (l ∷ ls)
  one_more m l ls p h = (omega (arith, h.0), (p, h.1))

  byte-short : (mode : Mode) (c : Class) (x : ℕ) (xs : List ℕ) (k : Mode → List Lexeme) → length xs ≤ n
      → ((next : Mode) → AreShort (length xs) (k next)) → AreShort (length xs + 1) (lex_byte mode c x xs k)
  byte-short between quote x xs k le h =
      one_more (length xs) (token (string_token (content plain xs))) _
      (text-short (length xs) (content plain xs) (content-short plain xs) le) (h in_string)
  byte-short between backslash x xs k le h = one_more (length xs) (token Token.bad) _ tt (h in_word)
  byte-short between operator x xs k le h = one_more (length xs) _ _ (operator-short x) (h between)
  byte-short between space x xs k le h = wider (length xs) _ (h between)
  byte-short between other x xs k le h = one_more (length xs) (token (word (x ∷ xs))) _ (word-short (x ∷ xs))
      (h in_word)
  byte-short in_word quote x xs k le h = wider (length xs) _ (h in_word)
  byte-short in_word backslash x xs k le h = wider (length xs) _ (h in_word)
  byte-short in_word operator x xs k le h = one_more (length xs) _ _ (operator-short x) (h between)
  byte-short in_word space x xs k le h = wider (length xs) _ (h between)
  byte-short in_word other x xs k le h = wider (length xs) _ (h in_word)
  byte-short in_string quote x xs k le h = wider (length xs) _ (h between)
  byte-short in_string backslash x xs k le h = wider (length xs) _ (h in_escape)
  byte-short in_string operator x xs k le h = wider (length xs) _ (h in_string)
  byte-short in_string space x xs k le h = wider (length xs) _ (h in_string)
  byte-short in_string other x xs k le h = wider (length xs) _ (h in_string)
  byte-short in_escape c x xs k le h = wider (length xs) _ (h in_string)

  as_long : (x : ℕ) (xs : List ℕ) → length xs + 1 ≡ length (x ∷ xs)
  as_long x xs = omega arith

  lex-short : (mode : Mode) (xs : List ℕ) → length xs ≤ n → AreShort (length xs) (lex mode xs)
  unfolding lex
  lex-short mode [] le = (omega arith, tt)
  lex-short mode (x ∷ xs) le =
      subst (λ m. AreShort m (lex_byte mode (class x) x xs (λ next. lex next xs))) (as_long x xs)
      (byte-short mode (class x) x xs (λ next. lex next xs) (omega (arith, le))
      (λ next. lex-short next xs (omega (arith, le))))

  -- ---- tokens

  -- each token is short, and there are no more of them than bytes, but for a last one
  abbrev AreTokensShort : ℕ → List Token → Type 0
  AreTokensShort m ts = (length ts ≤ m + 1) × AllByRecursion IsTokenShort ts

  bad-short : (m : ℕ) → AreTokensShort m (Token.bad ∷ [])
  bad-short m = (omega arith, (tt, tt))

  allowed-short : (m : ℕ) (b : Bool) (t : Token) (k : Place → List Token) (next : Place) → IsTokenShort t
      → AreTokensShort m (k next) → AreTokensShort (m + 1) (if_allowed b t k next)
  allowed-short m true t k next p h = (omega (arith, h.0), (p, h.1))
  allowed-short m false t k next p h = bad-short (m + 1)

  place-short : (m : ℕ) (p : Place) (t : Token) (before_colon : Bool) (k : Place → List Token) → IsTokenShort t
      → ((next : Place) → AreTokensShort m (k next)) → AreTokensShort (m + 1) (place_token p t before_colon k)
  place-short m p Token.begin_object b k s h = allowed-short m (may_begin p) Token.begin_object k fresh s (h fresh)
  place-short m p Token.end_object b k s h = allowed-short m (may_close p) Token.end_object k after_value s
      (h after_value)
  place-short m p Token.begin_array b k s h = allowed-short m (may_begin p) Token.begin_array k fresh s (h fresh)
  place-short m p Token.end_array b k s h = allowed-short m (may_close p) Token.end_array k after_value s
      (h after_value)
  place-short m p (Token.key text) b k s h = bad-short (m + 1)
  place-short m p (Token.string text) true k s h = allowed-short m (may_begin p) (Token.key text) k after_key s
      (h after_key)
  place-short m p (Token.string text) false k s h =
      allowed-short m (may_begin p) (Token.string text) k after_value s (h after_value)
  place-short m p (Token.number text) b k s h =
      allowed-short m (may_begin p) (Token.number text) k after_value s (h after_value)
  place-short m p (Token.boolean v) b k s h = allowed-short m (may_begin p) (Token.boolean v) k after_value s
      (h after_value)
  place-short m p Token.null b k s h = allowed-short m (may_begin p) Token.null k after_value s (h after_value)
  place-short m p Token.bad b k s h = bad-short (m + 1)

  none_left : (m : ℕ) → AreTokensShort m []
  none_left m = (omega arith, tt)

  wider_tokens : (m : ℕ) (ts : List Token) → AreTokensShort m ts → AreTokensShort (m + 1) ts
  wider_tokens m ts h = (omega (arith, h.0), h.1)

  grown : (l : Lexeme) (ls : List Lexeme) (ts : List Token) → AreTokensShort (length ls + 1) ts
      → AreTokensShort (length (l ∷ ls)) ts
  grown l ls ts h = (omega (arith, h.0), h.1)

  punctuate-short : (p : Place) (ls : List Lexeme) → AllByRecursion IsLexemeShort ls → AreTokensShort
      (length ls) (punctuate p ls)
  unfolding punctuate
  punctuate-short fresh [] h = none_left 0
  punctuate-short after_value [] h = none_left 0
  punctuate-short after_comma [] h = bad-short 0
  punctuate-short after_key [] h = bad-short 0
  punctuate-short fresh (token t ∷ ls) h =
      grown (token t) ls _ (place-short (length ls) fresh t (begins_colon ls) (λ next. punctuate next ls) h.0
      (λ next. punctuate-short next ls h.1))
  punctuate-short after_value (token t ∷ ls) h =
      grown (token t) ls _ (place-short (length ls) after_value t (begins_colon ls) (λ next. punctuate next ls) h.0
      (λ next. punctuate-short next ls h.1))
  punctuate-short after_comma (token t ∷ ls) h =
      grown (token t) ls _ (place-short (length ls) after_comma t (begins_colon ls) (λ next. punctuate next ls) h.0
      (λ next. punctuate-short next ls h.1))
  punctuate-short after_key (token t ∷ ls) h =
      grown (token t) ls _ (place-short (length ls) after_key t (begins_colon ls) (λ next. punctuate next ls) h.0
      (λ next. punctuate-short next ls h.1))
  punctuate-short fresh (comma ∷ ls) h = bad-short _
  punctuate-short after_value (comma ∷ ls) h = grown comma ls _ (wider_tokens (length ls) _
      (punctuate-short after_comma ls h.1))
  punctuate-short after_comma (comma ∷ ls) h = bad-short _
  punctuate-short after_key (comma ∷ ls) h = bad-short _
  punctuate-short fresh (colon ∷ ls) h = bad-short _
  punctuate-short after_value (colon ∷ ls) h = bad-short _
  punctuate-short after_comma (colon ∷ ls) h = bad-short _
  punctuate-short after_key (colon ∷ ls) h = grown colon ls _ (wider_tokens (length ls) _
      (punctuate-short fresh ls h.1))

  -- what is left of the tokens
  abbrev IsRest : List Token → Type 0
  IsRest ts = (length ts ≤ n) × AllByRecursion IsTokenShort ts

  tokens-short : (xs : List ℕ) → length xs + 1 ≤ n → IsRest (tokens xs)
  tokens-short xs le =
      let lexed = lex-short between xs (omega (arith, le)) in
      let found = punctuate-short fresh (lex between xs) lexed.1 in
      (omega (arith, lexed.0, found.0, le), found.1)

-- ---- JSON values

abbrev item_count : json.Items → ℕ
item_count json.no_items = 0
item_count (json.item j js) = 1 + item_count js

abbrev member_count : json.Members → ℕ
member_count json.no_members = 0
member_count (json.member key j ms) = 1 + member_count ms

abbrev mutual
  IsJsonShort : ℕ → Json → Type 0
  IsJsonShort n json.null = ⊤
  IsJsonShort n (json.boolean b) = ⊤
  IsJsonShort n (json.number s) = ⊤
  IsJsonShort n (json.string s) = length s ≤ n
  IsJsonShort n (json.array js) = (item_count js ≤ n) × AreJsonItemsShort n js
  IsJsonShort n (json.object ms) = (member_count ms ≤ n) × AreJsonMembersShort n ms

  AreJsonItemsShort : ℕ → json.Items → Type 0
  AreJsonItemsShort n json.no_items = ⊤
  AreJsonItemsShort n (json.item j js) = IsJsonShort n j × AreJsonItemsShort n js

  AreJsonMembersShort : ℕ → json.Members → Type 0
  AreJsonMembersShort n json.no_members = ⊤
  AreJsonMembersShort n (json.member key j ms) = (length key ≤ n) × IsJsonShort n j × AreJsonMembersShort n ms

module _ (n : ℕ) where
  abbrev IsParsed : {A : Type 0} → (A → Type 0) → Option (A × List Token) → Type 0
  IsParsed {A} P o = WhereSome (λ (p : A × List Token). P p.0 × IsRest n p.1) o

  tail_rest : (t : Token) (ts : List Token) → IsRest n (t ∷ ts) → IsRest n ts
  tail_rest t ts h = (omega (arith, h.0), h.1.1)

  parsed-map : {A B : Type 0} (P : A → Type 0) (Q : B → Type 0) (f : A → B) → ((a : A) → P a → Q (f a))
      → (o : Option (A × List Token)) → IsParsed P o → IsParsed Q (parse_map f o)
  parsed-map P Q f h None x = tt
  parsed-map P Q f h (Some p) x = (h p.0 x.0, x.1)

  and_more : {B : Type 0} (P Q : B → Type 0) (f : Json → B → B) → ((j : Json) (b : B) → IsJsonShort n j → P b →
      Q (f j b))
      → (more : Parse B) → ((ts : List Token) → IsRest n ts → IsParsed P (more ts)) → (o : Option (Json × List Token))
      → IsParsed (IsJsonShort n) o → IsParsed Q (option_and_then (λ q. parse_map (f q.0) (more q.1)) o)
  and_more P Q f h more each None x = tt
  and_more P Q f h more each (Some q) x = parsed-map P Q (f q.0) (λ b y. h q.0 b x.0 y) (more q.1) (each q.1 x.1)

  end_array-rest : (ts : List Token) → IsRest n ts → WhereSome (IsRest n) (after_end_array ts)
  end_array-rest [] h = tt
  end_array-rest (Token.begin_object ∷ ts) h = tt
  end_array-rest (Token.end_object ∷ ts) h = tt
  end_array-rest (Token.begin_array ∷ ts) h = tt
  end_array-rest (Token.end_array ∷ ts) h = tail_rest Token.end_array ts h
  end_array-rest (Token.key s ∷ ts) h = tt
  end_array-rest (Token.string s ∷ ts) h = tt
  end_array-rest (Token.number s ∷ ts) h = tt
  end_array-rest (Token.boolean b ∷ ts) h = tt
  end_array-rest (Token.null ∷ ts) h = tt
  end_array-rest (Token.bad ∷ ts) h = tt

  abbrev IsKeyShort : Option (List ℕ) → Type 0
  IsKeyShort o = WhereSome (λ k. length k ≤ n) o

  key-rest : (ts : List Token) → IsRest n ts → IsParsed IsKeyShort (read_key ts)
  key-rest [] h = tt
  key-rest (Token.begin_object ∷ ts) h = tt
  key-rest (Token.end_object ∷ ts) h = (tt, tail_rest Token.end_object ts h)
  key-rest (Token.begin_array ∷ ts) h = tt
  key-rest (Token.end_array ∷ ts) h = tt
  key-rest (Token.key s ∷ ts) h = (h.1.0, tail_rest (Token.key s) ts h)
  key-rest (Token.string s ∷ ts) h = tt
  key-rest (Token.number s ∷ ts) h = tt
  key-rest (Token.boolean b ∷ ts) h = tt
  key-rest (Token.null ∷ ts) h = tt
  key-rest (Token.bad ∷ ts) h = tt

  abbrev AreItemsWithin : ℕ → json.Items → Type 0
  AreItemsWithin k js = (item_count js ≤ k) × AreJsonItemsShort n js

  abbrev AreMembersWithin : ℕ → json.Members → Type 0
  AreMembersWithin k ms = (member_count ms ≤ k) × AreJsonMembersShort n ms

  module _ (parse : Parse Json) (parses : (ts : List Token) → IsRest n ts → IsParsed (IsJsonShort n) (parse ts)) where
    item_turn : (k : ℕ) (more : Parse json.Items) → ((ts : List Token) → IsRest n ts → IsParsed
        (AreItemsWithin k) (more ts))
        → (ts : List Token) → IsRest n ts → (o : Option (List Token)) → WhereSome (IsRest n) o
        → IsParsed (AreItemsWithin (suc k)) (items_step parse more ts o)
    item_turn k more each ts h (Some rest) r = ((omega arith, tt), r)
    item_turn k more each ts h None r =
        and_more (AreItemsWithin k) (AreItemsWithin (suc k)) json.item (λ j js p q. (omega (arith, q.0), (p, q.1)))
        more each (parse ts) (parses ts h)

    items-short : (k : ℕ) (ts : List Token) → IsRest n ts → IsParsed (AreItemsWithin k) (items parse k ts)
    unfolding items
    items-short zero ts h = tt
    items-short (suc k) ts h =
        item_turn k (items parse k) (items-short k) ts h (after_end_array ts) (end_array-rest ts h)

    member_turn : (k : ℕ) (more : Parse json.Members)
        → ((ts : List Token) → IsRest n ts → IsParsed (AreMembersWithin k) (more ts))
        → (o : Option (Option (List ℕ) × List Token)) → IsParsed IsKeyShort o
        → IsParsed (AreMembersWithin (suc k)) (option_and_then (λ p. members_step parse more p.0 p.1) o)
    member_turn k more each None h = tt
    member_turn k more each (Some (None, ts)) h = ((omega arith, tt), h.1)
    member_turn k more each (Some (Some key, ts)) h =
        and_more (AreMembersWithin k) (AreMembersWithin (suc k)) (json.member key)
        (λ j ms p q. (omega (arith, q.0), (h.0, p, q.1))) more each (parse ts) (parses ts h.1)

    members-short : (k : ℕ) (ts : List Token) → IsRest n ts → IsParsed (AreMembersWithin k) (members parse k ts)
    unfolding members
    members-short zero ts h = tt
    members-short (suc k) ts h = member_turn k (members parse k) (members-short k) (read_key ts) (key-rest ts h)

  level-short : (a : Parse json.Items) (o : Parse json.Members)
      → ((ts : List Token) → IsRest n ts → IsParsed (AreItemsWithin n) (a ts))
      → ((ts : List Token) → IsRest n ts → IsParsed (AreMembersWithin n) (o ts))
      → (ts : List Token) → IsRest n ts → IsParsed (IsJsonShort n) (value_with a o ts)
  level-short a o p q [] h = tt
  level-short a o p q (Token.begin_object ∷ ts) h =
      parsed-map (AreMembersWithin n) (IsJsonShort n) json.object (λ ms x. x) (o ts)
      (q ts (tail_rest Token.begin_object ts h))
  level-short a o p q (Token.end_object ∷ ts) h = tt
  level-short a o p q (Token.begin_array ∷ ts) h =
      parsed-map (AreItemsWithin n) (IsJsonShort n) json.array (λ js x. x) (a ts)
      (p ts (tail_rest Token.begin_array ts h))
  level-short a o p q (Token.end_array ∷ ts) h = tt
  level-short a o p q (Token.key s ∷ ts) h = tt
  level-short a o p q (Token.string s ∷ ts) h = (h.1.0, tail_rest (Token.string s) ts h)
  level-short a o p q (Token.number s ∷ ts) h = (tt, tail_rest (Token.number s) ts h)
  level-short a o p q (Token.boolean b ∷ ts) h = (tt, tail_rest (Token.boolean b) ts h)
  level-short a o p q (Token.null ∷ ts) h = (tt, tail_rest Token.null ts h)
  level-short a o p q (Token.bad ∷ ts) h = tt

  few_items : (k : ℕ) (o : Option (json.Items × List Token)) → k ≤ n → IsParsed (AreItemsWithin k) o → IsParsed
      (AreItemsWithin n) o
  few_items k None le h = tt
  few_items k (Some p) le h = ((omega (arith, h.0.0, le), h.0.1), h.1)

  few_members : (k : ℕ) (o : Option (json.Members × List Token)) → k ≤ n → IsParsed (AreMembersWithin k) o
      → IsParsed (AreMembersWithin n) o
  few_members k None le h = tt
  few_members k (Some p) le h = ((omega (arith, h.0.0, le), h.0.1), h.1)

  value-short : (depth : ℕ) (ts : List Token) → IsRest n ts → IsParsed (IsJsonShort n) (value depth ts)
  unfolding value
  value-short zero ts h = level-short (λ ts. None) (λ ts. None) (λ ts h. tt) (λ ts h. tt) ts h
  value-short (suc depth) ts h =
      level-short (λ ts. items (value depth) (length ts) ts) (λ ts. members (value depth) (length ts) ts)
      (λ ts h. few_items (length ts) _ h.0 (items-short (value depth) (value-short depth) (length ts) ts h))
      (λ ts h. few_members (length ts) _ h.0 (members-short (value depth) (value-short depth) (length ts) ts h)) ts h

  last-short : (o : Option (Json × List Token)) → IsParsed (IsJsonShort n) o
      → WhereSome (IsJsonShort n) (option_and_then (λ p. json.if_last p.0 p.1) o)
  last-short None h = tt
  last-short (Some (j, [])) h = h.0
  last-short (Some (j, t ∷ ts)) h = tt

-- ---- trees

-- a number that has a sign has 64 bits
abbrev pub IsNumberFit : Num → Type 0
IsNumberFit (negative z) = FitsSigned w64 z
IsNumberFit _ = ⊤

fit_if : (b : Bool) (x y : Option Num) → (b ≡ true → WhereSome IsNumberFit x) → WhereSome IsNumberFit y
    → WhereSome IsNumberFit (cond b x y)
fit_if true x y p q = p refl
fit_if false x y p q = q

float-fit : (sign : Bool) (p : Parts) → WhereSome IsNumberFit (float_of sign p)
float-fit sign p = fit_if (float_is_finite (nearest binary64 sign p)) (Some (float (nearest binary64 sign p)))
    None (λ _. tt) tt

negative-fit : (n : ℕ) → n ≤ 2 ^ 63 → FitsSigned w64 (with_sign true n)
negative-fit zero h = record { sfits = omega (arith, ints) }
negative-fit (suc n) h = record { sfits = omega (arith, ints, h) }

number-from : (sign : Bool) (p : Parts) → WhereSome IsNumberFit (number_from sign p)
number-from false p =
    fit_if (is_integer p && nat_lt (digits_of p) (2 ^ 64)) (Some (unsigned (digits_of p))) (float_of false p)
    (λ _. tt)
    (float-fit false p)
number-from true p =
    fit_if (is_integer p && nat_lt 0 (digits_of p) && nat_le (digits_of p) (2 ^ 63))
    (Some (negative (with_sign true (digits_of p)))) (float_of true p)
    (λ e. negative-fit (digits_of p)
    (leb-true (digits_of p) (2 ^ 63) (and_parts (is_integer p && nat_lt 0 (digits_of p))
    (nat_le (digits_of p) (2 ^ 63)) e).1))
    (float-fit true p)

number-fit : (s : List ℕ) → WhereSome IsNumberFit (number_of s)
unfolding number_of
number-fit s = fit_if (slice_index s 0 == minus) _ _ (λ _. number-from true (scan (drop 1 s)))
    (number-from false (scan s))

-- each text, list and object is no longer than this, at any depth, and each number has 64 bits
abbrev mutual
  pub IsDataShort : ℕ → Data → Type 0
  IsDataShort n null = ⊤
  IsDataShort n (boolean b) = ⊤
  IsDataShort n (number x) = IsNumberFit x
  IsDataShort n (string s) = length s ≤ n
  IsDataShort n (array ds) = (length (listed ds) ≤ n) × AreItemsShort n ds
  IsDataShort n (object ms) = (length (entries_of ms) ≤ n) × AreMembersShort n ms

  pub AreItemsShort : ℕ → Items → Type 0
  AreItemsShort n no_items = ⊤
  AreItemsShort n (item d ds) = IsDataShort n d × AreItemsShort n ds

  pub AreMembersShort : ℕ → Members → Type 0
  AreMembersShort n no_members = ⊤
  AreMembersShort n (member key d ms) = (length key ≤ n) × IsDataShort n d × AreMembersShort n ms

module _ (n : ℕ) where
  match_count : (m : ℕ) (o : Ordering) (a b c : Members) → length (entries_of a) ≤ m → length (entries_of b) ≤ m
      → length (entries_of c) ≤ m → length (entries_of (match_ordering o a b c)) ≤ m
  match_count m Less a b c p q r = p
  match_count m Equal a b c p q r = q
  match_count m Greater a b c p q r = r

  put_count : (k : List ℕ) (d : Data) (ms : Members) → length (entries_of (put k d ms)) ≤ length (entries_of ms) + 1
  put_count k d no_members = omega arith
  put_count k d (member l x ms) =
      match_count (length (entries_of (member l x ms)) + 1) (slice_cmp nat_cmp k l) (member k d (member l x ms))
      (member l d ms) (member l x (put k d ms)) (omega arith) (omega arith) (omega (arith, put_count k d ms))

  match_short : (o : Ordering) (a b c : Members) → AreMembersShort n a → AreMembersShort n b → AreMembersShort n c
      → AreMembersShort n (match_ordering o a b c)
  match_short Less a b c p q r = p
  match_short Equal a b c p q r = q
  match_short Greater a b c p q r = r

  put_short : (k : List ℕ) (d : Data) (ms : Members) → length k ≤ n → IsDataShort n d → AreMembersShort n ms
      → AreMembersShort n (put k d ms)
  put_short k d no_members key p h = (key, p, tt)
  put_short k d (member l x ms) key p h =
      match_short (slice_cmp nat_cmp k l) (member k d (member l x ms)) (member l d ms) (member l x (put k d ms))
      (key, p, h) (h.0, p, h.2) (h.0, h.1, put_short k d ms key p h.2)

  abbrev AreListed : ℕ → Items → Type 0
  AreListed c ds = (length (listed ds) ≤ c) × AreItemsShort n ds

  abbrev AreEntered : ℕ → Members → Type 0
  AreEntered c ms = (length (entries_of ms) ≤ c) × AreMembersShort n ms

  more_entries : (o : Option Members) (c m : ℕ) → WhereSome (AreEntered (c + 1 + m)) o → WhereSome
      (AreEntered (c + (1 + m))) o
  more_entries None c m h = tt
  more_entries (Some ms) c m h = (omega (arith, h.0), h.1)

  mutual
    json-short : (j : Json) → IsJsonShort n j → WhereSome (IsDataShort n) (of_json j)
    json-short json.null h = tt
    json-short (json.boolean b) h = tt
    json-short (json.number s) h = where-map IsNumberFit (IsDataShort n) number (λ x p. p) (number_of s)
        (number-fit s)
    json-short (json.string s) h = h
    json-short (json.array js) h =
        where-map (AreListed (item_count js)) (IsDataShort n) array (λ ds x. (omega (arith, x.0, h.0), x.1))
        (of_items js)
        (json_items-short js h.1)
    json-short (json.object ms) h =
        where-map (AreEntered (0 + member_count ms)) (IsDataShort n) object
        (λ found x. (omega (arith, x.0, h.0), x.1))
        (of_members ms no_members) (json_members-short ms no_members 0 (omega arith, tt) h.1)

    json_items-short : (js : json.Items) → AreJsonItemsShort n js → WhereSome (AreListed (item_count js))
        (of_items js)
    json_items-short json.no_items h = (omega arith, tt)
    json_items-short (json.item j js) h =
        where-then (IsDataShort n) (AreListed (1 + item_count js)) (λ d. option_map (item d) (of_items js))
        (λ d x. where-map (AreListed (item_count js)) (AreListed (1 + item_count js)) (item d)
        (λ ds y. (omega (arith, y.0), (x, y.1))) (of_items js) (json_items-short js h.1))
        (of_json j) (json-short j h.0)

    json_members-short : (ms : json.Members) (found : Members) (c : ℕ) → AreEntered c found → AreJsonMembersShort n ms
        → WhereSome (AreEntered (c + member_count ms)) (of_members ms found)
    json_members-short json.no_members found c h k = (omega (arith, h.0), h.1)
    json_members-short (json.member key j ms) found c h k =
        where-then (IsDataShort n) (AreEntered (c + (1 + member_count ms))) (λ d. of_members ms (put key d found))
        (λ d x. more_entries (of_members ms (put key d found)) c (member_count ms)
        (json_members-short ms (put key d found) (c + 1)
        (omega (arith, put_count key d found, h.0), put_short key d found k.0 x h.1) k.2))
        (of_json j) (json-short j k.1)

-- what was read
pub data-short : (n : ℕ) (bytes : List ℕ) (d : Data) → length bytes + 1 ≤ n → read bytes ≡ Some d → IsDataShort n d
data-short n bytes d le e =
    subst (WhereSome (IsDataShort n)) e
    (where-then (IsJsonShort n) (IsDataShort n) of_json (json-short n)
    (option_and_then (λ p. json.if_last p.0 p.1) (json.value max_depth (tokens bytes)))
    (last-short n (json.value max_depth (tokens bytes)) (value-short n max_depth (tokens bytes)
    (tokens-short n bytes le))))

-- ---- what is inside

module _ (n : ℕ) where
  pub members_short : (d : Data) → IsDataShort n d → AreMembersShort n (members_in d)
  members_short null h = tt
  members_short (boolean b) h = tt
  members_short (number x) h = tt
  members_short (string s) h = tt
  members_short (array ds) h = tt
  members_short (object ms) h = h.1

  pub count_short : (d : Data) → IsDataShort n d → length (entries_of (members_in d)) ≤ n
  count_short null h = omega arith
  count_short (boolean b) h = omega arith
  count_short (number x) h = omega arith
  count_short (string s) h = omega arith
  count_short (array ds) h = omega arith
  count_short (object ms) h = h.0

  match_found : (o : Ordering) (a b : Option Data) → WhereSome (IsDataShort n) a → WhereSome (IsDataShort n) b
      → WhereSome (IsDataShort n) (match_ordering o a b a)
  match_found Less a b p q = p
  match_found Equal a b p q = q
  match_found Greater a b p q = p

  found_short : (key : List ℕ) (ms : Members) → AreMembersShort n ms → WhereSome (IsDataShort n) (get_member key ms)
  found_short key no_members h = tt
  found_short key (member l x ms) h =
      match_found (slice_cmp nat_cmp key l) (get_member key ms) (Some x) (found_short key ms h.2) h.1

  first_short : (a b : Option Data) → WhereSome (IsDataShort n) a → WhereSome (IsDataShort n) b
      → IsDataShort n (first_there a b)
  first_short (Some d) b p q = p
  first_short None (Some d) p q = q
  first_short None None p q = tt

  pub field_short : (name : List ℕ) (ms : Members) → AreMembersShort n ms → IsDataShort n (field name ms)
  unfolding field
  field_short name ms h =
      first_short (get_member name ms) (get_member (original_name name) ms) (found_short name ms h)
      (found_short (original_name name) ms h)

  there_short : (d : Data) → IsDataShort n d → WhereSome (IsDataShort n) (unless_null d)
  there_short null h = tt
  there_short (boolean b) h = tt
  there_short (number x) h = h
  there_short (string s) h = h
  there_short (array ds) h = h
  there_short (object ms) h = h

  pub member_short : (name : List ℕ) (ms : Members) → AreMembersShort n ms → WhereSome (IsDataShort n)
      (member_at name ms)
  unfolding member_at
  member_short name ms h = there_short (field name ms) (field_short name ms h)

  listed_short : (ds : Items) → AreItemsShort n ds → AllByRecursion (IsDataShort n) (listed ds)
  listed_short no_items h = tt
  listed_short (item d ds) h = (h.0, listed_short ds h.1)

  pub items_short : (d : Data) → IsDataShort n d → (length (items_in d) ≤ n) × AllByRecursion (IsDataShort n)
      (items_in d)
  items_short null h = (omega arith, tt)
  items_short (boolean b) h = (omega arith, tt)
  items_short (number x) h = (omega arith, tt)
  items_short (string s) h = (omega arith, tt)
  items_short (array ds) h = (h.0, listed_short ds h.1)
  items_short (object ms) h = (omega arith, tt)

  pub entries_short : (ms : Members) → AreMembersShort n ms
      → AllByRecursion (λ (e : List ℕ × Data). (length e.0 ≤ n) × IsDataShort n e.1) (entries_of ms)
  entries_short no_members h = tt
  entries_short (member key d ms) h = ((h.0, h.1), entries_short ms h.2)

  pub text_short : (d : Data) → IsDataShort n d → length (text_value d) ≤ n
  text_short null h = omega arith
  text_short (boolean b) h = omega arith
  text_short (number x) h = omega arith
  text_short (string s) h = h
  text_short (array ds) h = omega arith
  text_short (object ms) h = omega arith
