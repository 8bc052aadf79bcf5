-- The text of a JSON value is read as that value.
use Rattle.std.proofs.Common.{◌≡◌, suc, ◌^◌, ◌<◌, ◌≤◌, max, pos, negsuc, [], Some, option_map, option_and_then, refl, sym, ap, ap₂, subst, ◌∙◌, arith, append-nil}
use Rattle.std.specs.Prelude.{⊤}
use Rattle.json.specs.Lex.{tokens}
use Rattle.json.specs.Print.{IsNumber}
use Rattle.json.specs.Json as json
use Rattle.json.specs.Tree as tree
use Rattle.json.proofs.Printed.Tokens.{tokens-print}
use Rattle.json.proofs.Printed.Trees.{value-json_tokens, ArePrintable-json_tokens}
use Rattle.json.proofs.Printed.Decimals.{IsNumber-decimal, IsNumber-signed_decimal}
use Rattle.serde_json.specs.Data.{Num, unsigned, negative, float, Data, null, boolean, number, string, array, object, Items, no_items, item, Members, no_members, member, put, depth, items_depth, members_depth}
use Rattle.serde_json.specs.Read.{number_of, of_json, of_items, of_members, max_depth, read}
use Rattle.serde_json.specs.Written.{number_text, outline, items_outline, members_outline, compact_text}
use Rattle.serde_json.proofs.Numbers.{number_of-decimal, number_of-negative}
use Rattle.serde_json.proofs.Texts.{print-outline}
use Rattle.fly_readback.proofs.Messages.{after, after_none, after_more, put_last}
use Rattle.fly_idl.proofs.Ordered.{AreKeysInOrder, IsOrdered, AreItemsOrdered, AreMembersOrdered}

-- ---- values whose numbers are whole numbers of 64 bits

abbrev pub IsWhole : Num → Type 0
IsWhole (unsigned n) = n < 2 ^ 64
IsWhole (negative (pos n)) = ⊥
IsWhole (negative (negsuc n)) = n < 2 ^ 63
IsWhole (float x) = ⊥

abbrev mutual
  pub HasWholes : Data → Type 0
  HasWholes null = ⊤
  HasWholes (boolean b) = ⊤
  HasWholes (number n) = IsWhole n
  HasWholes (string s) = ⊤
  HasWholes (array ds) = HaveItemsWholes ds
  HasWholes (object ms) = HaveMembersWholes ms

  pub HaveItemsWholes : Items → Type 0
  HaveItemsWholes no_items = ⊤
  HaveItemsWholes (item d ds) = HasWholes d × HaveItemsWholes ds

  pub HaveMembersWholes : Members → Type 0
  HaveMembersWholes no_members = ⊤
  HaveMembersWholes (member key d ms) = HasWholes d × HaveMembersWholes ms

-- ---- numbers

read_number : (n : Num) → IsWhole n → number_of (number_text n) ≡ Some n
read_number (unsigned n) h = number_of-decimal n h
read_number (negative (pos n)) h = absurd h
read_number (negative (negsuc n)) h = number_of-negative n h
read_number (float x) h = absurd h

is_number : (n : Num) → IsWhole n → IsNumber (number_text n)
is_number (unsigned n) h = IsNumber-decimal n h
is_number (negative (pos n)) h = absurd h
is_number (negative (negsuc n)) h = IsNumber-signed_decimal (negsuc n) h
is_number (float x) h = absurd h

mutual
  have_numbers : (d : Data) → HasWholes d → tree.HasNumbers (outline d)
  have_numbers null h = tt
  have_numbers (boolean b) h = tt
  have_numbers (number n) h = is_number n h
  have_numbers (string s) h = tt
  have_numbers (array ds) h = items_have_numbers ds h
  have_numbers (object ms) h = members_have_numbers ms h

  items_have_numbers : (ds : Items) → HaveItemsWholes ds → tree.ItemsHaveNumbers (items_outline ds)
  items_have_numbers no_items h = tt
  items_have_numbers (item d ds) h = (have_numbers d h.0, items_have_numbers ds h.1)

  members_have_numbers : (ms : Members) → HaveMembersWholes ms → tree.MembersHaveNumbers (members_outline ms)
  members_have_numbers no_members h = tt
  members_have_numbers (member key d ms) h = (have_numbers d h.0, members_have_numbers ms h.1)

mutual
  same_depth : (d : Data) → tree.depth (outline d) ≡ depth d
  same_depth null = refl
  same_depth (boolean b) = refl
  same_depth (number n) = refl
  same_depth (string s) = refl
  same_depth (array ds) = ap suc (same_items_depth ds)
  same_depth (object ms) = ap suc (same_members_depth ms)

  same_items_depth : (ds : Items) → tree.items_depth (items_outline ds) ≡ items_depth ds
  same_items_depth no_items = refl
  same_items_depth (item d ds) = ap₂ max (same_depth d) (same_items_depth ds)

  same_members_depth : (ms : Members) → tree.members_depth (members_outline ms) ≡ members_depth ms
  same_members_depth no_members = refl
  same_members_depth (member key d ms) = ap₂ max (same_depth d) (same_members_depth ms)

-- ---- the value of the text

mutual
  read_value : (d : Data) → HasWholes d → IsOrdered d → of_json (outline d) ≡ Some d
  read_value null w o = refl
  read_value (boolean b) w o = refl
  read_value (number n) w o = ap (option_map number) (read_number n w)
  read_value (string s) w o = refl
  read_value (array ds) w o = ap (option_map array) (read_items ds w o)
  read_value (object ms) w o = ap (option_map object) (read_members no_members ms w o.1 o.0)

  read_items : (ds : Items) → HaveItemsWholes ds → AreItemsOrdered ds → of_items (items_outline ds) ≡ Some ds
  read_items no_items w o = refl
  read_items (item d ds) w o =
      ap (option_and_then (λ x. option_map (item x) (of_items (items_outline ds)))) (read_value d w.0 o.0)
      ∙ ap (option_map (item d)) (read_items ds w.1 o.1)

  read_members : (fs ms : Members) → HaveMembersWholes ms → AreMembersOrdered ms → AreKeysInOrder (after fs ms)
      → of_members (members_outline ms) fs ≡ Some (after fs ms)
  read_members fs no_members w o k = ap Some (sym (after_none fs))
  read_members fs (member key d ms) w o k =
      ap (option_and_then (λ x. of_members (members_outline ms) (put key x fs))) (read_value d w.0 o.0)
      ∙ ap (of_members (members_outline ms)) (put_last key d fs ms k)
      ∙ read_members (after fs (member key d no_members)) ms w.1 o.1
      (subst AreKeysInOrder (sym (after_more fs key d ms)) k)
      ∙ ap Some (after_more fs key d ms)

-- the text of a value with whole numbers and ordered keys is read as that value
pub text-read : (d : Data) → HasWholes d → IsOrdered d → depth d ≤ max_depth → read (compact_text d) ≡ Some d
text-read d w o shallow =
    let j = outline d in
    let lexed : tokens (compact_text d) ≡ tree.json_tokens j =
    ap tokens (sym (print-outline d)) ∙ tokens-print (tree.json_tokens j)
    (ArePrintable-json_tokens j (have_numbers d w)) in
    ap (λ ts. option_and_then of_json (option_and_then (λ p. json.if_last p.0 p.1) (json.value max_depth ts)))
    (lexed ∙ sym (append-nil (tree.json_tokens j)))
    ∙ ap (λ r. option_and_then of_json (option_and_then (λ p. json.if_last p.0 p.1) r))
    (value-json_tokens j max_depth [] (omega (arith, same_depth d, shallow)))
    ∙ read_value d w o
