-- The text of the name of an attempt: `exec/path@attempt`, or `exec/path#item@attempt` for an item of an array.
use Rattle.std.specs.Prelude.{◌≡◌, ◌≢◌, ℕ, ◌^◌, ◌<◌, List, [], ◌∷◌, ◌++◌, Option, Some, None, IfSome}
use Rattle.std.specs.Fmt.{decimal}
use Rattle.std.specs.List.{All, join_with_byte}
use Rattle.fly_docs.specs.declared.attempt_name.AttemptName.{AttemptName}

-- the bytes that part a name: `/`, `#` and `@`
abbrev pub slash : ℕ
slash = 47

abbrev pub hash_sign : ℕ
hash_sign = 35

abbrev pub at_sign : ℕ
at_sign = 64

-- the ids, with a slash between each two
abbrev pub path_text : List (List ℕ) → List ℕ
path_text = join_with_byte slash

-- the number of an item, where the attempt is one's
abbrev pub item_text : Option ℕ → List ℕ
item_text None = []
item_text (Some item) = hash_sign ∷ decimal item

abbrev pub name_text : AttemptName → List ℕ
name_text n = n.exec ++ slash ∷ path_text n.path ++ item_text n.item ++ at_sign ∷ decimal n.attempt

-- a number of 32 bits, where there is one
abbrev pub IsItem : Option ℕ → Type 0
IsItem item = IfSome item (λ i. i < 2 ^ 32)

-- the text is this name's, whose numbers have 32 bits
pub record IsTextOf (bytes : List ℕ) (n : AttemptName) : Type 0 where
  pub item : IsItem n.item
  pub attempt : n.attempt < 2 ^ 32
  pub text : bytes ≡ name_text n

-- the byte is not in the text
abbrev pub Lacks : ℕ → List ℕ → Type 0
Lacks c bytes = All (λ b. b ≢ c) bytes

-- what stands before the first such byte of a text, and behind it
pub record AreParts (c : ℕ) (whole before behind : List ℕ) : Type 0 where
  pub lacks : Lacks c before
  pub joined : whole ≡ before ++ c ∷ behind
