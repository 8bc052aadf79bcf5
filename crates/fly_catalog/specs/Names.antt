-- Numbers for texts, and the keys that they make of what several texts name.
use Rattle.std.specs.Prelude.{◌≡◌, ℕ, ◌<◌, Option, Some, None, option_and_then, option_map}
use Rattle.std.specs.Ordering.{nat_cmp}
use Rattle.std.specs.Cmp.Lexicographic.{slice_cmp}
use Rattle.std.specs.BTreeMap.{BTreeMap, get, btree_map_len}
use Rattle.fly_types.specs.declared.text.Text.{Text}
use Rattle.fly_docs.specs.declared.dataset.DatasetId.{DatasetId}

-- the numbers of texts
abbrev pub Numbers : Type 0
Numbers = BTreeMap Text ℕ

-- the number of a text, where it has one
abbrev pub number_of : Numbers → Text → Option ℕ
number_of numbers text = get (slice_cmp nat_cmp) numbers text

-- the numbers are below how many there are, and each is one text's
pub record IsNumbering (numbers : Numbers) : Type 0 where
  pub below : (t : Text) (n : ℕ) → number_of numbers t ≡ Some n → n < btree_map_len numbers
  pub own : (t u : Text) (n : ℕ) → number_of numbers t ≡ Some n → number_of numbers u ≡ Some n → t ≡ u

-- each text that had a number has it still
pub record KeepsNumbers (old new : Numbers) : Type 0 where
  pub kept : (t : Text) (n : ℕ) → number_of old t ≡ Some n → number_of new t ≡ Some n

-- the key of a dataset
abbrev pub DatasetKey : Type 0
DatasetKey = ℕ × ℕ × ℕ × ℕ

-- the key of a name within a dataset
abbrev pub ItemKey : Type 0
ItemKey = ℕ × ℕ × ℕ × ℕ × ℕ

-- two values, where there are both
abbrev pub both : {X Y : Type 0} → Option X → Option Y → Option (X × Y)
both None y = None
both (Some x) None = None
both (Some x) (Some y) = Some (x, y)

-- the numbers of a dataset's texts, where each has one
abbrev pub dataset_key : Numbers → DatasetId → Option DatasetKey
dataset_key numbers d =
    option_map (λ p. (p.0.0, p.0.1, p.1.0, p.1.1))
    (both (both (number_of numbers d.project) (number_of numbers d.domain)) (both (number_of numbers d.name) (number_of numbers d.version)))

-- the numbers of a dataset's texts and of a name's
abbrev pub item_key : Numbers → DatasetId → Text → Option ItemKey
item_key numbers d name =
    option_map (λ p. (p.0.0, p.0.1, p.0.2, p.0.3, p.1)) (both (dataset_key numbers d) (number_of numbers name))
