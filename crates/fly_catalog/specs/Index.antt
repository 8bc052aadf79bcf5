-- How items are found by keys: a map from keys to numbers, and what stands under the numbers.
use Rattle.std.specs.Prelude.{◌≡◌, ℕ, ◌<◌, Option, Some, option_and_then}

-- f tells the number of a key, g what stands under a number, and key the key of an item; all numbers are below the limit
pub record Indexes {K X : Type 0} (f : K → Option ℕ) (g : ℕ → Option X) (key : X → Option K) (limit : ℕ) : Type 0 where
  pub sound : (k : K) (i : ℕ) (x : X) → f k ≡ Some i → g i ≡ Some x → key x ≡ Some k
  pub complete : (i : ℕ) (x : X) → g i ≡ Some x → option_and_then f (key x) ≡ Some i
  pub below : (k : K) (i : ℕ) → f k ≡ Some i → i < limit
  pub within : (i : ℕ) (x : X) → g i ≡ Some x → i < limit
