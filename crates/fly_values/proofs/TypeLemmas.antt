-- Types, a step at a time.
use Rattle.std.proofs.Common.{◌≡◌, ℕ, zero, suc, ◌-◌, ◌≢◌, refl, arith, codes}
use Rattle.serde_json.specs.Data.{Data, Members}
use Rattle.fly_values.specs.Fields.{members_in, field}
use Rattle.fly_values.specs.Types.{plain_type, last_type, type_by, type_at}
use Rattle.fly_values.proofs.FieldLemmas.{member_same}

pub type_at-last : (n : ℕ) (d : Data) → n ≡ 0 → type_at n d ≡ last_type (members_in d)
unfolding type_at
type_at-last zero d e = refl
type_at-last (suc n) d e = cc

pub type_at-deeper : (n : ℕ) (d : Data) → n ≢ 0 → type_at n d ≡ type_by (type_at (n - 1)) (members_in d)
unfolding type_at
type_at-deeper zero d e = absurd (e refl)
type_at-deeper (suc n) d e = let same : suc n - 1 ≡ n = omega arith in rw same refl

pub plain_type-same : (m n : Members) → field (codes "blob") m ≡ field (codes "blob") n
    → field (codes "enumType") m ≡ field (codes "enumType") n → field (codes "simple") m ≡ field (codes "simple") n
    → plain_type m ≡ plain_type n
unfolding plain_type
plain_type-same m n b e s =
    rw (member_same (codes "blob") m n b, member_same (codes "enumType") m n e, s) refl
