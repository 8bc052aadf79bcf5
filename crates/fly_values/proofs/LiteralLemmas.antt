-- Literals, a step at a time.
use Rattle.std.proofs.Common.{◌≡◌, ℕ, zero, suc, ◌-◌, ◌≢◌, refl, arith, codes}
use Rattle.serde_json.specs.Data.{Data, Members}
use Rattle.fly_values.specs.Fields.{members_in, field, member_at}
use Rattle.fly_values.specs.Literals.{plain_scalar, literal_by, literal_at}

pub literal_at-plain : (n : ℕ) (d : Data) → n ≡ 0
    → literal_at n d ≡ plain_scalar (members_in (field (codes "scalar") (members_in d)))
unfolding literal_at
literal_at-plain zero d e = refl
literal_at-plain (suc n) d e = cc

pub literal_at-deeper : (n : ℕ) (d : Data) → n ≢ 0 → literal_at n d ≡ literal_by (literal_at (n - 1)) (members_in d)
unfolding literal_at
literal_at-deeper zero d e = absurd (e refl)
literal_at-deeper (suc n) d e = let same : suc n - 1 ≡ n = omega arith in rw same refl

pub plain_scalar-same : (m n : Members) → member_at (codes "primitive") m ≡ member_at (codes "primitive") n
    → member_at (codes "blob") m ≡ member_at (codes "blob") n → member_at (codes "binary") m ≡ member_at (codes "binary") n
    → member_at (codes "error") m ≡ member_at (codes "error") n → member_at (codes "generic") m ≡ member_at (codes "generic") n
    → plain_scalar m ≡ plain_scalar n
unfolding plain_scalar
plain_scalar-same m n a b c d e = rw (a, b, c, d, e) refl
