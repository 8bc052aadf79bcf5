-- What is bound, a step at a time.
use Rattle.std.proofs.Common.{◌≡◌, ℕ, zero, suc, ◌-◌, ◌≢◌, refl, arith, codes}
use Rattle.serde_json.specs.Data.{Data, Members}
use Rattle.fly_values.specs.Fields.{members_in, field, member_at}
use Rattle.fly_values.specs.Bindings.{plain_bound, bound_by, bound_at}

pub bound_at-plain : (n : ℕ) (d : Data) → n ≡ 0 → bound_at n d ≡ plain_bound (members_in d)
unfolding bound_at
bound_at-plain zero d e = refl
bound_at-plain (suc n) d e = cc

pub bound_at-deeper : (n : ℕ) (d : Data) → n ≢ 0 → bound_at n d ≡ bound_by (bound_at (n - 1)) (members_in d)
unfolding bound_at
bound_at-deeper zero d e = absurd (e refl)
bound_at-deeper (suc n) d e = let same : suc n - 1 ≡ n = omega arith in rw same refl

pub plain_bound-same : (m n : Members) → member_at (codes "promise") m ≡ member_at (codes "promise") n
    → field (codes "scalar") m ≡ field (codes "scalar") n → plain_bound m ≡ plain_bound n
unfolding plain_bound
plain_bound-same m n p s = rw (p, s) refl
