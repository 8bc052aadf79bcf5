use Rattle.std.proofs.Common.{◌≡◌, ◌<◌, ◌≤◌, length, vec_len, vec_capacity, arith, w64}
use Rattle.std.proofs.lemmas.Int.{to_z-of_z}
use Rattle.fly_attempts.proofs.TableLemmas.{next_within, claim_kept, unclaimed_told, claims_told}
use Rattle.fly_attempts.proofs.attempts.Attempts.claim.Goals as goal

pub unreachable-requires : goal.unreachable-requires
unreachable-requires c =
    let f = c.self.inside in
    let next : length f.handouts.items < length f.launches =
    next_within _ _ _ _ _ c.self.invariant.tables (rw (← c.self.view_is) at c.requires) in
    let fit : length f.launches ≤ vec_capacity f.handouts = c.self.invariant.claims_fit in
    let long : vec_len f.handouts ≡ length f.handouts.items = f.handouts.ok.0 in
    let full : vec_capacity f.handouts ≤ vec_len f.handouts = c.in_default.ensures.full in
    absurd (omega arith)

pub invariant_of-self : goal.invariant_of-self
invariant_of-self c =
    let f = c.self.inside in
    let next = next_within _ _ _ _ _ c.self.invariant.tables (rw (← c.self.view_is) at c.requires) in
    let fit : length f.launches ≤ vec_capacity f.handouts = c.self.invariant.claims_fit in
    let grown : vec_capacity f.handouts ≤ vec_capacity c.push.new.self = c.push.ensures.capacity in
    record {
      tables = rw c.in-Ok.ensures.items (claim_kept _ _ _ _ _ c.self.invariant.tables _ next);
      claims_fit = omega arith;
      ends_fit = c.self.invariant.ends_fit;
    }

pub returns : goal.returns
returns c =
    rw (c.in-Ok.ensures.items, to_z-of_z w64 c.args.moment c.ranges.moment, ← c.self.view_is)
    (claims_told _ _ _ _ _ c.self.invariant.tables _ _ (unclaimed_told _ _ _ _ _ c.self.invariant.tables))
