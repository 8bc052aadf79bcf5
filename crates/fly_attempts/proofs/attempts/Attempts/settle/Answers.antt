use Rattle.std.proofs.Common.{◌≡◌, ◌<◌, ◌≤◌, length, vec_len, vec_capacity, ◌∙◌, arith, refl, None, Some, set}
use Rattle.std.proofs.lemmas.Option.{slice_get_within}
use Rattle.fly_attempts.specs.Tables.{IsFirstOpen}
use Rattle.fly_attempts.proofs.TableLemmas.{claimed_within, waits, ends_room, ends_before_set, settle_kept, settlements_told}
use Rattle.fly_attempts.proofs.attempts.Attempts.settle.Goals as goal

pub unreachable-requires : goal.unreachable-requires
unreachable-requires c =
    let f = c.self.inside in
    let kept = c.self.invariant.tables in
    let inside = claimed_within _ _ _ _ _ kept c.args.number (rw (← c.self.view_is) at c.requires.claimed) in
    let open_end = waits _ _ _ _ _ kept c.args.number inside (rw (← c.self.view_is) at c.requires.unsettled) in
    let room : length f.endings.items < length f.launches = ends_room _ _ _ _ _ kept c.args.number open_end in
    let fit : length f.launches ≤ vec_capacity f.endings = c.self.invariant.ends_fit in
    let long : vec_len f.endings ≡ length f.endings.items = f.endings.ok.0 in
    let full : vec_capacity f.endings ≤ vec_len f.endings = c.in_default.ensures.full in
    absurd (omega arith)

pub index_mut-requires : goal.index_mut-requires
index_mut-requires c =
    let f = c.self.inside in
    let kept = c.self.invariant.tables in
    let inside = claimed_within _ _ _ _ _ kept c.args.number (rw (← c.self.view_is) at c.requires.claimed) in
    let open_end = waits _ _ _ _ _ kept c.args.number inside (rw (← c.self.view_is) at c.requires.unsettled) in
    omega (arith, slice_get_within f.ends.items c.args.number None open_end, f.ends.ok.0)

pub next_open-self-inside-requires-clause-before : goal.next_open-self-inside-requires-clause-before
next_open-self-inside-requires-clause-before c =
    let f = c.self.inside in
    let kept = c.self.invariant.tables in
    let inside = claimed_within _ _ _ _ _ kept c.args.number (rw (← c.self.view_is) at c.requires.claimed) in
    let open_end = waits _ _ _ _ _ kept c.args.number inside (rw (← c.self.view_is) at c.requires.unsettled) in
    rw c.deref.ensures.value (ends_before_set f.ends.items f.first_open c.args.number c.len-at.result
    (slice_get_within f.ends.items c.args.number None open_end) kept.first.before)

pub invariant_of-self : goal.invariant_of-self
invariant_of-self c =
    let f = c.self.inside in
    let kept = c.self.invariant.tables in
    let inside = claimed_within _ _ _ _ _ kept c.args.number (rw (← c.self.view_is) at c.requires.claimed) in
    let open_end = waits _ _ _ _ _ kept c.args.number inside (rw (← c.self.view_is) at c.requires.unsettled) in
    let at : c.len-at.result ≡ length f.endings.items = c.len-at.ensures ∙ f.endings.ok.0 in
    let fit : length f.launches ≤ vec_capacity f.endings = c.self.invariant.ends_fit in
    let grown : vec_capacity f.endings ≤ vec_capacity c.push.new.self = c.push.ensures.capacity in
    let ends = set f.ends.items c.args.number (Some (length f.endings.items)) in
    let first : IsFirstOpen ends c.next_open-self-inside.result =
    rw (← at, ← c.deref.ensures.value) c.next_open-self-inside.ensures in
    record {
      tables = rw (c.in-Ok.ensures.items, at) (settle_kept _ _ _ _ _ kept _ _ inside open_end first);
      claims_fit = c.self.invariant.claims_fit;
      ends_fit = omega (arith, fit, grown);
    }

pub returns : goal.returns
returns c =
    rw (c.in-Ok.ensures.items, ← c.self.view_is)
    (settlements_told _ _ _ _ _ c.self.invariant.tables _ _ refl)
