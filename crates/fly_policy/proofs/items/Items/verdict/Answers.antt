use Rattle.std.proofs.Common.{◌<◌, ◌≤◌, Bool, List, length, Option, None, refl, sym, subst, arith}
use Rattle.std.specs.List.{Contains}
use Rattle.fly_policy.specs.Items.{settled_count}
use Rattle.fly_policy.proofs.Counts.{waiting_item, no_waiting_item, some_not_none}
use Rattle.fly_policy.proofs.items.Items.verdict.Goals as goal

pub returns-then-self-count-clause-pending : goal.returns-then-self-count-clause-pending
returns-then-self-count-clause-pending c =
    let items : List (Option Bool) = c.self.inside.ends.items in
    let few : settled_count items < length items = omega (arith, c.self.invariant.1, c.self.inside.ends.ok.0) in
    (λ _. subst (λ (xs : List (Option Bool)). Contains xs None) c.self.view_is (waiting_item items few), λ _. refl)

pub returns-clause-pending : goal.returns-clause-pending
returns-clause-pending c =
    let items : List (Option Bool) = c.self.inside.ends.items in
    let full : length items ≤ settled_count items = omega (arith, c.self.invariant.1, c.self.inside.ends.ok.0) in (
      λ e. absurd (some_not_none _ e),
      λ has. absurd (no_waiting_item items full
          (subst (λ (xs : List (Option Bool)). Contains xs None) (sym c.self.view_is) has)),
    )
