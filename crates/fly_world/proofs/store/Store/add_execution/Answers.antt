use Rattle.std.proofs.Common.{◌≡◌, ℕ, ◌≤◌, [], ◌∷◌, length, refl, subst, ap, sym, ◌∙◌, arith, length-append}
use Rattle.std.specs.Option.{option_map}
use Rattle.fly_catalog.proofs.CatalogLemmas.{none_from_test}
use Rattle.fly_world.specs.Steps.{max_executions}
use Rattle.fly_world.specs.World.{Execution}
use Rattle.fly_world.proofs.StoreLemmas.{numbered_more, owned_more}
use Rattle.fly_world.proofs.store.Store.add_execution.Goals as goal

pub invariant_of-self-2 : goal.invariant_of-self-2
invariant_of-self-2 c =
    let f = c.self.inside in
    let old = c.self.invariant in
    let can = rw (← c.self.view_is) at c.requires in
    let x : Execution =
    record { name = c.args.submission.name; inputs = c.args.submission.inputs; past = []; state = c.args.state } in
    let number : c.len.result ≡ length f.executions.items = c.len.ensures ∙ c.reserve.ensures.len ∙ f.executions.ok.0 in
    let absent = ap (option_map (λ (at : ℕ × Execution). at.0)) (none_from_test _ can.0) in
    rw (c.in-Ok.ensures.items, c.reserve.ensures.items, c.new-versions.ensures) record {
      numbered_by = numbered_more f.executions.items x f.numbers c.insert.new.self absent old.numbered_by
          (λ q. rw (number, c.in_ok-name.ensures) at (c.in_ok-insert.ensures.updates.0 q));
      owned = owned_more f.plan.now f.executions.items f.catalog.reservations f.owners x old.owned;
      artifacts = old.artifacts;
      opening_is = old.opening_is;
      few = subst (λ n. n ≤ max_executions) (sym (length-append f.executions.items (x ∷ []))) (omega (arith, can.1));
      early = old.early;
      room = old.room;
    }

pub returns-clause-ok : goal.returns-clause-ok
returns-clause-ok c = rw (c.in-Ok.ensures.items, c.reserve.ensures.items, c.new-versions.ensures, ← c.self.view_is) refl
