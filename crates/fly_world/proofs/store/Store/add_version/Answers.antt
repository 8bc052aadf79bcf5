use Rattle.std.proofs.Common.{◌≡◌, ◌≤◌, Some, length, refl, subst, ap, sym, ◌∙◌}
use Rattle.std.specs.List.{slice_get}
use Rattle.std.proofs.lemmas.List.{length-set}
use Rattle.std.proofs.lemmas.Option.{slice_get-get_or}
use Rattle.fly_world.specs.Steps.{max_executions}
use Rattle.fly_world.proofs.StoreLemmas.{named_set, owned_set, pushed_name, on_ok}
use Rattle.fly_world.proofs.store.Store.add_version.Goals as goal

pub invariant_of-self : goal.invariant_of-self
invariant_of-self c =
    let f = c.self.inside in
    let old = c.self.invariant in
    let can = rw (← c.self.view_is) at c.requires in
    let x = c.index_mut.result.now in
    let there : slice_get f.executions.items c.args.number ≡ Some x =
    slice_get-get_or f.executions.items c.args.number _ can ∙ ap Some (sym c.index_mut.ensures.value) in
    let same = pushed_name c.push.result c.push.new.self x c.args.state c.len-place.result c.push.ensures.ok c.push.ensures.err in
    record {
      numbered_by = λ q. old.numbered_by q ∙ named_set f.executions.items c.args.number x c.push.new.self there same q;
      owned = owned_set f.plan.now f.executions.items f.catalog.reservations f.owners c.args.number x c.push.new.self there same old.owned;
      artifacts = old.artifacts;
      opening_is = old.opening_is;
      few = subst (λ n. n ≤ max_executions) (sym (length-set f.executions.items c.args.number c.push.new.self)) old.few;
      early = old.early;
      room = old.room;
    }

pub returns-clause-ok : goal.returns-clause-ok
returns-clause-ok c =
    let f = c.self.inside in
    let can = rw (← c.self.view_is) at c.requires in
    let x = c.index_mut.result.now in
    let there : slice_get f.executions.items c.args.number ≡ Some x =
    slice_get-get_or f.executions.items c.args.number _ can ∙ ap Some (sym c.index_mut.ensures.value) in
    let place : c.len-place.result ≡ length f.entries.items = c.len-place.ensures ∙ f.entries.ok.0 in
    on_ok c.push.result _ _ c.push.ensures.ok (λ made. rw (made, place, ← c.self.view_is, there) refl)
