use Rattle.std.proofs.Common.{◌&&◌, sym, ◌∙◌, ap, arith}
use Rattle.std.specs.List.{list_all}
use Rattle.fly_state.specs.declared.entries.Entry.{Entry}
use Rattle.fly_world.specs.Steps.{is_opening_op}
use Rattle.fly_world.proofs.StoreLemmas.{opens_more}
use Rattle.fly_world.proofs.store.Store.push.Goals as goal

pub invariant_of-self : goal.invariant_of-self
invariant_of-self c =
    let old = c.self.invariant in
    record {
      numbered_by = old.numbered_by;
      owned = old.owned;
      artifacts = old.artifacts;
      opening_is =
          c.opens_with-self-inside.ensures
          ∙ ap (λ b. b && is_opening_op c.args.entry.op) old.opening_is
          ∙ sym (opens_more c.self.inside.entries.items c.args.entry)
          ∙ ap (list_all (λ (e : Entry). is_opening_op e.op)) (sym c.in-Ok.ensures.items);
      few = old.few;
      early = old.early;
      room = omega (arith, old.room, c.in-Ok.ensures.len, c.in-Ok.ensures.capacity, rw (← c.self.view_is) at c.requires);
    }
