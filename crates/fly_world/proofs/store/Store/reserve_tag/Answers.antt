use Rattle.fly_world.proofs.OwnerLemmas.{owner_of_spot, owned_same, owned_put, owner_put, owned_grant, found_there}
use Rattle.fly_world.proofs.NumberedCatalogs.{numbered_grant}
use Rattle.fly_world.proofs.store.Store.reserve_tag.Goals as goal
use Rattle.fly_world.proofs.store.Store.reserve_tag.Goals.{then-is_none+in_ok-copy+in_ok-insert, else-is_none}

pub invariant_of-self-in_err-insert : goal.invariant_of-self-in_err-insert
invariant_of-self-in_err-insert c =
    let f = c.self.inside in
    let old = c.self.invariant in
    record {
      numbered_by = old.numbered_by;
      owned = owned_same f.plan.now f.executions.items f.catalog.reservations f.owners c.insert.new.self
          c.in_err-insert.ensures.err old.owned;
      artifacts = old.artifacts;
      opening_is = old.opening_is;
      few = old.few;
      early = old.early;
      room = old.room;
    }

pub invariant_of-self-in_err-get_or_extend : goal.invariant_of-self-in_err-get_or_extend
invariant_of-self-in_err-get_or_extend c =
    let f = c.self.inside in
    let old = c.self.invariant in
    let can = rw (← c.self.view_is) at c.requires in
    let is = owner_of_spot f.plan.now f.executions.items c.args.owner c.args.spot can in
    rw (c.in_err-get_or_extend.ensures.err)
    (elim c.if-is_none.branch [
      | then-is_none+in_ok-copy+in_ok-insert w ↦ rw w.self-inside-is record {
        numbered_by = old.numbered_by;
        owned = owned_put f.plan.now f.executions.items f.catalog.reservations f.owners w.insert.new.self c.args.owner
            c.args.spot old.owned is (λ q. rw (w.in_ok-copy.ensures) at (w.in_ok-insert.ensures.updates.0 q));
        artifacts = old.artifacts;
        opening_is = old.opening_is;
        few = old.few;
        early = old.early;
        room = old.room;
      }
      | else-is_none w ↦ rw w.self-inside-is old
    ])

pub invariant_of-self-2 : goal.invariant_of-self-2
invariant_of-self-2 c =
    let f = c.self.inside in
    let old = c.self.invariant in
    let can = rw (← c.self.view_is) at c.requires in
    let is = owner_of_spot f.plan.now f.executions.items c.args.owner c.args.spot can in
    rw (c.in_ok-get_or_extend.ensures.after)
    (elim c.if-is_none.branch [
      | then-is_none+in_ok-copy+in_ok-insert w ↦
          rw w.self-inside-is record {
            numbered_by = old.numbered_by;
            owned = owned_grant f.plan.now f.executions.items f.catalog w.insert.new.self c.args.dataset c.args.tag
                c.args.owner c.in_ok-get_or_extend.field-0
                (owned_put f.plan.now f.executions.items f.catalog.reservations f.owners w.insert.new.self c.args.owner
                c.args.spot old.owned is (λ q. rw (w.in_ok-copy.ensures) at (w.in_ok-insert.ensures.updates.0 q)))
                (owner_put f.plan.now f.executions.items f.catalog.reservations f.owners w.insert.new.self c.args.owner
                c.args.spot old.owned is (λ q. rw (w.in_ok-copy.ensures) at (w.in_ok-insert.ensures.updates.0 q)));
            artifacts = numbered_grant f.catalog c.args.dataset c.args.tag c.args.owner c.in_ok-get_or_extend.field-0
                old.artifacts;
            opening_is = old.opening_is;
            few = old.few;
            early = old.early;
            room = old.room;
          }
      | else-is_none w ↦ rw w.self-inside-is record {
        numbered_by = old.numbered_by;
        owned = owned_grant f.plan.now f.executions.items f.catalog f.owners c.args.dataset c.args.tag c.args.owner
            c.in_ok-get_or_extend.field-0 old.owned
            (found_there c.get.result _ c.is_none.result w.if-is_none.false c.is_none.ensures c.get.ensures.value);
        artifacts = numbered_grant f.catalog c.args.dataset c.args.tag c.args.owner c.in_ok-get_or_extend.field-0
            old.artifacts;
        opening_is = old.opening_is;
        few = old.few;
        early = old.early;
        room = old.room;
      }
    ])
