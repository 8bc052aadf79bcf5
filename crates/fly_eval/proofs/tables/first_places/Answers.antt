use Rattle.std.proofs.Common.{◌<◌, length, arith}
use Rattle.std.specs.BTreeMap.{get}
use Rattle.fly_state.proofs.PlaceLemmas.{table_same, table_more, nothing_at, something_at}
use Rattle.fly_eval.proofs.tables.first_places.Goals as goal
use Rattle.fly_eval.proofs.tables.first_places.Goals.{then-is_none+in_ok-insert, else-is_none}

pub loop-place-preserved : goal.loop-place-preserved
loop-place-preserved g c =
    let at = c.loop-place.place in
    let key = c.index-keys-place.result in
    let below : at < length c.args.keys.now = omega arith in
    elim c.if-is_none.branch [
      | then-is_none+in_ok-insert w ↦ λ q.
          rw w.places-is
          (table_more g.met.K.Ord.total c.args.keys.now at key below c.index-keys-place.is
          (get g.K.Ord.cmp c.loop-place.places) (get g.K.Ord.cmp w.insert.new.self)
          c.loop-place.invariant (nothing_at c.get.result _ c.is_none.result w.if-is_none.true c.is_none.ensures c.get.ensures.value)
          w.in_ok-insert.ensures.updates.0 q)
      | else-is_none w ↦ λ q.
          let known = something_at c.get.result _ c.is_none.result w.if-is_none.false c.is_none.ensures c.get.ensures.value in
          rw w.places-is
          (table_same g.met.K.Ord.total c.args.keys.now at key below c.index-keys-place.is
          (get g.K.Ord.cmp c.loop-place.places) known.0 c.loop-place.invariant known.1 q)
    ]
