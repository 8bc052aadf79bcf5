use Rattle.fly_links.proofs.ConnectLemmas.{lists_more}
use Rattle.fly_links.proofs.connecting.lists_by_id.Goals as goal

pub loop-place-preserved : goal.loop-place-preserved
loop-place-preserved c =
    lists_more c.args.layout.now c.args.outer.now c.args.ends.now c.args.other.now c.args.rows.now c.nodes-nodes.result.now c.loop-place.place
    c.index-nodes-place.result c.loop-place-test.true c.index-nodes-place.is c.in_ok-copy.field-0 c.in_ok-ids.ids c.loop-place.lists.entries _
    c.in_ok-copy.ensures c.in_ok-ids.ensures c.loop-place.invariant c.in_ok-put_list-2.ensures
