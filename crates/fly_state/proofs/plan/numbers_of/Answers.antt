use Rattle.std.proofs.Common.{◌≡◌, ◌<◌, map, length, get_or, position, bytes_eq, cond, Some, sym, ◌∙◌, ap, arith, nat_cmp}
use Rattle.std.specs.BTreeMap.{get}
use Rattle.std.specs.Ordering.{is_eq}
use Rattle.std.specs.Cmp.Lexicographic.{slice_cmp, nat_list_cmp_total}
use Rattle.std.proofs.lemmas.List.{take_all, length-map, get_or-map}
use Rattle.std.proofs.lemmas.Map.Text.{is_eq-slice_cmp}
use Rattle.fly_docs.specs.declared.node.Node.{Node}
use Rattle.fly_state.proofs.PlaceLemmas.{position_alike, table_same, table_more, nothing_at, something_at}
use Rattle.fly_state.proofs.plan.numbers_of.Goals as goal
use Rattle.fly_state.proofs.plan.numbers_of.Goals.{then-is_none+in_ok-copy+in_ok-insert, else-is_none}

pub loop-number-preserved : goal.loop-number-preserved
loop-number-preserved c =
    let nodes = c.args.nodes.now in
    let at = c.loop-number.number in
    let keys = map (λ (n : Node). n.id) nodes in
    let key = c.index-nodes-number.result.id in
    let within : at < length nodes = omega arith in
    let below : at < length keys = omega (arith, length-map nodes (λ (n : Node). n.id), within) in
    let here : key ≡ get_or keys at key =
    ap (λ (n : Node). n.id) c.index-nodes-number.is
    ∙ sym (get_or-map (λ (n : Node). n.id) nodes at c.index-nodes-number.result key within) in
    elim c.if-is_none.branch [
      | then-is_none+in_ok-copy+in_ok-insert w ↦ λ q.
          rw w.numbers-is
          (table_more nat_list_cmp_total keys at key below here
          (get (slice_cmp nat_cmp) c.loop-number.numbers) (get (slice_cmp nat_cmp) w.insert.new.self)
          c.loop-number.invariant (nothing_at c.get.result _ c.is_none.result w.if-is_none.true c.is_none.ensures c.get.ensures.value)
          (λ r. w.in_ok-insert.ensures.updates.0 r
          ∙ ap (λ k. cond (is_eq (slice_cmp nat_cmp k r)) (Some at) (get (slice_cmp nat_cmp) c.loop-number.numbers r)) w.in_ok-copy.ensures)
          q)
      | else-is_none w ↦ λ q.
          let known = something_at c.get.result _ c.is_none.result w.if-is_none.false c.is_none.ensures c.get.ensures.value in
          rw w.numbers-is
          (table_same nat_list_cmp_total keys at key below here
          (get (slice_cmp nat_cmp) c.loop-number.numbers) known.0 c.loop-number.invariant known.1 q)
    ]

pub returns : goal.returns
returns c = λ id.
    let keys = map (λ (n : Node). n.id) c.args.nodes.now in
    c.loop-number.invariant id
    ∙ ap (position (λ k. is_eq (slice_cmp nat_cmp id k)))
    (take_all c.loop-number.number keys (omega (arith, length-map c.args.nodes.now (λ (n : Node). n.id))))
    ∙ position_alike (λ k. is_eq (slice_cmp nat_cmp id k)) (bytes_eq id) keys (is_eq-slice_cmp id)
