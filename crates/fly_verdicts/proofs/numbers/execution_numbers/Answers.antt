use Rattle.std.proofs.Common.{◌≡◌, ◌<◌, length, get_or, position, bytes_eq, cond, Some, sym, ◌∙◌, ap, arith, nat_cmp}
use Rattle.std.specs.BTreeMap.{get}
use Rattle.std.specs.Ordering.{is_eq}
use Rattle.std.specs.Cmp.Lexicographic.{slice_cmp, nat_list_cmp_total}
use Rattle.std.proofs.lemmas.List.{take_all, length-map}
use Rattle.std.proofs.lemmas.Map.Text.{is_eq-slice_cmp}
use Rattle.std.proofs.lemmas.Option.{slice_get_within, get_or_from_slice_get}
use Rattle.fly_world.specs.World.{Execution}
use Rattle.fly_world.specs.Versions.{execution_names}
use Rattle.fly_state.proofs.PlaceLemmas.{position_alike, table_same, table_more, nothing_at, something_at}
use Rattle.fly_verdicts.proofs.ExecutionLemmas.{name-at}
use Rattle.fly_verdicts.proofs.numbers.execution_numbers.Goals as goal
use Rattle.fly_verdicts.proofs.numbers.execution_numbers.Goals.{then-is_none+in_ok-copy+in_ok-insert, else-is_none}

pub loop-number-preserved : goal.loop-number-preserved
loop-number-preserved c =
    let w = c.args.world.now.world in
    let at = c.loop-number.number in
    let keys = execution_names w in
    let key = c.named.result.now.name in
    let there = name-at w.executions at c.named.result.now c.named.ensures in
    let below : at < length keys = slice_get_within keys at key there in
    let here : key ≡ get_or keys at key = sym (get_or_from_slice_get keys at key key there) in
    elim c.if-is_none.branch [
      | then-is_none+in_ok-copy+in_ok-insert b ↦ λ q.
          rw b.numbers-is
          (table_more nat_list_cmp_total keys at key below here
          (get (slice_cmp nat_cmp) c.loop-number.numbers) (get (slice_cmp nat_cmp) b.insert.new.self)
          c.loop-number.invariant
          (nothing_at c.get.result _ c.is_none.result b.if-is_none.true c.is_none.ensures c.get.ensures.value)
          (λ r. b.in_ok-insert.ensures.updates.0 r
          ∙ ap (λ k. cond (is_eq (slice_cmp nat_cmp k r)) (Some at) (get (slice_cmp nat_cmp) c.loop-number.numbers r))
          b.in_ok-copy.ensures)
          q)
      | else-is_none b ↦ λ q.
          let known =
          something_at c.get.result _ c.is_none.result b.if-is_none.false c.is_none.ensures c.get.ensures.value in
          rw b.numbers-is
          (table_same nat_list_cmp_total keys at key below here
          (get (slice_cmp nat_cmp) c.loop-number.numbers) known.0 c.loop-number.invariant known.1 q)
    ]

pub returns : goal.returns
returns c = λ exec.
    let keys = execution_names c.args.world.now.world in
    c.loop-number.invariant exec
    ∙ ap (position (λ k. is_eq (slice_cmp nat_cmp exec k)))
    (take_all c.loop-number.number keys
    (omega (arith, length-map c.args.world.now.world.executions (λ (x : Execution). x.name))))
    ∙ position_alike (λ k. is_eq (slice_cmp nat_cmp exec k)) (bytes_eq exec) keys (is_eq-slice_cmp exec)
