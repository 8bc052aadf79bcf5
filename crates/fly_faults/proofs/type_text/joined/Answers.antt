use Rattle.std.proofs.Common.{[], ◌++◌, ◌∙◌, ap, string_bytes}
use Rattle.fly_faults.proofs.Loops.{listed_more}
use Rattle.fly_faults.proofs.type_text.joined.Goals as goal

pub loop-place-preserved : goal.loop-place-preserved
loop-place-preserved c =
    listed_more (λ text. text.now) _ _ c.index-texts-place.result [] _ _ _ c.loop-place-test.true c.index-texts-place.is c.loop-place.invariant
    c.in_ok-push_separator.ensures (c.in_ok-push.ensures ∙ ap (λ r. string_bytes c.push_separator.new.out ++ r) c.as_str.ensures)
