use Rattle.std.proofs.Common.{◌≡◌, ℕ, Bool, if◌then◌else◌, length, ap, ◌∙◌, arith}
use Rattle.fly_world.specs.ReadOff.{launches_by}
use Rattle.fly_make.proofs.SummaryLemmas.{launches-next}
use Rattle.fly_make.proofs.summary.launch_count.Goals as goal
use Rattle.fly_make.proofs.summary.launch_count.Goals.{then-is_launch, else-is_launch}

pub loop-place-preserved : goal.loop-place-preserved
loop-place-preserved c =
    let here = launches-next c.args.world.now.world.entries c.loop-place.place c.entry.result.now c.entry.ensures in
    let counted : ℕ → Type 0 = λ n. length (launches_by c.entry.result.now.op c.entry.result.now.reply) ≡ n in
    let chosen : Bool → ℕ = λ t. if t then 1 else 0 in
    elim c.if-is_launch.branch [
      | then-is_launch w ↦ let one : counted 1 = c.is_launch.ensures ∙ ap chosen w.if-is_launch.true in
          (omega arith, omega arith)
      | else-is_launch w ↦ let none : counted 0 = c.is_launch.ensures ∙ ap chosen w.if-is_launch.false in
          (omega arith, omega arith)
    ]
