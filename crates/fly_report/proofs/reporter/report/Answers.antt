use Rattle.std.proofs.Common.{◌++◌, ℕ, Bool, cond, List, length, flat_map, string_bytes, sym, subst, ap, ◌∙◌, arith}
use Rattle.fly_state.specs.declared.slots.ExecState.{ExecState}
use Rattle.fly_state.specs.States.{is_succeeded}
use Rattle.fly_world.specs.Versions.{HasShapedVersions}
use Rattle.fly_world.specs.World.{Execution}
use Rattle.fly_report.specs.Lines.{Section, section_text}
use Rattle.fly_report.specs.Report.{section_of}
use Rattle.fly_report.proofs.Places.{texts-next, count-next}
use Rattle.fly_report.proofs.SectionLemmas.{execution-at, nodes-counted, section-counted}
use Rattle.fly_report.proofs.reporter.report.Goals as goal
use Rattle.fly_report.proofs.reporter.report.Goals.{then-is_succeeded, else-is_succeeded}

pub push_execution-requires : goal.push_execution-requires
push_execution-requires c =
    let plan = c.args.p.now in
    let k = c.args.w.now in
    let at = c.loop-number.number in
    let x = execution-at k.world.executions at c.named.result.now c.last-state.result.now c.named.ensures
    c.last-state.ensures in
    let shaped : HasShapedVersions plan k.world =
    subst (λ q. HasShapedVersions q k.world) c.requires.own
    (c.versions_are_shaped.ensures k.plan k.closure k.world.entries k.world c.legal_journal.ensures) in
    ap (λ (s : ExecState). length s.nodes) (sym x.3) ∙ nodes-counted plan k.world shaped at x.0 x.1

pub loop-number-preserved : goal.loop-number-preserved
loop-number-preserved c =
    let plan = c.args.p.now in
    let w = c.args.w.now.world in
    let at = c.loop-number.number in
    let told = string_bytes c.loop-number.text in
    let x = execution-at w.executions at c.named.result.now c.last-state.result.now c.named.ensures
    c.last-state.ensures in
    let text : Execution → List ℕ = λ y. section_text (section_of plan w y) in
    let added = c.in_ok-push_execution.ensures x.0 x.2 x.3
    ∙ ap (λ (s : Section). told ++ section_text s)
    (section-counted plan w c.in_ok-of.field-0 c.in_ok-of.ensures at x.0 x.1) in
    let texts = texts-next text w.executions at x.0 told (string_bytes c.push_execution.new.text)
    (flat_map text w.executions) x.1 added c.loop-number.invariant.0 in
    let next = count-next (λ (y : Execution). is_succeeded y.state.root.phase) w.executions at x.0 x.1 in
    let tested = ap (λ (s : ExecState). is_succeeded s.root.phase) x.3 ∙ sym c.is_succeeded.ensures in
    let one : Bool → ℕ = λ b. cond b 1 0 in
    elim c.if-is_succeeded.branch [
      | then-is_succeeded b ↦ let counted = ap one (tested ∙ b.if-is_succeeded.true) in
          (texts, omega (arith, next, counted), omega arith)
      | else-is_succeeded b ↦ let counted = ap one (tested ∙ b.if-is_succeeded.false) in
          (texts, omega (arith, next, counted), omega arith)
    ]
