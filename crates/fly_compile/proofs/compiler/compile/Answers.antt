use Rattle.std.proofs.Common.{◌≡◌, [], Some, ◌∙◌, ap, sym, arith, vec_len}
use Rattle.fly_docs.specs.Closures.{closure_of}
use Rattle.fly_faults.specs.FaultList.{faults_of}
use Rattle.fly_compile.proofs.RunSteps.{has_closure, closure_is_typed, no_items}
use Rattle.fly_compile.proofs.compiler.compile.Goals as goal

pub unreachable-requires : goal.unreachable-requires
unreachable-requires c =
    let faults = c.in_ok-faults.faults in
    let none : faults_of c.args.bundle.now ≡ [] =
    sym (c.in_ok-faults.ensures ∙ ap faults_of c.in_ok-directory.ensures)
    ∙ no_items faults.items (vec_len faults) (omega (arith, faults.ok.0)) (sym c.is_empty.ensures ∙ c.if-not-is_empty.false) in
    has_closure c.args.bundle.now c.requires none
    (sym (ap closure_of c.in_ok-directory.ensures) ∙ sym c.in_ok-closure.ensures ∙ c.in-None.is)

pub returns : goal.returns
returns c =
    let faults = c.in_ok-faults.faults in
    let b = c.args.bundle.now in
    let none : faults_of b ≡ [] =
    sym (c.in_ok-faults.ensures ∙ ap faults_of c.in_ok-directory.ensures)
    ∙ no_items faults.items (vec_len faults) (omega (arith, faults.ok.0)) (sym c.is_empty.ensures ∙ c.if-not-is_empty.false) in
    let closure : closure_of b ≡ Some c.in-Some.closure =
    sym (ap closure_of c.in_ok-directory.ensures) ∙ sym c.in_ok-closure.ensures ∙ c.in-Some.is in
    (none, closure, closure_is_typed c.closures_are_typed.ensures b c.requires none c.in-Some.closure closure)
