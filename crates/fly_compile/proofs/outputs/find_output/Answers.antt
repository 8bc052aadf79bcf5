use Rattle.std.proofs.Common.{rules, sym, Some, None, nat_cmp, ◌∙◌, ap}
use Rattle.std.specs.Cmp.Lexicographic.{slice_cmp}
use Rattle.std.proofs.lemmas.Fn.{always_returns_same}
use Rattle.fly_types.proofs.LookupLemmas.{found, absent}
use Rattle.fly_docs.specs.NodeInterfaces.{of_type}
use Rattle.fly_faults.specs.OutputTypes.{type_of_output}
use Rattle.fly_compile.specs.declared.outputs.Output.{Output}
use Rattle.fly_compile.proofs.OutputLemmas.{outputs_sorted, output-found, source_in-some, source_in-none}
use Rattle.fly_compile.proofs.outputs.find_output.Goals as goal

pub returns-in-Ok : goal.returns-in-Ok
returns-in-Ok c =
    let ends = c.in-Ok.ensures.position (λ (output : Output). slice_cmp nat_cmp output.name.now c.args.name.now) (always_returns_same _ _ _ (λ a r f called. search rules)) in
    let first = found (λ (output : Output). output.name.now) c.args.name.now c.args.outputs.now (outputs_sorted _ c.requires) c.in-Ok.at c.in-Ok.ensures.bound ends in
    ap (λ (output : Output). of_type (type_of_output output.kind)) (sym c.index-outputs-at.is)
    ∙ sym (source_in-some c.args.name.now _ _ (output-found c.args.outputs.now c.args.name.now (Some c.index-outputs-at.result) (first c.index-outputs-at.result c.index-outputs-at.is)))

pub returns-in-Err : goal.returns-in-Err
returns-in-Err c =
    let ends = c.in-Err.ensures.position (λ (output : Output). slice_cmp nat_cmp output.name.now c.args.name.now) (always_returns_same _ _ _ (λ a r f called. search rules)) in
    sym (source_in-none c.args.name.now _ (output-found c.args.outputs.now c.args.name.now None (absent (λ (output : Output). output.name.now) c.args.name.now c.args.outputs.now (outputs_sorted _ c.requires) c.in-Err.field-0 ends)))
