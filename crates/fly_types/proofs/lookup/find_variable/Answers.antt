use Rattle.std.proofs.Common.{rules, sym, nat_cmp}
use Rattle.std.specs.Cmp.Lexicographic.{slice_cmp}
use Rattle.std.proofs.lemmas.Fn.{always_returns_same}
use Rattle.fly_types.proofs.LookupLemmas.{found, absent}
use Rattle.fly_types.proofs.lookup.find_variable.Goals as goal

pub returns-in-Ok : goal.returns-in-Ok
returns-in-Ok c =
    let ends = c.in-Ok.ensures.position (λ variable. slice_cmp nat_cmp variable.name c.args.name.now) (always_returns_same _ _ _ (λ a r f called. search rules)) in
    let first = found (λ variable. variable.name) c.args.name.now _ (rw c.as_slice-variables.ensures c.requires) c.in-Ok.at c.in-Ok.ensures.bound ends in
    rw (← c.as_slice-variables.ensures) (sym (first c.index-variables-at.result c.index-variables-at.is))

pub returns-in-Err : goal.returns-in-Err
returns-in-Err c =
    let ends = c.in-Err.ensures.position (λ variable. slice_cmp nat_cmp variable.name c.args.name.now) (always_returns_same _ _ _ (λ a r f called. search rules)) in
    rw (← c.as_slice-variables.ensures) (sym (absent (λ variable. variable.name) c.args.name.now _ (rw c.as_slice-variables.ensures c.requires) c.in-Err.field-0 ends))
