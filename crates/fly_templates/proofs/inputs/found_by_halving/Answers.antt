use Rattle.std.proofs.Common.{rules, ap, sym, ◌∙◌, Some, option_map, nat_cmp}
use Rattle.std.specs.Cmp.Lexicographic.{slice_cmp}
use Rattle.std.proofs.lemmas.Fn.{always_returns_same}
use Rattle.fly_types.proofs.LookupLemmas.{found, absent}
use Rattle.fly_templates.proofs.inputs.found_by_halving.Goals as goal

pub returns-in-Ok : goal.returns-in-Ok
returns-in-Ok c =
    let ends = c.in-Ok.ensures.position (λ entry. slice_cmp nat_cmp entry.0 c.args.name.now)
    (always_returns_same _ _ _ (λ a r f called. search rules)) in
    let first = found (λ entry. entry.0) c.args.name.now c.args.entries.now c.requires c.in-Ok.at
    c.in-Ok.ensures.bound ends in
    ap (λ entry. Some entry.1) (sym c.index-entries-at.is)
    ∙ sym (ap (option_map (λ entry. entry.1)) (first c.index-entries-at.result c.index-entries-at.is))

pub returns-in-Err : goal.returns-in-Err
returns-in-Err c =
    let ends = c.in-Err.ensures.position (λ entry. slice_cmp nat_cmp entry.0 c.args.name.now)
    (always_returns_same _ _ _ (λ a r f called. search rules)) in
    sym (ap (option_map (λ entry. entry.1))
    (absent (λ entry. entry.0) c.args.name.now c.args.entries.now c.requires c.in-Err.field-0 ends))
