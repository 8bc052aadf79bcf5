use Rattle.std.proofs.Common.{true, false, refl, sym, ◌∙◌, ◌++◌, ap, append-nil}
use Rattle.fly_compile.specs.Sites.{site_of}
use Rattle.fly_compile.proofs.ArrayLemmas.{unmapped-by}
use Rattle.fly_faults.proofs.Loops.{on_ok}
use Rattle.fly_compile.proofs.array_faults.push_unmapped_faults.Goals as goal

pub returns-then-not-are_bound : goal.returns-then-not-are_bound
returns-then-not-are_bound c =
    sym (append-nil c.args.faults.now.items)
    ∙ ap (λ r. c.args.faults.now.items ++ r)
    (sym (unmapped-by (site_of c.args.site.now) _ _ false _ _ c.requires.sorted (sym c.requires.bound ∙ c.if-not-are_bound.true) refl refl))

pub returns-then-not-branch : goal.returns-then-not-branch
returns-then-not-branch c =
    sym (append-nil c.args.faults.now.items)
    ∙ ap (λ r. c.args.faults.now.items ++ r)
    (sym (unmapped-by (site_of c.args.site.now) _ _ true false _ c.requires.sorted (sym c.requires.bound ∙ c.if-not-are_bound.false)
    (sym c.in_ok-do_inputs_fit.ensures ∙ c.if-not-branch.true) refl))

pub returns-then-not-branch-2 : goal.returns-then-not-branch-2
returns-then-not-branch-2 c =
    sym (append-nil c.args.faults.now.items)
    ∙ ap (λ r. c.args.faults.now.items ++ r)
    (sym (unmapped-by (site_of c.args.site.now) _ _ true true false c.requires.sorted (sym c.requires.bound ∙ c.if-not-are_bound.false)
    (sym c.in_ok-do_inputs_fit.ensures ∙ c.if-not-branch.false) (sym c.in_ok-are_inputs_unmapped.ensures ∙ c.if-not-branch-2.true)))

pub returns : goal.returns
returns c =
    on_ok c.report_at.result
    (λ pushed. pushed ∙ ap (λ r. c.args.faults.now.items ++ r)
    (sym (unmapped-by (site_of c.args.site.now) _ _ true true true c.requires.sorted (sym c.requires.bound ∙ c.if-not-are_bound.false)
    (sym c.in_ok-do_inputs_fit.ensures ∙ c.if-not-branch.false) (sym c.in_ok-are_inputs_unmapped.ensures ∙ c.if-not-branch-2.false))))
    c.report_at.ensures
