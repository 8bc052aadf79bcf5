use Rattle.std.proofs.Common.{[], ◌∷◌, ◌++◌, sym, ◌∙◌, ap, append-nil, false}
use Rattle.fly_faults.specs.BindingFaults.{is_no_node, is_no_variable}
use Rattle.fly_compile.specs.Sites.{site_of, wanted_value}
use Rattle.fly_compile.proofs.ValueFaults.{has-test, value-by, lacks-node, lacks-variable}
use Rattle.fly_compile.proofs.binding_faults.push_value_faults.Goals as goal

pub returns-then-lacks_node : goal.returns-then-lacks_node
returns-then-lacks_node c =
    let site = site_of c.args.site.now in
    sym (append-nil c.args.faults.now.items)
    ∙ ap (λ r. c.args.faults.now.items ++ r)
    (sym (lacks-node site c.args.x.now _ (wanted_value c.in-Some.wanted) _ (sym c.in-Some.ensures)
    (has-test is_no_node site c.args.x.now.bound _ _ c.requires.promises c.lacks_node.ensures) c.if-lacks_node.true))

pub returns-then-lacks_variable : goal.returns-then-lacks_variable
returns-then-lacks_variable c =
    let site = site_of c.args.site.now in
    sym (append-nil c.args.faults.now.items)
    ∙ ap (λ r. c.args.faults.now.items ++ r)
    (sym (lacks-variable site c.args.x.now _ (wanted_value c.in-Some.wanted) _ (sym c.in-Some.ensures)
    (has-test is_no_variable site c.args.x.now.bound _ _ c.requires.promises c.lacks_variable.ensures) c.if-lacks_variable.true))

pub returns : goal.returns
returns c =
    let site = site_of c.args.site.now in
    c.in_ok-push.ensures.items ∙ ap (λ f. c.args.faults.now.items ++ f ∷ []) c.in_ok-misfit.ensures
    ∙ ap (λ r. c.args.faults.now.items ++ r)
    (sym (value-by site c.args.x.now _ (wanted_value c.in-Some.wanted) false false false (sym c.in-Some.ensures)
    (sym c.in_ok-fits_wanted.ensures ∙ c.if-branch.false)
    (has-test is_no_node site c.args.x.now.bound _ _ c.requires.promises c.lacks_node.ensures ∙ c.if-lacks_node.false)
    (has-test is_no_variable site c.args.x.now.bound _ _ c.requires.promises c.lacks_variable.ensures ∙ c.if-lacks_variable.false)))
