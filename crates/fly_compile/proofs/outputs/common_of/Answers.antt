use Rattle.std.proofs.Common.{sym, ◌∙◌, ap, subst, map, filter}
use Rattle.std.specs.List.{All, list_all}
use Rattle.std.proofs.lemmas.List.Elements.{All-head, All-tail}
use Rattle.fly_docs.specs.Interfaces.{has_variable}
use Rattle.fly_types.specs.Lookup.{AreVariablesSorted}
use Rattle.fly_compile.specs.Outputs.{output_variable, known_variables, AreOutputsSorted}
use Rattle.fly_compile.proofs.OutputLemmas.{common-unknown, common-known, common_sorted}
use Rattle.fly_compile.proofs.SortedNames.{sorted_nothing}
use Rattle.fly_compile.proofs.outputs.common_of.Goals as goal

pub returns-then-not-are_known-clause-value : goal.returns-then-not-are_known-clause-value
returns-then-not-are_known-clause-value c = common-unknown c.args.lists.now _ c.are_known.ensures c.if-not-are_known.true

pub returns-then-not-are_known-clause-sorted : goal.returns-then-not-are_known-clause-sorted
returns-then-not-are_known-clause-sorted c = sorted_nothing

pub returns-in_default-clause-sorted : goal.returns-in_default-clause-sorted
returns-in_default-clause-sorted c = subst AreVariablesSorted (ap (map output_variable) (sym c.new.ensures.items)) sorted_nothing

pub common_outputs-requires : goal.common_outputs-requires
common_outputs-requires c =
    record { sorted = All-tail AreOutputsSorted c.in-Some.first.now c.in-Some.others.now (subst (All AreOutputsSorted) c.in-Some.ensures.cases.0 c.requires.sorted) }

pub returns-clause-value : goal.returns-clause-value
returns-clause-value c =
    common-known c.args.lists.now c.in-Some.others.now c.in-Some.first.now _ _ c.in-Some.ensures.cases.0 (sym c.are_known.ensures ∙ c.if-not-are_known.false)
    c.in_ok-outputs.ensures
    (c.in_ok-common_outputs.ensures
    ∙ ap (λ os. filter (λ v. list_all (λ other. has_variable (known_variables other) v) c.in-Some.others.now) (map output_variable os)) c.deref.ensures.value)

pub returns-clause-sorted : goal.returns-clause-sorted
returns-clause-sorted c =
    common_sorted c.in-Some.others.now c.in-Some.first.now _ _ c.in_ok-outputs.ensures
    (c.in_ok-common_outputs.ensures
    ∙ ap (λ os. filter (λ v. list_all (λ other. has_variable (known_variables other) v) c.in-Some.others.now) (map output_variable os)) c.deref.ensures.value)
    (All-head AreOutputsSorted c.in-Some.first.now c.in-Some.others.now (subst (All AreOutputsSorted) c.in-Some.ensures.cases.0 c.requires.sorted))
