-- The closure of a typed and acyclic bundle has typed and acyclic templates.
use Rattle.std.proofs.Common.{◌≡◌, ℕ, ◌≤◌, length, count_by, sym, ap, ◌∙◌, subst, arith}
use Rattle.std.proofs.lemmas.Option.{same_Some}
use Rattle.fly_graph.specs.Walks.{IsWalk, Reaches}
use Rattle.fly_docs.specs.declared.workflow.Bundle.{Bundle}
use Rattle.fly_docs.specs.Closures.{closure_with}
use Rattle.fly_docs.specs.Lookups.{primary_of}
use Rattle.fly_docs.specs.Plans.{PlanNode, is_array}
use Rattle.fly_docs.specs.Reaching.{workflow_edges, IsReachedPlace}
use Rattle.fly_docs.specs.Typed.{IsTyped}
use Rattle.fly_docs.specs.TypedClosures.{IsTypedClosure}
use Rattle.fly_faults.proofs.Lists.{some_of_map}
use Rattle.fly_closures.specs.Laws.{ClosuresAreTyped}
use Rattle.fly_closures.proofs.Alike.{workflow_alike}
use Rattle.fly_closures.proofs.Templates.{templates, primary_at, task_ids, workflow_ids, templates_primary, looks_alike, same_plan}
use Rattle.fly_closures.proofs.TemplateWalks.{one_from, walk_back, primary_back, reached_back, workflow_back, task_back}

module _ (b : Bundle) (typed : IsTyped b) where
  abbrev own : Bundle
  own = templates b typed

  own_not_recursive : (place : ℕ) → IsReachedPlace own place → ¬ Reaches (workflow_edges own) place place
  own_not_recursive place reached walk =
      let at = reached_back b typed place reached in
      let round = walk_back b typed place walk.0 place at.0 walk.1 at.1 in
      let end = one_from b typed place round.1 at.0 round.3 at.1 in
      typed.not_recursive at.0 at.2 (round.0, subst (IsWalk (workflow_edges b) at.0 round.0) end round.2)

  typed_templates : IsTyped own
  typed_templates = record {
    tasks = task_ids b typed;
    workflows = workflow_ids b typed;
    primary = typed.primary;
    named = templates_primary b typed;
    typed =
        λ w reached. let back = workflow_back b typed w reached in
        workflow_alike b own w (looks_alike b typed w back) (typed.typed w back);
    templates = λ t reached. typed.templates t (task_back b typed t reached);
    not_recursive = own_not_recursive;
    nesting =
        λ start place between is walk. let at = primary_at b typed in
        let along = walk_back b typed start between place at.0 walk (primary_back b typed start is) in
        omega (arith, typed.nesting at.0 along.1 along.0 at.1 along.2, along.4);
    plan = subst (λ plan. length plan ≤ 4096) (sym (same_plan b typed)) typed.plan;
    arrays =
        subst (λ plan. count_by (λ (p : PlanNode). is_array p.node) plan ≤ 16) (sym (same_plan b typed)) typed.arrays;
  }

pub closures_are_typed : ClosuresAreTyped
closures_are_typed b c typed acyclic e =
    let closure = some_of_map (closure_with b) (primary_of b) c e in
    let same : typed.primary ≡ closure.0 = same_Some typed.primary closure.0 (sym typed.named ∙ closure.1) in
    subst IsTypedClosure (ap (closure_with b) same ∙ closure.2)
    (record { typed = typed_templates b typed; acyclic = λ w reached. acyclic w (workflow_back b typed w reached) })
