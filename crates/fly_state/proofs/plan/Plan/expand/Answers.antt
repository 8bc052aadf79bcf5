use Rattle.std.proofs.Common.{◌≡◌, List, ℕ, Option, Some, map, length, position, bytes_eq, refl, sym, ◌∙◌, ap, arith, subst}
use Rattle.std.specs.BTreeMap.{get}
use Rattle.std.specs.List.{slice_get}
use Rattle.std.specs.Ordering.{nat_cmp}
use Rattle.std.specs.Cmp.Lexicographic.{slice_cmp}
use Rattle.std.proofs.lemmas.List.{length-map}
use Rattle.fly_docs.specs.declared.node.Node.{Node}
use Rattle.fly_docs.specs.declared.task.Task.{Task}
use Rattle.fly_docs.specs.declared.workflow.Bundle.{Bundle}
use Rattle.fly_docs.specs.Closures.{bundle_of}
use Rattle.fly_docs.specs.Lookups.{primary_of}
use Rattle.fly_docs.specs.Plans.{plan_of}
use Rattle.fly_docs.specs.Typed.{IsTyped}
use Rattle.fly_rules.specs.Rules.{IsGrounded}
use Rattle.fly_state.specs.declared.sites.Site.{Site}
use Rattle.fly_state.specs.Looks.{IsLookOrder}
use Rattle.fly_state.specs.PlanTables.{outer_node, HasTables}
use Rattle.fly_state.specs.Sites.{node_place, binding_place, site_by, site_of, looks_at}
use Rattle.fly_state.proofs.PlanLemmas.{nodes_of-plain, plan_of-closure, primary_of-bundle}
use Rattle.fly_state.proofs.GroundPlan.{sites-grounded, primary-acyclic}
use Rattle.fly_state.proofs.plan.Plan.expand.Goals as goal

-- the sites by a table of places are those by the places
sites-by : (tasks : List Task) (nodes given : List Node) (table : List ℕ → Option ℕ) (sites : List Site)
    → ((id : List ℕ) → table id ≡ node_place given id) → given ≡ nodes → sites ≡ map (site_by tasks table) nodes → sites ≡ map (site_of tasks nodes) nodes
sites-by tasks nodes given table sites places same is =
    is ∙ (λ i. map (site_by tasks (λ id. (places id ∙ ap (λ xs. node_place xs id) same) i)) nodes)

pub numbers_of-requires : goal.numbers_of-requires
numbers_of-requires c =
    let plannable = c.requires.plannable in
    omega (arith, plannable.few, ap length (nodes_of-plain c.args.c.now.primary plannable.plain), ap length c.as_slice-nodes.ensures)

pub order_of-requires-clause-few : goal.order_of-requires-clause-few
order_of-requires-clause-few c =
    let plannable = c.requires.plannable in
    let w = c.args.c.now.primary in
    let table = get (slice_cmp nat_cmp) c.in_ok-numbers.numbers in
    omega (
      arith,
      plannable.few,
      ap length (nodes_of-plain w plannable.plain),
      ap length (c.deref.ensures.value ∙ c.in_ok-sites.ensures),
      length-map w.nodes (site_by c.args.c.now.tasks table),
    )

pub order_of-requires-clause-grounded : goal.order_of-requires-clause-grounded
order_of-requires-clause-grounded c =
    let plannable = c.requires.plannable in
    let closure = c.args.c.now in
    let w = closure.primary in
    let sites = sites-by closure.tasks w.nodes c.as_slice-nodes.result.now (get (slice_cmp nat_cmp) c.in_ok-numbers.numbers) c.deref.result.now
    c.in_ok-numbers.ensures c.as_slice-nodes.ensures (c.deref.ensures.value ∙ c.in_ok-sites.ensures) in
    subst (λ xs. IsGrounded (looks_at xs) (length xs)) (sym sites)
    (sites-grounded w plannable.plain closure.tasks (primary-acyclic closure c.requires.compiled.acyclic))

pub invariant_of-result : goal.invariant_of-result
invariant_of-result c =
    let plannable = c.requires.plannable in
    let closure = c.args.c.now in
    let w = closure.primary in
    let docs : c.in_ok-documents.documents ≡ bundle_of closure = c.in_ok-documents.ensures in
    let given = c.as_slice-nodes.ensures in
    let order = subst (λ xs. IsLookOrder (looks_at xs) (length xs) c.in_ok-order.order)
    (c.deref.ensures.value ∙ sym c.from_vec.ensures.value) c.in_ok-order.ensures in
    record {
      workflow = w;
      first = ap (λ (b : Bundle). slice_get b.workflows 0) docs;
      named = ap primary_of docs ∙ primary_of-bundle closure;
      plain = plannable.plain;
      ids = plannable.ids;
      nodes_are = ap plan_of docs ∙ plan_of-closure closure plannable.plain;
      few = omega (arith, plannable.few, ap length (nodes_of-plain w plannable.plain));
      numbered = λ id. c.in_ok-numbers.ensures id ∙ ap (λ xs. node_place xs id) given;
      sites_are =
          sites-by closure.tasks w.nodes c.as_slice-nodes.result.now (get (slice_cmp nat_cmp) c.in_ok-numbers.numbers) c.from_vec.result
          c.in_ok-numbers.ensures given (c.from_vec.ensures.value ∙ c.in_ok-sites.ensures)
          ∙ ap (λ (b : Bundle). map (site_of b.tasks w.nodes) w.nodes) (sym docs);
      order_is = order;
      outputs_are =
          c.from_vec-2.ensures.value ∙ c.in_ok-outputs.ensures
          ∙ (λ i. map (binding_place (c.as_slice-2.ensures i)) (c.as_slice.ensures i));
      typed = subst IsTyped (sym docs) c.requires.compiled.typed;
    }
