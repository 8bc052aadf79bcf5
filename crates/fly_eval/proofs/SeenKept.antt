-- What is told of nodes and items later has their verdicts and attempts.
use Rattle.std.proofs.Common.{◌≡◌, ℕ, ◌+◌, ◌-◌, ◌≤◌, List, [], ◌∷◌, ◌++◌, map, flat_map, replicate, Contains, Option, None, Ok, Err, refl, sym, ◌∙◌, ap, subst, arith, ⊎_elim}
use Rattle.std.specs.List.{enumerate_from, range_with_len}
use Rattle.std.proofs.lemmas.List.{replicate-append-replicate}
use Rattle.fly_types.specs.declared.literals.LiteralMap.{LiteralMap}
use Rattle.fly_docs.specs.declared.names.Identifier.{Identifier}
use Rattle.fly_docs.specs.declared.node.Node.{Node}
use Rattle.fly_docs.specs.declared.node.Case.{Case}
use Rattle.fly_docs.specs.declared.node.Target.{Target, out-Target}
use Rattle.fly_docs.specs.declared.node.Target.TheOpen.{Target-F}
use Rattle.fly_docs.specs.Plans.{PlanNode}
use Rattle.fly_docs.specs.SlotInputs.{Taken, mapped_of, item_inputs}
use Rattle.fly_rules.specs.Standing.{Standing, waiting, blocked, skipped, ready}
use Rattle.fly_rules.proofs.GroundLemmas.{Contains-flat_map}
use Rattle.fly_graph.proofs.Members.{Contains-nil, Contains-cons_cases}
use Rattle.fly_state.specs.Plans.{RunPlan}
use Rattle.fly_state.specs.Inputs.{count_of_items}
use Rattle.fly_state.specs.Moves.{attempt_limit}
use Rattle.fly_state.proofs.Lists.{first_in, later_in, of_flat_map}
use Rattle.fly_eval.specs.declared.results.Results.{Results}
use Rattle.fly_eval.specs.declared.results.Hits.{Hits}
use Rattle.fly_eval.specs.declared.seen.Seen.{Seen}
use Rattle.fly_eval.specs.Attempts.{Attempts, attempts_of}
use Rattle.fly_eval.specs.Evaluation.{Entering, Sight, item_slot, items_attempts, task_attempts, whole_sight, seen_item, seen_items, seen_attempts, seen_node, evaluation_of}
use Rattle.fly_eval.specs.Laws.{HasResultsOf, HasHitsOf, IsKeptSeen, IsKeptEvaluation}
use Rattle.fly_eval.proofs.Kept.{IsKeptEntering, IsKeptSight}
use Rattle.fly_eval.proofs.AttemptsKept.{IsKeptAttempts, attempts-kept, task-kept}
use Rattle.fly_eval.proofs.VerdictKept.{verdict_in_instance-kept}
use Rattle.fly_eval.proofs.RuleKept.{whole-kept}

replicate-more : {X : Type 0} (a b : ℕ) (x : X) → a ≤ b → replicate b x ≡ replicate a x ++ replicate (b - a) x
replicate-more a b x le =
    let whole : a + (b - a) ≡ b = omega arith in
    sym (ap (λ n. replicate n x) whole) ∙ sym (replicate-append-replicate a (b - a) x)

-- the later list begins with the one before
abbrev Begins : List LiteralMap → List LiteralMap → Type 0
Begins before after = (more : List LiteralMap) × (after ≡ before ++ more)

begins-nothing : (before after : List LiteralMap) → before ≡ [] → Begins before after
begins-nothing before after none = (after, sym (ap (λ xs. xs ++ after) none))

-- each that was told is told later
abbrev AreToldLater : List Seen → List Seen → Type 0
AreToldLater before after = (x : Seen) → Contains before x → (y : Seen) × Contains after y × IsKeptSeen x y

told-nothing : (before after : List Seen) → before ≡ [] → AreToldLater before after
told-nothing before after none x has = absurd (Contains-nil x (subst (λ xs. Contains xs x) none has))

both-lists : (a b c d : List Seen) → a ≡ b → c ≡ d → AreToldLater b d → AreToldLater a c
both-lists a b c d e f later = subst (λ xs. AreToldLater xs c) (sym e) (subst (λ ys. AreToldLater b ys) (sym f) later)

-- ---- what is told of a node that is entered, by what it runs

items-of-array : (plan : RunPlan) (results : Results) (p : PlanNode) (given : LiteralMap) (list : List Seen) (id : Identifier)
    (min_successes : Option ℕ) → out-Target p.node.target ≡ Target-F.Array id min_successes
    → map (seen_item plan p given) (enumerate_from 0 (items_attempts plan results p given)) ≡ list
    → seen_items plan results p (record { standing = ready; inputs = Ok given }) ≡ list
items-of-array plan results p given list id min_successes is e = rw is e

attempts-of-task : (plan : RunPlan) (results : Results) (hits : Hits) (p : PlanNode) (given : LiteralMap) (list : List LiteralMap) (id : Identifier)
    → out-Target p.node.target ≡ Target-F.Task id → replicate (task_attempts plan results hits p).count given ≡ list
    → seen_attempts plan results hits p (record { standing = ready; inputs = Ok given }) ≡ list
attempts-of-task plan results hits p given list id is e = rw is e

-- ---- items

item-kept : (plan : RunPlan) (p : PlanNode) (given : LiteralMap) (n : ℕ) (a b : Attempts) → IsKeptAttempts a b
    → IsKeptSeen (seen_item plan p given (n, a)) (seen_item plan p given (n, b))
item-kept plan p given n a b kept =
    let taken = item_inputs (mapped_of plan.documents p.workflow p.node) n given in
    record {
      path = refl;
      item = refl;
      verdict = kept.verdict;
      attempts = (replicate (b.count - a.count) taken, replicate-more a.count b.count taken kept.count);
    }

each-item : (plan : RunPlan) (p : PlanNode) (given : LiteralMap) (f g : ℕ → Attempts) (n : ℕ) (items : List ℕ)
    → ((item : ℕ) → IsKeptAttempts (f item) (g item))
    → AreToldLater (map (seen_item plan p given) (enumerate_from n (map f items))) (map (seen_item plan p given) (enumerate_from n (map g items)))
each-item plan p given f g n [] each x has = absurd (Contains-nil x has)
each-item plan p given f g n (item ∷ items) each x has =
    let now = map (seen_item plan p given) (enumerate_from (n + 1) (map f items)) in
    let then = map (seen_item plan p given) (enumerate_from (n + 1) (map g items)) in
    let one = seen_item plan p given (n, g item) in
    ⊎_elim (λ here. (one, first_in one then, subst (λ z. IsKeptSeen z one) here (item-kept plan p given n (f item) (g item) (each item))))
    (λ there.
    let found = each-item plan p given f g (n + 1) items each x there in
    (found.0, later_in one then found.0 found.1, found.2))
    (Contains-cons_cases (seen_item plan p given (n, f item)) now x has)

module _ (plan : RunPlan) (results later : Results) (hits later_hits : Hits) (more : HasResultsOf later results)
    (grows : HasHitsOf later_hits hits) where
  items-told : (p : PlanNode) (given : LiteralMap)
      → AreToldLater (map (seen_item plan p given) (enumerate_from 0 (items_attempts plan results p given)))
      (map (seen_item plan p given) (enumerate_from 0 (items_attempts plan later p given)))
  items-told p given =
      each-item plan p given (λ item. attempts_of results (item_slot p item) (attempt_limit plan p))
      (λ item. attempts_of later (item_slot p item) (attempt_limit plan p)) 0 (range_with_len 0 (count_of_items plan p given))
      (λ item. attempts-kept results later more (item_slot p item) (attempt_limit plan p))

  -- the items of a node that is entered with these inputs
  items-entered : (p : PlanNode) (given : LiteralMap) (t : Target-F Target Case Node) → out-Target p.node.target ≡ t
      → AreToldLater (seen_items plan results p (record { standing = ready; inputs = Ok given }))
      (seen_items plan later p (record { standing = ready; inputs = Ok given }))
  items-entered p given (Target-F.Array id min_successes) is =
      let e : Entering = record { standing = ready; inputs = Ok given } in
      let now = map (seen_item plan p given) (enumerate_from 0 (items_attempts plan results p given)) in
      let then = map (seen_item plan p given) (enumerate_from 0 (items_attempts plan later p given)) in
      both-lists (seen_items plan results p e) now (seen_items plan later p e) then
      (items-of-array plan results p given now id min_successes is refl) (items-of-array plan later p given then id min_successes is refl)
      (items-told p given)
  items-entered p given (Target-F.Task id) is =
      let e : Entering = record { standing = ready; inputs = Ok given } in
      told-nothing (seen_items plan results p e) (seen_items plan later p e) (rw is refl)
  items-entered p given (Target-F.Workflow id) is =
      let e : Entering = record { standing = ready; inputs = Ok given } in
      told-nothing (seen_items plan results p e) (seen_items plan later p e) (rw is refl)
  items-entered p given (Target-F.Branch cases otherwise error) is =
      let e : Entering = record { standing = ready; inputs = Ok given } in
      told-nothing (seen_items plan results p e) (seen_items plan later p e) (rw is refl)

  items-kept : (p : PlanNode) (s : Standing) (t : Taken LiteralMap) (after : Entering) → IsKeptEntering (record { standing = s; inputs = t }) after
      → AreToldLater (seen_items plan results p (record { standing = s; inputs = t })) (seen_items plan later p after)
  items-kept p waiting t after kept = λ x has. absurd (Contains-nil x has)
  items-kept p blocked t after kept = λ x has. absurd (Contains-nil x has)
  items-kept p skipped t after kept = λ x has. absurd (Contains-nil x has)
  items-kept p ready (Err fault) after kept = λ x has. absurd (Contains-nil x has)
  items-kept p ready (Ok given) after kept =
      let e : Entering = record { standing = ready; inputs = Ok given } in
      subst (λ (x : Entering). AreToldLater (seen_items plan results p e) (seen_items plan later p x)) (sym (kept.enters refl))
      (items-entered p given (out-Target p.node.target) refl)

  -- ---- nodes

  attempts-entered : (p : PlanNode) (given : LiteralMap) (t : Target-F Target Case Node) → out-Target p.node.target ≡ t
      → Begins (seen_attempts plan results hits p (record { standing = ready; inputs = Ok given }))
      (seen_attempts plan later later_hits p (record { standing = ready; inputs = Ok given }))
  attempts-entered p given (Target-F.Task id) is =
      let e : Entering = record { standing = ready; inputs = Ok given } in
      let a = task_attempts plan results hits p in
      let b = task_attempts plan later later_hits p in
      let kept = task-kept results later more plan hits later_hits p grows in
      let now : seen_attempts plan results hits p e ≡ replicate a.count given =
      attempts-of-task plan results hits p given (replicate a.count given) id is refl in
      let then : seen_attempts plan later later_hits p e ≡ replicate b.count given =
      attempts-of-task plan later later_hits p given (replicate b.count given) id is refl in (
        replicate (b.count - a.count) given,
        then ∙ replicate-more a.count b.count given kept.count ∙ ap (λ xs. xs ++ replicate (b.count - a.count) given) (sym now),
      )
  attempts-entered p given (Target-F.Array id min_successes) is =
      let e : Entering = record { standing = ready; inputs = Ok given } in
      begins-nothing (seen_attempts plan results hits p e) (seen_attempts plan later later_hits p e) (rw is refl)
  attempts-entered p given (Target-F.Workflow id) is =
      let e : Entering = record { standing = ready; inputs = Ok given } in
      begins-nothing (seen_attempts plan results hits p e) (seen_attempts plan later later_hits p e) (rw is refl)
  attempts-entered p given (Target-F.Branch cases otherwise error) is =
      let e : Entering = record { standing = ready; inputs = Ok given } in
      begins-nothing (seen_attempts plan results hits p e) (seen_attempts plan later later_hits p e) (rw is refl)

  attempts-begin : (p : PlanNode) (s : Standing) (t : Taken LiteralMap) (after : Entering)
      → IsKeptEntering (record { standing = s; inputs = t }) after
      → Begins (seen_attempts plan results hits p (record { standing = s; inputs = t })) (seen_attempts plan later later_hits p after)
  attempts-begin p waiting t after kept = (seen_attempts plan later later_hits p after, refl)
  attempts-begin p blocked t after kept = (seen_attempts plan later later_hits p after, refl)
  attempts-begin p skipped t after kept = (seen_attempts plan later later_hits p after, refl)
  attempts-begin p ready (Err fault) after kept = (seen_attempts plan later later_hits p after, refl)
  attempts-begin p ready (Ok given) after kept =
      let e : Entering = record { standing = ready; inputs = Ok given } in
      subst (λ (x : Entering). Begins (seen_attempts plan results hits p e) (seen_attempts plan later later_hits p x)) (sym (kept.enters refl))
      (attempts-entered p given (out-Target p.node.target) refl)

  module _ (before after : Sight) (kept : IsKeptSight before after) where
    node-told : (at : ℕ × PlanNode) → AreToldLater (seen_node plan results hits before at) (seen_node plan later later_hits after at)
    node-told at x has =
        let e = before.entering at.0 in
        let d = after.entering at.0 in
        let now : Seen = record { path = at.1.path; item = None; verdict = before.verdict at.0; attempts = seen_attempts plan results hits at.1 e } in
        let then : Seen =
        record { path = at.1.path; item = None; verdict = after.verdict at.0; attempts = seen_attempts plan later later_hits at.1 d } in
        let stays : IsKeptSeen now then = record {
          path = refl;
          item = refl;
          verdict = kept.verdict at.0;
          attempts = attempts-begin at.1 e.standing e.inputs d (kept.entering at.0);
        } in
        ⊎_elim (λ here. (then, first_in then (seen_items plan later at.1 d), subst (λ z. IsKeptSeen z then) here stays))
        (λ there.
        let found = items-kept at.1 e.standing e.inputs d (kept.entering at.0) x there in
        (found.0, later_in then (seen_items plan later at.1 d) found.0 found.1, found.2))
        (Contains-cons_cases now (seen_items plan results at.1 e) x has)

    nodes-told : (nodes : List (ℕ × PlanNode))
        → AreToldLater (flat_map (seen_node plan results hits before) nodes) (flat_map (seen_node plan later later_hits after) nodes)
    nodes-told nodes x has =
        let at = of_flat_map (seen_node plan results hits before) nodes x has in
        let found = node-told at.0 x at.2 in
        (found.0, Contains-flat_map (seen_node plan later later_hits after) nodes at.0 found.0 at.1 found.1, found.2)

-- later records keep the verdicts
pub evaluation-kept : (plan : RunPlan) (inputs : LiteralMap) (results later : Results) (hits later_hits : Hits)
    → HasResultsOf later results → HasHitsOf later_hits hits
    → IsKeptEvaluation (evaluation_of plan inputs results hits) (evaluation_of plan inputs later later_hits)
evaluation-kept plan inputs results later hits later_hits more grows =
    let before = whole_sight plan inputs results hits in
    let after = whole_sight plan inputs later later_hits in
    let kept = whole-kept plan inputs results later hits later_hits more grows in
    record {
      root = verdict_in_instance-kept plan inputs before after kept [] refl;
      list = nodes-told plan results later hits later_hits more grows before after kept (enumerate_from 0 plan.nodes);
    }
