-- How a node is entered is kept where what it looks at is kept.
use Rattle.std.proofs.Common.{◌≡◌, ℕ, Bool, true, false, not, if◌then◌else◌, [], ◌∷◌, ◌++◌, map, bytes_eq, Contains, Option, Some, None, option_and_then, Ok, Err, refl, sym, ◌∙◌, ap, subst}
use Rattle.std.proofs.lemmas.List.Elements.{Contains-append_left}
use Rattle.std.proofs.lemmas.Option.{same_Some}
use Rattle.fly_types.specs.declared.text.Text.{Text}
use Rattle.fly_types.specs.declared.literals.LiteralMap.{LiteralMap}
use Rattle.fly_docs.specs.Names.{start_node}
use Rattle.fly_docs.specs.Bindings.{sources_of}
use Rattle.fly_docs.specs.Edges.{named_ids}
use Rattle.fly_docs.specs.Plans.{PlanNode}
use Rattle.fly_docs.specs.SlotInputs.{Taken, node_inputs}
use Rattle.fly_rules.specs.Standing.{Standing, waiting, blocked, skipped, ready, is_waiting_standing}
use Rattle.fly_graph.proofs.Members.{Contains-filter_from}
use Rattle.fly_state.specs.Plans.{RunPlan, Path, number_of, number_in, instance_of, named_numbers}
use Rattle.fly_state.proofs.Lists.{in_filter_map}
use Rattle.fly_eval.specs.Evaluation.{Entering, Sight, shut_out, sign_of, own_standing, outputs_in, inputs_in, instance_inputs, known_in, inside, own_entering, outer_of, entering_of, is_pending}
use Rattle.fly_eval.proofs.Kept.{IsKeptEntering, IsKeptSight, entering-itself, awaited-kept}
use Rattle.fly_eval.proofs.KnownSame.{node_inputs-same}
use Rattle.fly_eval.proofs.StandingKept.{own_standing-kept, own-ready, ready-among, none-pending}

option-same : {X Y : Type 0} (f g : X → Option Y) (o : Option X) → ((x : X) → o ≡ Some x → f x ≡ g x) → option_and_then f o ≡ option_and_then g o
option-same f g None same = refl
option-same f g (Some x) same = same x refl

if-same : {X : Type 0} (b : Bool) (x y z w : X) → (b ≡ true → x ≡ z) → (b ≡ false → y ≡ w) → (if b then x else y) ≡ (if b then z else w)
if-same true x y z w first second = first refl
if-same false x y z w first second = second refl

-- ---- the workflow node around

inside-blocked : (outer own : Entering) → outer.standing ≡ blocked → inside outer own ≡ shut_out
inside-blocked outer own is = rw is refl

inside-skipped : (outer own : Entering) → outer.standing ≡ skipped → inside outer own ≡ shut_out
inside-skipped outer own is = rw is refl

inside-kept : (s : Standing) (t : Taken LiteralMap) (outer own later : Entering) → IsKeptEntering (record { standing = s; inputs = t }) outer
    → (s ≡ ready → IsKeptEntering own later) → IsKeptEntering (inside (record { standing = s; inputs = t }) own) (inside outer later)
inside-kept waiting t outer own later kept within = awaited-kept (inside outer later)
inside-kept blocked t outer own later kept within =
    subst (λ e. IsKeptEntering shut_out e) (sym (inside-blocked outer later (kept.blocks refl))) (entering-itself shut_out)
inside-kept skipped t outer own later kept within =
    subst (λ e. IsKeptEntering shut_out e) (sym (inside-skipped outer later (kept.skips refl))) (entering-itself shut_out)
inside-kept ready (Err fault) outer own later kept within =
    subst (λ e. IsKeptEntering shut_out (inside e later)) (sym (kept.enters refl)) (entering-itself shut_out)
inside-kept ready (Ok given) outer own later kept within =
    subst (λ e. IsKeptEntering own (inside e later)) (sym (kept.enters refl)) (within refl)

entering-plain : (plan : RunPlan) (inputs : LiteralMap) (sight : Sight) (p : PlanNode) → outer_of plan p ≡ None
    → entering_of plan inputs sight p ≡ own_entering plan inputs sight p
entering-plain plan inputs sight p is = rw is refl

entering-inside : (plan : RunPlan) (inputs : LiteralMap) (sight : Sight) (p : PlanNode) (outer : ℕ) → outer_of plan p ≡ Some outer
    → entering_of plan inputs sight p ≡ inside (sight.entering outer) (own_entering plan inputs sight p)
entering-inside plan inputs sight p outer is = rw is refl

both-entering : (a b c d : Entering) → a ≡ b → c ≡ d → IsKeptEntering b d → IsKeptEntering a c
both-entering a b c d e f kept = subst (λ x. IsKeptEntering x c) (sym e) (subst (λ y. IsKeptEntering b y) (sym f) kept)

module _ (plan : RunPlan) (inputs : LiteralMap) (before after : Sight) (kept : IsKeptSight before after) where
  -- ---- what is known in an instance

  -- its inputs, where the node around it is entered in the same way
  pub instance-same : (path : Path) → ((j : ℕ) → number_of plan path ≡ Some j → after.entering j ≡ before.entering j)
      → instance_inputs plan inputs after path ≡ instance_inputs plan inputs before path
  instance-same [] same = refl
  instance-same (id ∷ ids) same =
      option-same (λ i. inputs_in (after.entering i).inputs) (λ i. inputs_in (before.entering i).inputs) (number_of plan (id ∷ ids))
      (λ j is. ap (λ (e : Entering). inputs_in e.inputs) (same j is))

  -- what is under an id, by the instance's inputs and by the node of this id
  pub known-same : (instance : Path) (id : Text)
      → (bytes_eq id start_node ≡ true → instance_inputs plan inputs after instance ≡ instance_inputs plan inputs before instance)
      → (bytes_eq id start_node ≡ false → (i : ℕ) → number_in plan instance id ≡ Some i → after.verdict i ≡ before.verdict i)
      → known_in plan inputs after instance id ≡ known_in plan inputs before instance id
  known-same instance id start node =
      if-same (bytes_eq id start_node) (instance_inputs plan inputs after instance)
      (option_and_then (λ i. outputs_in (after.verdict i)) (number_in plan instance id))
      (instance_inputs plan inputs before instance)
      (option_and_then (λ i. outputs_in (before.verdict i)) (number_in plan instance id))
      start
      (λ other. option-same (λ i. outputs_in (after.verdict i)) (λ i. outputs_in (before.verdict i)) (number_in plan instance id)
      (λ i is. ap outputs_in (node other i is)))

  -- ---- a node

  -- who is ready has named none that is pending
  named-ended : (p : PlanNode) → own_standing plan before p ≡ ready → (i : ℕ) → Contains (named_numbers plan p) i
      → is_pending (before.verdict i) ≡ false
  named-ended p is i has =
      none-pending before (named_numbers plan p) i
      (ready-among (map (λ j. sign_of (before.verdict j)) (named_numbers plan p)) (own-ready plan before p is)) has

  -- what it promises from is among what it names
  source-named : (p : PlanNode) (id : Text) → Contains (sources_of p.node.inputs) id → bytes_eq id start_node ≡ false → Contains (named_ids p.node) id
  source-named p id has other =
      Contains-filter_from (λ (other_id : Text). not (bytes_eq other_id start_node)) (sources_of p.node.inputs ++ p.node.upstream) id
      (Contains-append_left (sources_of p.node.inputs) p.node.upstream id has) (ap not other)

  inputs-same : (p : PlanNode) → own_standing plan before p ≡ ready
      → instance_inputs plan inputs after (instance_of p) ≡ instance_inputs plan inputs before (instance_of p)
      → node_inputs plan.documents p.workflow (known_in plan inputs after (instance_of p)) p.node
      ≡ node_inputs plan.documents p.workflow (known_in plan inputs before (instance_of p)) p.node
  inputs-same p is around =
      node_inputs-same plan.documents p.workflow (known_in plan inputs after (instance_of p)) (known_in plan inputs before (instance_of p)) p.node
      (λ id has. known-same (instance_of p) id (λ start. around) (λ other i numbered.
      kept.verdict i (named-ended p is i
      (in_filter_map (number_in plan (instance_of p)) (named_ids p.node) id i (source-named p id has other) numbered))))

  own-kept : (p : PlanNode) → ((j : ℕ) → outer_of plan p ≡ Some j → after.entering j ≡ before.entering j)
      → IsKeptEntering (own_entering plan inputs before p) (own_entering plan inputs after p)
  own-kept p around =
      let stays = own_standing-kept before after kept plan p in
      record {
        blocks = λ is. stays (ap is_waiting_standing is) ∙ is;
        skips = λ is. stays (ap is_waiting_standing is) ∙ is;
        enters = λ is.
            let standing : own_standing plan after p ≡ own_standing plan before p = stays (ap is_waiting_standing is) in
            let taken : node_inputs plan.documents p.workflow (known_in plan inputs after (instance_of p)) p.node
            ≡ node_inputs plan.documents p.workflow (known_in plan inputs before (instance_of p)) p.node =
            inputs-same p is (instance-same (instance_of p) around) in
            λ i. record { standing = standing i; inputs = taken i };
      }

  -- how a node is entered
  pub entering-kept : (p : PlanNode) → IsKeptEntering (entering_of plan inputs before p) (entering_of plan inputs after p)
  entering-kept p = by (outer_of plan p) refl
    where
      by : (o : Option ℕ) → outer_of plan p ≡ o → IsKeptEntering (entering_of plan inputs before p) (entering_of plan inputs after p)
      by None is =
          both-entering (entering_of plan inputs before p) (own_entering plan inputs before p)
          (entering_of plan inputs after p) (own_entering plan inputs after p)
          (entering-plain plan inputs before p is) (entering-plain plan inputs after p is)
          (own-kept p (λ j some. let bad : None ≡ Some j = sym is ∙ some in cc))
      by (Some outer) is =
          both-entering (entering_of plan inputs before p) (inside (before.entering outer) (own_entering plan inputs before p))
          (entering_of plan inputs after p) (inside (after.entering outer) (own_entering plan inputs after p))
          (entering-inside plan inputs before p outer is) (entering-inside plan inputs after p outer is)
          (inside-kept (before.entering outer).standing (before.entering outer).inputs (after.entering outer)
          (own_entering plan inputs before p) (own_entering plan inputs after p) (kept.entering outer) (λ entered.
          own-kept p (λ j some.
          let same : outer ≡ j = same_Some outer j (sym is ∙ some) in
          subst (λ k. after.entering k ≡ before.entering k) same ((kept.entering outer).enters entered))))
