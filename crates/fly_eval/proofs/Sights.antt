-- What evaluation says of a node, in a plan of task nodes: how it is entered goes by those that it looks at, and its verdict by its attempts.
use Rattle.std.proofs.Common.{◌≡◌, ℕ, ◌/◌, ◌<◌, List, [], ◌∷◌, map, length, Contains, Some, refl, sym, ◌∙◌, ap, subst, arith}
use Rattle.std.specs.List.{slice_get}
use Rattle.std.proofs.lemmas.Option.{slice_get_within}
use Rattle.fly_types.specs.declared.text.Text.{Text}
use Rattle.fly_types.specs.declared.literals.LiteralMap.{LiteralMap}
use Rattle.fly_docs.specs.declared.names.Identifier.{Identifier}
use Rattle.fly_docs.specs.declared.node.Node.{Node}
use Rattle.fly_docs.specs.declared.node.Target.{out-Target}
use Rattle.fly_docs.specs.declared.node.Target.TheOpen.{Target-F}
use Rattle.fly_docs.specs.declared.workflow.Workflow.{Workflow}
use Rattle.fly_docs.specs.Bindings.{sources_of}
use Rattle.fly_docs.specs.Plans.{PlanNode}
use Rattle.fly_docs.specs.SlotInputs.{Known, node_inputs}
use Rattle.fly_rules.specs.Rules.{values_at}
use Rattle.fly_rules.specs.Standing.{standing_among}
use Rattle.fly_rules.proofs.GroundLemmas.{Contains-map}
use Rattle.fly_state.specs.PlanTables.{IsOuterPlan, outer_node}
use Rattle.fly_state.specs.Plans.{RunPlan, looks}
use Rattle.fly_state.proofs.AskedInputs.{task-there}
use Rattle.fly_state.proofs.Lists.{first_in, later_in}
use Rattle.fly_state.proofs.OuterPlans.{case-none, count-outer}
use Rattle.fly_eval.specs.declared.verdict.Verdict.{Verdict}
use Rattle.fly_eval.specs.declared.results.Results.{Results}
use Rattle.fly_eval.specs.declared.results.Hits.{Hits}
use Rattle.fly_eval.specs.Evaluation.{Entering, Sight, entered, judged, entering_point, verdict_point, entering_in, verdict_in, sight_in, sign_of, standing_by_names, own_standing, known_in, own_entering, entering_of, task_attempts, verdict_entered, verdict_by, verdict_of, looks_of_point, told_at_point, told, whole_sight}
use Rattle.fly_eval.proofs.KnownSame.{node_inputs-same}
use Rattle.fly_eval.proofs.Points.{half-odd, is-even, is-odd, told-in, outer-none, at-entering, at-verdict, named-looked, entering-looks, verdict-looks, told-entering, told-verdict}

map-same : {X Y : Type 0} (f g : X → Y) (xs : List X) → ((x : X) → Contains xs x → f x ≡ g x) → map f xs ≡ map g xs
map-same f g [] same = refl
map-same f g (x ∷ xs) same =
    ap (λ y. y ∷ map f xs) (same x (first_in x xs)) ∙ ap (λ ys. g x ∷ ys) (map-same f g xs (λ y has. same y (later_in x xs y has)))

-- an entered node of a task comes to what its attempts do
task-entered : (plan : RunPlan) (inputs : LiteralMap) (results : Results) (hits : Hits) (sight : Sight) (p : PlanNode) (id : Identifier)
    (given : LiteralMap) (v : Verdict) → out-Target p.node.target ≡ Target-F.Task id → (task_attempts plan results hits p).verdict ≡ v
    → verdict_entered plan inputs results hits sight p given ≡ v
task-entered plan inputs results hits sight p id given v is e = rw is e

module _ (plan : RunPlan) (w : Workflow) (outer : IsOuterPlan plan w) (inputs : LiteralMap) (results : Results) (hits : Hits) where
  abbrev sight : Sight
  sight = whole_sight plan inputs results hits

  module _ (i : ℕ) (n : Node) (there : slice_get w.nodes i ≡ Some n) where
    abbrev p : PlanNode
    p = outer_node w (i, n)

    pub small : i < length plan.nodes
    small = omega (arith, slice_get_within w.nodes i n there, count-outer plan w outer)

    -- ---- how it is entered

    -- what is seen there
    abbrev pub seen : Sight
    seen = sight_in (values_at (told plan inputs results hits) (looks_of_point plan (entering_point i)))

    pub seen-verdict : (j : ℕ) → Contains (looks plan i) j → seen.verdict j ≡ sight.verdict j
    seen-verdict j has =
        ap verdict_in
        (told-in (told plan inputs results hits) (looks_of_point plan (entering_point i)) (verdict_point j)
        (subst (λ us. Contains us (verdict_point j)) (sym (entering-looks plan w outer i n there)) (Contains-map verdict_point (looks plan i) j has)))

    told-entered : told_at_point plan inputs results hits (entering_point i) seen ≡ entered (entering_of plan inputs seen p)
    told-entered = let at = at-entering plan w outer i n there in let even = is-even i in rw (at, even) refl

    entered-plain : entering_of plan inputs seen p ≡ own_entering plan inputs seen p
    entered-plain = let around = outer-none plan w outer i n there in rw around refl

    entered-is : sight.entering i ≡ own_entering plan inputs seen p
    entered-is =
        ap (λ t. entering_in (Some t)) (told-entering plan w outer inputs results hits i small ∙ told-entered ∙ ap entered entered-plain)

    stands-plain : own_standing plan seen p ≡ standing_by_names plan seen p
    stands-plain = let none = case-none plan w outer p in rw none refl

    -- it stands by the verdicts of those that it looks at
    pub standing-is : (sight.entering i).standing ≡ standing_among (map (λ j. sign_of (sight.verdict j)) (looks plan i))
    standing-is =
        ap (λ (e : Entering). e.standing) entered-is
        ∙ stands-plain
        ∙ ap (λ us. standing_among (map (λ j. sign_of (seen.verdict j)) us)) (named-looked plan w outer i n there)
        ∙ ap standing_among
        (map-same (λ j. sign_of (seen.verdict j)) (λ j. sign_of (sight.verdict j)) (looks plan i) (λ j has. ap sign_of (seen-verdict j has)))

    -- its inputs, by what is known of those that it promises from
    pub inputs-are : (known : Known) → ((id : Text) → Contains (sources_of n.inputs) id → known_in plan inputs seen [] id ≡ known id)
        → (sight.entering i).inputs ≡ node_inputs plan.documents w known n
    inputs-are known same =
        ap (λ (e : Entering). e.inputs) entered-is ∙ node_inputs-same plan.documents w (known_in plan inputs seen []) known n same

    -- ---- its verdict

    abbrev seen_judged : Sight
    seen_judged = sight_in (values_at (told plan inputs results hits) (looks_of_point plan (verdict_point i)))

    sees-own : seen_judged.entering i ≡ sight.entering i
    sees-own =
        ap entering_in
        (told-in (told plan inputs results hits) (looks_of_point plan (verdict_point i)) (entering_point i)
        (subst (λ us. Contains us (entering_point i)) (sym (verdict-looks plan w outer i n there)) (first_in (entering_point i) [])))

    told-judged : told_at_point plan inputs results hits (verdict_point i) seen_judged
        ≡ judged (verdict_of plan inputs results hits seen_judged (verdict_point i / 2) p)
    told-judged = let at = at-verdict plan w outer i n there in let odd = is-odd i in rw (at, odd) refl

    run-is : (given : LiteralMap) → verdict_entered plan inputs results hits seen_judged p given ≡ (task_attempts plan results hits p).verdict
    run-is given =
        let task = task-there plan w outer i n there in
        task-entered plan inputs results hits seen_judged p task.0 given (task_attempts plan results hits p).verdict task.2 refl

    pub verdict-is : sight.verdict i
        ≡ verdict_by (sight.entering i).standing (sight.entering i).inputs (λ given. (task_attempts plan results hits p).verdict)
    verdict-is =
        ap (λ t. verdict_in (Some t))
        (told-verdict plan w outer inputs results hits i small ∙ told-judged
        ∙ ap (λ j. judged (verdict_of plan inputs results hits seen_judged j p)) (half-odd i))
        ∙ (λ k. verdict_by (sees-own k).standing (sees-own k).inputs (λ given. run-is given k))
