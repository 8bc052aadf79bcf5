-- The launches of each slot, by its numbers and by its names.
use Rattle.std.proofs.Common.{◌≡◌, ℕ, ◌+◌, ◌≤◌, ◌==◌, nat_eq, false, ◌&&◌, cond, List, length, drop, bytes_eq, Option, Some, None, option_map, option_and_then, refl, sym, ap, subst, ◌∙◌, arith}
use Rattle.std.specs.Prelude.{Decides}
use Rattle.std.specs.List.{slice_get}
use Rattle.std.specs.Option.{option_eq, option_map_or}
use Rattle.std.specs.Cmp.Lexicographic.{pointwise_decides}
use Rattle.std.proofs.lemmas.List.Sums.{sum_by-append, count_by-le-length}
use Rattle.std.proofs.lemmas.Option.{none-some, same_Some, slice_get-map}
use Rattle.std.proofs.lemmas.Slice.Eq.{bytes_eq-Decides}
use Rattle.fly_types.specs.declared.text.Text.{Text}
use Rattle.fly_docs.specs.declared.attempt_name.AttemptName.{AttemptName}
use Rattle.fly_docs.specs.declared.node.Node.{Node}
use Rattle.fly_docs.specs.declared.workflow.Workflow.{Workflow}
use Rattle.fly_docs.specs.Plans.{PlanNode}
use Rattle.fly_state.specs.declared.entries.Entry.{Entry}
use Rattle.fly_state.specs.declared.entries.Op.{Op}
use Rattle.fly_state.specs.declared.entries.Op.TheVariants as op
use Rattle.fly_state.specs.declared.entries.Reply.{Reply}
use Rattle.fly_state.specs.declared.entries.Reply.TheVariants as reply
use Rattle.fly_state.specs.PlanTables.{IsOuterPlan, outer_node}
use Rattle.fly_state.specs.Plans.{RunPlan, Path, same_path, node_numbered, number_of}
use Rattle.fly_state.proofs.OuterNodes.{number_of-own}
use Rattle.fly_state.proofs.OuterPlans.{numbered-outer}
use Rattle.fly_state.proofs.PlanLemmas.{and-false}
use Rattle.fly_world.specs.World.{World, Execution}
use Rattle.fly_world.specs.ReadOff.{launched_in, launches_by}
use Rattle.fly_world.specs.Versions.{HasNamesOfPlan, execution_names}
use Rattle.fly_report.specs.declared.launches.Slot.{Slot}
use Rattle.fly_report.specs.declared.launches.LaunchCounts.{LaunchCounts}
use Rattle.fly_report.specs.Launches.{is_attempt_of, launch_count}
use Rattle.fly_report.specs.LaunchCounts.{Numbers, numbered_in, slot_numbered, same_slot, is_at, count_at, NumbersExecutions, CountsEntries, CountsLaunches}
use Rattle.fly_report.proofs.Places.{drop-next, own-place, distinct-place, count_by-alike}

-- ---- by the numbers

-- an entry launches one attempt at most
one-launch : (o : Op) (r : Reply) → length (launches_by o r) ≤ 1
one-launch (op.Launch name inputs) reply.Launched = omega arith
one-launch _ _ = omega arith

module _ (plan : RunPlan) (numbers : Numbers) (slot : Slot) where
  -- the launches from a place on are that of its entry and those behind it
  pub count-next : (es : List Entry) (place : ℕ) (e : Entry) → slice_get es place ≡ Some e
      → count_at plan numbers slot (launched_in (drop place es))
      ≡ count_at plan numbers slot (launches_by e.op e.reply)
      + count_at plan numbers slot (launched_in (drop (place + 1) es))
  count-next es place e there =
      ap (λ l. count_at plan numbers slot (launched_in l)) (drop-next es place e there)
      ∙ sum_by-append (λ n. cond (is_at plan numbers slot n) 1 0) (launches_by e.op e.reply)
      (launched_in (drop (place + 1) es))

  -- an entry launches one attempt at most
  pub count-few : (e : Entry) → count_at plan numbers slot (launches_by e.op e.reply) ≤ 1
  count-few e =
      let fewer = count_by-le-length (is_at plan numbers slot) (launches_by e.op e.reply) in
      omega (arith, fewer, one-launch e.op e.reply)

-- ---- by the names

same_path-Decides : (a b : Path) → Decides (same_path a b) (a ≡ b)
same_path-Decides = pointwise_decides bytes_eq-Decides

module _ (plan : RunPlan) (w : World) (numbers : Numbers) (numbered : NumbersExecutions w numbers)
    (outer : (wf : Workflow) × IsOuterPlan plan wf) (names : HasNamesOfPlan plan w) where
  -- a node has the number of its path
  own-number : (i : ℕ) (p : PlanNode) → node_numbered plan i ≡ Some p → number_of plan p.path ≡ Some i
  own-number i p there = by (slice_get outer.0.nodes i) refl
    where
      by : (o : Option Node) → slice_get outer.0.nodes i ≡ o → number_of plan p.path ≡ Some i
      by None is =
          absurd (none-some p (sym (ap (option_map (λ n. outer_node outer.0 (i, n))) is)
          ∙ sym (numbered-outer plan outer.0 outer.1 i) ∙ there))
      by (Some n) is =
          let same : outer_node outer.0 (i, n) ≡ p =
          same_Some _ _ (sym (ap (option_map (λ m. outer_node outer.0 (i, m))) is)
          ∙ sym (numbered-outer plan outer.0 outer.1 i) ∙ there) in
          subst (λ (q : PlanNode). number_of plan q.path ≡ Some i) same (number_of-own plan outer.0 outer.1 i n is)

  module _ (e i : ℕ) (x : Execution) (p : PlanNode) (item : Option ℕ)
      (execution : slice_get w.executions e ≡ Some x) (node : node_numbered plan i ≡ Some p) where
    of_execution : (exec : Text) → option_map_or (λ j. j == e) (numbered_in numbers exec) false ≡ bytes_eq exec x.name
    of_execution exec =
        let ks : List Text = execution_names w in
        let there : slice_get ks e ≡ Some x.name =
        slice_get-map (λ (y : Execution). y.name) w.executions e
        ∙ ap (option_map (λ (y : Execution). y.name)) execution in
        ap (λ o. option_map_or (λ j. j == e) o false) (numbered exec)
        ∙ own-place bytes_eq bytes_eq-Decides (λ k. k) ks e x.name there
        (distinct-place bytes_eq bytes_eq-Decides ks names.distinct e x.name there) exec

    of_node : (path : Path) → option_map_or (λ j. j == i) (number_of plan path) false ≡ same_path path p.path
    of_node path =
        own-place same_path same_path-Decides (λ (q : PlanNode). q.path) plan.nodes i p node (own-number i p node) path

    -- the numbers of an attempt are those of the slot where its names are
    same-attempt : (name : AttemptName)
        → is_at plan numbers (slot_numbered e i item) name ≡ is_attempt_of x.name p.path item name
    same-attempt name =
        by (numbered_in numbers name.exec) (number_of plan name.path) (of_execution name.exec) (of_node name.path)
      where
        by : (o r : Option ℕ) → option_map_or (λ j. j == e) o false ≡ bytes_eq name.exec x.name
            → option_map_or (λ j. j == i) r false ≡ same_path name.path p.path
            → option_map_or (λ own. same_slot own (slot_numbered e i item))
            (option_and_then (λ j. option_map (λ k. slot_numbered j k name.item) r) o) false
            ≡ is_attempt_of x.name p.path item name
        by None r its-execution its-node =
            ap (λ b. b && (same_path name.path p.path && option_eq nat_eq name.item item)) its-execution
        by (Some j) None its-execution its-node =
            sym (and-false (bytes_eq name.exec x.name))
            ∙ ap (λ b. bytes_eq name.exec x.name && (b && option_eq nat_eq name.item item)) its-node
        by (Some j) (Some k) its-execution its-node =
            λ t. its-execution t && (its-node t && option_eq nat_eq name.item item)

    pub counts-named : count_at plan numbers (slot_numbered e i item) (launched_in w.entries)
        ≡ launch_count w x.name p.path item
    counts-named = count_by-alike (is_at plan numbers (slot_numbered e i item))
        (is_attempt_of x.name p.path item) (launched_in w.entries) same-attempt

  -- a table of the journal's entries has the launches of each slot
  pub counts-launches : (c : LaunchCounts) → CountsEntries plan numbers w.entries c → CountsLaunches plan w c
  counts-launches c counts e i x p item execution node =
      counts (slot_numbered e i item) ∙ counts-named e i x p item execution node
