-- What a legal journal records of an execution is of its declared types.
use Rattle.std.proofs.Common.{◌≡◌, ℕ, List, flat_map, All, Contains, bytes_eq, Option, Some, None, option_and_then, option_to_list, refl, sym, subst, ap, ◌∙◌}
use Rattle.std.specs.List.{slice_get}
use Rattle.std.proofs.lemmas.List.Elements.{All-contains}
use Rattle.std.proofs.lemmas.Option.{same_Some}
use Rattle.fly_types.specs.declared.text.Text.{Text}
use Rattle.fly_types.specs.declared.literals.LiteralMap.{LiteralMap}
use Rattle.fly_graph.proofs.Members.{Contains-filter, Contains-nil}
use Rattle.fly_docs.specs.declared.attempt_name.AttemptName.{AttemptName}
use Rattle.fly_docs.specs.Plans.{PlanNode}
use Rattle.fly_policy.specs.Outcome.{AreOutputs}
use Rattle.fly_policy.specs.declared.outcome.Outcome.{Outcome}
use Rattle.fly_policy.specs.declared.outcome.Outcome.TheVariants as outcome
use Rattle.fly_state.specs.declared.entries.Entry.{Entry}
use Rattle.fly_state.specs.declared.entries.Op.{Op}
use Rattle.fly_state.specs.declared.entries.Op.TheVariants as op
use Rattle.fly_state.specs.declared.entries.Reply.{Reply}
use Rattle.fly_state.specs.declared.entries.Reply.TheVariants as reply
use Rattle.fly_state.specs.OfPlan.{IsEntryOfPlan, output_variables, item_output_variables}
use Rattle.fly_state.specs.Plans.{RunPlan, Path, node_numbered, number_of}
use Rattle.fly_state.proofs.FinalLemmas.{option_and_then-there}
use Rattle.fly_state.proofs.Lists.{in_one, of_map, of_flat_map, of_option}
use Rattle.fly_world.specs.World.{World, Execution}
use Rattle.fly_world.specs.Journals.{IsHistory}
use Rattle.fly_world.specs.Laws.{TellsJournal, settlement_of}
use Rattle.fly_world.specs.ReadOff.{settled_in, lookup_result, lookup_place, hits_of_move, written_moves}
use Rattle.fly_world.specs.Versions.{HasTypedRecords}
use Rattle.fly_world.proofs.TypeLemmas.{contained}
use Rattle.fly_eval.specs.Records.{AreTypedRecords}
use Rattle.fly_history.specs.Recorded.{recorded_results, recorded_hits}
use Rattle.fly_verdicts.proofs.FoundTyped.{history-entries}

-- what a look-up found is of the outputs of its node
answer-typed : (plan : RunPlan) (worker : ℕ) (o : Op) (r : Reply)
    → IsEntryOfPlan plan (record { worker = worker; op = o; reply = r }) → (h : Path × Option LiteralMap)
    → Contains (lookup_result (record { worker = worker; op = o; reply = r })) h
    → (i : ℕ) (p : PlanNode) (outputs : LiteralMap)
    → number_of plan h.0 ≡ Some i → node_numbered plan i ≡ Some p → h.1 ≡ Some outputs
    → AreOutputs (output_variables plan p) outputs
answer-typed plan worker (op.Lookup exec path) (reply.Hit content) fine h has i p outputs number planned is =
    let same = in_one (path, Some content) h has in
    subst (AreOutputs (output_variables plan p))
    (same_Some content outputs (ap (λ (x : Path × Option LiteralMap). x.1) same ∙ is))
    (fine exec path content i p refl refl
    (ap (λ (x : Path × Option LiteralMap). number_of plan x.0) same ∙ number) planned)
answer-typed plan worker (op.Lookup exec path) reply.Miss fine h has i p outputs number planned is =
    let same = in_one (path, None) h has in
    absurd (none-is outputs (ap (λ (x : Path × Option LiteralMap). x.1) same ∙ is))
  where
    none-is : (m : LiteralMap) → None ≡ Some m → ⊥
    none-is m e = cc
answer-typed plan worker _ _ fine h has i p outputs number planned is = absurd (Contains-nil h has)

module _ (plan : RunPlan) (closure : List ℕ) (journal : List Entry) (w : World)
    (history : IsHistory plan closure journal w)
    (typed : HasTypedRecords plan w) (tells : TellsJournal journal w) where
  settled-typed : (exec : Text) (r : AttemptName × Outcome) (i : ℕ) (p : PlanNode) (outputs : LiteralMap)
      → Contains (recorded_results journal exec).list r → number_of plan r.0.path ≡ Some i
      → node_numbered plan i ≡ Some p
      → r.1 ≡ outcome.Succeeded outputs → AreOutputs (item_output_variables plan p) outputs
  settled-typed exec r i p outputs has number planned is =
      let of_exec = Contains-filter (λ (x : AttemptName × Outcome). bytes_eq exec x.0.exec)
      (settled_in journal) r has in
      let s = of_map settlement_of w.outcomes r
      (subst (λ (xs : List (AttemptName × Outcome)). Contains xs r) (sym tells.settled) of_exec.0) in
      typed.recorded s.0 p outputs s.1 (ap (λ (x : AttemptName × Outcome). x.1) s.2 ∙ is)
      (i, ap (λ (x : AttemptName × Outcome). number_of plan x.0.path) s.2 ∙ number, planned)

  found-typed : (exec : Text) (h : Path × Option LiteralMap) (i : ℕ) (p : PlanNode) (outputs : LiteralMap)
      → Contains (recorded_hits journal exec).list h → number_of plan h.0 ≡ Some i → node_numbered plan i ≡ Some p
      → h.1 ≡ Some outputs → AreOutputs (output_variables plan p) outputs
  found-typed exec h i p outputs has number planned is =
      let move = of_flat_map (hits_of_move journal) (flat_map (written_moves exec) journal) h has in
      let cited = of_flat_map lookup_result
      (option_to_list (option_and_then (slice_get journal) (lookup_place move.0.step))) h move.2 in
      let place = option_and_then-there (slice_get journal) (lookup_place move.0.step) cited.0
      (of_option (option_and_then (slice_get journal) (lookup_place move.0.step)) cited.0 cited.1) in
      let entries : All (IsEntryOfPlan plan) journal =
      subst (All (IsEntryOfPlan plan)) tells.entries (history-entries plan closure journal w history) in
      answer-typed plan cited.0.worker cited.0.op cited.0.reply
      (All-contains (IsEntryOfPlan plan) journal cited.0 entries (contained journal place.0 cited.0 place.2))
      h cited.2 i p outputs number planned is

  pub typed-records : (x : Execution) → Contains w.executions x
      → AreTypedRecords plan x.inputs (recorded_results journal x.name) (recorded_hits journal x.name)
  typed-records x there = record {
    submitted = λ f primary. typed.submitted x f there primary;
    settled = settled-typed x.name;
    found = found-typed x.name;
  }
