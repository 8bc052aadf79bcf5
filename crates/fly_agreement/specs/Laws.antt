-- The law of agreement: each version of an execution agrees with evaluation over what is recorded.
use Rattle.std.specs.Prelude.{◌≡◌, ℕ, false, Contains, List, Option, Some}
use Rattle.fly_types.specs.declared.literals.LiteralMap.{LiteralMap}
use Rattle.fly_policy.specs.declared.outcome.Outcome.{Outcome}
use Rattle.fly_docs.specs.declared.workflow.Workflow.{Workflow}
use Rattle.fly_docs.specs.Plans.{PlanNode}
use Rattle.fly_state.specs.declared.slots.ExecState.{ExecState}
use Rattle.fly_state.specs.declared.entries.Entry.{Entry}
use Rattle.fly_state.specs.declared.view.View.{View}
use Rattle.fly_state.specs.Plans.{RunPlan, node_numbered}
use Rattle.fly_state.specs.PlanTables.{IsOuterPlan}
use Rattle.fly_state.specs.States.{first_state}
use Rattle.fly_state.specs.Moves.{is_cached, outcome_in}
use Rattle.fly_state.specs.OfPlan.{IsViewOfPlan, HasFaultlessRetries, IsEntryOfPlan}
use Rattle.fly_state.specs.Rounds.{CitedMove, state_after}
use Rattle.fly_eval.specs.declared.results.Results.{Results}
use Rattle.fly_eval.specs.declared.results.Hits.{Hits}
use Rattle.fly_eval.specs.Results.{result_of}
use Rattle.fly_eval.specs.Laws.{HasResultsOf, HasHitsOf}
use Rattle.fly_agreement.specs.Agreement.{Agrees}

-- no task node of the plan is cached
abbrev pub HasNoCached : RunPlan → Type 0
HasNoCached plan = (i : ℕ) (p : PlanNode) → node_numbered plan i ≡ Some p → is_cached plan p ≡ false

-- what is known at the view of attempts is among the results
abbrev pub HasKnownResults : RunPlan → View → Results → Type 0
HasKnownResults plan v results =
    (i : ℕ) (p : PlanNode) (item : Option ℕ) (k : ℕ) (o : Outcome) → node_numbered plan i ≡ Some p → outcome_in v p item k ≡ Some o
    → result_of results (record { path = p.path; item = item }) k ≡ Some o

-- the first version agrees, over any results and answers of the catalog
abbrev pub FirstStatesAgree : Type 0
FirstStatesAgree =
    (plan : RunPlan) (inputs : LiteralMap) (results : Results) (hits : Hits) → Agrees plan inputs results hits (first_state plan inputs)

-- what agrees goes on to agree over more
abbrev pub LaterRecordsKeepAgreement : Type 0
LaterRecordsKeepAgreement =
    (plan : RunPlan) (inputs : LiteralMap) (results later : Results) (hits later_hits : Hits) (s : ExecState) → HasNoCached plan
    → HasResultsOf later results → HasHitsOf later_hits hits → Agrees plan inputs results hits s → Agrees plan inputs later later_hits s

-- In a plan of task nodes that are not cached, moves lead from a state that agrees to another, where the results have what the view knows. A
-- move that is not legal changes nothing.
abbrev pub MovesKeepAgreement : Type 0
MovesKeepAgreement =
    (plan : RunPlan) (w : Workflow) (inputs : LiteralMap) (results : Results) (hits : Hits) (v : View) (moves : List CitedMove)
    → IsOuterPlan plan w → HasNoCached plan → IsViewOfPlan plan v → HasFaultlessRetries plan v.state
    → ((m : CitedMove) (e : Entry) → Contains moves m → Contains m.entries e → IsEntryOfPlan plan e)
    → HasKnownResults plan v results → Agrees plan inputs results hits v.state
    → Agrees plan inputs results hits (state_after plan v moves)

abbrev pub RoundsKeepAgreement : Type 0
RoundsKeepAgreement = FirstStatesAgree × LaterRecordsKeepAgreement × MovesKeepAgreement
