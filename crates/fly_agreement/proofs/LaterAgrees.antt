-- What agrees goes on to agree where more is recorded.
use Rattle.std.proofs.Common.{◌≡◌, ℕ, false, [], Option, Some, option_map, option_and_then, refl, sym, ◌∙◌, ap}
use Rattle.std.proofs.lemmas.Bool.{and_parts, true≢false}
use Rattle.std.proofs.lemmas.Option.{none-some}
use Rattle.fly_types.specs.declared.literals.LiteralMap.{LiteralMap}
use Rattle.fly_cast.proofs.Options.{map-some}
use Rattle.fly_docs.specs.Plans.{PlanNode}
use Rattle.fly_docs.specs.SlotInputs.{Taken, mapped_of, item_inputs}
use Rattle.fly_rules.specs.Standing.{Standing, waiting, blocked, skipped, ready}
use Rattle.fly_state.specs.declared.phase.Phase.{Phase}
use Rattle.fly_state.specs.declared.phase.Phase.TheVariants as phase
use Rattle.fly_state.specs.declared.slots.SlotState.{SlotState}
use Rattle.fly_state.specs.declared.slots.ExecState.{ExecState}
use Rattle.fly_state.specs.Plans.{RunPlan}
use Rattle.fly_state.specs.States.{own_state}
use Rattle.fly_state.specs.Inputs.{choice_of}
use Rattle.fly_state.specs.Moves.{is_cached, attempt_limit}
use Rattle.fly_state.proofs.FinalLemmas.{option_and_then-there}
use Rattle.fly_eval.specs.declared.verdict.Verdict.{Verdict}
use Rattle.fly_eval.specs.declared.results.Results.{Results}
use Rattle.fly_eval.specs.declared.results.Hits.{Hits}
use Rattle.fly_eval.specs.Results.{Slot}
use Rattle.fly_eval.specs.Attempts.{attempts_of}
use Rattle.fly_eval.specs.Evaluation.{Entering, node_slot, item_slot, is_pending, whole_sight, root_verdict}
use Rattle.fly_eval.specs.Laws.{HasResultsOf, HasHitsOf, IsKeptVerdict}
use Rattle.fly_eval.proofs.Kept.{IsKeptEntering, IsKeptSight}
use Rattle.fly_eval.proofs.AttemptsKept.{attempts-kept}
use Rattle.fly_eval.proofs.VerdictKept.{verdict_in_instance-kept}
use Rattle.fly_eval.proofs.RuleKept.{whole-kept}
use Rattle.fly_agreement.specs.Agreement.{given_inputs, given_choice, given_item, IsTriedAgain, SucceedsWith, TellsIn, AgreesNode, AgreesItem, AgreesRoot, Agrees}
use Rattle.fly_agreement.specs.Laws.{HasNoCached}

-- ---- inputs

-- a node that is given inputs is ready
pub given-ready : (s : Standing) (t : Taken LiteralMap) (m : LiteralMap) → given_inputs (record { standing = s; inputs = t }) ≡ Some m → s ≡ ready
given-ready waiting t m is = absurd (none-some m is)
given-ready blocked t m is = absurd (none-some m is)
given-ready skipped t m is = absurd (none-some m is)
given-ready ready t m is = refl

given-kept : (e later : Entering) (m : LiteralMap) → IsKeptEntering e later → given_inputs e ≡ Some m → given_inputs later ≡ Some m
given-kept e later m kept is = ap given_inputs (kept.enters (given-ready e.standing e.inputs m is)) ∙ is

choice-kept : (p : PlanNode) (e later : Entering) (case : ℕ) → IsKeptEntering e later → given_choice p e ≡ Some case
    → given_choice p later ≡ Some case
choice-kept p e later case kept is =
    let choose : LiteralMap → Option ℕ = λ given. choice_of given p.node in
    let there = option_and_then-there choose (given_inputs e) case is in
    ap (option_and_then choose) (given-kept e later there.0 kept there.1) ∙ there.2

item-kept : (plan : RunPlan) (p : PlanNode) (e later : Entering) (item : ℕ) (m : LiteralMap) → IsKeptEntering e later
    → given_item plan p e item ≡ Some m → given_item plan p later item ≡ Some m
item-kept plan p e later item m kept is =
    let take : LiteralMap → LiteralMap = item_inputs (mapped_of plan.documents p.workflow p.node) item in
    let there = map-some take (given_inputs e) m is in
    ap (option_map take) (given-kept e later there.0 kept there.1) ∙ ap Some (sym there.2)

-- ---- verdicts

succeeds-kept : (slot : SlotState) (v later : Verdict) → IsKeptVerdict v later → SucceedsWith slot v → SucceedsWith slot later
succeeds-kept slot v later kept h = (h.0, h.1, kept (ap is_pending h.2) ∙ h.2)

tells-kept : (f : Phase) (slot : SlotState) (v later : Verdict) → IsKeptVerdict v later → TellsIn f slot v → TellsIn f slot later
tells-kept phase.Succeeded slot v later kept h = succeeds-kept slot v later kept h
tells-kept phase.Failed slot v later kept h = (h.0, h.1, kept (ap is_pending h.2) ∙ h.2)
tells-kept phase.TimedOut slot v later kept h = (h.0, kept (ap is_pending h.1) ∙ h.1)
tells-kept phase.Skipped slot v later kept h = kept (ap is_pending h) ∙ h
tells-kept _ slot v later kept h = tt

module _ (plan : RunPlan) (inputs : LiteralMap) (results later : Results) (hits later_hits : Hits) (s : ExecState)
    (more : HasResultsOf later results) (grows : HasHitsOf later_hits hits) where
  again-kept : (p : PlanNode) (at : Slot) (k : ℕ) → IsTriedAgain plan results p at k → IsTriedAgain plan later p at k
  again-kept p at k h = (h.0, more at k h.0 h.1, h.2)

  node-kept : (i : ℕ) (p : PlanNode) (e after : Entering) (v w : Verdict) → is_cached plan p ≡ false → IsKeptEntering e after
      → IsKeptVerdict v w → AgreesNode plan results hits s i p e v → AgreesNode plan later later_hits s i p after w
  node-kept i p e after v w uncached entering verdict h = record {
    inputs = λ m is. given-kept e after m entering (h.inputs m is);
    items = λ has. let there = h.items has in (there.0, given-kept e after there.0 entering there.1, there.2);
    choice = λ case is. choice-kept p e after case entering (h.choice case is);
    running = λ runs k before. again-kept p (node_slot p) k (h.running runs k before);
    retryable = λ fails k before. again-kept p (node_slot p) k (h.retryable fails k before);
    missed = λ has. absurd (true≢false (sym (and_parts (is_cached plan p) _ has).0 ∙ uncached));
    succeeding = λ has. succeeds-kept (own_state s i) v w verdict (h.succeeding has);
    final = tells-kept (own_state s i).phase (own_state s i) v w verdict h.final;
    aborted = h.aborted;
    inside = h.inside;
    has_inputs = h.has_inputs;
    unanswered = λ has. absurd (true≢false (sym (and_parts (is_cached plan p) _ has).0 ∙ uncached));
  }

  item-agrees : (p : PlanNode) (e after : Entering) (item : ℕ) (slot : SlotState) → IsKeptEntering e after
      → AgreesItem plan results s p e item slot → AgreesItem plan later s p after item slot
  item-agrees p e after item slot entering h =
      let verdict = (attempts-kept results later more (item_slot p item) (attempt_limit plan p)).verdict in
      let v = (attempts_of results (item_slot p item) (attempt_limit plan p)).verdict in
      let w = (attempts_of later (item_slot p item) (attempt_limit plan p)).verdict in record {
        inputs = λ m is. item-kept plan p e after item m entering (h.inputs m is);
        running = λ runs k before. again-kept p (item_slot p item) k (h.running runs k before);
        retryable = λ fails k before. again-kept p (item_slot p item) k (h.retryable fails k before);
        succeeding = λ has. succeeds-kept slot v w verdict (h.succeeding has);
        final = tells-kept slot.phase slot v w verdict h.final;
        aborted = h.aborted;
        inside = h.inside;
      }

  root-kept : (v w : Verdict) → IsKeptVerdict v w → AgreesRoot plan inputs s v → AgreesRoot plan inputs s w
  root-kept v w verdict h = record {
    inputs = h.inputs;
    succeeding = λ has. succeeds-kept s.root v w verdict (h.succeeding has);
    final = tells-kept s.root.phase s.root v w verdict h.final;
    aborted = h.aborted;
  }

  pub later-agrees : HasNoCached plan → Agrees plan inputs results hits s → Agrees plan inputs later later_hits s
  later-agrees uncached h =
      let before = whole_sight plan inputs results hits in
      let after = whole_sight plan inputs later later_hits in
      let kept : IsKeptSight before after = whole-kept plan inputs results later hits later_hits more grows in record {
        root = root-kept (root_verdict plan inputs results hits) (root_verdict plan inputs later later_hits)
            (verdict_in_instance-kept plan inputs before after kept [] refl) h.root;
        nodes = λ i p planned.
            node-kept i p (before.entering i) (after.entering i) (before.verdict i) (after.verdict i) (uncached i p planned) (kept.entering i)
            (kept.verdict i) (h.nodes i p planned);
        items = λ i p item slot planned there.
            item-agrees p (before.entering i) (after.entering i) item slot (kept.entering i) (h.items i p item slot planned there);
      }
