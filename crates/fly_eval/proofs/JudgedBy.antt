-- What one task node comes to, by how it stands and what it takes.
use Rattle.std.proofs.Common.{◌≡◌, List, [], replicate, refl, sym, ◌∙◌, ap}
use Rattle.std.specs.Prelude.{Ok, Err}
use Rattle.fly_types.specs.declared.literals.LiteralMap.{LiteralMap}
use Rattle.fly_docs.specs.declared.names.Identifier.{Identifier}
use Rattle.fly_docs.specs.declared.node.Target.{out-Target}
use Rattle.fly_docs.specs.declared.node.Target.TheOpen.{Target-F}
use Rattle.fly_docs.specs.Plans.{PlanNode}
use Rattle.fly_docs.specs.SlotInputs.{Taken}
use Rattle.fly_rules.specs.Standing.{Standing, waiting, blocked, skipped, ready}
use Rattle.fly_state.specs.Plans.{RunPlan}
use Rattle.fly_eval.specs.declared.results.Results.{Results}
use Rattle.fly_eval.specs.declared.results.Hits.{Hits}
use Rattle.fly_eval.specs.declared.judging.Judged.{Judged}
use Rattle.fly_eval.specs.Evaluation.{Entering, verdict_by, task_attempts, seen_attempts, seen_items}
use Rattle.fly_eval.specs.Judging.{IsJudged}

module _ (plan : RunPlan) (results : Results) (hits : Hits) (p : PlanNode) where
  abbrev wanted : Standing → Taken LiteralMap → Entering
  wanted x t = record { standing = x; inputs = t }

  -- it makes no attempt
  pub untried-by : (e : Entering) (x : Standing) (t : Taken LiteralMap) (judged : Judged) → e.standing ≡ x → e.inputs ≡ t
      → judged.verdict ≡ verdict_by x t (λ given. (task_attempts plan results hits p).verdict)
      → judged.attempts ≡ [] → [] ≡ seen_attempts plan results hits p (wanted x t) → IsJudged plan results hits p e judged
  untried-by e x t judged stands takes verdict_is none made = record {
    verdict_is = verdict_is ∙ sym (λ k. verdict_by (stands k) (takes k) (λ given. (task_attempts plan results hits p).verdict));
    attempts_are = none ∙ made ∙ sym (λ k. seen_attempts plan results hits p (wanted (stands k) (takes k)));
  }

  module _ (id : Identifier) (runs : out-Target p.node.target ≡ Target-F.Task id) where
    attempts-plain : (given : LiteralMap) (made : List LiteralMap) → replicate (task_attempts plan results hits p).count given ≡ made
        → seen_attempts plan results hits p (wanted ready (Ok given)) ≡ made
    attempts-plain given made is = rw runs is

    -- it is entered with these inputs
    pub tried-by : (e : Entering) (given : LiteralMap) (judged : Judged) → e.standing ≡ ready → e.inputs ≡ Ok given
        → judged ≡ record { verdict = (task_attempts plan results hits p).verdict; attempts = replicate (task_attempts plan results hits p).count given }
        → IsJudged plan results hits p e judged
    tried-by e given judged stands takes is = record {
      verdict_is = ap (λ (j : Judged). j.verdict) is
          ∙ sym (λ k. verdict_by (stands k) (takes k) (λ given. (task_attempts plan results hits p).verdict));
      attempts_are = ap (λ (j : Judged). j.attempts) is
          ∙ sym (attempts-plain given (replicate (task_attempts plan results hits p).count given) refl)
          ∙ sym (λ k. seen_attempts plan results hits p (wanted (stands k) (takes k)));
    }

    -- a task has no items
    pub items-none : (x : Standing) (t : Taken LiteralMap) → seen_items plan results p (wanted x t) ≡ []
    items-none waiting t = refl
    items-none blocked t = refl
    items-none skipped t = refl
    items-none ready (Err fault) = refl
    items-none ready (Ok given) = rw runs refl
