-- With more results, attempts that came to an end stay, and no attempt is taken back.
use Rattle.std.proofs.Common.{◌≡◌, ℕ, zero, suc, ◌+◌, ◌≤◌, Bool, true, false, if◌then◌else◌, List, [], ◌∷◌, map, Option, Some, None, refl, sym, ap, subst, arith}
use Rattle.std.specs.List.{range_with_len}
use Rattle.fly_types.specs.declared.literals.LiteralMap.{LiteralMap}
use Rattle.fly_policy.specs.declared.outcome.Outcome.{Outcome}
use Rattle.fly_policy.specs.declared.retries.Next.{Next}
use Rattle.fly_policy.specs.declared.retries.Next.TheVariants as next
use Rattle.fly_policy.specs.Retries.{next_of}
use Rattle.fly_docs.specs.Plans.{PlanNode}
use Rattle.fly_state.specs.Plans.{RunPlan}
use Rattle.fly_state.specs.Inputs.{count_of_items}
use Rattle.fly_state.specs.Moves.{is_cached, attempt_limit}
use Rattle.fly_eval.specs.declared.verdict.Verdict.TheVariants as verdict
use Rattle.fly_eval.specs.declared.results.Results.{Results}
use Rattle.fly_eval.specs.declared.results.Hits.{Hits}
use Rattle.fly_eval.specs.Results.{Slot, result_of, hit_of}
use Rattle.fly_eval.specs.Attempts.{Attempts, after_outcome, attempts_from, attempts_of}
use Rattle.fly_eval.specs.Evaluation.{by_hit, node_slot, item_slot, task_attempts, items_attempts}
use Rattle.fly_eval.specs.Laws.{HasResultsOf, HasHitsOf, IsKeptVerdict}
use Rattle.fly_eval.proofs.Kept.{AreKept, pending-kept}

pub record IsKeptAttempts (before after : Attempts) : Type 0 where
  pub verdict : IsKeptVerdict before.verdict after.verdict
  pub count : before.count ≤ after.count

attempts-itself : (a : Attempts) → IsKeptAttempts a a
attempts-itself a = record { verdict = λ is. refl; count = omega arith }

-- an attempt that is awaited
abbrev open_attempt : ℕ → Attempts
open_attempt k = record { verdict = verdict.Pending; count = k + 1 }

-- the attempts from a number on, where it has no result, and by its result
from-open : (n : ℕ) (results : Results) (slot : Slot) (limit k : ℕ) → result_of results slot k ≡ None
    → attempts_from (suc n) results slot limit k ≡ open_attempt k
unfolding attempts_from
from-open n results slot limit k is = rw is refl

from-outcome : (n : ℕ) (results : Results) (slot : Slot) (limit k : ℕ) (o : Outcome) → result_of results slot k ≡ Some o
    → attempts_from (suc n) results slot limit k ≡ after_outcome k o (next_of o k limit) (attempts_from n results slot limit (k + 1))
unfolding attempts_from
from-outcome n results slot limit k o is = rw is refl

outcome-counts : (k : ℕ) (o : Outcome) (x : Next) (more : Attempts) → k + 1 ≤ more.count → k + 1 ≤ (after_outcome k o x more).count
outcome-counts k o next.Done more le = omega arith
outcome-counts k o next.Failed more le = omega arith
outcome-counts k o next.TimedOut more le = omega arith
outcome-counts k o next.Again more le = le

-- the first of them is counted
from-counts : (n : ℕ) (results : Results) (slot : Slot) (limit k : ℕ) → k + 1 ≤ (attempts_from n results slot limit k).count
unfolding attempts_from
from-counts zero results slot limit k = omega arith
from-counts (suc n) results slot limit k = by (result_of results slot k) refl (from-counts n results slot limit (k + 1))
  where
    by : (o : Option Outcome) → result_of results slot k ≡ o → k + 1 + 1 ≤ (attempts_from n results slot limit (k + 1)).count
        → k + 1 ≤ (attempts_from (suc n) results slot limit k).count
    by None is behind = subst (λ (a : Attempts). k + 1 ≤ a.count) (sym (from-open n results slot limit k is)) (omega arith)
    by (Some o) is behind =
        subst (λ (a : Attempts). k + 1 ≤ a.count) (sym (from-outcome n results slot limit k o is))
        (outcome-counts k o (next_of o k limit) (attempts_from n results slot limit (k + 1)) (omega arith))

outcome-kept : (k : ℕ) (o : Outcome) (x : Next) (more later : Attempts) → IsKeptAttempts more later
    → IsKeptAttempts (after_outcome k o x more) (after_outcome k o x later)
outcome-kept k o next.Done more later kept = attempts-itself (after_outcome k o next.Done more)
outcome-kept k o next.Failed more later kept = attempts-itself (after_outcome k o next.Failed more)
outcome-kept k o next.TimedOut more later kept = attempts-itself (after_outcome k o next.TimedOut more)
outcome-kept k o next.Again more later kept = kept

both-attempts : (a b c d : Attempts) → a ≡ b → c ≡ d → IsKeptAttempts b d → IsKeptAttempts a c
both-attempts a b c d e f kept = subst (λ x. IsKeptAttempts x c) (sym e) (subst (λ y. IsKeptAttempts b y) (sym f) kept)

module _ (results later : Results) (more : HasResultsOf later results) where
  from-kept : (n : ℕ) (slot : Slot) (limit k : ℕ) → IsKeptAttempts (attempts_from n results slot limit k) (attempts_from n later slot limit k)
  unfolding attempts_from
  from-kept zero slot limit k = attempts-itself (open_attempt k)
  from-kept (suc n) slot limit k = by (result_of results slot k) refl (from-kept n slot limit (k + 1))
    where
      by : (o : Option Outcome) → result_of results slot k ≡ o
          → IsKeptAttempts (attempts_from n results slot limit (k + 1)) (attempts_from n later slot limit (k + 1))
          → IsKeptAttempts (attempts_from (suc n) results slot limit k) (attempts_from (suc n) later slot limit k)
      by None is behind =
          subst (λ x. IsKeptAttempts x (attempts_from (suc n) later slot limit k)) (sym (from-open n results slot limit k is)) (record {
            verdict = pending-kept (attempts_from (suc n) later slot limit k).verdict;
            count = from-counts (suc n) later slot limit k;
          })
      by (Some o) is behind =
          both-attempts (attempts_from (suc n) results slot limit k)
          (after_outcome k o (next_of o k limit) (attempts_from n results slot limit (k + 1)))
          (attempts_from (suc n) later slot limit k)
          (after_outcome k o (next_of o k limit) (attempts_from n later slot limit (k + 1)))
          (from-outcome n results slot limit k o is)
          (from-outcome n later slot limit k o (more slot k o is))
          (outcome-kept k o (next_of o k limit) (attempts_from n results slot limit (k + 1)) (attempts_from n later slot limit (k + 1))
          behind)

  pub attempts-kept : (slot : Slot) (limit : ℕ) → IsKeptAttempts (attempts_of results slot limit) (attempts_of later slot limit)
  attempts-kept slot limit = from-kept limit slot limit 0

  -- ---- tasks

  hit-kept : (hits later_hits : Hits) (path : List (List ℕ)) (run again : Attempts) (o : Option (Option LiteralMap)) → HasHitsOf later_hits hits
      → hit_of hits path ≡ o → IsKeptAttempts run again
      → IsKeptAttempts (by_hit (hit_of hits path) run) (by_hit (hit_of later_hits path) again)
  hit-kept hits later_hits path run again None grows is kept =
      subst (λ p. IsKeptAttempts (by_hit p run) (by_hit (hit_of later_hits path) again)) (sym is) (record {
        verdict = pending-kept (by_hit (hit_of later_hits path) again).verdict;
        count = omega arith;
      })
  hit-kept hits later_hits path run again (Some (Some outputs)) grows is kept =
      both-attempts (by_hit (hit_of hits path) run) (by_hit (Some (Some outputs)) run)
      (by_hit (hit_of later_hits path) again) (by_hit (Some (Some outputs)) again)
      (ap (λ p. by_hit p run) is) (ap (λ p. by_hit p again) (grows path (Some outputs) is)) (attempts-itself (by_hit (Some (Some outputs)) run))
  hit-kept hits later_hits path run again (Some None) grows is kept =
      both-attempts (by_hit (hit_of hits path) run) run (by_hit (hit_of later_hits path) again) again
      (ap (λ p. by_hit p run) is) (ap (λ p. by_hit p again) (grows path None is)) kept

  if-kept : (b : Bool) (a c d e : Attempts) → IsKeptAttempts a d → IsKeptAttempts c e
      → IsKeptAttempts (if b then a else c) (if b then d else e)
  if-kept true a c d e first second = first
  if-kept false a c d e first second = second

  pub task-kept : (plan : RunPlan) (hits later_hits : Hits) (p : PlanNode) → HasHitsOf later_hits hits
      → IsKeptAttempts (task_attempts plan results hits p) (task_attempts plan later later_hits p)
  task-kept plan hits later_hits p grows =
      let run = attempts_of results (node_slot p) (attempt_limit plan p) in
      let again = attempts_of later (node_slot p) (attempt_limit plan p) in
      let kept = attempts-kept (node_slot p) (attempt_limit plan p) in
      if-kept (is_cached plan p) (by_hit (hit_of hits p.path) run) run (by_hit (hit_of later_hits p.path) again) again
      (hit-kept hits later_hits p.path run again (hit_of hits p.path) grows refl kept) kept

  -- ---- items

  each-kept : (f g : ℕ → Attempts) (items : List ℕ) → ((item : ℕ) → IsKeptAttempts (f item) (g item))
      → AreKept (map (λ (a : Attempts). a.verdict) (map f items)) (map (λ (a : Attempts). a.verdict) (map g items))
  each-kept f g [] each = tt
  each-kept f g (item ∷ items) each = ((each item).verdict, each-kept f g items each)

  pub items-kept : (plan : RunPlan) (p : PlanNode) (given : LiteralMap)
      → AreKept (map (λ (a : Attempts). a.verdict) (items_attempts plan results p given))
      (map (λ (a : Attempts). a.verdict) (items_attempts plan later p given))
  items-kept plan p given =
      each-kept (λ item. attempts_of results (item_slot p item) (attempt_limit plan p))
      (λ item. attempts_of later (item_slot p item) (attempt_limit plan p))
      (range_with_len 0 (count_of_items plan p given))
      (λ item. attempts-kept (item_slot p item) (attempt_limit plan p))
