-- What is kept where more is recorded: how a node is entered, unless it waits, and a verdict, unless it is pending.
use Rattle.std.proofs.Common.{◌≡◌, ℕ, Bool, true, false, List, [], ◌∷◌, map, Contains, Option, None, refl, sym, ◌∙◌, ap, ⊎_elim}
use Rattle.std.specs.List.{list_any}
use Rattle.std.proofs.lemmas.Bool.{true≢false, false≢true, or_cases, or_left, or_right, or_parts}
use Rattle.fly_rules.specs.Standing.{waiting, blocked, skipped, ready}
use Rattle.fly_graph.proofs.Members.{Contains-nil, Contains-cons_cases}
use Rattle.fly_eval.specs.declared.verdict.Verdict.{Verdict}
use Rattle.fly_eval.specs.declared.verdict.Verdict.TheVariants as verdict
use Rattle.fly_eval.specs.Evaluation.{Entering, Told, Sight, awaited, entering_in, verdict_in, is_pending, is_failure}
use Rattle.fly_eval.specs.Laws.{IsKeptVerdict}

-- A node that waits may go on in any way; one that is blocked or skipped stays so; and one that is ready stays with its inputs.
pub record IsKeptEntering (before after : Entering) : Type 0 where
  pub blocks : before.standing ≡ blocked → after.standing ≡ blocked
  pub skips : before.standing ≡ skipped → after.standing ≡ skipped
  pub enters : before.standing ≡ ready → after ≡ before

pub record IsKeptTold (before after : Option Told) : Type 0 where
  pub entering : IsKeptEntering (entering_in before) (entering_in after)
  pub verdict : IsKeptVerdict (verdict_in before) (verdict_in after)

pub record IsKeptSight (before after : Sight) : Type 0 where
  pub entering : (i : ℕ) → IsKeptEntering (before.entering i) (after.entering i)
  pub verdict : (i : ℕ) → IsKeptVerdict (before.verdict i) (after.verdict i)

pub entering-itself : (e : Entering) → IsKeptEntering e e
entering-itself e = record { blocks = λ is. is; skips = λ is. is; enters = λ is. refl }

-- who waits may go on in any way
pub awaited-kept : (after : Entering) → IsKeptEntering awaited after
awaited-kept after = record {
  blocks = λ is. let bad : waiting ≡ blocked = is in cc;
  skips = λ is. let bad : waiting ≡ skipped = is in cc;
  enters = λ is. let bad : waiting ≡ ready = is in cc;
}

pub pending-kept : (after : Verdict) → IsKeptVerdict verdict.Pending after
pending-kept after is = absurd (true≢false is)

-- nothing told
pub none-kept : IsKeptTold None None
none-kept = record { entering = entering-itself awaited; verdict = pending-kept verdict.Pending }

-- ---- lists of verdicts

abbrev pub AreKept : List Verdict → List Verdict → Type 0
AreKept [] [] = Unit {0}
AreKept (v ∷ vs) (w ∷ ws) = IsKeptVerdict v w × AreKept vs ws
AreKept _ _ = ⊥

pub AreKept-map : {X : Type 0} (f g : X → Verdict) (xs : List X) → ((x : X) → IsKeptVerdict (f x) (g x)) → AreKept (map f xs) (map g xs)
AreKept-map f g [] each = tt
AreKept-map f g (x ∷ xs) each = (each x, AreKept-map f g xs each)

-- a failure is not pending
failure-ended : (v : Verdict) → is_failure v ≡ true → is_pending v ≡ false
failure-ended verdict.Pending e = absurd (false≢true e)
failure-ended _ e = refl

-- a failure among them stays
pub failures-kept : (vs ws : List Verdict) → AreKept vs ws → list_any is_failure vs ≡ true → list_any is_failure ws ≡ true
failures-kept [] ws kept e = absurd (false≢true e)
failures-kept (v ∷ vs) [] kept e = absurd kept
failures-kept (v ∷ vs) (w ∷ ws) kept e =
    ⊎_elim (λ here. or_left (is_failure w) (list_any is_failure ws) (ap is_failure (kept.0 (failure-ended v here)) ∙ here))
    (λ there. or_right (is_failure w) (list_any is_failure ws) (failures-kept vs ws kept.1 there))
    (or_cases (is_failure v) (list_any is_failure vs) e)

-- where none is pending all stay
pub all-kept : (vs ws : List Verdict) → AreKept vs ws → list_any is_pending vs ≡ false → ws ≡ vs
all-kept [] [] kept e = refl
all-kept [] (w ∷ ws) kept e = absurd kept
all-kept (v ∷ vs) [] kept e = absurd kept
all-kept (v ∷ vs) (w ∷ ws) kept e =
    let parts = or_parts (is_pending v) (list_any is_pending vs) e in
    ap (λ x. x ∷ ws) (kept.0 parts.0) ∙ ap (λ xs. v ∷ xs) (all-kept vs ws kept.1 parts.1)

-- where none passes, this one doesn't
pub none-passes : {X : Type 0} (p : X → Bool) (xs : List X) (x : X) → list_any p xs ≡ false → Contains xs x → p x ≡ false
none-passes p [] x none has = absurd (Contains-nil x has)
none-passes p (y ∷ ys) x none has =
    let parts = or_parts (p y) (list_any p ys) none in
    ⊎_elim (λ same. ap p (sym same) ∙ parts.0) (λ there. none-passes p ys x parts.1 there) (Contains-cons_cases y ys x has)
