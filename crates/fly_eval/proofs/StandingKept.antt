-- How a node stands is kept, unless it waits, where what it looks at is kept.
use Rattle.std.proofs.Common.{◌≡◌, ◌⊎◌, ℕ, Bool, true, false, ◌==◌, if◌then◌else◌, List, [], ◌∷◌, map, Contains, Option, Some, None, refl, sym, ◌∙◌, ap, subst, inl, inr, ⊎_elim}
use Rattle.std.specs.List.{list_any}
use Rattle.std.proofs.lemmas.Bool.{true≢false, false≢true, or_cases, or_left, or_right, or_parts}
use Rattle.fly_types.specs.declared.literals.LiteralMap.{LiteralMap}
use Rattle.fly_docs.specs.declared.node.Node.{Node}
use Rattle.fly_docs.specs.Plans.{PlanNode}
use Rattle.fly_docs.specs.SlotInputs.{Taken}
use Rattle.fly_rules.specs.Standing.{Standing, waiting, blocked, skipped, ready, is_waiting_standing, is_blocked_standing, is_skipped_standing, standing_among, BranchSight, undecided, stuck, passed_over, chose, standing_of_case}
use Rattle.fly_graph.proofs.Members.{Contains-nil, Contains-cons_cases}
use Rattle.fly_state.specs.Plans.{RunPlan, CaseOf, node_numbered, case_of, named_numbers}
use Rattle.fly_eval.specs.declared.verdict.Verdict.{Verdict}
use Rattle.fly_eval.specs.declared.verdict.Verdict.TheVariants as verdict
use Rattle.fly_eval.specs.Evaluation.{Entering, Sight, sign_of, branch_sight, sight_of_branch, standing_by_names, own_standing, is_pending}
use Rattle.fly_eval.proofs.Kept.{IsKeptEntering, IsKeptSight}

abbrev pub IsKeptStanding : Standing → Standing → Type 0
IsKeptStanding before after = is_waiting_standing before ≡ false → after ≡ before

-- ---- signs

skip-ended : (v : Verdict) → is_skipped_standing (sign_of v) ≡ true → is_pending v ≡ false
skip-ended verdict.Pending e = absurd (false≢true e)
skip-ended _ e = refl

sign-ended : (v : Verdict) → is_waiting_standing (sign_of v) ≡ false → is_pending v ≡ false
sign-ended verdict.Pending e = absurd (true≢false e)
sign-ended _ e = refl

abbrev pick : Bool → Bool → Bool → Standing
pick a b c = if a then skipped else (if b then waiting else (if c then blocked else ready))

abbrev signs_in : Sight → List ℕ → List Standing
signs_in sight numbers = map (λ i. sign_of (sight.verdict i)) numbers

-- none of them is awaited
pub none-pending : (sight : Sight) (numbers : List ℕ) (i : ℕ) → list_any is_waiting_standing (signs_in sight numbers) ≡ false
    → Contains numbers i → is_pending (sight.verdict i) ≡ false
none-pending sight [] i none has = absurd (Contains-nil i has)
none-pending sight (j ∷ numbers) i none has =
    let parts = or_parts (is_waiting_standing (sign_of (sight.verdict j))) (list_any is_waiting_standing (signs_in sight numbers)) none in
    ⊎_elim (λ same. subst (λ k. is_pending (sight.verdict k) ≡ false) same (sign-ended (sight.verdict j) parts.0))
    (λ there. none-pending sight numbers i parts.1 there) (Contains-cons_cases j numbers i has)

-- where they make one ready none is awaited
pub ready-among : (signs : List Standing) → standing_among signs ≡ ready → list_any is_waiting_standing signs ≡ false
ready-among signs is = by (list_any is_skipped_standing signs) (list_any is_waiting_standing signs) refl refl
  where
    by : (a b : Bool) → list_any is_skipped_standing signs ≡ a → list_any is_waiting_standing signs ≡ b → list_any is_waiting_standing signs ≡ false
    by a false e f = f
    by true true e f =
        let one : standing_among signs ≡ skipped =
        ap (λ x. pick x (list_any is_waiting_standing signs) (list_any is_blocked_standing signs)) e in
        let bad : skipped ≡ ready = sym one ∙ is in cc
    by false true e f =
        let one : standing_among signs ≡ pick false (list_any is_waiting_standing signs) (list_any is_blocked_standing signs) =
        ap (λ x. pick x (list_any is_waiting_standing signs) (list_any is_blocked_standing signs)) e in
        let two : standing_among signs ≡ waiting = one ∙ ap (λ x. pick false x (list_any is_blocked_standing signs)) f in
        let bad : waiting ≡ ready = sym two ∙ is in cc

-- ---- cases

if-ready : (b : Bool) (s : Standing) → (if b then s else skipped) ≡ ready → s ≡ ready
if-ready true s e = e
if-ready false s e = let bad : skipped ≡ ready = e in cc

case-ready : (b : BranchSight) (case : ℕ) (s : Standing) → standing_of_case b case s ≡ ready → s ≡ ready
case-ready undecided case s e = let bad : waiting ≡ ready = e in cc
case-ready stuck case s e = let bad : blocked ≡ ready = e in cc
case-ready passed_over case s e = let bad : skipped ≡ ready = e in cc
case-ready (chose chosen) case s e = if-ready (chosen == case) s e

if-kept : (b : Bool) (s t : Standing) → IsKeptStanding s t → IsKeptStanding (if b then s else skipped) (if b then t else skipped)
if-kept true s t kept = kept
if-kept false s t kept = λ is. refl

case-same : (b : BranchSight) (case : ℕ) (s t : Standing) → IsKeptStanding s t
    → IsKeptStanding (standing_of_case b case s) (standing_of_case b case t)
case-same undecided case s t kept = λ is. refl
case-same stuck case s t kept = λ is. refl
case-same passed_over case s t kept = λ is. refl
case-same (chose chosen) case s t kept = if-kept (chosen == case) s t kept

case-kept : (b a : BranchSight) (case : ℕ) (s t : Standing) → (b ≡ undecided) ⊎ (a ≡ b) → IsKeptStanding s t
    → IsKeptStanding (standing_of_case b case s) (standing_of_case a case t)
case-kept b a case s t look kept is =
    ⊎_elim (λ awaits. absurd (true≢false (sym (ap (λ x. is_waiting_standing (standing_of_case x case s)) awaits) ∙ is)))
    (λ same. ap (λ x. standing_of_case x case t) same ∙ case-same b case s t kept is) look

own-plain : (plan : RunPlan) (sight : Sight) (p : PlanNode) → case_of plan p ≡ None → own_standing plan sight p ≡ standing_by_names plan sight p
own-plain plan sight p is = rw is refl

own-case : (plan : RunPlan) (sight : Sight) (p : PlanNode) (c : CaseOf) → case_of plan p ≡ Some c
    → own_standing plan sight p ≡ standing_of_case (sight_of_branch plan sight c.branch) c.case (standing_by_names plan sight p)
own-case plan sight p c is = rw is refl

-- who is ready looks at none that is awaited
pub own-ready : (plan : RunPlan) (sight : Sight) (p : PlanNode) → own_standing plan sight p ≡ ready → standing_by_names plan sight p ≡ ready
own-ready plan sight p is = by (case_of plan p) refl
  where
    by : (o : Option CaseOf) → case_of plan p ≡ o → standing_by_names plan sight p ≡ ready
    by None none = sym (own-plain plan sight p none) ∙ is
    by (Some c) some =
        case-ready (sight_of_branch plan sight c.branch) c.case (standing_by_names plan sight p) (sym (own-case plan sight p c some) ∙ is)

-- ---- branches

branch-kept : (n : Node) (s : Standing) (t : Taken LiteralMap) (after : Entering) → IsKeptEntering (record { standing = s; inputs = t }) after
    → (branch_sight n (record { standing = s; inputs = t }) ≡ undecided)
    ⊎ (branch_sight n after ≡ branch_sight n (record { standing = s; inputs = t }))
branch-kept n waiting t after kept = inl refl
branch-kept n blocked t after kept = let is = kept.blocks refl in inr (rw is refl)
branch-kept n skipped t after kept = let is = kept.skips refl in inr (rw is refl)
branch-kept n ready t after kept = inr (ap (branch_sight n) (kept.enters refl))

of-branch : (plan : RunPlan) (sight : Sight) (branch : ℕ) (q : PlanNode) → node_numbered plan branch ≡ Some q
    → sight_of_branch plan sight branch ≡ branch_sight q.node (sight.entering branch)
of-branch plan sight branch q is = rw is refl

no-branch : (plan : RunPlan) (sight : Sight) (branch : ℕ) → node_numbered plan branch ≡ None → sight_of_branch plan sight branch ≡ undecided
no-branch plan sight branch is = rw is refl

module _ (before after : Sight) (kept : IsKeptSight before after) where
  -- ---- what is promised from or named

  skips-kept : (numbers : List ℕ) → list_any is_skipped_standing (signs_in before numbers) ≡ true
      → list_any is_skipped_standing (signs_in after numbers) ≡ true
  skips-kept [] e = e
  skips-kept (i ∷ numbers) e =
      let sign : Sight → Bool = λ sight. is_skipped_standing (sign_of (sight.verdict i)) in
      ⊎_elim (λ here.
      or_left (sign after) (list_any is_skipped_standing (signs_in after numbers))
      (ap (λ v. is_skipped_standing (sign_of v)) (kept.verdict i (skip-ended (before.verdict i) here)) ∙ here))
      (λ there. or_right (sign after) (list_any is_skipped_standing (signs_in after numbers)) (skips-kept numbers there))
      (or_cases (sign before) (list_any is_skipped_standing (signs_in before numbers)) e)

  signs-same : (numbers : List ℕ) → list_any is_waiting_standing (signs_in before numbers) ≡ false
      → signs_in after numbers ≡ signs_in before numbers
  signs-same [] e = refl
  signs-same (i ∷ numbers) e =
      let parts = or_parts (is_waiting_standing (sign_of (before.verdict i))) (list_any is_waiting_standing (signs_in before numbers)) e in
      ap (λ v. sign_of v ∷ signs_in after numbers) (kept.verdict i (sign-ended (before.verdict i) parts.0))
      ∙ ap (λ signs. sign_of (before.verdict i) ∷ signs) (signs-same numbers parts.1)

  among-kept : (numbers : List ℕ) → IsKeptStanding (standing_among (signs_in before numbers)) (standing_among (signs_in after numbers))
  among-kept numbers is =
      by (list_any is_skipped_standing (signs_in before numbers)) (list_any is_waiting_standing (signs_in before numbers)) refl refl
    where
      by : (a b : Bool) → list_any is_skipped_standing (signs_in before numbers) ≡ a → list_any is_waiting_standing (signs_in before numbers) ≡ b
          → standing_among (signs_in after numbers) ≡ standing_among (signs_in before numbers)
      by true b e f =
          let now : standing_among (signs_in before numbers) ≡ skipped =
          ap (λ x. pick x (list_any is_waiting_standing (signs_in before numbers)) (list_any is_blocked_standing (signs_in before numbers))) e in
          let behind : standing_among (signs_in after numbers) ≡ skipped =
          ap (λ x. pick x (list_any is_waiting_standing (signs_in after numbers)) (list_any is_blocked_standing (signs_in after numbers)))
          (skips-kept numbers e) in
          behind ∙ sym now
      by false false e f = ap standing_among (signs-same numbers f)
      by false true e f =
          let one : standing_among (signs_in before numbers)
          ≡ pick false (list_any is_waiting_standing (signs_in before numbers)) (list_any is_blocked_standing (signs_in before numbers)) =
          ap (λ x. pick x (list_any is_waiting_standing (signs_in before numbers)) (list_any is_blocked_standing (signs_in before numbers))) e in
          let two : standing_among (signs_in before numbers) ≡ waiting =
          one ∙ ap (λ x. pick false x (list_any is_blocked_standing (signs_in before numbers))) f in
          absurd (true≢false (sym (ap is_waiting_standing two) ∙ is))

  -- ---- of a node

  sight_of_branch-kept : (plan : RunPlan) (branch : ℕ)
      → (sight_of_branch plan before branch ≡ undecided) ⊎ (sight_of_branch plan after branch ≡ sight_of_branch plan before branch)
  sight_of_branch-kept plan branch = by (node_numbered plan branch) refl
    where
      by : (o : Option PlanNode) → node_numbered plan branch ≡ o
          → (sight_of_branch plan before branch ≡ undecided) ⊎ (sight_of_branch plan after branch ≡ sight_of_branch plan before branch)
      by None is = inl (no-branch plan before branch is)
      by (Some q) is =
          let now = of-branch plan before branch q is in
          let behind = of-branch plan after branch q is in
          let e = before.entering branch in
          ⊎_elim (λ awaits. inl (now ∙ awaits)) (λ same. inr (behind ∙ same ∙ sym now))
          (branch-kept q.node e.standing e.inputs (after.entering branch) (kept.entering branch))

  pub own_standing-kept : (plan : RunPlan) (p : PlanNode) → IsKeptStanding (own_standing plan before p) (own_standing plan after p)
  own_standing-kept plan p is = by (case_of plan p) refl
    where
      by : (o : Option CaseOf) → case_of plan p ≡ o → own_standing plan after p ≡ own_standing plan before p
      by None none =
          let now = own-plain plan before p none in
          own-plain plan after p none ∙ among-kept (named_numbers plan p) (sym (ap is_waiting_standing now) ∙ is) ∙ sym now
      by (Some c) some =
          let now = own-case plan before p c some in
          own-case plan after p c some
          ∙ case-kept (sight_of_branch plan before c.branch) (sight_of_branch plan after c.branch) c.case
          (standing_by_names plan before p) (standing_by_names plan after p)
          (sight_of_branch-kept plan c.branch) (among-kept (named_numbers plan p)) (sym (ap is_waiting_standing now) ∙ is)
          ∙ sym now
