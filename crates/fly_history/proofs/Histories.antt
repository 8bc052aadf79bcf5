-- Every legal journal agrees with plain evaluation over what it records.
use Rattle.std.proofs.Common.{◌≡◌, ◌≢◌, ℕ, ◌<◌, List, [], ◌∷◌, ◌++◌, map, length, get_or, AllPairs, Contains, refl, sym, ◌∙◌, ap, subst, arith, ⊎_elim}
use Rattle.std.proofs.lemmas.Bool.{cases_order}
use Rattle.std.proofs.lemmas.List.{get_or-map, get_or_default, length-map}
use Rattle.std.proofs.lemmas.List.Elements.{All-nil, All-contains}
use Rattle.std.proofs.lemmas.Option.{none-some}
use Rattle.fly_types.specs.declared.text.Text.{Text}
use Rattle.fly_docs.specs.declared.submission.Submission.{Submission}
use Rattle.fly_docs.specs.declared.workflow.Workflow.{Workflow}
use Rattle.fly_state.specs.declared.entries.Entry.{Entry}
use Rattle.fly_state.specs.PlanTables.{IsOuterPlan}
use Rattle.fly_state.specs.Plans.{RunPlan}
use Rattle.fly_state.proofs.Lists.{of_map}
use Rattle.fly_world.specs.World.{World, Execution, empty_world, current_of}
use Rattle.fly_world.specs.Journals.{Step, Leads, IsHistory, beginning}
use Rattle.fly_world.specs.Laws.{submission_of}
use Rattle.fly_world.specs.ReadOff.{versions_of, lookup_result}
use Rattle.fly_world.proofs.JournalLemmas.{along, entries-are, leads-on}
use Rattle.fly_world.proofs.KeptWorlds.{history-of_plan}
use Rattle.fly_world.proofs.NameLemmas.{history-named}
use Rattle.fly_world.proofs.TellLemmas.{history-tells}
use Rattle.fly_world.proofs.TypeLemmas.{contained}
use Rattle.fly_eval.specs.Evaluation.{evaluation_of}
use Rattle.fly_agreement.specs.Laws.{HasNoCached}
use Rattle.fly_history.specs.Recorded.{recorded_results, recorded_hits}
use Rattle.fly_history.specs.Laws.{HasEvaluatedInputs, IsPlainlyEvaluated}
use Rattle.fly_history.proofs.EvaluatedWorlds.{AgreesOver, IsAgreed, IsSeenLaunch, IsEvaluatedWorld, IsTold, step-evaluated}

-- ---- names

abbrev name_of : Execution → Text
name_of x = x.name

-- of executions with distinct names a name is that of one
module _ (xs : List Execution) (distinct : AllPairs (λ a b. a ≢ b) (map name_of xs)) where
  apart : (x y : Execution) (has : Contains xs x) (also : Contains xs y) → has.0 < also.0 → x.name ≡ y.name → ⊥
  apart x y has also before same =
      let within : also.0 < length (map name_of xs) = subst (λ n. also.0 < n) (sym (length-map xs name_of)) also.1 in
      distinct has.0 also.0 x.name before within
      (get_or-map name_of xs has.0 x x.name has.1 ∙ ap name_of has.2 ∙ same
      ∙ sym (get_or-map name_of xs also.0 y x.name also.1 ∙ ap name_of also.2))

  same-execution : (x y : Execution) → Contains xs x → Contains xs y → x.name ≡ y.name → x ≡ y
  same-execution x y has also same =
      ⊎_elim (λ at. sym has.2 ∙ ap (λ k. get_or xs k x) at ∙ get_or_default xs also.0 x y also.1 ∙ also.2)
      (⊎_elim (λ lt. absurd (apart x y has also lt same)) (λ gt. absurd (apart y x also has gt (sym same))))
      (cases_order has.0 also.0)

module _ (plan : RunPlan) (f : Workflow) (outer : IsOuterPlan plan f) (uncached : HasNoCached plan)
    (closure : List ℕ) where
  -- its entries are a legal journal that leaves it
  abbrev IsLeft : World → Type 0
  IsLeft w = IsHistory plan closure w.entries w

  -- ---- the first world

  told-first : IsTold plan empty_world
  told-first = record { views = λ exec at named. absurd (none-some at named); submitted = refl; settled = refl }

  evaluated-first : IsEvaluatedWorld plan empty_world
  evaluated-first = record {
    unanswered = All-nil (λ (x : Entry). lookup_result x ≡ []);
    executions = All-nil (IsAgreed plan []);
    launches = All-nil (IsSeenLaunch plan []);
  }

  -- ---- steps

  told-by : (w : World) → IsLeft w → IsTold plan w
  told-by w history =
      let tells = history-tells plan closure w.entries w history in
      let of_plan = history-of_plan plan f outer closure w.entries w history in record {
        views = λ exec at named. of_plan.views exec at (current_of at.1) named (omega arith);
        submitted = tells.submitted;
        settled = tells.settled;
      }

  left-first : (next : World) → Step plan empty_world (beginning closure) next → IsLeft next
  left-first next s =
      let leads : Leads plan empty_world (beginning closure ∷ []) next = (next, s, refl) in
      let is = entries-are plan empty_world next (beginning closure ∷ []) leads in
      record { later = []; begins = is; leads = subst (λ es. Leads plan empty_world es next) (sym is) leads }

  left-next : (w next : World) (e : Entry) → IsLeft w → Step plan w e next → IsLeft next
  left-next w next e history s =
      let leads : Leads plan w (e ∷ []) next = (next, s, refl) in
      let is = entries-are plan w next (e ∷ []) leads in
      record {
        later = history.later ++ e ∷ [];
        begins = is ∙ ap (λ es. es ++ e ∷ []) history.begins;
        leads = subst (λ es. Leads plan empty_world es next) (sym is)
            (leads-on plan empty_world w next w.entries (e ∷ []) history.leads leads);
      }

  -- ---- what comes of it

  plainly : (w : World) → IsLeft w → IsEvaluatedWorld plan w → IsPlainlyEvaluated plan w.entries w
  plainly w history h = record {
    versions = λ i x s there has.
        All-contains (AgreesOver plan w.entries x.name x.inputs) (versions_of x) s
        (All-contains (IsAgreed plan w.entries) w.executions x h.executions (contained w.executions i x there)) has;
    launches = λ l i x has there named.
        let seen = All-contains (IsSeenLaunch plan w.entries) w.launches l h.launches has in
        let from = of_map submission_of w.executions seen.0
        (subst (λ ss. Contains ss seen.0) (sym (told-by w history).submitted) seen.1) in
        let names : from.0.name ≡ x.name = ap (λ (q : Submission). q.name) from.2 ∙ seen.2 ∙ named in
        let distinct = (history-named plan closure w.entries w history).distinct in
        let same = same-execution w.executions distinct from.0 x from.1 (contained w.executions i x there) names in
        subst (λ (q : Submission).
        HasEvaluatedInputs (evaluation_of plan q.inputs (recorded_results w.entries q.name)
        (recorded_hits w.entries q.name)) l.name l.inputs)
        (sym from.2 ∙ ap submission_of same) seen.3;
  }

  pub history-evaluated : (journal : List Entry) (w : World) → IsHistory plan closure journal w
      → IsPlainlyEvaluated plan journal w
  history-evaluated journal w history =
      let leads : Leads plan empty_world (beginning closure ∷ history.later) w =
      subst (λ es. Leads plan empty_world es w) history.begins history.leads in
      let first = leads.0 in
      let both = along plan (λ (v : World). IsLeft v × IsEvaluatedWorld plan v)
      (λ v next e h s. (left-next v next e h.0 s, step-evaluated plan f outer uncached v (told-by v h.0) h.1 e next s))
      first w history.later (
        left-first first leads.1,
        step-evaluated plan f outer uncached empty_world told-first evaluated-first
            (beginning closure) first leads.1,
      )
      leads.2 in
      let is : w.entries ≡ journal = entries-are plan empty_world w journal history.leads in
      subst (λ es. IsPlainlyEvaluated plan es w) is (plainly w both.0 both.1)
