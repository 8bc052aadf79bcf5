-- What is kept along entries, one by one, and what a journal's world tells of it.
use Rattle.std.proofs.Common.{◌≡◌, inl, inr, ℕ, true, List, [], ◌∷◌, ◌++◌, fold, Option, Some, None, refl, sym, subst, ap, ◌∙◌}
use Rattle.std.specs.Int.{int_max}
use Rattle.std.proofs.lemmas.Bool.{true≢false, false≢true}
use Rattle.std.proofs.lemmas.List.{append_assoc, append-nil}
use Rattle.fly_state.specs.declared.entries.Entry.{Entry}
use Rattle.fly_state.specs.declared.entries.Op.{Op}
use Rattle.fly_state.specs.declared.entries.Op.TheVariants as op
use Rattle.fly_state.specs.declared.entries.Reply.{Reply}
use Rattle.fly_state.specs.declared.entries.Reply.TheVariants as reply
use Rattle.fly_state.specs.Plans.{RunPlan}
use Rattle.fly_world.specs.World.{World, empty_world}
use Rattle.fly_world.specs.Changes.{Change, no_change, moment_becomes, catalog_becomes, lets_go, adds_execution, adds_launch, adds_claim, adds_outcome, adds_version, with_change, with_entry}
use Rattle.fly_world.specs.Steps.{Answer, step}
use Rattle.fly_world.specs.Journals.{IsStepBy, Step, Leads, IsHistory, beginning}
use Rattle.fly_world.specs.ReadOff.{launches_by, claims_by, results_by, submissions_by, ticks_by}
use Rattle.fly_world.specs.Laws.{IsPrefix}
use Rattle.fly_world.proofs.StepLemmas.{Permits, launch_in, claim_in, outcome_in, submission_in, is_no_memory, is_sweep, lets_any_go, step-fine}

-- ---- changes and entries

pub same_entries : (w : World) (c : Change) → (with_change w c).entries ≡ w.entries
same_entries w no_change = refl
same_entries w (moment_becomes moment) = refl
same_entries w (catalog_becomes catalog) = refl
same_entries w (lets_go ends) = refl
same_entries w (adds_execution name inputs state) = refl
same_entries w (adds_launch name inputs) = refl
same_entries w (adds_claim name) = refl
same_entries w (adds_outcome name o) = refl
same_entries w (adds_version at state) = refl

-- ---- steps

-- what an operation with its reply tells of a change
abbrev pub TellsOf : World → Op → Reply → Change → Type 0
TellsOf w o r c =
    (launches_by o r ≡ launch_in c) × (claims_by o r ≡ claim_in c) × (results_by o r ≡ outcome_in c)
    × (submissions_by o r ≡ submission_in c)
    × ((with_change w c).moment ≡ fold int_max w.moment (ticks_by o r)) × (lets_any_go c ≡ true → is_sweep o ≡ true)

-- want of memory tells of none
refused-tells : (w : World) (o : Op) → TellsOf w o reply.NoMemory no_change
refused-tells w (op.Begin closure) = (refl, refl, refl, refl, refl, λ none. absurd (false≢true none))
refused-tells w (op.Import dataset tag content) = (refl, refl, refl, refl, refl, λ none. absurd (false≢true none))
refused-tells w (op.Submit exec inputs) = (refl, refl, refl, refl, refl, λ none. absurd (false≢true none))
refused-tells w (op.Tick now) = (refl, refl, refl, refl, refl, λ none. absurd (false≢true none))
refused-tells w op.Sweep = (refl, refl, refl, refl, refl, λ none. absurd (false≢true none))
refused-tells w (op.Read from back) = (refl, refl, refl, refl, refl, λ none. absurd (false≢true none))
refused-tells w (op.Lookup exec path) = (refl, refl, refl, refl, refl, λ none. absurd (false≢true none))
refused-tells w (op.Reserve exec path) = (refl, refl, refl, refl, refl, λ none. absurd (false≢true none))
refused-tells w (op.Launch name inputs) = (refl, refl, refl, refl, refl, λ none. absurd (false≢true none))
refused-tells w (op.Expire name) = (refl, refl, refl, refl, refl, λ none. absurd (false≢true none))
refused-tells w (op.Put exec path) = (refl, refl, refl, refl, refl, λ none. absurd (false≢true none))
refused-tells w (op.Write exec base moves) = (refl, refl, refl, refl, refl, λ none. absurd (false≢true none))
refused-tells w op.Claim = (refl, refl, refl, refl, refl, λ none. absurd (false≢true none))
refused-tells w (op.Finish name o) = (refl, refl, refl, refl, refl, λ none. absurd (false≢true none))

module _ (plan : RunPlan) where
  -- A step makes a change that may be made, of which the entry tells.
  step_by : (P : World → Type 0) (w new : World) (e : Entry) (o : Option Answer) → step plan w e.worker e.op ≡ o
      → IsStepBy w e new o
      → ((c : Change) → Permits plan w c → TellsOf w e.op e.reply c → P (with_entry (with_change w c) e)) → P new
  step_by P w new e None h s made = absurd s
  step_by P w new e (Some a) h (inl answered) made =
      let fine = step-fine plan w e.worker e.op a h in
      let tells = subst (λ r. TellsOf w e.op r a.change) (sym answered.reply)
      (fine.1.0, fine.1.1, fine.1.2, fine.1.3, fine.1.4, λ sweeps. sym fine.1.6 ∙ sweeps) in
      subst P (sym answered.world) (made a.change fine.0 tells)
  step_by P w new e (Some a) h (inr kept) made =
      subst P (sym kept.world) (made no_change tt
      (subst (λ r. TellsOf w e.op r no_change) (sym kept.reply) (refused-tells w e.op)))

  pub step_cases : (P : World → Type 0) (w new : World) (e : Entry) → Step plan w e new
      → ((c : Change) → Permits plan w c → TellsOf w e.op e.reply c → P (with_entry (with_change w c) e)) → P new
  step_cases P w new e s made = step_by P w new e (step plan w e.worker e.op) refl s made

  -- an entry leads to one world
  one_by : (w a b : World) (e : Entry) (o : Option Answer) → step plan w e.worker e.op ≡ o → IsStepBy w e a o
      → IsStepBy w e b o → a ≡ b
  one_by w a b e None h s t = absurd s
  one_by w a b e (Some x) h (inl s) (inl t) = s.world ∙ sym t.world
  one_by w a b e (Some x) h (inr s) (inr t) = s.world ∙ sym t.world
  one_by w a b e (Some x) h (inl s) (inr t) =
      absurd (true≢false (sym (ap is_no_memory (sym s.reply ∙ t.reply)) ∙ (step-fine plan w e.worker e.op x h).1.5))
  one_by w a b e (Some x) h (inr s) (inl t) =
      absurd (true≢false (sym (ap is_no_memory (sym t.reply ∙ s.reply)) ∙ (step-fine plan w e.worker e.op x h).1.5))

  one_step : (w a b : World) (e : Entry) → Step plan w e a → Step plan w e b → a ≡ b
  one_step w a b e s t = one_by w a b e (step plan w e.worker e.op) refl s t

  pub one-world : (w a b : World) (es : List Entry) → Leads plan w es a → Leads plan w es b → a ≡ b
  one-world w a b [] s t = s ∙ sym t
  one-world w a b (e ∷ es) s t =
      let same = one_step w s.0 t.0 e s.1 t.1 in
      one-world t.0 a b es (subst (λ v. Leads plan v es a) same s.2) t.2

  -- ---- along entries

  -- what each step keeps is kept along entries
  pub along : (P : World → Type 0) → ((w next : World) (e : Entry) → P w → Step plan w e next → P next)
      → (w new : World) (es : List Entry)
      → P w → Leads plan w es new → P new
  along P kept w new [] start leads = subst P (sym leads) start
  along P kept w new (e ∷ es) start leads = along P kept leads.0 new es (kept w leads.0 e start leads.1) leads.2

  -- what each change keeps is kept along entries
  pub along_changes : (P : World → Type 0) → ((w : World) (e : Entry) → P w → P (with_entry w e))
      → ((w : World) (c : Change) → P w → Permits plan w c → P (with_change w c)) → (w new : World) (es : List Entry)
      → P w → Leads plan w es new → P new
  along_changes P entered changed w new es start leads =
      along P (λ v next e at s. step_cases P v next e s
      (λ c permits tells. entered (with_change v c) e (changed v c at permits))) w new es start leads

  -- the entries are those of the journal
  pub entries-are : (w new : World) (es : List Entry) → Leads plan w es new → new.entries ≡ w.entries ++ es
  entries-are w new [] leads = ap (λ (v : World). v.entries) leads ∙ sym (append-nil w.entries)
  entries-are w new (e ∷ es) leads =
      let next : leads.0.entries ≡ w.entries ++ e ∷ [] =
      step_cases (λ v. v.entries ≡ w.entries ++ e ∷ []) w leads.0 e leads.1 (λ c permits tells. entered c) in
      entries-are leads.0 new es leads.2 ∙ ap (λ xs. xs ++ es) next ∙ append_assoc w.entries (e ∷ []) es
    where
      entered : (c : Change) → (with_entry (with_change w c) e).entries ≡ w.entries ++ e ∷ []
      entered c = ap (λ xs. xs ++ e ∷ []) (same_entries w c)

  -- a front of entries leads to some world, from which the rest leads on
  pub leads-front : (w new : World) (front back : List Entry) → Leads plan w (front ++ back) new
      → (middle : World) × Leads plan w front middle × Leads plan middle back new
  leads-front w new [] back leads = (w, refl, leads)
  leads-front w new (e ∷ es) back leads =
      let rest = leads-front leads.0 new es back leads.2 in
      (rest.0, (leads.0, leads.1, rest.1), rest.2)

  pub leads-on : (w middle new : World) (front back : List Entry) → Leads plan w front middle
      → Leads plan middle back new
      → Leads plan w (front ++ back) new
  leads-on w middle new [] back first rest = subst (λ v. Leads plan v back new) first rest
  leads-on w middle new (e ∷ es) back first rest =
      (first.0, first.1, leads-on first.0 middle new es back first.2 rest)

  pub history-prefix : (closure : List ℕ) (front back : List Entry) (w : World)
      → IsHistory plan closure (beginning closure ∷ front ++ back) w
      → IsPrefix plan closure front back w
  history-prefix closure front back w history =
      let parts = leads-front empty_world w (beginning closure ∷ front) back history.leads in
      record { world = parts.0; front_is = record { later = front; begins = refl; leads = parts.1 }; back_leads = parts.2 }
