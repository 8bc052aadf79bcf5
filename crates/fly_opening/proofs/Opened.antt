-- A run takes submissions: each is a step of its store, and behind the last the run has opened.
use Rattle.std.proofs.Common.{◌≡◌, ◌≢◌, ◌⊎◌, ℕ, ◌+◌, ◌-◌, ◌<◌, ◌≤◌, ◌^◌, max, Bool, true, false, cond, ◌&&◌, ◌||◌, List, [], ◌∷◌, ◌++◌, map, find, length, get_or, All, Option, Some, None, IsSome, is_some, inl, inr, refl, sym, ◌∙◌, ap, subst, arith, length-append}
use Rattle.std.specs.Prelude.{pos, nat_lt}
use Rattle.std.specs.List.{enumerate_from}
use Rattle.std.specs.Str.{bytes_eq}
use Rattle.std.proofs.lemmas.Bool.Decides.{nat_tests}
use Rattle.std.proofs.lemmas.List.{length-map, map-append}
use Rattle.std.proofs.lemmas.List.Elements.{All-head, All-tail, All-cons, All-map}
use Rattle.std.proofs.Math.ListN.{get_or-map, get_or-append}
use Rattle.std.proofs.Math.Seq.{get_or-append_seam}
use Rattle.fly_types.specs.declared.text.Text.{Text}
use Rattle.fly_docs.specs.declared.submission.Submission.{Submission}
use Rattle.fly_docs.specs.Names.{IsId}
use Rattle.fly_docs.specs.Templates.{is_id_text}
use Rattle.fly_docs.specs.Typed.{AreDistinct}
use Rattle.fly_state.specs.declared.entries.Entry.{Entry}
use Rattle.fly_state.specs.declared.entries.Op.{Op}
use Rattle.fly_state.specs.declared.entries.Op.TheVariants as op
use Rattle.fly_state.specs.declared.entries.Reply.{Reply}
use Rattle.fly_state.specs.declared.entries.Reply.TheVariants as reply
use Rattle.fly_state.specs.Moves.{where_true}
use Rattle.fly_state.specs.Plans.{RunPlan}
use Rattle.fly_state.specs.States.{first_state}
use Rattle.fly_world.specs.declared.called.Called.{Called}
use Rattle.fly_world.specs.Called.{IsCalled, entry_of}
use Rattle.fly_world.specs.Changes.{adds_execution, with_change, with_entry}
use Rattle.fly_world.specs.Journals.{IsStepBy, beginning}
use Rattle.fly_world.specs.Kept.{Kept, begun, moved_to}
use Rattle.fly_world.specs.Laws.{submission_of}
use Rattle.fly_world.specs.Steps.{Answer, says, does, first_fitting, are_workflow_inputs, max_executions, step}
use Rattle.fly_world.specs.World.{World, Execution, empty_catalog, is_submitted, unsettled}
use Rattle.fly_world.proofs.TestLemmas.{is_id-Decides}
use Rattle.fly_opening.specs.Opening.{submit_op, submit_entry, new_opening, opening_entries, AreOf, IsOpened, first_execution, opened_world, opened_store, IsTaken, with_submission}
use Rattle.fly_opening.specs.Submissions.{CanOpen}
use Rattle.fly_opening.proofs.Names.{same-name}
use Rattle.fly_opening.proofs.NameTables.{within-front}

-- ---- a name that no execution has

absent-name : (plan : RunPlan) (name : Text) (n : ℕ) (front : List Submission)
    → All (λ (s : Submission). bytes_eq name s.name ≡ false) front
    → find (λ (at : ℕ × Execution). bytes_eq name at.1.name) (enumerate_from n (map (first_execution plan) front))
    ≡ None
absent-name plan name n [] each = refl
absent-name plan name n (s ∷ front) each =
    let P : Submission → Type 0 = λ s. bytes_eq name s.name ≡ false in
    ap (λ b. cond b (Some (n, first_execution plan s))
    (find (λ (at : ℕ × Execution). bytes_eq name at.1.name)
    (enumerate_from (n + 1) (map (first_execution plan) front))))
    (All-head P s front each)
    ∙ absent-name plan name (n + 1) front (All-tail P s front each)

not-same : (a b : Text) → b ≢ a → bytes_eq a b ≡ false
not-same a b differ =
    elim (bytes_eq a b) as (λ t. bytes_eq a b ≡ t → t ≡ false) [
      | true ↦ λ same. absurd (differ (sym (same-name a b same)))
      | false ↦ λ _. refl
    ] refl

-- those before one have other names
others : (front : List Submission) (x : Submission) (rest : List Submission)
    → AreDistinct (map (λ (s : Submission). s.name) (front ++ x ∷ rest))
    → All (λ (s : Submission). bytes_eq x.name s.name ≡ false) front
others front x rest distinct i d within =
    let name : Submission → Text = λ s. s.name in
    let all = front ++ x ∷ rest in
    let more : length front < length all = within-front all front x rest refl in
    let long : length front < length (map name all) = omega (arith, length-map all name) in
    let here : get_or (map name all) i d.name ≡ (get_or front i d).name =
    get_or-map name all i d ∙ ap name (get_or-append front (x ∷ rest) d i within) in
    let there : get_or (map name all) (length front) d.name ≡ x.name =
    get_or-map name all (length front) d ∙ ap name (get_or-append_seam front x rest d) in
    not-same x.name (get_or front i d).name
    (λ same. distinct i (length front) d.name within long (here ∙ same ∙ sym there))

-- ---- a submission that is taken

few-executions : (n : ℕ) → n ≤ 64 → nat_lt n max_executions ≡ true
few-executions n few = grind (arith, nat_tests)

-- the answer to a submission, by its name, its inputs, whether it is there, and whether there is room
abbrev submit_answer : Answer → Bool → Bool → Bool → Bool → Option Answer
submit_answer taken id are there few =
    where_true (id && are && (there || few)) (Some (first_fitting ((there, says reply.Taken) ∷ []) taken))

abbrev taken_answer : RunPlan → Submission → Answer
taken_answer plan s = does reply.Submitted (adds_execution s.name s.inputs (first_state plan s.inputs))

step-taken : (plan : RunPlan) (w : World) (s : Submission) → is_id_text s.name ≡ true
    → are_workflow_inputs plan s.inputs ≡ true
    → is_submitted w s.name ≡ false → nat_lt (length w.executions) max_executions ≡ true
    → IsTaken plan w s
unfolding step
step-taken plan w s id are absent few =
    λ i. submit_answer (taken_answer plan s) (id i) (are i) (absent i) (few i)

-- the next one of those with which a run can open
pub taken : (plan : RunPlan) (closure : List ℕ) (all front : List Submission) (x : Submission)
    (rest : List Submission) → CanOpen plan all → all ≡ front ++ x ∷ rest
    → IsTaken plan (opened_world plan closure front) x
taken plan closure all front x rest can whole =
    let inside : length front < length all = within-front all front x rest whole in
    let at : get_or all (length front) x ≡ x =
    ap (λ (ss : List Submission). get_or ss (length front) x) whole ∙ get_or-append_seam front x rest x in
    let id : IsId x.name = subst (λ (s : Submission). IsId s.name) at (can.ids (length front) x inside) in
    let are : are_workflow_inputs plan x.inputs ≡ true =
    subst (λ (s : Submission). are_workflow_inputs plan s.inputs ≡ true) at (can.inputs (length front) x inside) in
    let differ = others front x rest
    (subst (λ (ss : List Submission). AreDistinct (map (λ (s : Submission). s.name) ss)) whole can.names) in
    let long : length (map (first_execution plan) front) ≡ length front = length-map front (first_execution plan) in
    let limit : length all ≤ 64 = can.few in
    let few : length (map (first_execution plan) front) ≤ 64 = omega arith in
    step-taken plan (opened_world plan closure front) x ((is_id-Decides x.name).1 id) are
    (ap is_some (absent-name plan x.name 0 front differ))
    (few-executions (length (map (first_execution plan) front)) few)

pub taken-stands : (plan : RunPlan) (w : World) (s : Submission) → IsTaken plan w s
    → IsSome (step plan w 0 (submit_op s))
taken-stands plan w s is = ap is_some is

answered : (plan : RunPlan) (w new : World) (s : Submission) (c : Called) → IsTaken plan w s
    → IsCalled plan w new 0 (submit_op s) c
    → IsStepBy w (entry_of 0 (submit_op s) c.reply) new (Some (taken_answer plan s))
answered plan w new s c is called =
    subst (λ (a : Option Answer). IsStepBy w (entry_of 0 (submit_op s) c.reply) new a) is called.step

pub taken-replies : (plan : RunPlan) (w new : World) (s : Submission) (c : Called) → IsTaken plan w s
    → IsCalled plan w new 0 (submit_op s) c → (c.reply ≡ reply.Submitted) ⊎ (c.reply ≡ reply.NoMemory)
taken-replies plan w new s c is called = by (answered plan w new s c is called)
  where
    by : IsStepBy w (entry_of 0 (submit_op s) c.reply) new (Some (taken_answer plan s))
        → (c.reply ≡ reply.Submitted) ⊎ (c.reply ≡ reply.NoMemory)
    by (inl done) = inl done.reply
    by (inr refused) = inr refused.reply

pub taken-leaves : (old new : Kept) (s : Submission) (c : Called) → IsTaken old.plan old.world s
    → IsCalled old.plan old.world new.world 0 (submit_op s) c → new ≡ moved_to old new.world
    → c.reply ≡ reply.Submitted → new ≡ with_submission old s
taken-leaves old new s c is called moved replied = by (answered old.plan old.world new.world s c is called)
  where
    by : IsStepBy old.world (entry_of 0 (submit_op s) c.reply) new.world (Some (taken_answer old.plan s))
        → new ≡ with_submission old s
    by (inl done) = moved ∙ ap (moved_to old) (done.world
        ∙ ap (λ (r : Reply). with_entry (with_change old.world
        (adds_execution s.name s.inputs (first_state old.plan s.inputs))) (entry_of 0 (submit_op s) r)) replied)
    by (inr refused) =
        let both : reply.Submitted ≡ reply.NoMemory = sym replied ∙ refused.reply in absurd (cc)

-- ---- from one to the next

-- the store that has begun, with room
pub opened-first : (k m : Kept) (count n : ℕ) → k ≡ begun k.plan k.closure
    → m ≡ record k { spare = max k.spare count } → count ≡ n → m ≡ opened_store k.plan k.closure n []
opened-first k m count n begins room same =
    let spare : max 0 count ≡ n - 0 = omega arith in
    room ∙ ap (λ (q : Kept). record q { spare = max q.spare count }) begins
    ∙ ap (λ (s : ℕ). record (begun k.plan k.closure) { spare = s }) spare

pub opened-more : (plan : RunPlan) (closure : List ℕ) (n : ℕ) (front : List Submission) (x : Submission)
    → with_submission (opened_store plan closure n front) x ≡ opened_store plan closure n (front ++ x ∷ [])
opened-more plan closure n front x =
    let executions : map (first_execution plan) front ++ first_execution plan x ∷ []
    ≡ map (first_execution plan) (front ++ x ∷ []) = sym (map-append (first_execution plan) front (x ∷ [])) in
    let entries : map submit_entry front ++ submit_entry x ∷ [] ≡ map submit_entry (front ++ x ∷ []) =
    sym (map-append submit_entry front (x ∷ [])) in
    let room : (n - length front) - 1 ≡ n - length (front ++ x ∷ []) =
    omega (arith, length-append front (x ∷ [])) in
    λ i. record {
      plan = plan;
      closure = closure;
      world = record {
        executions = executions i;
        launches = [];
        claims = [];
        outcomes = [];
        catalog = empty_catalog;
        moment = pos 0;
        entries = beginning closure ∷ entries i;
      };
      spare = room i;
    }

-- there is room for the next one
pub room-left : (k : Kept) (plan : RunPlan) (closure : List ℕ) (all front : List Submission) (x : Submission)
    (rest : List Submission) → k ≡ opened_store plan closure (length all) front → all ≡ front ++ x ∷ rest
    → 0 < k.spare
room-left k plan closure all front x rest is whole =
    let spare : k.spare ≡ length all - length front = ap (λ (q : Kept). q.spare) is in
    let inside : length front < length all = within-front all front x rest whole in
    omega arith

-- ---- behind the last

executions-of : (plan : RunPlan) (all : List Submission) → map submission_of (map (first_execution plan) all) ≡ all
executions-of plan [] = refl
executions-of plan (s ∷ all) = ap (λ (ss : List Submission). s ∷ ss) (executions-of plan all)

ops-of : (all : List Submission) → map (λ (e : Entry). e.op) (map submit_entry all) ≡ map submit_op all
ops-of [] = refl
ops-of (s ∷ all) = ap (λ (os : List Op). submit_op s ∷ os) (ops-of all)

opening-of : (closure : List ℕ) (all : List Submission)
    → AreOf (new_opening closure [] all) (opening_entries closure all)
opening-of closure all =
    let P : Entry → Type 0 = λ e. e.worker ≡ 0 in
    record {
      ops_are = ap (λ (os : List Op). op.Begin closure ∷ os) (ops-of all);
      worker = All-cons P (beginning closure) (map submit_entry all) refl
          (All-map P submit_entry all (λ i d within. refl));
    }

pub opened-last : (k : Kept) (plan : RunPlan) (closure : List ℕ) (n : ℕ) (all : List Submission)
    → k ≡ opened_store plan closure n all → IsOpened plan closure all k
opened-last k plan closure n all is =
    let entries : k.world.entries ≡ opening_entries closure all = ap (λ (q : Kept). q.world.entries) is in
    record {
      plan_is = ap (λ (q : Kept). q.plan) is;
      closure_is = ap (λ (q : Kept). q.closure) is;
      entries = entries;
      opens = subst (AreOf (new_opening closure [] all)) (sym entries) (opening-of closure all);
      executions = ap (λ (q : Kept). map submission_of q.world.executions) is ∙ executions-of plan all;
      settled = ap (λ (q : Kept). unsettled q.world) is;
    }
