-- A run that was driven to its end by children that add.
use Rattle.std.proofs.Common.{◌≡◌, ℕ, List, [], ◌∷◌, ◌++◌, map, flat_map, All, Option, Some, Result, Ok, Err, append_assoc, append-nil, subst, refl, sym, ap, ◌∙◌}
use Rattle.std.proofs.lemmas.List.Elements.{All-nil, All-cons, All-head, All-tail}
use Rattle.fly_ports.specs.Spawner.{SpawnerState, run_of, runs_with, RunsProgram}
use Rattle.fly_ports.specs.declared.faults.SpawnFault.{SpawnFault}
use Rattle.fly_ports.specs.declared.faults.SpawnFault.TheVariants as spawn_fault
use Rattle.fly_ports.specs.declared.spawner.Ended.{Ended}
use Rattle.fly_ports.specs.declared.spawner.Run.{Run}
use Rattle.fly_docs.specs.AttemptName.{name_text}
use Rattle.fly_writers.specs.Literals.{literal_map_text}
use Rattle.fly_state.specs.declared.entries.Entry.{Entry}
use Rattle.fly_state.specs.Plans.{RunPlan}
use Rattle.fly_world.specs.Journals.{IsHistory}
use Rattle.fly_world.specs.Kept.{Kept, IsLegal}
use Rattle.fly_work.specs.Children.{Child, child_words, RunsChild, RunAll}
use Rattle.fly_work.specs.Playing.{Outside}
use Rattle.fly_work.specs.Turns.{call_entry}
use Rattle.fly_work.specs.Drives.{DrivesAlone, AreTurns, turn_numbered}
use Rattle.fly_generator.specs.Adder.{IsSum}
use Rattle.fly_make.specs.Making.{IsOpened, IsAddingRun, HasSum}

-- ---- children

-- the run of a child
abbrev run_of_child : Child → Run
run_of_child k = run_of (name_text k.work.name) (child_words k.work) (literal_map_text k.work.inputs) k.answer

-- a child that ran is one run more
child-run : (old new : SpawnerState) (k : Child) → RunsChild old new k → new.runs ≡ runs_with old.runs (run_of_child k)
child-run old new k runs = by k.answer refl runs.runs
  where
    by : (a : Result Ended SpawnFault) → k.answer ≡ a → RunsProgram old new (name_text k.work.name) (child_words k.work)
        (literal_map_text k.work.inputs) a
        → new.runs ≡ runs_with old.runs (run_of (name_text k.work.name) (child_words k.work) (literal_map_text k.work.inputs) a)
    by (Ok ended) is adds = adds.runs
    by (Err spawn_fault.Failed) is adds = adds.runs
    by (Err spawn_fault.NoMemory) is adds = absurd (runs.ran is)

-- children that ran are as many runs more
children-runs : (old new : SpawnerState) (before after : List Run) (children : List Child) → RunAll old new children
    → old.runs ≡ Some before → new.runs ≡ Some after → after ≡ before ++ map run_of_child children
children-runs old new before after [] same then now =
    let both : Some after ≡ Some before = sym now ∙ ap (λ (s : SpawnerState). s.runs) same ∙ then in
    let one : after ≡ before = cc both in
    one ∙ sym (append-nil before)
children-runs old new before after (k ∷ ks) (next, runs, rest) then now =
    let more : next.runs ≡ Some (before ++ run_of_child k ∷ []) =
    child-run old next k runs ∙ ap (λ (r : Option (List Run)). runs_with r (run_of_child k)) then in
    children-runs next new (before ++ run_of_child k ∷ []) after ks rest more now
    ∙ append_assoc before (run_of_child k ∷ []) (map run_of_child ks)

all-of-map : {X Y : Type 0} (P : X → Type 0) (f : Y → X) (ys : List Y) → All P (map f ys) → All (λ y. P (f y)) ys
all-of-map P f [] h = All-nil (λ y. P (f y))
all-of-map P f (y ∷ ys) h = All-cons (λ z. P (f z)) y ys (All-head P (f y) (map f ys) h)
    (all-of-map P f ys (All-tail P (f y) (map f ys) h))

-- where each run was of a sum, each child has answered its sum
children-sums : (old new : SpawnerState) (runs : List Run) (children : List Child) → RunAll old new children
    → old.runs ≡ Some [] → new.runs ≡ Some runs → All IsSum runs → All HasSum children
children-sums old new runs children ran then now sums =
    let are : runs ≡ map run_of_child children = children-runs old new [] runs children ran then now in
    all-of-map IsSum run_of_child children (subst (All IsSum) are sums)

-- ---- the run

pub adding-run : {K : Type 0} {kept kept_part : K → List Entry → K → Type 0} {faults : K → ℕ} (plan : RunPlan)
    (old new : Kept) (before after : Outside K)
    (steps new_steps : ℕ) (done : Unit {0}) (runs : List Run)
    → DrivesAlone kept kept_part faults 0 old new before after steps new_steps (Ok done) → old.plan ≡ plan
    → IsOpened old → IsLegal new
    → before.spawner.runs ≡ Some [] → after.spawner.runs ≡ Some runs → All IsSum runs
    → IsAddingRun plan old.closure new.world
adding-run plan old new before after steps new_steps done runs drives own opened legal then now sums =
    let here : IsHistory old.plan new.closure new.world.entries new.world =
    subst (λ (p : RunPlan). IsHistory p new.closure new.world.entries new.world) drives.did.entries.plan legal in
    let history =
    subst (λ (h : List ℕ). IsHistory old.plan h new.world.entries new.world) drives.did.entries.closure here in
    subst (λ (p : RunPlan). IsAddingRun p old.closure new.world) own (record {
      history = history;
      turns = drives.turns;
      entries = drives.did.entries.entries
          ∙ ap (λ (l : List Entry). l ++ map (call_entry 0) (flat_map (λ calls. calls) drives.turns)) opened.entries;
      are_turns =
          subst (λ (n : ℕ). AreTurns old.plan old.closure new.world.entries (turn_numbered n 0) 0 drives.turns)
          opened.one drives.are_turns;
      rising = drives.did.entries.rising;
      children = drives.did.children;
      ran = drives.did.claimed;
      all_ran = drives.ended.1.ran;
      sums = children-sums before.spawner after.spawner runs drives.did.children drives.did.runs then now sums;
      over = drives.ended.0;
    })
