-- What a turn runs: the program of a claimed attempt, what is heard of its end, and what the attempt came to.
use Rattle.std.specs.Prelude.{◌≡◌, ◌≢◌, ℤ, pos, List, ℕ, [], ◌∷◌, map, Option, Some, None, Result, Ok, Err}
use Rattle.std.specs.Ordering.{int_eq}
use Rattle.fly_types.specs.declared.said.Said.{Said}
use Rattle.fly_types.specs.declared.text.Text.{Text}
use Rattle.fly_ports.specs.Spawner.{SpawnerState, RunsProgram}
use Rattle.fly_ports.specs.declared.faults.SpawnFault.{SpawnFault}
use Rattle.fly_ports.specs.declared.faults.SpawnFault.TheVariants as fault
use Rattle.fly_ports.specs.declared.spawner.Ended.{Ended}
use Rattle.fly_docs.specs.AttemptName.{name_text}
use Rattle.fly_writers.specs.Literals.{literal_map_text}
use Rattle.fly_templates.specs.Words.{word_of}
use Rattle.fly_idl.specs.Saying.{Says}
use Rattle.fly_policy.specs.Outcome.{IsOutcomeOf}
use Rattle.fly_policy.specs.declared.heard.Heard.{Heard}
use Rattle.fly_policy.specs.declared.heard.Heard.TheVariants as heard
use Rattle.fly_policy.specs.declared.outcome.Outcome.{Outcome}
use Rattle.fly_world.specs.declared.work.Work.{Work}

-- A child: the work of its attempt, and how its program ended.
pub record Child : Type 0 where
  pub work : Work
  pub answer : Result Ended SpawnFault

-- ---- its run

-- the words of the work, with its inputs in place of their templates
abbrev pub child_words : Work → List Text
child_words work = map (word_of work.inputs) work.words

-- it ran under the name of its attempt, with the words of its work, and got the inputs as JSON
pub record RunsChild (old new : SpawnerState) (c : Child) : Type 0 where
  pub runs : RunsProgram old new (name_text c.work.name) (child_words c.work) (literal_map_text c.work.inputs) c.answer
  pub ran : c.answer ≢ Err fault.NoMemory

-- they ran one after another, and nothing else did
abbrev pub RunAll : SpawnerState → SpawnerState → List Child → Type 0
RunAll old new [] = new ≡ old
RunAll old new (c ∷ cs) = (next : SpawnerState) × RunsChild old next c × RunAll next new cs

-- ---- its end

-- what is heard of a program that ended so, and wrote this
abbrev pub IsHeardAt : Option ℤ → List ℕ → Heard → Type 0
IsHeardAt None out h = h ≡ heard.NoStatus
IsHeardAt (Some status) out h = (said : Said) × Says (int_eq status (pos 0)) out said × (h ≡ heard.Ended status said)

-- what is heard of an answer of the spawner
abbrev pub IsHeard : Result Ended SpawnFault → Heard → Type 0
IsHeard (Ok ended) h = IsHeardAt ended.status ended.out h
IsHeard (Err fault.Failed) h = h ≡ heard.Fault
IsHeard (Err fault.NoMemory) h = ⊥

-- what its attempt came to
abbrev pub CameTo : Child → Outcome → Type 0
CameTo c o = (h : Heard) × IsHeard c.answer h × IsOutcomeOf c.work.outputs h o
