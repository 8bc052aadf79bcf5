-- What is heard of a child, by the answer of its spawner.
use Rattle.std.proofs.Common.{◌≢◌, Result, Ok, Err, IfOk, refl, inl, inr}
use Rattle.fly_types.specs.declared.memory.NoMemory.{NoMemory}
use Rattle.fly_ports.specs.Spawner.{SpawnerState, RunsProgram}
use Rattle.fly_ports.specs.declared.faults.SpawnFault.{SpawnFault}
use Rattle.fly_ports.specs.declared.faults.SpawnFault.TheVariants as fault
use Rattle.fly_ports.specs.declared.spawner.Ended.{Ended}
use Rattle.fly_docs.specs.AttemptName.{name_text}
use Rattle.fly_writers.specs.Literals.{literal_map_text}
use Rattle.fly_policy.specs.Outcome.{IsOutcomeOf}
use Rattle.fly_policy.specs.declared.heard.Heard.{Heard}
use Rattle.fly_policy.specs.declared.outcome.Outcome.{Outcome}
use Rattle.fly_world.specs.declared.work.Work.{Work}
use Rattle.fly_work.specs.Children.{child_words, IsHeard}
use Rattle.fly_work.specs.Parts.{Hears}

module _ (old new : SpawnerState) (work : Work) where
  -- no memory was found before the program ran, or behind it
  pub hears-short : (answer : Result Ended SpawnFault) (short : NoMemory)
      → RunsProgram old new (name_text work.name) (child_words work) (literal_map_text work.inputs) answer
      → Hears old new work (Err short)
  hears-short (Ok ended) short runs =
      inr (record { work = work; answer = Ok ended }, refl, record { runs = runs; ran = λ same. cc })
  hears-short (Err fault.Failed) short runs =
      inr (record { work = work; answer = Err fault.Failed }, refl, record { runs = runs; ran = λ same. cc })
  hears-short (Err fault.NoMemory) short runs = inl runs

  heard-ran : (answer : Result Ended SpawnFault) (heard : Heard) → IsHeard answer heard → answer ≢ Err fault.NoMemory
  heard-ran (Ok ended) heard is same = cc
  heard-ran (Err fault.Failed) heard is same = cc
  heard-ran (Err fault.NoMemory) heard is same = absurd is

  -- what was heard is what the attempt came to by
  pub hears-end : (answer : Result Ended SpawnFault) (heard : Heard) (result : Result Outcome NoMemory)
      → RunsProgram old new (name_text work.name) (child_words work) (literal_map_text work.inputs) answer
      → IsHeard answer heard
      → IfOk result (λ outcome. IsOutcomeOf work.outputs heard outcome) → Hears old new work result
  hears-end answer heard (Ok outcome) runs is means = (
    record { work = work; answer = answer },
    refl,
    record { runs = runs; ran = heard-ran answer heard is },
    (heard, is, means),
  )
  hears-end answer heard (Err short) runs is means = hears-short answer short runs
