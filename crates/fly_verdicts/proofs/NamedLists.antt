-- The lists of the number of an execution are what the journal records of its name.
use Rattle.std.proofs.Common.{◌≡◌, ℕ, cond, [], filter, flat_map, bytes_eq, Some, refl, ap, ◌∙◌}
use Rattle.std.specs.List.{slice_get}
use Rattle.fly_types.specs.declared.text.Text.{Text}
use Rattle.fly_state.specs.declared.entries.Entry.{Entry}
use Rattle.fly_state.specs.declared.entries.Op.{Op}
use Rattle.fly_state.specs.declared.entries.Op.TheVariants as op
use Rattle.fly_state.specs.declared.entries.Reply.{Reply}
use Rattle.fly_state.specs.declared.entries.Reply.TheVariants as reply
use Rattle.fly_state.specs.Plans.{RunPlan}
use Rattle.fly_state.proofs.KeyLemmas.{bytes_eq_back}
use Rattle.fly_world.specs.World.{World, Execution}
use Rattle.fly_world.specs.ReadOff.{results_in, hits_in, settled_in, hits_of_move, written_moves}
use Rattle.fly_world.specs.Versions.{HasNamesOfPlan}
use Rattle.fly_report.specs.LaunchCounts.{Numbers, NumbersExecutions}
use Rattle.fly_verdicts.specs.Grouped.{Settled, is_number, settled_at, moves_by, answered_at}
use Rattle.fly_verdicts.proofs.ExecutionLemmas.{is-own}

module _ (w : World) (numbers : Numbers) (numbered : NumbersExecutions w numbers) (plan : RunPlan)
    (names : HasNamesOfPlan plan w)
    (i : ℕ) (x : Execution) (execution : slice_get w.executions i ≡ Some x) where
  own : (exec : Text) → is_number numbers i exec ≡ bytes_eq x.name exec
  own exec = is-own w numbers numbered plan names i x execution exec ∙ bytes_eq_back exec x.name

  pub settled-own : settled_at numbers i w.entries ≡ results_in w.entries x.name
  settled-own = λ t. filter (λ (r : Settled). own r.0.exec t) (settled_in w.entries)

  moves-own : (worker : ℕ) (o : Op) (r : Reply)
      → moves_by numbers i o r ≡ written_moves x.name (record { worker = worker; op = o; reply = r })
  moves-own worker (op.Write other base moves) (reply.Written version) = ap (λ b. cond b moves []) (own other)
  moves-own worker _ _ = refl

  pub answered-own : answered_at w.entries numbers i w.entries ≡ hits_in w.entries x.name
  answered-own = λ t. flat_map (hits_of_move w.entries)
      (flat_map (λ (e : Entry). moves-own e.worker e.op e.reply t) w.entries)
