use Rattle.std.proofs.Common.{◌≡◌, List, [], ◌∷◌, ◌++◌, All, Result, Ok, Err, OnOk, OnErr, refl, sym, subst}
use Rattle.std.proofs.lemmas.List.Elements.{All-append}
use Rattle.fly_ports.specs.declared.spawner.Run.{Run}
use Rattle.fly_generator.specs.Adder.{IsAnswered}
use Rattle.fly_generator.proofs.Lists.{all_of_one}
use Rattle.fly_generator.proofs.adder.AdderSpawner.run.Goals as goal

-- a run that was noted, or was not
noted : {T E : Type 0} (r : Result T E) (old new : List Run) (run : Run) → OnOk r (new ≡ old ++ run ∷ [])
    → OnErr r (new ≡ old) → All IsAnswered old → IsAnswered run → All IsAnswered new
noted (Ok x) old new run ok err before last =
    subst (All IsAnswered) (sym ok) (All-append IsAnswered old (run ∷ []) before (all_of_one IsAnswered run last))
noted (Err e) old new run ok err before last = subst (All IsAnswered) (sym err) before

pub invariant_of-self-2 : goal.invariant_of-self-2
invariant_of-self-2 c =
    let last : IsAnswered c.in_ok-run.run' =
    subst IsAnswered (sym c.in_ok-run.ensures)
    (record { ended = c.in_ok-ended.ended; answer = refl; is = c.in_ok-ended.ensures.is }) in
    noted c.note.result c.self.inside.runs.items c.note.new.runs.items c.in_ok-run.run' c.note.ensures.ok
    c.note.ensures.err c.self.invariant last
