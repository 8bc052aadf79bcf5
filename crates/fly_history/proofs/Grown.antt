-- A journal that goes on records more: what was found in a list is found with more behind it, and so results stay.
use Rattle.std.proofs.Common.{◌≡◌, Bool, List, ◌++◌, filter, find, bytes_eq, Option, Some, None, option_map, ◌∙◌, ap}
use Rattle.std.specs.Option.{option_or}
use Rattle.std.proofs.lemmas.List.Concat.{flat_map-append}
use Rattle.std.proofs.lemmas.List.Elements.{filter-append}
use Rattle.std.proofs.lemmas.List.Folds.{find-append}
use Rattle.std.proofs.lemmas.Option.{none-some}
use Rattle.fly_types.specs.declared.text.Text.{Text}
use Rattle.fly_docs.specs.declared.attempt_name.AttemptName.{AttemptName}
use Rattle.fly_policy.specs.declared.outcome.Outcome.{Outcome}
use Rattle.fly_state.specs.declared.entries.Entry.{Entry}
use Rattle.fly_world.specs.ReadOff.{results_by, settled_in, results_in}
use Rattle.fly_eval.specs.Results.{is_attempt_of}
use Rattle.fly_eval.specs.Laws.{HasResultsOf}
use Rattle.fly_history.specs.Recorded.{recorded_results}

-- the first of two stays where it is there
first-stays : {X Y : Type 0} (f : X → Y) (a b : Option X) (y : Y) → option_map f a ≡ Some y
    → option_map f (option_or a b) ≡ Some y
first-stays f None b y is = absurd (none-some y is)
first-stays f (Some x) b y is = is

-- what is found in a list is found with more behind it
pub found-before : {X Y : Type 0} (p : X → Bool) (f : X → Y) (xs ys : List X) (y : Y)
    → option_map f (find p xs) ≡ Some y
    → option_map f (find p (xs ++ ys)) ≡ Some y
found-before p f xs ys y is = ap (option_map f) (find-append p xs ys) ∙ first-stays f (find p xs) (find p ys) y is

results-append : (journal later : List Entry) (exec : Text)
    → results_in (journal ++ later) exec ≡ results_in journal exec ++ results_in later exec
results-append journal later exec =
    let of_exec : AttemptName × Outcome → Bool = λ r. bytes_eq exec r.0.exec in
    ap (filter of_exec) (flat_map-append (λ (e : Entry). results_by e.op e.reply) journal later)
    ∙ filter-append of_exec (settled_in journal) (settled_in later)

-- the results of a journal are among those of one that goes on
pub results-grow : (journal later : List Entry) (exec : Text)
    → HasResultsOf (recorded_results (journal ++ later) exec) (recorded_results journal exec)
results-grow journal later exec slot k o is =
    let of_attempt : AttemptName × Outcome → Bool = λ r. is_attempt_of slot k r.0 in
    let told : AttemptName × Outcome → Outcome = λ r. r.1 in
    ap (λ rs. option_map told (find of_attempt rs)) (results-append journal later exec)
    ∙ found-before of_attempt told (results_in journal exec) (results_in later exec) o is
