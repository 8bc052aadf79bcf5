-- The summary of a run, one entry and one execution after another.
use Rattle.std.proofs.Common.{◌≡◌, ℕ, ◌+◌, List, ◌++◌, length, drop, flat_map, slice_get, Option, Some, None, option_map, length-append, refl, ap, ◌∙◌}
use Rattle.fly_state.specs.declared.entries.Entry.{Entry}
use Rattle.fly_state.specs.declared.slots.ExecState.{ExecState}
use Rattle.fly_world.specs.World.{Execution}
use Rattle.fly_world.specs.ReadOff.{launched_in, launches_by}
use Rattle.fly_report.proofs.Places.{drop-next}
use Rattle.fly_make.specs.Making.{end_text}

-- the launches from a place on are that of its entry and those behind it
pub launches-next : (es : List Entry) (place : ℕ) (e : Entry) → slice_get es place ≡ Some e
    → length (launched_in (drop place es)) ≡ length (launches_by e.op e.reply) + length (launched_in (drop (place + 1) es))
launches-next es place e there =
    ap (λ (l : List Entry). length (launched_in l)) (drop-next es place e there)
    ∙ length-append (launches_by e.op e.reply) (launched_in (drop (place + 1) es))

-- how the executions from a number on ended
abbrev pub ends_text : List Execution → List ℕ
ends_text xs = flat_map (λ (x : Execution). end_text x.state) xs

-- the end of an execution, whose state is told, and of those behind it
pub ends-next : (xs : List Execution) (number : ℕ) (state : ExecState)
    → option_map (λ (x : Execution). x.state) (slice_get xs number) ≡ Some state
    → ends_text (drop number xs) ≡ end_text state ++ ends_text (drop (number + 1) xs)
ends-next xs number state there = by (slice_get xs number) refl there
  where
    by : (o : Option Execution) → slice_get xs number ≡ o → option_map (λ (x : Execution). x.state) o ≡ Some state
        → ends_text (drop number xs) ≡ end_text state ++ ends_text (drop (number + 1) xs)
    by None is told = absurd (cc told)
    by (Some x) is told =
        let same : x.state ≡ state = cc told in
        ap ends_text (drop-next xs number x is)
        ∙ ap (λ (s : ExecState). end_text s ++ ends_text (drop (number + 1) xs)) same
