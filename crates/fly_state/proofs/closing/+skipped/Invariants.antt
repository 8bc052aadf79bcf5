use Rattle.std.proofs.Common.{◌≡◌, false, take}
use Rattle.std.specs.List.{list_any}
use Rattle.fly_state.specs.Closing.{skips_one}
use Rattle.fly_state.specs.Looks.{promised_ids}
use Rattle.fly_state.proofs.closing.+skipped.Given as goal

abbrev pub invariant-do_elements_skip-loop-element : goal.invariant-do_elements_skip-loop-element
invariant-do_elements_skip-loop-element l =
    list_any (λ e. skips_one l.plan l.state (promised_ids e)) (take l.element-index l.elements) ≡ false

abbrev pub invariant-do_entries_skip-loop-value : goal.invariant-do_entries_skip-loop-value
invariant-do_entries_skip-loop-value l =
    list_any (λ e. skips_one l.plan l.state (promised_ids e.1)) (take l.value-index l.entries) ≡ false
