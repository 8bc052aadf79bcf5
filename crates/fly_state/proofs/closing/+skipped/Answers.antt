use Rattle.std.proofs.Common.{◌∙◌, ap, sym}
use Rattle.fly_docs.specs.declared.binding.Bound.{Bound}
use Rattle.fly_types.specs.declared.text.Text.{Text}
use Rattle.fly_state.specs.Closing.{skips_one}
use Rattle.fly_state.specs.Looks.{promised_ids}
use Rattle.fly_state.proofs.Founds.{any-flat_map}
use Rattle.fly_state.proofs.LookLemmas.{ids-collection, ids-map}
use Rattle.fly_state.proofs.closing.+skipped.Goals as goal

pub promises_skipped-returns-in-Collection : goal.promises_skipped-returns-in-Collection
promises_skipped-returns-in-Collection t c =
    c.do_elements_skip.ensures
    ∙ sym (any-flat_map _ promised_ids c.as_slice.result.now)
    ∙ ap (skips_one c.args.plan.now c.args.state.now)
    (ids-collection c.args.x.now _ c.as_slice.result.now c.in-Collection.is c.as_slice.ensures)

pub promises_skipped-returns-in-Map : goal.promises_skipped-returns-in-Map
promises_skipped-returns-in-Map t c =
    c.do_entries_skip.ensures
    ∙ sym (any-flat_map _ (λ (e : Text × Bound). promised_ids e.1) c.as_slice-in-Map.result.now)
    ∙ ap (skips_one c.args.plan.now c.args.state.now)
    (ids-map c.args.x.now _ c.as_slice-in-Map.result.now c.in-Map.is c.as_slice-in-Map.ensures)
