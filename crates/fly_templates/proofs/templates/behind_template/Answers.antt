use Rattle.fly_templates.proofs.TemplateParts.{template_parts, closed_slice, behind_slice}
use Rattle.fly_templates.proofs.templates.behind_template.Goals as goal

pub slice_bounds-result-count : goal.slice_bounds-result-count
slice_bounds-result-count c =
    closed_slice c.args.name.now c.args.text.now c.without_spaces-opened.result.now c.without_spaces-closed.result.now
    (template_parts c.args.name.now c.args.text.now c.requires) c.without_spaces-opened.ensures
    c.without_spaces-closed.ensures

pub slice_bounds-result-start : goal.slice_bounds-result-start
slice_bounds-result-start c =
    closed_slice c.args.name.now c.args.text.now c.without_spaces-opened.result.now c.without_spaces-closed.result.now
    (template_parts c.args.name.now c.args.text.now c.requires) c.without_spaces-opened.ensures
    c.without_spaces-closed.ensures

pub returns : goal.returns
returns c =
    behind_slice c.args.name.now c.args.text.now c.without_spaces-opened.result.now c.without_spaces-closed.result.now
    c.without_spaces-opened.ensures c.without_spaces-closed.ensures
