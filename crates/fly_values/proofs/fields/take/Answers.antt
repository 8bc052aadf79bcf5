use Rattle.std.proofs.Common.{◌≡◌, ap, subst, ◌∙◌, option_map}
use Rattle.serde_json.specs.Find.{get_member}
use Rattle.serde_json.specs.View.{view, members_view}
use Rattle.serde_json.proofs.Views.{view-lookup}
use Rattle.fly_values.proofs.FieldLemmas.{IsWithout, field-taken, field-kept}
use Rattle.fly_values.proofs.fields.take.Goals as goal

pub returns-clause-value : goal.returns-clause-value
returns-clause-value c =
    let name = c.args.name.now in
    c.first_there.ensures ∙ field-taken name c.args.fields.now c.remove-under_name.new.self _ _
    c.remove-under_name.ensures.updates
    (ap (option_map view) c.remove-under_name.ensures.value ∙ view-lookup name c.args.fields.now.entries)
    (subst (λ k. option_map view c.remove-under_original.result ≡ get_member k (members_view c.remove-under_name.new.self.entries)) c.requires
    (ap (option_map view) c.remove-under_original.ensures.value
    ∙ view-lookup c.args.original.now c.remove-under_name.new.self.entries))

pub returns-clause-rest : goal.returns-clause-rest
returns-clause-rest c =
    λ other apart. field-kept c.args.name.now c.args.fields.now c.remove-under_name.new.self
    c.remove-under_original.new.self c.remove-under_name.ensures.updates
    (subst (λ k. IsWithout k c.remove-under_name.new.self c.remove-under_original.new.self) c.requires
    c.remove-under_original.ensures.updates)
    other apart
