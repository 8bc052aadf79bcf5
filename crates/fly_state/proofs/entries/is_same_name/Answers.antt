use Rattle.std.proofs.Common.{sym, ap, ◌∙◌, rules}
use Rattle.fly_docs.specs.declared.attempt_name.AttemptName.{AttemptName}
use Rattle.fly_state.proofs.NameLemmas.{same_name}
use Rattle.fly_state.proofs.entries.is_same_name.Goals as goal

pub returns : goal.returns
returns c =
    let a = c.args.a.now in
    let b = c.args.b.now in (
      λ yes. same_name a b (search rules) (sym c.as_slice.ensures ∙ c.is_same_path.ensures.0 yes ∙ c.as_slice-2.ensures) (search rules) c.if-a-b.false,
      λ same. c.is_same_path.ensures.1 (c.as_slice.ensures ∙ ap (λ (n : AttemptName). n.path) same ∙ sym c.as_slice-2.ensures),
    )
