use Rattle.std.proofs.Common.{map, Option, nat_cmp, refl, ap, ◌∙◌}
use Rattle.std.specs.Option.{option_cmp}
use Rattle.fly_types.specs.declared.literals.LiteralMap.{LiteralMap}
use Rattle.fly_docs.specs.declared.attempt_name.AttemptName.{AttemptName}
use Rattle.fly_policy.specs.declared.outcome.Outcome.{Outcome}
use Rattle.fly_state.specs.Plans.{Path, number_of}
use Rattle.fly_eval.specs.Tables.{key_cmp, attempt_key}
use Rattle.fly_eval.proofs.PlacesFound.{keys-placed}
use Rattle.fly_eval.proofs.tables.records_of.Goals as goal

pub returns : goal.returns
returns c =
    let plan = c.args.plan.now in
    let key_of = λ (r : AttemptName × Outcome). attempt_key plan r.0 in
    let number = λ (h : Path × Option LiteralMap). number_of plan h.0 in
    record {
      results_are = refl;
      hits_are = refl;
      placed = λ key.
          c.in_ok-first_places.ensures key
          ∙ keys-placed (option_cmp key_cmp) key_of c.deref.result.now c.args.results.now.list
          (c.deref.ensures.value ∙ c.in_ok-attempts.ensures ∙ ap (map key_of) c.as_slice.ensures) key;
      answered = λ key.
          c.in_ok-first_places-2.ensures key
          ∙ keys-placed (option_cmp nat_cmp) number c.deref-2.result.now c.args.hits.now.list
          (c.deref-2.ensures.value ∙ c.in_ok-nodes.ensures ∙ ap (map number) c.as_slice-2.ensures) key;
    }
