use Rattle.std.proofs.Common.{Some, w64, sym, ◌∙◌, ap, rules}
use Rattle.std.proofs.lemmas.Int.{to_z-of_z}
use Rattle.fly_catalog.specs.Cached.{owner_text}
use Rattle.fly_catalog.specs.Requests.{grant_of}
use Rattle.fly_world.specs.Answers.{answer_of}
use Rattle.fly_world.specs.Steps.{heartbeat}
use Rattle.fly_world.specs.declared.answers.Change.TheVariants as changes
use Rattle.fly_world.proofs.CacheLemmas.{granted_by}
use Rattle.fly_world.proofs.cache.granted.Goals as goal

pub returns-clause-answer : goal.returns-clause-answer
returns-clause-answer c = λ place there named pathed.
    let s = c.args.store.now in
    let grant = c.in_ok-grant.grant in
    ap (λ r. Some (answer_of s.plan s.world (record {
      reply = r;
      change = changes.Reserves c.args.spot c.in_ok-dataset.dataset c.in_ok-tag.tag c.in_ok-owner.owner;
    }))) c.grant_reply.ensures
    ∙ ap Some (granted_by s c.args.spot place c.args.task.now c.in_ok-dataset.dataset c.in_ok-tag.tag
    c.in_ok-owner.owner grant c.in_ok-dataset.ensures (c.in_ok-tag.ensures place there)
    (c.in_ok-owner.ensures
    ∙ ap (λ x. owner_text x c.args.path.now) (sym named)
    ∙ ap (owner_text place.execution.1.name) (sym pathed))
    (c.in_ok-grant.ensures
    ∙ ap (λ m. grant_of c.catalog.result.now c.in_ok-dataset.dataset c.in_ok-tag.tag c.in_ok-owner.owner m heartbeat)
    (to_z-of_z w64 c.moment.result (search rules))
    ∙ ap (λ d. grant_of d c.in_ok-dataset.dataset c.in_ok-tag.tag c.in_ok-owner.owner c.moment.result heartbeat)
    c.catalog.ensures
    ∙ ap (λ m. grant_of s.world.catalog c.in_ok-dataset.dataset c.in_ok-tag.tag c.in_ok-owner.owner m heartbeat)
    c.moment.ensures.value))
