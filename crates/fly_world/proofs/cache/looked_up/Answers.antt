use Rattle.std.proofs.Common.{◌≡◌, true, sym, ◌∙◌, ap}
use Rattle.std.specs.Option.{option_copied}
use Rattle.std.proofs.lemmas.Bool.{false≢true}
use Rattle.fly_catalog.specs.Requests.{content_of}
use Rattle.fly_catalog.specs.Cached.{cached_dataset}
use Rattle.fly_catalog.specs.declared.requests.Selector.TheVariants as selector
use Rattle.fly_state.specs.Moves.{is_queued}
use Rattle.fly_state.specs.declared.entries.Reply.TheVariants as reply
use Rattle.fly_world.specs.Spots.{tag_at}
use Rattle.fly_world.specs.Steps.{says}
use Rattle.fly_world.proofs.CacheLemmas.{hit}
use Rattle.fly_world.proofs.cache.looked_up.Goals as goal
use Rattle.fly_world.proofs.cache.looked_up.Goals.{in-Queued, in_default}

pub returns-then-gives_all : goal.returns-then-gives_all
returns-then-gives_all c = λ place there.
    let s = c.args.store.now in
    let t = c.args.task.now in
    let queued : is_queued c.phase_of.result ≡ true = elim c.match-matches.branch [
      | in-Queued w ↦ ap is_queued w.in-Queued.is
      | in_default w ↦ absurd (false≢true (sym w.matches-is ∙ c.if-not-matches.false))
    ] in
    let copied = c.in_ok-copy-in-Some.ensures in
    let given = sym c.gives_all.ensures ∙ c.if-gives_all.true in
    let catalog = c.catalog.result.now in
    let content =
    ap (λ w. content_of w (cached_dataset t) (selector.Tag (tag_at place))) (sym c.catalog.ensures)
    ∙ ap (λ d. content_of catalog d (selector.Tag (tag_at place))) (sym c.in_ok-dataset.ensures)
    ∙ ap (λ tag. content_of catalog c.in_ok-dataset.dataset (selector.Tag tag))
    (sym (c.in_ok-tag_at.ensures place there))
    ∙ sym c.get_artifact.ensures
    ∙ ap option_copied c.in-Some.is in
    ap (λ x. says (reply.Hit x)) copied
    ∙ sym (hit s place t c.in-Some.content.now (ap is_queued (sym (c.phase_of.ensures place there)) ∙ queued)
    content given)
