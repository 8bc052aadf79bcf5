-- The answers on the cache, as the code comes to them.
use Rattle.std.proofs.Common.{◌≡◌, true, false, not, ◌||◌, cond, Option, Some, sym, ◌∙◌, ap}
use Rattle.std.specs.Option.{option_map_or, option_and_then}
use Rattle.fly_types.specs.declared.text.Text.{Text}
use Rattle.fly_types.specs.declared.literals.LiteralMap.{LiteralMap}
use Rattle.fly_docs.specs.declared.dataset.DatasetId.{DatasetId}
use Rattle.fly_docs.specs.declared.task.Task.{Task}
use Rattle.fly_catalog.specs.declared.requests.Grant.{Grant}
use Rattle.fly_catalog.specs.declared.requests.Selector.TheVariants as selector
use Rattle.fly_catalog.specs.Cached.{cached_dataset}
use Rattle.fly_catalog.specs.Requests.{content_of, grant_of, after_grant}
use Rattle.fly_state.specs.declared.entries.Reply.TheVariants as reply
use Rattle.fly_state.specs.declared.entries.Reply.{Reply}
use Rattle.fly_state.specs.Plans.{Path}
use Rattle.fly_state.specs.States.{is_final, is_not_yet_started}
use Rattle.fly_state.specs.Moves.{where_true, is_queued}
use Rattle.fly_world.specs.declared.answers.Change.TheVariants as changes
use Rattle.fly_world.specs.declared.spots.Spot as numbers
use Rattle.fly_world.specs.declared.answers.Answer as told
use Rattle.fly_world.specs.declared.cache.Cached.TheVariants as cached
use Rattle.fly_world.specs.Answers.{answer_of, answer_in}
use Rattle.fly_world.specs.Cache.{IsCachedNode}
use Rattle.fly_world.specs.Changes.{catalog_becomes}
use Rattle.fly_world.specs.Spots.{Spot, are_ids, spot_of, phase_at, cached_task, tag_at, owner_at, gives_all}
use Rattle.fly_world.specs.Steps.{Answer, says, does, if_known, on_node, on_cached, looked_up, grant_reply, granted, reserved, heartbeat}
use Rattle.fly_world.specs.Store.{StoreLists}
use Rattle.fly_world.specs.World.{World}

-- the queued node's outputs are there
pub hit : (s : StoreLists) (spot : Spot) (t : Task) (content : LiteralMap) → is_queued (phase_at spot) ≡ true
    → content_of s.world.catalog (cached_dataset t) (selector.Tag (tag_at spot)) ≡ Some content
    → gives_all t.interface.outputs content ≡ true
    → looked_up s.world spot t ≡ says (reply.Hit content)
hit s spot t content queued there given =
    let found : Option LiteralMap → Answer =
    λ o. option_map_or (λ (x : LiteralMap). says (reply.Hit x))
    (option_and_then (λ (x : LiteralMap). where_true (gives_all t.interface.outputs x) (Some x)) o)
    (says reply.Miss) in
    let content_there = content_of s.world.catalog (cached_dataset t) (selector.Tag (tag_at spot)) in
    ap (λ b. cond (not b) (says reply.NotReady) (found content_there)) queued
    ∙ ap found there
    ∙ ap (λ b. option_map_or (λ (x : LiteralMap). says (reply.Hit x)) (where_true b (Some content)) (says reply.Miss))
    given

-- the node has its tag reserved for it, or hears who has it
pub granted_by : (s : StoreLists) (number : numbers.Spot) (spot : Spot) (t : Task) (d : DatasetId) (tag owner : Text)
    (grant : Grant) → d ≡ cached_dataset t → tag ≡ tag_at spot → owner ≡ owner_at spot
    → grant ≡ grant_of s.world.catalog d tag owner s.world.moment heartbeat
    → answer_of s.plan s.world (record { reply = grant_reply grant; change = changes.Reserves number d tag owner })
    ≡ granted s.world spot t
granted_by s number spot t d tag owner grant d-is tag-is owner-is grant-is =
    let c = s.world.catalog in
    let given : DatasetId → Text → Text → Grant = λ e name o. grant_of c e name o s.world.moment heartbeat in
    let gives : DatasetId → Text → Text → Answer =
    λ e name o. does (grant_reply (given e name o)) (catalog_becomes (after_grant c e name o (given e name o))) in
    ap (λ g. does (grant_reply g) (catalog_becomes (after_grant c d tag owner (given d tag owner)))) grant-is
    ∙ ap (λ e. gives e tag owner) d-is
    ∙ ap (λ name. gives (cached_dataset t) name owner) tag-is
    ∙ ap (gives (cached_dataset t) (tag_at spot)) owner-is

-- a node that may ask is answered by the catalog
pub reserved-ready : (w : World) (spot : Spot) (t : Task)
    → ((not t.serializable || is_not_yet_started (phase_at spot)) || is_final (phase_at spot)) ≡ false
    → reserved w spot t ≡ granted w spot t
reserved-ready w spot t ready = ap (λ b. cond b (says reply.NotReady) (granted w spot t)) ready

module _ (s : StoreLists) (exec : Text) (path : Path) (f : Spot → Task → Answer) where
  -- the answer that is the same for each operation on the cache
  pub said : (r : Reply) (a : told.Answer) → IsCachedNode s exec path (cached.Says r)
      → a ≡ record { reply = r; change = changes.Nothing }
      → answer_in s (Some a) ≡ on_node s.plan s.world exec path (λ spot. on_cached s.plan spot (f spot))
  said r a node is =
      let known = if_known (λ spot. on_cached s.plan spot (f spot)) (spot_of s.plan s.world exec path) in
      ap (λ (x : told.Answer). answer_in s (Some x)) is
      ∙ ap Some (sym (node.1 f))
      ∙ ap (λ b. where_true b (Some known)) (sym node.0)

  -- the answer at a cached node
  pub at_cached : (spot : Spot) (t : Task) → are_ids exec path ≡ true → spot_of s.plan s.world exec path ≡ Some spot
      → cached_task s.plan spot.node ≡ Some t
      → on_node s.plan s.world exec path (λ x. on_cached s.plan x (f x)) ≡ Some (f spot t)
  at_cached spot t ids there runs =
      let known = if_known (λ x. on_cached s.plan x (f x)) (spot_of s.plan s.world exec path) in
      ap (λ b. where_true b (Some known)) ids
      ∙ ap (λ o. Some (if_known (λ x. on_cached s.plan x (f x)) o)) there
      ∙ ap (λ o. Some (option_map_or (f spot) o (says reply.NotReady))) runs
