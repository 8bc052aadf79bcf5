use Rattle.std.proofs.Common.{◌≡◌, ◌<◌, length, sym, ◌∙◌, ap, subst, arith}
use Rattle.std.proofs.lemmas.List.{get_or_read}
use Rattle.fly_graph.specs.declared.components.Mark.TheVariants.{Unseen}
use Rattle.fly_graph.specs.Components.{State, state_of, IsSearch, mark_of}
use Rattle.fly_graph.proofs.SearchSteps.{search_enter}
use Rattle.fly_graph.proofs.components.Search.visit.Goals as goal

pub run-requires : goal.run-requires
run-requires c =
    let s : State = state_of c.args.self.now in
    let within : c.args.v < length s.marks = omega (arith, c.requires.v, c.requires.search.marks_len) in
    let new : mark_of s c.args.v ≡ Unseen = sym (get_or_read s.marks c.args.v c.index.result.now within c.index.ensures Unseen) ∙ c.in-Unseen.is in
    let none : length s.path ≡ 0 = ap length c.requires.empty in
    let P : State → Type 0 = IsSearch c.args.adjacency.now.count c.args.adjacency.now.edges.items in
    subst P (sym c.in_ok-enter.ensures) (search_enter _ _ s c.requires.search c.args.v c.requires.v new (λ i low. absurd (omega arith)))
