use Rattle.std.proofs.Common.{◌≡◌, List, Bool, false, get_or, length, sym, ◌∙◌, ap, subst, arith}
use Rattle.std.proofs.lemmas.Bool.{false≢true}
use Rattle.std.proofs.lemmas.List.{get_or_read}
use Rattle.fly_graph.specs.Components.{State, state_of, IsSearch, is_unseen}
use Rattle.fly_graph.proofs.SearchSteps.{search_start}
use Rattle.fly_graph.proofs.SearchCloses.{cyclic_when_done}
use Rattle.fly_graph.proofs.walks.leads_back.Goals as goal

pub visit-requires-clause-search : goal.visit-requires-clause-search
visit-requires-clause-search c =
    let P : State → Type 0 = IsSearch c.args.adjacency.now.count c.args.adjacency.now.edges.items in
    subst P (sym c.in_ok-search.ensures) (search_start _ _)

pub returns : goal.returns
returns c =
    let after = c.in_ok-visit.ensures in
    let flags : List Bool = c.visit.new.self.cyclic.items in
    let tells = cyclic_when_done _ _ (state_of c.visit.new.self) after.search (ap length after.empty) c.args.v
    (λ unseen. false≢true (sym after.visited ∙ ap is_unseen unseen)) in
    let read : c.index.result.now ≡ get_or flags c.args.v false =
    get_or_read flags c.args.v c.index.result.now (omega (arith, after.search.cyclic_len)) c.index.ensures false in
    (λ e. tells.0 (sym read ∙ e), λ cycle. read ∙ tells.1 cycle)
