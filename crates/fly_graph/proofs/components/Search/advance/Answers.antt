use Rattle.std.proofs.Common.{◌≡◌, ℕ, ◌+◌, ◌-◌, ◌<◌, List, length, get_or, set, take, sym, ◌∙◌, ap, subst, arith}
use Rattle.fly_graph.specs.Adjacency.{edges_leaving}
use Rattle.fly_graph.specs.Components.{State, state_of, IsSearch, work_left, meet, target}
use Rattle.fly_graph.proofs.SearchSteps.{search_retire}
use Rattle.fly_graph.proofs.SearchAdvance.{top_within, top_marked, top_below, target_below, advance_search, advance_less, advance_len, followed_is, followed_within, more_left, none_left}
use Rattle.fly_graph.proofs.components.Search.advance.Goals as goal

pub index-v-requires : goal.index-v-requires
index-v-requires c =
    let low = top_within _ _ (state_of c.args.self.now) c.requires.search c.requires.pending c.args.place c.requires.place in
    omega (arith, low)

pub index-followed-requires : goal.index-followed-requires
index-followed-requires c =
    let low = top_below _ _ (state_of c.args.self.now) c.requires.search c.requires.pending c.args.place c.requires.place c.index-v.result.now c.index-v.ensures in
    omega (arith, low, c.requires.search.followed_len)

pub leaving-leaving-requires : goal.leaving-leaving-requires
leaving-leaving-requires c = top_below _ _ (state_of c.args.self.now) c.requires.search c.requires.pending c.args.place c.requires.place c.index-v.result.now c.index-v.ensures

pub returns-then-followed-leaving-clause-search : goal.returns-then-followed-leaving-clause-search
returns-then-followed-leaving-clause-search c =
    let low = top_below _ _ (state_of c.args.self.now) c.requires.search c.requires.pending c.args.place c.requires.place c.index-v.result.now c.index-v.ensures in
    let on = top_marked _ _ (state_of c.args.self.now) c.requires.search c.requires.pending c.args.place c.requires.place c.index-v.result.now c.index-v.ensures in
    let all = none_left _ _ (state_of c.args.self.now) c.requires.search c.index-v.result.now low c.index-followed.result.now c.index-followed.ensures c.leaving-leaving.result.now c.leaving-leaving.ensures c.if-followed-leaving.true in
    let pending : List ℕ = c.args.self.now.pending.items in
    let popped : c.pop.new.self.items ≡ take (length pending - 1) pending = c.pop.ensures.rest ∙ ap (λ n. take (n - 1) pending) c.args.self.now.pending.ok.0 in
    let P : List ℕ → Type 0 = λ xs. IsSearch c.args.adjacency.now.count c.args.adjacency.now.edges.items (record (state_of c.args.self.now) { pending = xs }) in
    subst P (sym popped) (search_retire _ _ (state_of c.args.self.now) c.requires.search c.index-v.result.now c.args.place on all c.requires.pending c.requires.place)

pub offset_bounds-leaving-followed : goal.offset_bounds-leaving-followed
offset_bounds-leaving-followed c =
    let low = top_below _ _ (state_of c.args.self.now) c.requires.search c.requires.pending c.args.place c.requires.place c.index-v.result.now c.index-v.ensures in
    let within = followed_within _ _ (state_of c.args.self.now) c.requires.search c.index-v.result.now low c.index-followed.result.now c.index-followed.ensures c.leaving-leaving.result.now c.leaving-leaving.ensures c.if-followed-leaving.false in
    omega (arith, within, c.leaving-leaving.type_inv.1)

pub bounds-leaving-followed : goal.bounds-leaving-followed
bounds-leaving-followed c =
    let low = top_below _ _ (state_of c.args.self.now) c.requires.search c.requires.pending c.args.place c.requires.place c.index-v.result.now c.index-v.ensures in
    followed_within _ _ (state_of c.args.self.now) c.requires.search c.index-v.result.now low c.index-followed.result.now c.index-followed.ensures c.leaving-leaving.result.now c.leaving-leaving.ensures c.if-followed-leaving.false

pub meet-requires-clause-v : goal.meet-requires-clause-v
meet-requires-clause-v c =
    let low = top_below _ _ (state_of c.args.self.now) c.requires.search c.requires.pending c.args.place c.requires.place c.index-v.result.now c.index-v.ensures in
    omega (arith, low, c.requires.search.cyclic_len)

pub meet-requires-clause-target : goal.meet-requires-clause-target
meet-requires-clause-target c =
    let low = top_below _ _ (state_of c.args.self.now) c.requires.search c.requires.pending c.args.place c.requires.place c.index-v.result.now c.index-v.ensures in
    let more = more_left _ _ (state_of c.args.self.now) c.requires.search c.index-v.result.now low c.index-followed.result.now c.index-followed.ensures c.leaving-leaving.result.now c.leaving-leaving.ensures c.if-followed-leaving.false in
    let below = target_below _ _ c.args.adjacency.now.indexed.ends c.index-v.result.now c.index-followed.result.now more in
    let same = ap (λ (xs : List (ℕ × ℕ)). (get_or xs c.index-followed.result.now (0, 0)).1) c.leaving-leaving.ensures in
    omega (arith, below, same, c.requires.search.marks_len)

pub overflow_add-followed : goal.overflow_add-followed
overflow_add-followed c =
    let low = top_below _ _ (state_of c.args.self.now) c.requires.search c.requires.pending c.args.place c.requires.place c.index-v.result.now c.index-v.ensures in
    let within = followed_within _ _ (state_of c.args.self.now) c.requires.search c.index-v.result.now low c.index-followed.result.now c.index-followed.ensures c.leaving-leaving.result.now c.leaving-leaving.ensures c.if-followed-leaving.false in
    omega (arith, within, c.leaving-leaving.type_inv.0)

-- the state once the edge is met
met_state : (s t : State) (v k : ℕ) (edges leaving : List (ℕ × ℕ)) → leaving ≡ edges_leaving edges v → t ≡ meet v (get_or leaving k (0, 0)).1 s → t ≡ meet v (target edges v k) s
met_state s t v k edges leaving are e = e ∙ ap (λ (xs : List (ℕ × ℕ)). meet v (get_or xs k (0, 0)).1 s) are

pub index_mut-requires : goal.index_mut-requires
index_mut-requires c =
    let low = top_below _ _ (state_of c.args.self.now) c.requires.search c.requires.pending c.args.place c.requires.place c.index-v.result.now c.index-v.ensures in
    let on = top_marked _ _ (state_of c.args.self.now) c.requires.search c.requires.pending c.args.place c.requires.place c.index-v.result.now c.index-v.ensures in
    let more = more_left _ _ (state_of c.args.self.now) c.requires.search c.index-v.result.now low c.index-followed.result.now c.index-followed.ensures c.leaving-leaving.result.now c.leaving-leaving.ensures c.if-followed-leaving.false in
    let below = target_below _ _ c.args.adjacency.now.indexed.ends c.index-v.result.now c.index-followed.result.now more in
    let len = advance_len _ _ (state_of c.args.self.now) c.requires.search c.index-v.result.now c.args.place on c.requires.last c.index-followed.result.now (followed_is _ _ (state_of c.args.self.now) c.requires.search c.index-v.result.now low c.index-followed.result.now c.index-followed.ensures c.leaving-leaving.result.now c.leaving-leaving.ensures) more below in
    let same = met_state (state_of c.args.self.now) (state_of c.meet.new.self) c.index-v.result.now c.index-followed.result.now c.args.adjacency.now.edges.items c.leaving-leaving.result.now c.leaving-leaving.ensures c.in_ok-meet.ensures in
    omega (arith, low, len, ap (λ (t : State). length t.followed) same)

pub returns-clause-search : goal.returns-clause-search
returns-clause-search c =
    let low = top_below _ _ (state_of c.args.self.now) c.requires.search c.requires.pending c.args.place c.requires.place c.index-v.result.now c.index-v.ensures in
    let on = top_marked _ _ (state_of c.args.self.now) c.requires.search c.requires.pending c.args.place c.requires.place c.index-v.result.now c.index-v.ensures in
    let more = more_left _ _ (state_of c.args.self.now) c.requires.search c.index-v.result.now low c.index-followed.result.now c.index-followed.ensures c.leaving-leaving.result.now c.leaving-leaving.ensures c.if-followed-leaving.false in
    let below = target_below _ _ c.args.adjacency.now.indexed.ends c.index-v.result.now c.index-followed.result.now more in
    let after = advance_search _ _ (state_of c.args.self.now) c.requires.search c.index-v.result.now c.args.place on c.requires.last c.index-followed.result.now (followed_is _ _ (state_of c.args.self.now) c.requires.search c.index-v.result.now low c.index-followed.result.now c.index-followed.ensures c.leaving-leaving.result.now c.leaving-leaving.ensures) more below in
    let same = met_state (state_of c.args.self.now) (state_of c.meet.new.self) c.index-v.result.now c.index-followed.result.now c.args.adjacency.now.edges.items c.leaving-leaving.result.now c.leaving-leaving.ensures c.in_ok-meet.ensures in
    let P : State → Type 0 = λ t. IsSearch c.args.adjacency.now.count c.args.adjacency.now.edges.items (record t { followed = set t.followed c.index-v.result.now (c.index-followed.result.now + 1) }) in
    subst P (sym same) after

pub returns-clause-less : goal.returns-clause-less
returns-clause-less c =
    let low = top_below _ _ (state_of c.args.self.now) c.requires.search c.requires.pending c.args.place c.requires.place c.index-v.result.now c.index-v.ensures in
    let on = top_marked _ _ (state_of c.args.self.now) c.requires.search c.requires.pending c.args.place c.requires.place c.index-v.result.now c.index-v.ensures in
    let more = more_left _ _ (state_of c.args.self.now) c.requires.search c.index-v.result.now low c.index-followed.result.now c.index-followed.ensures c.leaving-leaving.result.now c.leaving-leaving.ensures c.if-followed-leaving.false in
    let below = target_below _ _ c.args.adjacency.now.indexed.ends c.index-v.result.now c.index-followed.result.now more in
    let less = advance_less _ _ (state_of c.args.self.now) c.requires.search c.index-v.result.now c.args.place on c.requires.last c.index-followed.result.now (followed_is _ _ (state_of c.args.self.now) c.requires.search c.index-v.result.now low c.index-followed.result.now c.index-followed.ensures c.leaving-leaving.result.now c.leaving-leaving.ensures) more below in
    let same = met_state (state_of c.args.self.now) (state_of c.meet.new.self) c.index-v.result.now c.index-followed.result.now c.args.adjacency.now.edges.items c.leaving-leaving.result.now c.leaving-leaving.ensures c.in_ok-meet.ensures in
    let P : State → Type 0 = λ t. work_left c.args.adjacency.now.edges.items (record t { followed = set t.followed c.index-v.result.now (c.index-followed.result.now + 1) }) < work_left c.args.adjacency.now.edges.items (state_of c.args.self.now) in
    subst P (sym same) less
