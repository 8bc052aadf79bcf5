use Rattle.std.proofs.Common.{◌≡◌, ◌<◌, [], length, get_or, take, ◌-◌, All, sym, ap, ◌∙◌, subst, arith}
use Rattle.std.proofs.lemmas.List.{append-nil, get_or_default}
use Rattle.fly_links.specs.Search.{IsSearch, Visits}
use Rattle.fly_links.proofs.SearchLemmas.{search_step, search_end, popped_below, written_back}
use Rattle.fly_links.proofs.search.reached_from.Goals as goal

pub bounds-targets-place : goal.bounds-targets-place
bounds-targets-place c =
    popped_below c.args.targets.now c.args.start c.loop-place.seen.items c.loop-place.pending.items c.pop.new.self.items c.in-Some.place c.loop-place.invariant c.in-Some.ensures.items

pub offset_bounds-targets-place : goal.offset_bounds-targets-place
offset_bounds-targets-place c =
    let below = popped_below c.args.targets.now c.args.start c.loop-place.seen.items c.loop-place.pending.items c.pop.new.self.items c.in-Some.place c.loop-place.invariant c.in-Some.ensures.items in
    omega (arith, below)

pub visit-requires : goal.visit-requires
visit-requires c =
    let below = popped_below c.args.targets.now c.args.start c.loop-place.seen.items c.loop-place.pending.items c.pop.new.self.items c.in-Some.place c.loop-place.invariant c.in-Some.ensures.items in
    let targets = c.requires.below c.in-Some.place c.index-targets-place.result below in
    let same : c.as_slice.result.now ≡ get_or c.args.targets.now c.in-Some.place c.index-targets-place.result = c.as_slice.ensures ∙ c.index-targets-place.is in
    let all : All (λ t. t < length c.args.targets.now) c.as_slice.result.now = subst (All (λ t. t < length c.args.targets.now)) (sym same) targets in
    λ k d lt. omega (arith, all k d lt, c.loop-place.invariant.len, ap length c.deref_mut.ensures.value)

pub loop-place-preserved : goal.loop-place-preserved
loop-place-preserved c =
    let place = c.in-Some.place in
    let below = popped_below c.args.targets.now c.args.start c.loop-place.seen.items c.loop-place.pending.items c.pop.new.self.items place c.loop-place.invariant c.in-Some.ensures.items in
    let same : c.as_slice.result.now ≡ get_or c.args.targets.now place [] =
    c.as_slice.ensures ∙ c.index-targets-place.is ∙ get_or_default c.args.targets.now place c.index-targets-place.result [] below in
    let visited : Visits (get_or c.args.targets.now place []) c.loop-place.seen.items c.pop.new.self.items c.visit.new.seen c.visit.new.pending.items =
    subst (λ ts. Visits ts c.loop-place.seen.items c.pop.new.self.items c.visit.new.seen c.visit.new.pending.items) same
    (subst (λ s. Visits c.as_slice.result.now s c.pop.new.self.items c.visit.new.seen c.visit.new.pending.items) c.deref_mut.ensures.value c.in_ok-visit.ensures) in
    let back = written_back c.visit.new.seen c.loop-place.seen.items c.loop-place.seen.len visited.len (omega (arith, c.deref_mut.ensures.len, ap length c.deref_mut.ensures.value)) in
    subst (λ s. IsSearch c.args.targets.now c.args.start s c.visit.new.pending.items) (sym back)
    (search_step c.args.targets.now c.args.start c.loop-place.seen.items c.pop.new.self.items place
    (subst (IsSearch c.args.targets.now c.args.start c.loop-place.seen.items) c.in-Some.ensures.items c.loop-place.invariant)
    c.visit.new.seen c.visit.new.pending.items below visited)

pub returns-clause-each : goal.returns-clause-each
returns-clause-each c = λ v lt.
    let none : c.loop-place.pending.items ≡ [] =
    c.in_default.ensures.items ∙ append-nil c.pop.new.self.items ∙ c.in_default.ensures.rest ∙ ap (λ n. take (n - 1) c.loop-place.pending.items) c.in_default.ensures.cases.0 in
    search_end c.args.targets.now c.args.start c.loop-place.seen.items
    (subst (IsSearch c.args.targets.now c.args.start c.loop-place.seen.items) none c.loop-place.invariant) v
