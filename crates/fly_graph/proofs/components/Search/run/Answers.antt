use Rattle.std.proofs.Common.{◌≡◌, ℕ, ◌-◌, ◌<◌, List, length, get_or, sym, ◌∙◌, subst, arith}
use Rattle.std.specs.List.{Contains, slice_get}
use Rattle.std.specs.Prelude.{Some}
use Rattle.std.proofs.lemmas.List.{get_or_default}
use Rattle.std.proofs.lemmas.List.Elements.{Contains-get_or}
use Rattle.fly_graph.specs.Components.{State, state_of, IsSearch}
use Rattle.fly_graph.proofs.SearchLists.{last_known, all_below_last, none_without_last}
use Rattle.fly_graph.proofs.SearchSteps.{on_path_below}
use Rattle.fly_graph.proofs.SearchCloses.{search_close}
use Rattle.fly_graph.proofs.SearchWork.{close_less, close_keeps_seen}
use Rattle.fly_graph.proofs.components.Search.run.Goals.{in_default-copied-via-in-Some-copied+else-bound-place, in_default-copied-via-in_default-copied}
use Rattle.fly_graph.proofs.components.Search.run.Goals as goal

pub close-requires-clause-numbers : goal.close-requires-clause-numbers
close-requires-clause-numbers c = λ k d within.
    let s : State = state_of c.loop-bound.self in
    let old = c.loop-bound.invariant.search in
    let low = on_path_below _ _ s old (get_or s.path k 0) k (old.marked k within) in
    let same : get_or s.path k d ≡ get_or s.path k 0 = get_or_default s.path k d 0 within in
    (omega (arith, low, old.marks_len), omega (arith, low, old.cyclic_len))

-- the bound at hand is the last, and stands on the path
bound_at : (count : ℕ) (edges : List (ℕ × ℕ)) (s : State) → IsSearch count edges s → (ys : List ℕ) (bound : ℕ) → ys ≡ s.bounds → slice_get ys (length ys - 1) ≡ Some bound → (0 < length s.bounds) × (get_or s.bounds (length s.bounds - 1) 0 ≡ bound) × (bound < length s.path)
bound_at count edges s old ys bound same read =
    let last = last_known s.bounds ys bound same read in
    (last.0, last.1, old.bounds_within bound (subst (Contains s.bounds) last.1 (Contains-get_or s.bounds (length s.bounds - 1) 0 (let some : 0 < length s.bounds = last.0 in omega arith))))

pub close-requires-clause-within : goal.close-requires-clause-within
close-requires-clause-within c =
    let last = bound_at _ _ (state_of c.loop-bound.self) c.loop-bound.invariant.search c.deref.result.now c.in-Some.bound c.deref.ensures.value (sym (c.in-Some.ensures ∙ c.last.ensures.value)) in
    omega (arith, last.2)

pub loop-bound-smaller : goal.loop-bound-smaller
loop-bound-smaller c =
    let last = bound_at _ _ (state_of c.loop-bound.self) c.loop-bound.invariant.search c.deref.result.now c.in-Some.bound c.deref.ensures.value (sym (c.in-Some.ensures ∙ c.last.ensures.value)) in
    close_less _ _ (state_of c.loop-bound.self) (state_of c.close.new.self) c.loop-bound.invariant.search c.in-Some.bound c.close.ensures last.2

pub loop-bound-preserved : goal.loop-bound-preserved
loop-bound-preserved c =
    let s : State = state_of c.loop-bound.self in
    let old = c.loop-bound.invariant.search in
    let last = bound_at _ _ s old c.deref.result.now c.in-Some.bound c.deref.ensures.value (sym (c.in-Some.ensures ∙ c.last.ensures.value)) in
    let spent : (place : ℕ) → Contains s.pending place → place < c.in-Some.bound = elim c.in_default-copied.branch [
      | in_default-copied-via-in-Some-copied+else-bound-place w ↦
          all_below_last s.pending c.deref-in-Some.result.now w.in-Some-copied.place c.in-Some.bound c.deref-in-Some.ensures.value old.pending_rising (sym (w.in-Some-copied.ensures ∙ c.last-in-Some.ensures.value)) w.if-bound-place.false
      | in_default-copied-via-in_default-copied w ↦
          none_without_last s.pending c.deref-in-Some.result.now c.in-Some.bound c.deref-in-Some.ensures.value (sym (w.in_default-copied.ensures ∙ c.last-in-Some.ensures.value))
    ] in
    record {
      search = search_close _ _ s (state_of c.close.new.self) old c.in-Some.bound c.close.ensures last.0 last.1 spent;
      seen = λ v seen. close_keeps_seen _ _ s (state_of c.close.new.self) old c.in-Some.bound c.close.ensures last.2 v (c.loop-bound.invariant.seen v seen);
    }
