-- A whole step of a search: an edge is followed.
use Rattle.std.proofs.Common.{◌≡◌, ℕ, ◌+◌, ◌-◌, ◌<◌, ◌≤◌, Bool, true, false, cond, List, length, get_or, set, inl, inr, ⊎_elim, refl, sym, ◌∙◌, ap, subst, arith}
use Rattle.std.specs.List.{Contains}
use Rattle.std.proofs.lemmas.Bool.{cases_eq, eq-eqb, ne_eqb}
use Rattle.std.proofs.lemmas.List.{length_push, get_or-set_same, get_or_read}
use Rattle.std.proofs.lemmas.List.Elements.{Contains-push_cases, Contains-get_or, All-contains}
use Rattle.fly_graph.specs.declared.components.Mark.{Mark}
use Rattle.fly_graph.specs.declared.components.Mark.TheVariants.{Unseen, OnPath, Done}
use Rattle.fly_graph.specs.Walks.{IsEdge, Reaches}
use Rattle.fly_graph.specs.Orders.{EndsBelow}
use Rattle.fly_graph.specs.Adjacency.{edges_leaving}
use Rattle.fly_graph.specs.Components.{State, mark_of, followed_of, is_cyclic, degree, target, IsSettled, IsSearch, enter, note, meet, meet_at, join, work_left, is_unseen, KeepsSeen}
use Rattle.fly_graph.proofs.WalkLemmas.{reaches_by_edge}
use Rattle.fly_graph.proofs.SearchSteps.{unseen_off, done_off, edge_at, on_path_below, here, elsewhere, still_on, search_enter, search_note, search_follow, to_w, kept_of, search_join}
use Rattle.fly_graph.proofs.SearchWork.{left_less, unseen_less}

-- what holds once the edge from u, at the place pu, to w was met
pub record IsMet (count : ℕ) (edges : List (ℕ × ℕ)) (u pu w : ℕ) (s t : State) : Type 0 where
  pub search : IsSearch count edges t
  pub on : mark_of t u ≡ OnPath pu
  pub followed : t.followed ≡ s.followed
  pub settles : IsSettled t w pu
  pub loop : w ≡ u → is_cyclic t u ≡ true
  pub seen : KeepsSeen s t
  pub work : work_left edges t ≤ work_left edges s

module _ (count : ℕ) (edges : List (ℕ × ℕ)) (s : State) (old : IsSearch count edges s) (u pu : ℕ) (on : mark_of s u ≡ OnPath pu)
    (last : (bound : ℕ) → Contains s.bounds bound → bound ≤ pu) (w : ℕ) (edge : IsEdge edges u w) (small : w < count) where
  met_new : mark_of s w ≡ Unseen → IsMet count edges u pu w s (enter w s)
  met_new new =
      let reach = to_w count edges s old u pu on last w edge in
      let there = here count edges s old w small new reach in
      record {
        search = search_enter count edges s old w small new reach;
        on = still_on count edges s old w small new reach u pu on;
        followed = refl;
        settles = inr (
          length s.path,
          there,
          λ bound has le. ⊎_elim
              (λ was. let low : bound < length s.path = old.bounds_within bound was in omega arith) (λ e. omega arith) (Contains-push_cases s.bounds (length s.path) bound has),
        );
        loop = λ e. absurd (unseen_off _ pu new (ap (mark_of s) e ∙ on));
        seen = λ q seen. ⊎_elim (λ e. ap (λ a. is_unseen (mark_of (enter w s) a)) e ∙ ap is_unseen there)
            (λ apart. ap is_unseen (elsewhere count edges s old w small new reach q apart) ∙ seen) (cases_eq q w);
        work = omega (arith, unseen_less s.marks w (length s.path) (omega (arith, old.marks_len)) new, length_push s.path w, length_push s.pending (length s.path));
      }

  noted_at : (b : Bool) → State
  noted_at b = record s { cyclic = cond b (set s.cyclic u true) s.cyclic }

  noted_search : IsSearch count edges (note u w s)
  noted_search =
      let P : Bool → Type 0 = λ b. IsSearch count edges (record s { cyclic = cond b (set s.cyclic u true) s.cyclic }) in
      ⊎_elim (λ e. subst P (sym (eq-eqb w u e)) (search_note count edges s old u (subst (Reaches edges u) e (reaches_by_edge edges u w edge))))
      (λ apart. subst P (sym (ne_eqb w u apart)) old)
      (cases_eq w u)

  noted_loop : w ≡ u → is_cyclic (note u w s) u ≡ true
  noted_loop e =
      let small_too : u < length s.cyclic = let low : u < count = on_path_below count edges s old u pu on in omega (arith, old.cyclic_len) in
      ap (λ b. get_or (cond b (set s.cyclic u true) s.cyclic) u false) (eq-eqb w u e) ∙ get_or-set_same s.cyclic u true false small_too

  met_on : (place : ℕ) → mark_of s w ≡ OnPath place → IsMet count edges u pu w s (join place (note u w s))
  met_on place earlier = record {
    search = search_join count edges (note u w s) noted_search u pu on last w edge place earlier;
    on = on;
    followed = refl;
    settles = inr (place, earlier, λ bound has le. (kept_of count edges (note u w s) noted_search u pu on last w edge place earlier bound has).1);
    loop = noted_loop;
    seen = λ q seen. seen;
    work = omega arith;
  }

  met_done : mark_of s w ≡ Done → IsMet count edges u pu w s s
  met_done done = record {
    search = old;
    on = on;
    followed = refl;
    settles = inl done;
    loop = λ e. absurd (done_off _ pu done (ap (mark_of s) e ∙ on));
    seen = λ q seen. seen;
    work = omega arith;
  }

  met_by : (m : Mark) → mark_of s w ≡ m → IsMet count edges u pu w s (meet_at u w s m)
  met_by Unseen e = met_new e
  met_by (OnPath place) e = met_on place e
  met_by Done e = met_done e

  pub is_met : IsMet count edges u pu w s (meet u w s)
  is_met = met_by (mark_of s w) refl

-- the next edge from u is followed
module _ (count : ℕ) (edges : List (ℕ × ℕ)) (s : State) (old : IsSearch count edges s) (u pu : ℕ) (on : mark_of s u ≡ OnPath pu)
    (last : (bound : ℕ) → Contains s.bounds bound → bound ≤ pu) (k : ℕ) (next : followed_of s u ≡ k) (more : k < degree edges u) (small : target edges u k < count) where
  abbrev pub followed_on : State
  followed_on = record (meet u (target edges u k) s) { followed = set (meet u (target edges u k) s).followed u (k + 1) }

  now : IsMet count edges u pu (target edges u k) s (meet u (target edges u k) s)
  now = is_met count edges s old u pu on last (target edges u k) (edge_at edges u k more) small

  same_next : followed_of (meet u (target edges u k) s) u ≡ k
  same_next = ap (λ xs. get_or xs u 0) now.followed ∙ next

  pub advance_search : IsSearch count edges followed_on
  advance_search = search_follow count edges (meet u (target edges u k) s) now.search u pu now.on k same_next more now.settles now.loop

  pub advance_len : length (meet u (target edges u k) s).followed ≡ count
  advance_len = ap length now.followed ∙ old.followed_len

  pub advance_seen : KeepsSeen s followed_on
  advance_seen = now.seen

  pub advance_less : work_left edges followed_on < work_left edges s
  advance_less =
      let low : u < count = on_path_below count edges s old u pu on in
      let less = left_less edges 0 (meet u (target edges u k) s).followed u k (omega (arith, now.search.followed_len)) same_next (let same : degree edges (0 + u) ≡ degree edges u = ap (degree edges) (let e : 0 + u ≡ u = omega arith in e) in omega arith) in
      omega (arith, less, now.work)

-- the number at the last pending place
module _ (count : ℕ) (edges : List (ℕ × ℕ)) (s : State) (old : IsSearch count edges s) (some : 0 < length s.pending) (place : ℕ) (top : get_or s.pending (length s.pending - 1) 0 ≡ place) where
  pub top_within : place < length s.path
  top_within = old.pending_within place (subst (Contains s.pending) top (Contains-get_or s.pending (length s.pending - 1) 0 (omega arith)))

  pub top_marked : (v : ℕ) → v ≡ get_or s.path place v → mark_of s v ≡ OnPath place
  top_marked v read = ap (mark_of s) (get_or_read s.path place v top_within read 0) ∙ old.marked place top_within

  pub top_below : (v : ℕ) → v ≡ get_or s.path place v → v < count
  top_below v read = on_path_below count edges s old v place (top_marked v read)

-- where an edge of the graph leads
pub target_below : (count : ℕ) (edges : List (ℕ × ℕ)) → EndsBelow count edges → (v k : ℕ) → k < degree edges v → target edges v k < count
target_below count edges ends v k within = (All-contains (λ (e : ℕ × ℕ). (e.0 < count) × (e.1 < count)) edges (v, target edges v k) ends (edge_at edges v k within)).1

-- the counts and the edges that a step reads
module _ (count : ℕ) (edges : List (ℕ × ℕ)) (s : State) (old : IsSearch count edges s) (v : ℕ) (small : v < count) (n : ℕ) (read : n ≡ get_or s.followed v n) (leaving : List (ℕ × ℕ)) (are : leaving ≡ edges_leaving edges v) where
  pub followed_is : followed_of s v ≡ n
  followed_is = sym (get_or_read s.followed v n (omega (arith, old.followed_len)) read 0)

  pub followed_within : (n ≡ length leaving → ⊥) → n < length leaving
  followed_within some = let few : followed_of s v ≤ degree edges v = old.followed_few v in let len : length leaving ≡ degree edges v = ap length are in omega (arith, followed_is)

  pub more_left : (n ≡ length leaving → ⊥) → n < degree edges v
  more_left some = let within = followed_within some in let len : length leaving ≡ degree edges v = ap length are in omega (arith, within)

  pub none_left : n ≡ length leaving → degree edges v ≤ followed_of s v
  none_left all = let len : length leaving ≡ degree edges v = ap length are in omega (arith, followed_is)
