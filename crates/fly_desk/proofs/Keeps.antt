-- Each step keeps the rule of a desk.
use Rattle.std.proofs.Common.{◌≡◌, ℕ, zero, suc, ◌+◌, ◌%◌, ◌^◌, ◌<◌, ◌≤◌, ◌≢◌, ⊎_elim, List, [], ◌∷◌, ◌++◌, length, set, get_or, Bool, true, sum_by, cond, eqb, refl, sym, subst, ap, ◌∙◌, arith, Option, Some, None, is_some, IfSome, MatchBool, ◌==◌, slice_get, true≢false, unwrap_or, option_map, append-nil, length-append, eq-eqb, ne_eqb}
use Rattle.std.proofs.lemmas.List.Sums.{sum_by-cons, sum_by_push}
use Rattle.std.proofs.lemmas.List.Elements.{All-push}
use Rattle.std.proofs.lemmas.Option.{slice_get-get_or}
use mathlib.Core.Logic.{dite}
use mathlib.Core.Option.{none, some, some-injective, some-ne-none}
use mathlib.Core.Option as maybe
use native.Mathlib.Decide.{ℕ_discrete}
use lib.ListN.{get_elem?}
use lib.Seq.{set-get_or}
use Rattle.std.proofs.Math.Seq.{get_or-append_seam}
use Rattle.atomic_table.specs.Table.{State, step, keeps, takes, gives, rest, stepped, opening, Allows}
use Rattle.atomic_table.proofs.Lists.{at_set, set_else}
use Rattle.fly_desk.specs.declared.view.Origin.{Origin}
use Rattle.fly_desk.specs.declared.view.View.{View}
use Rattle.fly_desk.specs.Annals.{StartsWith, one_within, times_at, HasCalls, AddsOne}
use Rattle.fly_desk.specs.View.{ticket_count, times_of_ticket, opening_view, list_in, spare_in, basis_in}
use Rattle.fly_desk.specs.Rule.{Knows, IsAtHome, IsDesk}
use Rattle.fly_desk.specs.Plays.{Knower, view_with_ticket, view_with_turn, view_with_call, Draws, TakesOut, Looks, PassesOn}
use Rattle.fly_desk.proofs.Options.{some_of, if_mapped}
use Rattle.fly_desk.proofs.Sums.{sum_set, sum_term, sum_two, sum_mono, sum_less, sum_add, here_after, begins_longer, stand_longer, within_none, within_next, within_less, within_some, at_most_once}

module _ {O E B : Type 0} (entries : O → List E) (spare : O → ℕ) (basis : O → B) (origin : Origin E B) where
  abbrev V : Type 0
  V = View E B

  abbrev St : Type 0
  St = State (Option O) V

  abbrev Rule : St → Type 0
  Rule = IsDesk entries spare basis origin

  -- what holds of each view holds after a change of one
  pub each_after : (P : V → Type 0) (vs : List V) (id : ℕ) (w : V) → P w → ((j : ℕ) (u : V) → j ≢ id → get_elem? vs j ≡ some u → P u) → (j : ℕ) (u : V) → get_elem? (set vs id w) j ≡ some u → P u
  each_after P vs id w mine others j u at = ⊎_elim (λ (t : (j ≡ id) × (w ≡ u)). subst P t.1 mine) (λ (t : (j ≢ id) × (get_elem? vs j ≡ some u)). others j u t.0 t.1) (at_set vs id j w u at)

  pub no_turn : (o : Option (List E × ℕ)) → o ≡ None → is_some o ≡ true → ⊥
  no_turn o e t = true≢false (sym t ∙ ap is_some e)

  -- the slot stays where a view without the turn stays without it
  pub home_stays : (log : List E) (serving : ℕ) (vs : List V) (h : maybe.Option (Option O)) (id : ℕ) (v w : V) → get_elem? vs id ≡ some v → v.turn ≡ None → w.turn ≡ None
      → IsAtHome entries spare basis origin log serving vs h → IsAtHome entries spare basis origin log serving (set vs id w) h
  home_stays log serving vs maybe.none id v w at before after out =
      (out.0, out.1, set_else vs id out.0 w (λ e. no_turn v.turn before (ap (λ (u : V). is_some u.turn) (some-injective v out.1 (sym at ∙ (ap (λ (k : ℕ). get_elem? vs k) (sym e) ∙ out.2))) ∙ out.3)) ∙ out.2, out.3)
  home_stays log serving vs (maybe.some slot) id v w at before after home =
      (home.0, home.1, home.2, home.3, home.4, each_after (λ (u : V). u.turn ≡ None) vs id w after (λ j u _ there. home.5 j u there))

  mod_small : (a : ℕ) → a < 2 ^ 64 → a % 2 ^ 64 ≡ a
  mod_small a h = omega arith

  pub draws : (n id : ℕ) (v : V) (c : List (ℕ × Option O)) → v.ticket ≡ None → v.turn ≡ None → 0 < v.left
      → Allows Rule n id (v, c) 0 (λ k. (k + 1) % 2 ^ 64) (Draws (step n 0 1 0 none) (v, c))
  draws n id v c no_ticket no_hold some_left s r deep at small =
      let found : ℕ = get_or s.words 0 0 in
      let w : V = view_with_ticket v found in
      let word : found ≡ r.ticket = ap (λ (ws : List ℕ). get_or ws 0 0) r.words in
      let before : (k : ℕ) → times_of_ticket k v.ticket ≡ 0 = λ k. ap (times_of_ticket k) no_ticket in
      let waits : ticket_count v.ticket ≡ 0 = ap ticket_count no_ticket in
      let few : sum_by (λ (u : V). length u.own + ticket_count u.ticket) s.views < sum_by (λ (u : V). length u.own + u.left) s.views =
      sum_less (λ (u : V). length u.own + ticket_count u.ticket) (λ (u : V). length u.own + u.left) s.views id v at (omega arith) (λ j u there. let m = (r.each j u there).may_call in omega arith) in
      let parts = sum_add (λ (u : V). length u.own) (λ (u : V). ticket_count u.ticket) s.views in
      let made = r.made in let waiting = r.waiting in let calls = r.calls in let fits = r.fits in
      let bound : r.ticket < origin.calls = omega arith in (
        w,
        keeps,
        tt,
        record {
          log = r.log;
          ticket = r.ticket + 1;
          serving = r.serving;
          slot = r.slot;
          words = ap (λ (ws : List ℕ). set ws 0 ((found + 1) % 2 ^ 64)) r.words ∙ ap (λ (k : ℕ). k ∷ r.serving ∷ []) (ap (λ (k : ℕ). (k + 1) % 2 ^ 64) word ∙ mod_small (r.ticket + 1) (omega arith));
          homes = r.homes;
          order = let o = r.order in omega arith;
          fits = r.fits;
          begins = r.begins;
          served = r.served;
          tickets = λ k. omega (arith, sum_set (λ (u : V). times_of_ticket k u.ticket) s.views id v w at, r.tickets k, before k, within_next r.serving r.ticket k (omega arith), ap (λ (t : ℕ). times_of_ticket k (Some t)) word);
          waiting = omega (arith, sum_set (λ (u : V). ticket_count u.ticket) s.views id v w at);
          places = λ p. omega (arith, sum_set (λ (u : V). times_at p u.own) s.views id v w at, r.places p);
          made = omega (arith, sum_set (λ (u : V). length u.own) s.views id v w at);
          calls = omega (arith, sum_set (λ (u : V). length u.own + u.left) s.views id v w at);
          each = each_after (Knows origin r.log r.serving) s.views id w
              (let k = r.each id v at in record { same = k.same; seen = k.seen; note = k.note; own = k.own; may_call = some_left; turn = subst (λ (o : Option (List E × ℕ)). IfSome o (λ h. (Some found ≡ Some r.serving) × (h.0 ≡ r.log) × (origin.calls ≤ h.1 + r.serving))) (sym no_hold) tt })
              (λ j u _ there. r.each j u there);
          at_home = home_stays r.log r.serving s.views r.slot id v w at no_hold no_hold r.at_home;
        },
        refl,
      )

  -- a load after which the view is w, which knows no more turn than before
  pub loads : (s : St) (r : Rule s) (i id : ℕ) (v w : V) (c : List (ℕ × Option O)) → get_elem? s.views id ≡ some v → Knows origin r.log r.serving w → w.ticket ≡ v.ticket → w.own ≡ v.own → w.left ≡ v.left → v.turn ≡ None → w.turn ≡ None
      → Rule (stepped s i (get_or s.words i 0) id c w keeps)
  loads s r i id v w c at known ticket own left before after = record {
    log = r.log;
    ticket = r.ticket;
    serving = r.serving;
    slot = r.slot;
    words = set-get_or s.words i 0 ∙ r.words;
    homes = r.homes;
    order = r.order;
    fits = r.fits;
    begins = r.begins;
    served = r.served;
    tickets = λ k. let d = ap (times_of_ticket k) ticket in omega (arith, sum_set (λ (u : V). times_of_ticket k u.ticket) s.views id v w at, r.tickets k);
    waiting = let d = ap ticket_count ticket in let e = r.waiting in omega (arith, sum_set (λ (u : V). ticket_count u.ticket) s.views id v w at);
    places = λ p. let d = ap (times_at p) own in omega (arith, sum_set (λ (u : V). times_at p u.own) s.views id v w at, r.places p);
    made = let d = ap (λ (l : List (ℕ × E)). length l) own in let e = r.made in omega (arith, sum_set (λ (u : V). length u.own) s.views id v w at);
    calls = let d = ap (λ (l : List (ℕ × E)). length l) own in let e = r.calls in omega (arith, sum_set (λ (u : V). length u.own + u.left) s.views id v w at);
    each = each_after (Knows origin r.log r.serving) s.views id w known (λ j u _ there. r.each j u there);
    at_home = home_stays r.log r.serving s.views r.slot id v w at before after r.at_home;
  }

  -- two views with the ticket that is served are one
  one_holder : (s : St) (r : Rule s) (i j : ℕ) (v u : V) → get_elem? s.views i ≡ some v → get_elem? s.views j ≡ some u → v.ticket ≡ Some r.serving → u.ticket ≡ Some r.serving → i ≢ j → ⊥
  one_holder s r i j v u at there mine theirs apart =
      let one : (o : Option ℕ) → o ≡ Some r.serving → times_of_ticket r.serving o ≡ 1 = λ o e. ap (times_of_ticket r.serving) e ∙ ap (λ (b : Bool). cond b (suc zero) zero) (eq-eqb r.serving r.serving refl) in
      let two = sum_two (λ (x : V). times_of_ticket r.serving x.ticket) s.views i j v u apart at there in
      let all = r.tickets r.serving in
      let most : one_within r.serving r.ticket r.serving ≤ 1 = at_most_once r.serving r.ticket r.serving in
      let a = one v.ticket mine in let b = one u.ticket theirs in
      omega arith

  pub has_turn : (o : Option (List E × ℕ)) (t : Option ℕ) (log : List E) (serving : ℕ) → is_some o ≡ true → IfSome o (λ h. (t ≡ Some serving) × (h.0 ≡ log) × (origin.calls ≤ h.1 + serving)) → t ≡ Some serving
  has_turn None t log serving e h = absurd (true≢false (sym e))
  has_turn (Some x) t log serving e h = h.0

  -- where a seat's ticket is served and it has no turn, the object is at home
  is_home : (s : St) (r : Rule s) (id : ℕ) (v : V) → get_elem? s.views id ≡ some v → v.ticket ≡ Some r.serving → v.turn ≡ None → (h : maybe.Option (Option O)) → IsAtHome entries spare basis origin r.log r.serving s.views h
      → (object : O) × (h ≡ some (Some object)) × (entries object ≡ r.log) × (basis object ≡ origin.basis) × (origin.calls ≤ spare object + r.serving) × ((seat : ℕ) (u : V) → get_elem? s.views seat ≡ some u → u.turn ≡ None)
  is_home s r id v at mine no_hold maybe.none out =
      absurd (one_holder s r id out.0 v out.1 at out.2 mine (has_turn out.1.turn out.1.ticket r.log r.serving out.3 (r.each out.0 out.1 out.2).turn)
      (λ e. no_turn v.turn no_hold (ap (λ (u : V). is_some u.turn) (some-injective v out.1 (sym at ∙ (ap (λ (k : ℕ). get_elem? s.views k) e ∙ out.2))) ∙ out.3)))
  is_home s r id v at mine no_hold (maybe.some slot) home = (home.0, ap (λ (x : Option O). some x) home.1, home.2, home.3, home.4, home.5)

  pub looks : (n id : ℕ) (v : V) (k : ℕ) (c : List (ℕ × Option O)) → v.ticket ≡ Some k → v.turn ≡ None
      → Allows Rule n id (v, c) 1 (λ x. x) (Looks entries spare basis (step n 1 0 0 none) (v, c))
  looks n id v k c ticket no_hold s r deep at small =
      let found : ℕ = get_or s.words 1 0 in
      let word : found ≡ r.serving = ap (λ (ws : List ℕ). get_or ws 1 0) r.words in
      let Tells : ℕ → Knower O E B → Type 0 = λ x m. Looks entries spare basis (step n 1 0 0 none) (v, c) x m in
      let tells : (m : Knower O E B) → ((found ≡ k) → TakesOut entries spare basis (v, c) m) → ((found ≢ k) → m ≡ (v, c)) → Tells found m = λ m hit miss.
      subst (λ (o : Option ℕ). IfSome o (λ t. MatchBool (found == t) (TakesOut entries spare basis (v, c) m) (m ≡ (v, c)))) (sym ticket)
      (dite (ℕ_discrete found k) (λ e. subst (λ (b : Bool). MatchBool b (TakesOut entries spare basis (v, c) m) (m ≡ (v, c))) (sym (eq-eqb found k e)) (hit e))
      (λ ne. subst (λ (b : Bool). MatchBool b (TakesOut entries spare basis (v, c) m) (m ≡ (v, c))) (sym (ne_eqb found k ne)) (miss ne))) in
      dite (ℕ_discrete found k)
      (λ e.
      let mine : v.ticket ≡ Some r.serving = ticket ∙ ap (λ (x : ℕ). Some x) (sym e ∙ word) in
      let home = is_home s r id v at mine no_hold r.slot r.at_home in
      let object : O = home.0 in
      let w : V = view_with_turn v (entries object) (spare object) in
      let calls = r.calls in let made = r.made in
      let enough : origin.calls ≤ spare object + r.serving = home.4 in
      let known = r.each id v at in
      let may : 0 < v.left = let m = known.may_call in let one = ap ticket_count ticket in omega arith in
      let some_left : r.serving < origin.calls =
      let less = sum_less (λ (u : V). length u.own) (λ (u : V). length u.own + u.left) s.views id v at (omega arith) (λ j u there. omega arith) in omega arith in (
        w,
        takes 0 (Some object),
        ap (λ (hs : List (maybe.Option (Option O))). get_elem? hs 0) r.homes ∙ ap (λ (h : maybe.Option (Option O)). some h) home.1,
        record {
          log = r.log;
          ticket = r.ticket;
          serving = r.serving;
          slot = none;
          words = set-get_or s.words 1 0 ∙ r.words;
          homes = ap (λ (hs : List (maybe.Option (Option O))). set hs 0 none) r.homes;
          order = r.order;
          fits = r.fits;
          begins = r.begins;
          served = r.served;
          tickets = λ j. omega (arith, sum_set (λ (u : V). times_of_ticket j u.ticket) s.views id v w at, r.tickets j);
          waiting = let d = r.waiting in omega (arith, sum_set (λ (u : V). ticket_count u.ticket) s.views id v w at);
          places = λ p. omega (arith, sum_set (λ (u : V). times_at p u.own) s.views id v w at, r.places p);
          made = omega (arith, sum_set (λ (u : V). length u.own) s.views id v w at);
          calls = omega (arith, sum_set (λ (u : V). length u.own + u.left) s.views id v w at);
          each = each_after (Knows origin r.log r.serving) s.views id w
              record { same = known.same; seen = known.seen; note = known.note; own = known.own; may_call = known.may_call; turn = (mine, home.2, enough) }
              (λ j u _ there. r.each j u there);
          at_home = (id, w, here_after s.views id v w at, refl);
        },
        tells (w, (0, Some object) ∷ c)
            (λ _. (object, refl, subst (λ (l : List E). StartsWith l v.seen) (sym home.2) known.seen, subst (λ (l : List E). HasCalls l v.own) (sym home.2) known.own, of_origin v.origin object home.3 known.same, omega arith, opens v.origin (entries object) (subst (λ (l : List E). StartsWith l origin.opening) (sym home.2) r.begins) known.same))
            (λ ne. absurd (ne e)),
      ))
      (λ ne. (v, keeps, tt, loads s r 1 id v v c at (r.each id v at) refl refl refl no_hold no_hold, tells (v, c) (λ e. absurd (ne e)) (λ _. refl)))
    where
      of_origin : (o : Option (Origin E B)) (object : O) → basis object ≡ origin.basis → IfSome o (λ x. x ≡ origin) → IfSome o (λ x. basis object ≡ x.basis)
      of_origin None object e h = tt
      of_origin (Some x) object e h = e ∙ ap (λ (y : Origin E B). y.basis) (sym h)

      opens : (o : Option (Origin E B)) (list : List E) → StartsWith list origin.opening → IfSome o (λ x. x ≡ origin) → StartsWith list (unwrap_or (option_map (λ (x : Origin E B). x.opening) o) [])
      opens None list begins h = (list, refl)
      opens (Some x) list begins h = subst (λ (l : List E). StartsWith list l) (ap (λ (y : Origin E B). y.opening) (sym h)) begins

  abbrev Turns : List E → ℕ → Option ℕ → Option (List E × ℕ) → Type 0
  Turns log serving t o = IfSome o (λ h. (t ≡ Some serving) × (h.0 ≡ log) × (origin.calls ≤ h.1 + serving))

  pub none_or : (o : Option (List E × ℕ)) → (is_some o ≡ true → ⊥) → o ≡ None
  none_or None n = refl
  none_or (Some x) n = absurd (n refl)

  pub idle_turn : (log : List E) (serving : ℕ) (t : Option ℕ) (o : Option (List E × ℕ)) → o ≡ None → Turns log serving t o
  idle_turn log serving t o e = subst (Turns log serving t) (sym e) tt

  -- the basis of an origin that is there
  basis_there : (o : Option (Origin E B)) (b : B) → is_some o ≡ true → IfSome o (λ x. b ≡ x.basis) → IfSome o (λ x. x ≡ origin) → b ≡ origin.basis
  basis_there None b e h k = absurd (true≢false (sym e))
  basis_there (Some x) b e h k = h ∙ ap (λ (y : Origin E B). y.basis) k

  abbrev Same : Knower O E B → Knower O E B → Type 0
  Same a b = a ≡ b

  abbrev in_hand : O → List (ℕ × Option O)
  in_hand object = (0, Some object) ∷ []

  first_hand : O → List (ℕ × Option O) → O
  first_hand d [] = d
  first_hand d (x ∷ xs) = unwrap_or x.1 d

  same_hand : (x y : O) → in_hand x ≡ in_hand y → x ≡ y
  unfolding first_hand
  same_hand x y e = ap (first_hand x) e

  abbrev no_slot : List (ℕ × Option O)
  no_slot = []

  -- what "pass on" tells, of the slot that the seat took and the turn that it had
  abbrev Tells : V → List E → E → O → Option (List E × ℕ) → Type 0
  Tells v list entry object o = IfSome o (λ h. (object' : O) (entry' : E) → in_hand object ≡ in_hand object' → entries object' ≡ h.0 ++ entry' ∷ [] → Same (view_with_call v list entry, no_slot) (view_with_call v h.0 entry', no_slot))

  last_same : (l : List E) (x y : E) → l ++ x ∷ [] ≡ l ++ y ∷ [] → x ≡ y
  last_same [] x y e = cc e
  last_same (z ∷ l) x y e = last_same l x y (cc e)

  pub passes : (n id : ℕ) (v : V) (list : List E) (room : ℕ) (entry : E) (object : O) → v.turn ≡ Some (list, room) → is_some v.origin ≡ true → IfSome v.origin (λ o. basis object ≡ o.basis)
      → entries object ≡ list ++ entry ∷ [] → room ≤ spare object + 1
      → Allows Rule n id (v, (0, Some object) ∷ []) 1 (λ k. (k + 1) % 2 ^ 64) (PassesOn entries spare basis (step n 1 1 0 none) (v, (0, Some object) ∷ []))
  passes n id v list room entry object holds live same_basis adds few s r deep at small =
      let found : ℕ = get_or s.words 1 0 in
      let word : found ≡ r.serving = ap (λ (ws : List ℕ). get_or ws 1 0) r.words in
      let w : V = view_with_call v list entry in
      let log : List E = r.log ++ entry ∷ [] in
      let known = r.each id v at in
      let turn : (v.ticket ≡ Some r.serving) × (list ≡ r.log) × (origin.calls ≤ room + r.serving) = subst (Turns r.log r.serving v.ticket) holds known.turn in
      let mine : v.ticket ≡ Some r.serving = turn.0 in
      let enough : origin.calls ≤ room + r.serving = turn.2 in
      let long : length list ≡ length r.log = ap (λ (l : List E). length l) turn.1 in
      let one_longer : length log ≡ length r.log + 1 = length-append r.log (entry ∷ []) in
      let may : 0 < v.left = let m = known.may_call in let one = ap ticket_count mine in omega arith in
      let waits : ticket_count v.ticket ≡ 1 = ap ticket_count mine in
      let one : times_of_ticket r.serving v.ticket ≡ 1 = ap (times_of_ticket r.serving) mine ∙ ap (λ (b : Bool). cond b (suc zero) zero) (eq-eqb r.serving r.serving refl) in
      let inside = within_some r.serving r.ticket r.serving (let a = sum_term (λ (u : V). times_of_ticket r.serving u.ticket) s.views id v at in let b = r.tickets r.serving in omega arith) in
      let less : r.serving < r.ticket = inside.1 in
      let made = r.made in let waiting = r.waiting in let calls = r.calls in let fits = r.fits in let served = r.served in
      let most : sum_by (λ (u : V). length u.own + ticket_count u.ticket) s.views ≤ sum_by (λ (u : V). length u.own + u.left) s.views =
      sum_mono (λ (u : V). length u.own + ticket_count u.ticket) (λ (u : V). length u.own + u.left) s.views (λ j u there. let m = (r.each j u there).may_call in omega arith) in
      let parts = sum_add (λ (u : V). length u.own) (λ (u : V). ticket_count u.ticket) s.views in
      let bound : r.ticket ≤ origin.calls = omega arith in
      let whole : entries object ≡ log = adds ∙ ap (λ (l : List E). l ++ entry ∷ []) turn.1 in
      let one_more : length w.own ≡ length v.own + 1 = length-append v.own ((length list, entry) ∷ []) in
      let idle : (j : ℕ) (u : V) → j ≢ id → get_elem? s.views j ≡ some u → u.turn ≡ None = λ j u other there. none_or u.turn
      (λ t. one_holder s r j id u v there at (has_turn u.turn u.ticket r.log r.serving t (r.each j u there).turn) mine other) in (
        w,
        gives,
        tt,
        record {
          log = log;
          ticket = r.ticket;
          serving = r.serving + 1;
          slot = some (Some object);
          words = ap (λ (ws : List ℕ). set ws 1 ((found + 1) % 2 ^ 64)) r.words ∙ ap (λ (k : ℕ). r.ticket ∷ k ∷ []) (ap (λ (k : ℕ). (k + 1) % 2 ^ 64) word ∙ mod_small (r.serving + 1) (omega arith));
          homes = ap (λ (hs : List (maybe.Option (Option O))). set hs 0 (some (Some object))) r.homes;
          order = omega arith;
          fits = r.fits;
          begins = begins_longer r.log origin.opening entry r.begins;
          served = omega arith;
          tickets = λ k. omega (arith, sum_set (λ (u : V). times_of_ticket k u.ticket) s.views id v w at, r.tickets k, within_less r.serving r.ticket k less, ap (times_of_ticket k) mine);
          waiting = omega (arith, sum_set (λ (u : V). ticket_count u.ticket) s.views id v w at);
          places = λ p. omega (
            arith,
            sum_set (λ (u : V). times_at p u.own) s.views id v w at,
            r.places p,
            sum_by_push (λ (c : ℕ × E). cond (eqb c.0 p) 1 0) v.own (length list, entry),
            within_next (length origin.opening) (length r.log) p (omega arith),
            ap (λ (l : ℕ). times_of_ticket p (Some l)) long,
            ap (λ (l : ℕ). one_within (length origin.opening) l p) one_longer,
          );
          made = omega (arith, sum_set (λ (u : V). length u.own) s.views id v w at);
          calls = omega (arith, sum_set (λ (u : V). length u.own + u.left) s.views id v w at);
          each = each_after (Knows origin log (r.serving + 1)) s.views id w
              record {
                same = known.same;
                seen = ([], sym (append-nil log) ∙ ap (λ (l : List E). (l ++ entry ∷ []) ++ []) (sym turn.1));
                note = begins_longer r.log v.note entry known.note;
                own = All-push (λ (c : ℕ × E). slice_get log c.0 ≡ Some c.1) v.own (length list, entry) (stand_longer r.log (entry ∷ []) v.own known.own)
                    (slice_get-get_or log (length list) entry (omega arith) ∙ ap (λ (x : E). Some x) (ap (λ (l : ℕ). get_or log l entry) long ∙ get_or-append_seam r.log entry [] entry));
                may_call = omega arith;
                turn = tt;
              }
              (λ j u other there. let k = r.each j u there in record {
                same = k.same;
                seen = begins_longer r.log u.seen entry k.seen;
                note = begins_longer r.log u.note entry k.note;
                own = stand_longer r.log (entry ∷ []) u.own k.own;
                may_call = k.may_call;
                turn = idle_turn log (r.serving + 1) u.ticket u.turn (idle j u other there);
              });
          at_home = (object, refl, whole, basis_there v.origin (basis object) live same_basis known.same, omega arith, each_after (λ (u : V). u.turn ≡ None) s.views id w refl idle);
        },
        subst (Tells v list entry object) (sym holds)
            (λ object' entry' is more. let same : object ≡ object' = same_hand object object' is in
            let e : entry ≡ entry' = last_same list entry entry' (sym adds ∙ (ap entries same ∙ more)) in ap (λ (x : E). (view_with_call v list x, no_slot)) e),
      )

  -- the same, of a seat that has put the object into its empty slot
  pub passes_home : (n id : ℕ) (m : Knower O E B) (v : V) (slots : List (ℕ × Option O)) (object : O) → m ≡ (v, (0, Some object) ∷ rest slots) → slots ≡ (0, None) ∷ [] → is_some v.origin ≡ true → is_some v.turn ≡ true
      → AddsOne (list_in v) (entries object) → spare_in v ≤ spare object + 1 → basis_in v ≡ Some (basis object) → Allows Rule n id m 1 (λ k. (k + 1) % 2 ^ 64) (PassesOn entries spare basis (step n 1 1 0 none) m)
  passes_home n id m v slots object is empty live out adds few same =
      let at : Knower O E B → Type 0 = λ k. Allows Rule n id k 1 (λ x. (x + 1) % 2 ^ 64) (PassesOn entries spare basis (step n 1 1 0 none) k) in
      let hand : m ≡ (v, in_hand object) = is ∙ ap (λ (l : List (ℕ × Option O)). (v, (0, Some object) ∷ rest l)) empty in
      subst at (sym hand) (passes n id v (list_in v) (spare_in v) adds.0 object (some_of v.turn ([], 0) out) live (if_mapped (λ (o : Origin E B). o.basis) v.origin (basis object) same) adds.1 few)

  only_seat : (v u : V) (j : ℕ) → get_elem? (v ∷ []) j ≡ some u → v ≡ u
  only_seat v u zero at = some-injective v u at
  only_seat v u (suc j) at = absurd (some-ne-none u (sym at))

  pub starts : (object : O) → entries object ≡ origin.opening → basis object ≡ origin.basis → origin.calls ≤ spare object → origin.calls < 2 ^ 64
      → Rule (opening (0 ∷ 0 ∷ []) (Some object ∷ []) (opening_view origin))
  starts object list same room fits = let v : V = opening_view origin in record {
    log = origin.opening;
    ticket = 0;
    serving = 0;
    slot = some (Some object);
    words = refl;
    homes = refl;
    order = omega arith;
    fits = fits;
    begins = ([], sym (append-nil origin.opening));
    served = omega arith;
    tickets = λ k. omega (arith, within_none 0 k);
    waiting = refl;
    places = λ p. omega (arith, within_none (length origin.opening) p);
    made = refl;
    calls = omega (arith, sum_by-cons (λ (u : V). length u.own + u.left) v []);
    each = λ j u at. subst (Knows origin origin.opening 0) (only_seat v u j at) record {
      same = refl;
      seen = ([], sym (append-nil origin.opening));
      note = (origin.opening, refl);
      own = λ k d within. absurd (omega arith);
      may_call = omega arith;
      turn = tt;
    };
    at_home = (object, refl, list, same, omega arith, λ j u at. subst (λ (x : V). x.turn ≡ None) (only_seat v u j at) refl);
  }

  pub starts_with : (object : O) (slots : List (Option O)) → slots ≡ Some object ∷ [] → entries object ≡ origin.opening → basis object ≡ origin.basis → origin.calls ≤ spare object → origin.calls < 2 ^ 64
      → Rule (opening (0 ∷ 0 ∷ []) slots (opening_view origin))
  starts_with object slots is list same room fits = let P : List (Option O) → Type 0 = λ l. Rule (opening (0 ∷ 0 ∷ []) l (opening_view origin)) in subst P (sym is) (starts object list same room fits)
