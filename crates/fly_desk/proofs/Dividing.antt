-- Cutting a pass in two, joining two, and closing keep the rule of a desk.
use Rattle.std.proofs.Common.{◌≡◌, ℕ, suc, ◌+◌, ◌≤◌, ◌≢◌, ⊎_elim, List, [], ◌∷◌, ◌++◌, length, set, Bool, true, sum_by, cond, eqb, refl, sym, subst, ap, ◌∙◌, arith, Option, Some, None, is_some, IsSome, IfSome, option_map, unwrap_or, slice_get, true≢false, append-nil, length-append, lt-ltb, le-ltb}
use Rattle.std.proofs.lemmas.List.Sums.{sum_by_push, sum_by-append, count_by-le-length}
use Rattle.std.proofs.lemmas.List.Elements.{All-append}
use mathlib.Core.Logic.{dite}
use mathlib.Core.Option.{none, some, some-injective, some-ne-none}
use mathlib.Core.Option as maybe
use native.Mathlib.Decide.{ℕ_discrete, dec_le}
use lib.ListN.{get_elem?}
use Rattle.atomic_table.specs.Table.{State, step, keeps, Allows, Splits, Joins, Final, Seen}
use Rattle.atomic_table.proofs.Lists.{set_else, at_snoc, at_longer}
use Rattle.fly_desk.specs.declared.view.Origin.{Origin}
use Rattle.fly_desk.specs.declared.view.View.{View}
use Rattle.fly_desk.specs.Annals.{StartsWith, times_at, IsMadeOf, longer_of}
use Rattle.fly_desk.specs.View.{ticket_count, times_of_ticket, blank_view, opening_in, basis_in, calls_in}
use Rattle.fly_desk.specs.Rule.{Knows, IsAtHome, IsDesk}
use Rattle.fly_desk.specs.Plays.{view_with_rest, view_with_share, view_of_both, view_of_longer, Settles}
use Rattle.fly_desk.proofs.Sums.{sum_set, sum_term, sum_two, sum_only, longer_begins}
use Rattle.fly_desk.proofs.Keeps.{each_after, no_turn, home_stays, loads, has_turn, none_or}

module _ {O E B : Type 0} (entries : O → List E) (spare : O → ℕ) (basis : O → B) (origin : Origin E B) where
  abbrev V : Type 0
  V = View E B

  abbrev St : Type 0
  St = State (Option O) V

  abbrev Rule : St → Type 0
  Rule = IsDesk entries spare basis origin

  -- the sum after a change of one view and with one view more
  sum_cut : (f : V → ℕ) (vs : List V) (id : ℕ) (v w u : V) → get_elem? vs id ≡ some v → sum_by f (set vs id w ++ u ∷ []) + f v ≡ sum_by f vs + f w + f u
  sum_cut f vs id v w u at = omega (arith, sum_set f vs id v w at, sum_by_push f (set vs id w) u)

  each_cut : (P : V → Type 0) (vs : List V) (u : V) → P u → ((j : ℕ) (x : V) → get_elem? vs j ≡ some x → P x) → (j : ℕ) (x : V) → get_elem? (vs ++ u ∷ []) j ≡ some x → P x
  each_cut P vs u new others j x at = ⊎_elim (λ (there : get_elem? vs j ≡ some x). others j x there) (λ (is : u ≡ x). subst P is new) (at_snoc vs u x j at)

  home_longer : (log : List E) (serving : ℕ) (vs : List V) (h : maybe.Option (Option O)) (u : V) → u.turn ≡ None → IsAtHome entries spare basis origin log serving vs h → IsAtHome entries spare basis origin log serving (vs ++ u ∷ []) h
  home_longer log serving vs maybe.none u idle out = (out.0, out.1, at_longer vs (u ∷ []) out.0 out.1 out.2, out.3)
  home_longer log serving vs (maybe.some slot) u idle home = (home.0, home.1, home.2, home.3, home.4, each_cut (λ (x : V). x.turn ≡ None) vs u idle home.5)

  pub splits : (id : ℕ) (v : V) (calls : ℕ) → calls ≤ v.left → v.ticket ≡ None → v.turn ≡ None → Splits Rule id v (view_with_rest calls v) (view_with_share calls v)
  splits id v calls few no_ticket no_hold s r at =
      let w : V = view_with_rest calls v in
      let u : V = view_with_share calls v in
      let known = r.each id v at in
      let waits : ticket_count v.ticket ≡ 0 = ap ticket_count no_ticket in
      record {
        log = r.log;
        ticket = r.ticket;
        serving = r.serving;
        slot = r.slot;
        words = r.words;
        homes = r.homes;
        order = r.order;
        fits = r.fits;
        begins = r.begins;
        served = r.served;
        tickets = λ k. omega (arith, sum_cut (λ (x : V). times_of_ticket k x.ticket) s.views id v w u at, r.tickets k);
        waiting = let d = r.waiting in omega (arith, sum_cut (λ (x : V). ticket_count x.ticket) s.views id v w u at);
        places = λ p. omega (arith, sum_cut (λ (x : V). times_at p x.own) s.views id v w u at, r.places p);
        made = let d = r.made in omega (arith, sum_cut (λ (x : V). length x.own) s.views id v w u at);
        calls = let d = r.calls in omega (arith, sum_cut (λ (x : V). length x.own + x.left) s.views id v w u at);
        each = each_cut (Knows origin r.log r.serving) (set s.views id w) u
            record { same = known.same; seen = known.seen; note = (r.log, refl); own = λ k d within. absurd (omega arith); may_call = omega arith; turn = tt }
            (each_after entries spare basis origin (Knows origin r.log r.serving) s.views id w
            record { same = known.same; seen = known.seen; note = known.note; own = known.own; may_call = omega arith; turn = known.turn }
            (λ j x _ there. r.each j x there));
        at_home = home_longer r.log r.serving (set s.views id w) r.slot u refl (home_stays entries spare basis origin r.log r.serving s.views r.slot id v w at no_hold no_hold r.at_home);
      }

  pub joins : (id : ℕ) (v : V) (other : ℕ) (u : V) → v.ticket ≡ None → v.turn ≡ None → u.ticket ≡ None → u.turn ≡ None → Joins Rule id v other u (view_of_both v u) blank_view
  joins id v other u no_ticket no_hold no_ticket' no_hold' s r at apart them =
      let w : V = view_of_both v u in
      let vs : List V = set s.views id w in
      let both : (f : V → ℕ) → sum_by f (set vs other blank_view) + f u + f v ≡ sum_by f s.views + f w + f (blank_view {E = E} {B = B}) = λ f. omega (arith, sum_set f s.views id v w at, sum_set f vs other u blank_view them) in
      let there : get_elem? s.views other ≡ some u = sym (set_else s.views id other w apart) ∙ them in
      let mine = r.each id v at in
      let theirs = r.each other u there in
      let waits : ticket_count v.ticket ≡ 0 = ap ticket_count no_ticket in
      let waits' : ticket_count u.ticket ≡ 0 = ap ticket_count no_ticket' in
      let long : length w.own ≡ length v.own + length u.own = length-append v.own u.own in
      record {
        log = r.log;
        ticket = r.ticket;
        serving = r.serving;
        slot = r.slot;
        words = r.words;
        homes = r.homes;
        order = r.order;
        fits = r.fits;
        begins = r.begins;
        served = r.served;
        tickets = λ k. omega (arith, both (λ (x : V). times_of_ticket k x.ticket), r.tickets k, ap (times_of_ticket k) no_ticket');
        waiting = let d = r.waiting in omega (arith, both (λ (x : V). ticket_count x.ticket));
        places = λ p. omega (arith, both (λ (x : V). times_at p x.own), r.places p, sum_by-append (λ (c : ℕ × E). cond (eqb c.0 p) 1 0) v.own u.own);
        made = let d = r.made in omega (arith, both (λ (x : V). length x.own));
        calls = let d = r.calls in omega (arith, both (λ (x : V). length x.own + x.left));
        each = each_after entries spare basis origin (Knows origin r.log r.serving) vs other blank_view
            record { same = tt; seen = (r.log, refl); note = (r.log, refl); own = λ k d within. absurd (omega arith); may_call = omega arith; turn = tt }
            (λ j x _ here. each_after entries spare basis origin (Knows origin r.log r.serving) s.views id w
            record { same = mine.same; seen = mine.seen; note = theirs.seen; own = All-append (λ (c : ℕ × E). slice_get r.log c.0 ≡ Some c.1) v.own u.own mine.own theirs.own; may_call = omega arith; turn = mine.turn }
            (λ i y _ at_i. r.each i y at_i) j x here);
        at_home = home_stays entries spare basis origin r.log r.serving vs r.slot other u blank_view them no_hold' refl
            (home_stays entries spare basis origin r.log r.serving s.views r.slot id v w at no_hold no_hold r.at_home);
      }

  -- the longer of two beginnings of the history begins it, and each begins the longer
  longest : (log xs ys : List E) → StartsWith log xs → StartsWith log ys → StartsWith log (longer_of xs ys) × StartsWith (longer_of xs ys) xs × StartsWith (longer_of xs ys) ys
  longest log xs ys p q = dite (dec_le (suc (length xs)) (length ys))
      (λ less. subst Fits (sym (lt-ltb (length xs) (length ys) less)) (q, longer_begins log xs ys p q (omega arith), ([], sym (append-nil ys))))
      (λ not. subst Fits (sym (le-ltb (length xs) (length ys) (omega arith))) (p, ([], sym (append-nil xs)), longer_begins log ys xs q p (omega arith)))
    where
      Fits : Bool → Type 0
      Fits b = StartsWith log (cond b ys xs) × StartsWith (cond b ys xs) xs × StartsWith (cond b ys xs) ys

  pub settles : (n id : ℕ) (v : V) (c : List (ℕ × Option O)) → v.ticket ≡ None → v.turn ≡ None → Allows Rule n id (v, c) 0 (λ x. x) (Settles (step n 0 0 0 none) (v, c))
  settles n id v c no_ticket no_hold s r deep at small =
      let known = r.each id v at in
      let w : V = view_of_longer v in
      let both = longest r.log v.seen v.note known.seen known.note in
      let part = sum_term (λ (x : V). length x.own + x.left) s.views id v at in
      let calls = r.calls in let fits = r.fits in (
        w,
        keeps,
        tt,
        loads entries spare basis origin s r 0 id v w c at
            record { same = known.same; seen = both.0; note = (r.log, refl); own = known.own; may_call = known.may_call; turn = known.turn } refl refl refl no_hold no_hold,
        (refl, both.1, both.2, omega arith),
      )

  -- what a closed desk gives
  pub record Closing (slots : List (Option O)) (v : V) : Type 0 where
    pub object : O
    pub at : get_elem? slots 0 ≡ some (Some object)
    pub seen : StartsWith (entries object) v.seen
    pub same : basis_in v ≡ Some (basis object)
    pub made : IsMadeOf (entries object) (opening_in v) v.own

  origin_is : (o : Option (Origin E B)) → is_some o ≡ true → IfSome o (λ x. x ≡ origin) → o ≡ Some origin
  origin_is None there e = absurd (true≢false (sym there))
  origin_is (Some x) there e = ap (λ (y : Origin E B). Some y) e

  -- the slot is at home where no view has the turn
  home_of : (log : List E) (serving : ℕ) (vs : List V) → ((j : ℕ) (u : V) → get_elem? vs j ≡ some u → u.turn ≡ None) → (h : maybe.Option (Option O)) → IsAtHome entries spare basis origin log serving vs h
      → (object : O) × (h ≡ some (Some object)) × (entries object ≡ log) × (basis object ≡ origin.basis)
  home_of log serving vs idle maybe.none out = absurd (no_turn entries spare basis origin out.1.turn (idle out.0 out.1 out.2) out.3)
  home_of log serving vs idle (maybe.some slot) home = (home.0, ap (λ (x : Option O). some x) home.1, home.2, home.3)

  -- where one view has all the calls, made or left, no other has any
  pub closes : (id : ℕ) (v : V) (words : List ℕ) (slots : List (Option O)) → v.ticket ≡ None → v.turn ≡ None → is_some v.origin ≡ true → length v.own + v.left ≡ calls_in v → Final (Seen Rule id v) words slots → Closing slots v
  closes id v words slots no_ticket no_hold live all_calls end =
      let s : St = end.0 in
      let r : Rule s = end.1.0 in
      let at : get_elem? s.views id ≡ some v = end.1.1 in
      let known = r.each id v at in
      let is : v.origin ≡ Some origin = origin_is v.origin live known.same in
      let all : length v.own + v.left ≡ origin.calls = all_calls ∙ ap calls_from is in
      let calls = r.calls in let made = r.made in let served = r.served in
      let others : (j : ℕ) (u : V) → j ≢ id → get_elem? s.views j ≡ some u → length u.own + u.left ≡ 0 = λ j u apart there.
      let two = sum_two (λ (x : V). length x.own + x.left) s.views id j v u (λ e. apart (sym e)) at there in omega arith in
      let none_made : (j : ℕ) (u : V) → j ≢ id → get_elem? s.views j ≡ some u → length u.own ≡ 0 = λ j u apart there. let z = others j u apart there in omega arith in
      let idle : (j : ℕ) (u : V) → get_elem? s.views j ≡ some u → u.turn ≡ None = λ j u there. dite (ℕ_discrete j id)
      (λ e. ap (λ (x : V). x.turn) (sym (some-injective v u (sym at ∙ (ap (λ (k : ℕ). get_elem? s.views k) (sym e) ∙ there)))) ∙ no_hold)
      (λ apart. none_or entries spare basis origin u.turn (λ t. let z = others j u apart there in let k = r.each j u there in let m = k.may_call in
      let one = ap ticket_count (has_turn entries spare basis origin u.turn u.ticket r.log r.serving t k.turn) in omega arith)) in
      let home = home_of r.log r.serving s.views idle r.slot r.at_home in
      let whole : r.log ≡ entries home.0 = sym home.2 in
      let opens : opening_in v ≡ origin.opening = ap opening_from is in
      let mine : length v.own ≡ r.serving = sym (sum_only (λ (x : V). length x.own) s.views id v at none_made) ∙ made in
      let begins = r.begins in
      let made_of : IsMadeOf r.log origin.opening v.own = record {
        begins = begins;
        number = omega arith;
        once = λ p. sym (sum_only (λ (x : V). times_at p x.own) s.views id v at (λ j u apart there. let z = none_made j u apart there in let most = count_by-le-length (λ (c : ℕ × E). eqb c.0 p) u.own in omega arith)) ∙ r.places p;
        at = known.own;
      } in
      record {
        object = home.0;
        at = end.4 0 (Some home.0) (ap (λ (hs : List (maybe.Option (Option O))). get_elem? hs 0) r.homes ∙ ap (λ (h : maybe.Option (Option O)). some h) home.1);
        seen = subst (λ (l : List E). StartsWith l v.seen) whole known.seen;
        same = ap basis_from is ∙ ap (λ (b : B). Some b) (sym home.3);
        made = subst (λ (l : List E). IsMadeOf l (opening_in v) v.own) whole (subst (λ (l : List E). IsMadeOf r.log l v.own) (sym opens) made_of);
      }
    where
      calls_from : Option (Origin E B) → ℕ
      calls_from o = unwrap_or (option_map (λ (x : Origin E B). x.calls) o) 0

      opening_from : Option (Origin E B) → List E
      opening_from o = unwrap_or (option_map (λ (x : Origin E B). x.opening) o) []

      basis_from : Option (Origin E B) → Option B
      basis_from o = option_map (λ (x : Origin E B). x.basis) o

  -- what is known of the object of a closed desk
  pub record Handed (object : O) (v : V) : Type 0 where
    pub seen : StartsWith (entries object) v.seen
    pub same : basis_in v ≡ Some (basis object)
    pub made : IsMadeOf (entries object) (opening_in v) v.own

  module _ (id : ℕ) (v w : V) (words : List ℕ) (slots : List (Option O)) (slot : Option O) (is : v ≡ w) (no_ticket : w.ticket ≡ None) (no_hold : w.turn ≡ None) (live : is_some w.origin ≡ true)
      (all_calls : length w.own + w.left ≡ calls_in w) (end : Final (Seen Rule id v) words slots) (at : get_elem? slots 0 ≡ some slot) where
    closing : Closing slots w
    closing = let End : V → Type 0 = λ x. Final (Seen Rule id x) words slots in closes id w words slots no_ticket no_hold live all_calls (subst End is end)

    slot_is : slot ≡ Some closing.object
    slot_is = some-injective slot (Some closing.object) (sym at ∙ closing.at)

    pub is_full : IsSome slot
    is_full = subst IsSome (sym slot_is) refl

    pub hands : (object : O) → slot ≡ Some object → Handed object w
    hands object has =
        let P : O → Type 0 = λ x. Handed x w in
        let same : closing.object ≡ object = ap (λ (o : Option O). unwrap_or o object) (sym slot_is ∙ has) in
        subst P same (record { seen = closing.seen; same = closing.same; made = closing.made })
