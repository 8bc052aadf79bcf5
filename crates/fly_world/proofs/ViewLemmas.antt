-- The view of a version that was ended is that of the world in which it was current.
use Rattle.std.proofs.Common.{◌≡◌, ◌⊎◌, inl, inr, ℕ, zero, suc, ◌+◌, ◌<◌, ◌≤◌, Bool, true, false, cond, ltb, List, [], ◌∷◌, ◌++◌, map, filter, set, length, find, All, bytes_eq, Option, Some, None, option_map, is_some, refl, sym, subst, ap, ◌∙◌, arith}
use Rattle.std.specs.List.{slice_get}
use Rattle.std.specs.Option.{option_map_or}
use Rattle.std.proofs.lemmas.Bool.{lt-ltb, le-ltb, ltb-true, true≢false}
use Rattle.std.proofs.lemmas.List.{append-nil, append_assoc, length_push}
use Rattle.std.proofs.lemmas.List.Elements.{filter-append, All-nil, All-head, All-tail, All-push, All-weaker}
use Rattle.std.proofs.lemmas.Option.{same_Some, slice_get_past}
use Rattle.fly_types.specs.declared.text.Text.{Text}
use Rattle.fly_docs.specs.declared.attempt_name.AttemptName.{AttemptName}
use Rattle.fly_policy.specs.declared.outcome.Outcome.{Outcome}
use Rattle.fly_state.specs.declared.slots.ExecState.{ExecState}
use Rattle.fly_state.specs.declared.view.View.{View}
use Rattle.fly_state.specs.declared.view.Known.{Known}
use Rattle.fly_state.specs.declared.moves.Move.{Move}
use Rattle.fly_state.specs.declared.entries.Entry.{Entry}
use Rattle.fly_state.specs.Plans.{RunPlan}
use Rattle.fly_world.specs.World.{World, Execution, Past, Launch, Claim, Settlement, empty_world, current_of, state_at, end_of, stands_before, world_before, known_of, launches_of, view_of, current_view, same_name}
use Rattle.fly_world.specs.Changes.{Change, no_change, moment_becomes, catalog_becomes, lets_go, adds_execution, adds_launch, adds_claim, adds_outcome, adds_version, with_change, with_entry, with_version}
use Rattle.fly_world.specs.Journals.{Leads, IsHistory}
use Rattle.fly_world.proofs.StepLemmas.{Permits}
use Rattle.fly_world.proofs.JournalLemmas.{same_entries, step_cases, along, along_changes}
use Rattle.fly_world.specs.Laws.{IsRoundOn}
use Rattle.fly_world.specs.Steps.{cited_move}
use Rattle.fly_state.specs.Rounds.{state_after}
use Rattle.fly_world.proofs.FinalSlots.{state_current, set_there, named_there}
use Rattle.fly_world.proofs.TellLemmas.{versions-stay}

-- ---- lists cut at a place

module _ {X : Type 0} (place_of : X → ℕ) (n : ℕ) where
  abbrev cut : List X → List X
  cut xs = filter (λ (x : X). stands_before (Some n) (place_of x)) xs

  -- one that came no earlier is cut off
  cut_push : (xs : List X) (x : X) → n ≤ place_of x → cut (xs ++ x ∷ []) ≡ cut xs
  cut_push xs x late =
      filter-append (λ (y : X). stands_before (Some n) (place_of y)) xs (x ∷ [])
      ∙ ap (λ b. cut xs ++ cond b (x ∷ []) []) (le-ltb (place_of x) n late) ∙ append-nil (cut xs)

-- nothing is cut off by no end
uncut : {X : Type 0} (place_of : X → ℕ) (xs : List X) → filter (λ (x : X). stands_before None (place_of x)) xs ≡ xs
uncut place_of [] = refl
uncut place_of (x ∷ xs) = ap (λ ys. x ∷ ys) (uncut place_of xs)

-- ---- what stood before an end

-- the lists of a world, cut at the number of the entries that another has, are that one's
record IsCut (w v : World) : Type 0 where
  launches : cut (λ (l : Launch). l.place) (length w.entries) v.launches ≡ w.launches
  claims : cut (λ (c : Claim). c.place) (length w.entries) v.claims ≡ w.claims
  outcomes : cut (λ (s : Settlement). s.place) (length w.entries) v.outcomes ≡ w.outcomes
  later : length w.entries ≤ length v.entries

module _ (w : World) where
  cut_entry : (v : World) (e : Entry) → IsCut w v → IsCut w (with_entry v e)
  cut_entry v e h = record {
    launches = h.launches;
    claims = h.claims;
    outcomes = h.outcomes;
    later = subst (λ k. length w.entries ≤ k) (sym (length_push v.entries e)) (omega (arith, h.later));
  }

  same_lists : (v u : World) → IsCut w v → u.launches ≡ v.launches → u.claims ≡ v.claims → u.outcomes ≡ v.outcomes → u.entries ≡ v.entries
      → IsCut w u
  same_lists v u h ls cs os es = record {
    launches = ap (cut (λ (l : Launch). l.place) (length w.entries)) ls ∙ h.launches;
    claims = ap (cut (λ (c : Claim). c.place) (length w.entries)) cs ∙ h.claims;
    outcomes = ap (cut (λ (s : Settlement). s.place) (length w.entries)) os ∙ h.outcomes;
    later = subst (λ (xs : List Entry). length w.entries ≤ length xs) (sym es) h.later;
  }

  cut_change : (v : World) (c : Change) → IsCut w v → IsCut w (with_change v c)
  cut_change v no_change h = h
  cut_change v (moment_becomes moment) h = same_lists v (with_change v (moment_becomes moment)) h refl refl refl refl
  cut_change v (catalog_becomes catalog) h = same_lists v (with_change v (catalog_becomes catalog)) h refl refl refl refl
  cut_change v (lets_go ends) h = same_lists v (with_change v (lets_go ends)) h refl refl refl refl
  cut_change v (adds_execution name inputs state) h =
      same_lists v (with_change v (adds_execution name inputs state)) h refl refl refl refl
  cut_change v (adds_launch name inputs) h = record {
    launches = cut_push (λ (l : Launch). l.place) (length w.entries) v.launches
        (record { name = name; inputs = inputs; place = length v.entries }) h.later ∙ h.launches;
    claims = h.claims;
    outcomes = h.outcomes;
    later = h.later;
  }
  cut_change v (adds_claim name) h = record {
    launches = h.launches;
    claims = cut_push (λ (c : Claim). c.place) (length w.entries) v.claims
        (record { name = name; moment = v.moment; place = length v.entries }) h.later ∙ h.claims;
    outcomes = h.outcomes;
    later = h.later;
  }
  cut_change v (adds_outcome name o) h = record {
    launches = h.launches;
    claims = h.claims;
    outcomes = cut_push (λ (s : Settlement). s.place) (length w.entries) v.outcomes
        (record { name = name; outcome = o; place = length v.entries }) h.later ∙ h.outcomes;
    later = h.later;
  }
  cut_change v (adds_version at state) h = same_lists v (with_change v (adds_version at state)) h refl refl refl refl

  cut_along : (plan : RunPlan) (v u : World) (es : List Entry) → IsCut w v → Leads plan v es u → IsCut w u
  cut_along plan v u es h leads =
      along_changes plan (IsCut w) (λ x e at. cut_entry x e at) (λ x c at permits. cut_change x c at) v u es h leads

-- ---- places are of entries

-- what stands before an end is not cut off
whole : {X : Type 0} (place_of : X → ℕ) (n : ℕ) (xs : List X) → All (λ (x : X). place_of x < n) xs → cut place_of n xs ≡ xs
whole place_of n [] h = refl
whole {X} place_of n (x ∷ xs) h =
    ap (λ b. cond b (x ∷ cut place_of n xs) (cut place_of n xs))
    (lt-ltb (place_of x) n (All-head (λ (x : X). place_of x < n) x xs h))
    ∙ ap (λ ys. x ∷ ys) (whole place_of n xs (All-tail (λ (x : X). place_of x < n) x xs h))

record Placed (v : World) : Type 0 where
  launches : All (λ (l : Launch). l.place < length v.entries) v.launches
  claims : All (λ (c : Claim). c.place < length v.entries) v.claims
  outcomes : All (λ (s : Settlement). s.place < length v.entries) v.outcomes

sooner : {X : Type 0} (place_of : X → ℕ) (n k : ℕ) → k ≡ n + 1 → (xs : List X) → All (λ (x : X). place_of x < n) xs
    → All (λ (x : X). place_of x < k) xs
sooner {X} place_of n k more xs h =
    All-weaker (λ (x : X). place_of x < n) (λ (x : X). place_of x < k)
    (λ x lt. subst (λ m. place_of x < m) (sym more) (omega (arith, lt))) xs h

module _ (v : World) (h : Placed v) (e : Entry) where
  more_entries : (c : Change) → length (with_entry (with_change v c) e).entries ≡ length v.entries + 1
  more_entries c = length_push (with_change v c).entries e ∙ ap (λ (xs : List Entry). length xs + 1) (same_entries v c)

  launches_kept : (c : Change) → All (λ (l : Launch). l.place < length (with_entry (with_change v c) e).entries) v.launches
  launches_kept c =
      sooner (λ (l : Launch). l.place) (length v.entries) (length (with_entry (with_change v c) e).entries) (more_entries c) v.launches h.launches

  claims_kept : (c : Change) → All (λ (x : Claim). x.place < length (with_entry (with_change v c) e).entries) v.claims
  claims_kept c =
      sooner (λ (x : Claim). x.place) (length v.entries) (length (with_entry (with_change v c) e).entries) (more_entries c) v.claims h.claims

  outcomes_kept : (c : Change) → All (λ (s : Settlement). s.place < length (with_entry (with_change v c) e).entries) v.outcomes
  outcomes_kept c =
      sooner (λ (s : Settlement). s.place) (length v.entries) (length (with_entry (with_change v c) e).entries) (more_entries c)
      v.outcomes h.outcomes

  here : (c : Change) → length v.entries < length (with_entry (with_change v c) e).entries
  here c = subst (λ m. length v.entries < m) (sym (more_entries c)) (omega arith)

  placed_next : (c : Change) → Placed (with_entry (with_change v c) e)
  placed_next no_change = record {
    launches = launches_kept no_change;
    claims = claims_kept no_change;
    outcomes = outcomes_kept no_change;
  }
  placed_next (moment_becomes moment) = record {
    launches = launches_kept (moment_becomes moment);
    claims = claims_kept (moment_becomes moment);
    outcomes = outcomes_kept (moment_becomes moment);
  }
  placed_next (catalog_becomes catalog) = record {
    launches = launches_kept (catalog_becomes catalog);
    claims = claims_kept (catalog_becomes catalog);
    outcomes = outcomes_kept (catalog_becomes catalog);
  }
  placed_next (lets_go ends) = record {
    launches = launches_kept (lets_go ends);
    claims = claims_kept (lets_go ends);
    outcomes = outcomes_kept (lets_go ends);
  }
  placed_next (adds_execution name inputs state) = record {
    launches = launches_kept (adds_execution name inputs state);
    claims = claims_kept (adds_execution name inputs state);
    outcomes = outcomes_kept (adds_execution name inputs state);
  }
  placed_next (adds_launch name inputs) = record {
    launches = All-push (λ (l : Launch). l.place < length (with_entry (with_change v (adds_launch name inputs)) e).entries) v.launches
        (record { name = name; inputs = inputs; place = length v.entries }) (launches_kept (adds_launch name inputs))
        (here (adds_launch name inputs));
    claims = claims_kept (adds_launch name inputs);
    outcomes = outcomes_kept (adds_launch name inputs);
  }
  placed_next (adds_claim name) = record {
    launches = launches_kept (adds_claim name);
    claims = All-push (λ (x : Claim). x.place < length (with_entry (with_change v (adds_claim name)) e).entries) v.claims
        (record { name = name; moment = v.moment; place = length v.entries }) (claims_kept (adds_claim name)) (here (adds_claim name));
    outcomes = outcomes_kept (adds_claim name);
  }
  placed_next (adds_outcome name o) = record {
    launches = launches_kept (adds_outcome name o);
    claims = claims_kept (adds_outcome name o);
    outcomes = All-push (λ (s : Settlement). s.place < length (with_entry (with_change v (adds_outcome name o)) e).entries) v.outcomes
        (record { name = name; outcome = o; place = length v.entries }) (outcomes_kept (adds_outcome name o)) (here (adds_outcome name o));
  }
  placed_next (adds_version at state) = record {
    launches = launches_kept (adds_version at state);
    claims = claims_kept (adds_version at state);
    outcomes = outcomes_kept (adds_version at state);
  }

placed_always : (plan : RunPlan) (w : World) (journal : List Entry) → Leads plan empty_world journal w → Placed w
placed_always plan w journal leads =
    along plan Placed (λ v u e h s. step_cases plan Placed v u e s (λ c permits tells. placed_next v h e c)) empty_world w journal
    (record {
      launches = All-nil (λ (l : Launch). l.place < 0);
      claims = All-nil (λ (c : Claim). c.place < 0);
      outcomes = All-nil (λ (s : Settlement). s.place < 0);
    }) leads

cut_itself : (w : World) → Placed w → IsCut w w
cut_itself w h = record {
  launches = whole (λ (l : Launch). l.place) (length w.entries) w.launches h.launches;
  claims = whole (λ (c : Claim). c.place) (length w.entries) w.claims h.claims;
  outcomes = whole (λ (s : Settlement). s.place) (length w.entries) w.outcomes h.outcomes;
  later = omega arith;
}

-- ---- views

-- what is known of the launches of an execution, by lists
abbrev known_by : Text → List Launch → List Claim → List Settlement → List Known
known_by name ls cs os =
    map (λ (l : Launch). record {
      name = l.name;
      claimed = is_some (find (λ (c : Claim). same_name l.name c.name) cs);
      outcome = option_map (λ (s : Settlement). s.outcome) (find (λ (s : Settlement). same_name l.name s.name) os);
    }) (filter (λ (l : Launch). bytes_eq name l.name.exec) ls)

known-same : (name : Text) (ls ms : List Launch) (cs ds : List Claim) (os ps : List Settlement) → ls ≡ ms → cs ≡ ds → os ≡ ps
    → known_by name ls cs os ≡ known_by name ms ds ps
known-same name ls ms cs ds os ps l c o =
    ap (λ x. known_by name x cs os) l ∙ ap (λ x. known_by name ms x os) c ∙ ap (λ x. known_by name ms ds x) o

view_parts : (exec : ℕ) (a b : Text) (version current : ℕ) (s t : ExecState) (ks ls : List Known) → a ≡ b → s ≡ t → ks ≡ ls
    → ◌≡◌ {A = View} (record { exec = exec; name = a; version = version; current = current; state = s; launches = ks })
    (record { exec = exec; name = b; version = version; current = current; state = t; launches = ls })
view_parts exec a b version current s t ks ls x y z =
    ap (λ (n : Text). record { exec = exec; name = n; version = version; current = current; state = s; launches = ks }) x
    ∙ ap (λ (q : ExecState). record { exec = exec; name = b; version = version; current = current; state = q; launches = ks }) y
    ∙ ap (λ (k : List Known). record { exec = exec; name = b; version = version; current = current; state = t; launches = k }) z

slice_at_end : {X : Type 0} (xs : List X) (x : X) (ys : List X) → slice_get ((xs ++ x ∷ []) ++ ys) (length xs) ≡ Some x
slice_at_end [] x ys = refl
slice_at_end (z ∷ zs) x ys = slice_at_end zs x ys

module _ (plan : RunPlan) (w : World) (placed : Placed w) (at : ℕ × Execution) where
  -- the launches of the version that is current at w, cut at w's end, are those that w knows
  known-stays : (v : World) → IsCut w v
      → launches_of (world_before v (Some (length w.entries))) at.1.name ≡ launches_of (world_before w None) at.1.name
  known-stays v h =
      known-same at.1.name
      (cut (λ (l : Launch). l.place) (length w.entries) v.launches) (filter (λ (l : Launch). stands_before None l.place) w.launches)
      (cut (λ (c : Claim). c.place) (length w.entries) v.claims) (filter (λ (c : Claim). stands_before None c.place) w.claims)
      (cut (λ (s : Settlement). s.place) (length w.entries) v.outcomes) (filter (λ (s : Settlement). stands_before None s.place) w.outcomes)
      (h.launches ∙ sym (uncut (λ (l : Launch). l.place) w.launches))
      (h.claims ∙ sym (uncut (λ (c : Claim). c.place) w.claims))
      (h.outcomes ∙ sym (uncut (λ (s : Settlement). s.place) w.outcomes))

  -- an execution whose versions go on behind this one
  view-same : (v : World) (y : Execution) (more : List Past) → IsCut w v
      → y.past ≡ (at.1.past ++ record { state = at.1.state; until = length w.entries } ∷ []) ++ more → y.name ≡ at.1.name
      → view_of v (at.0, y) (current_of at.1) ≡ record (current_view w at) { current = current_of y }
  view-same v y more h past name =
      let p : Past = record { state = at.1.state; until = length w.entries } in
      let found : slice_get y.past (current_of at.1) ≡ Some p =
      ap (λ ps. slice_get ps (current_of at.1)) past ∙ slice_at_end at.1.past p more in
      let state : state_at y (current_of at.1) ≡ state_at at.1 (current_of at.1) =
      ap (λ (o : Option Past). option_map_or (λ (p : Past). p.state) o y.state) found ∙ sym (state_current at.1) in
      let end : end_of y (current_of at.1) ≡ Some (length w.entries) = ap (option_map (λ (p : Past). p.until)) found in
      let ended : end_of at.1 (current_of at.1) ≡ None =
      ap (option_map (λ (p : Past). p.until)) (slice_get_past at.1.past (length at.1.past) (omega arith)) in
      let known : launches_of (world_before v (end_of y (current_of at.1))) y.name
      ≡ launches_of (world_before w (end_of at.1 (current_of at.1))) at.1.name =
      ap (λ n. launches_of (world_before v (end_of y (current_of at.1))) n) name
      ∙ ap (λ o. launches_of (world_before v o) at.1.name) end
      ∙ known-stays v h
      ∙ ap (λ o. launches_of (world_before w o) at.1.name) (sym ended) in
      view_parts at.0 y.name at.1.name (current_of at.1) (current_of y) (state_at y (current_of at.1)) (state_at at.1 (current_of at.1))
      _ _ name state known

-- ---- after an accepted Write

module _ (plan : RunPlan) (closure : List ℕ) (journal : List Entry) (w : World) (history : IsHistory plan closure journal w) where
  pub views-stay : (mid new : World) (e : Entry) (exec : Text) (base version : ℕ) (moves : List Move) (entries : List Entry)
      → (made : IsRoundOn plan w mid e exec base version moves) → Leads plan mid entries new → (y : Execution)
      → slice_get new.executions made.execution.0 ≡ Some y
      → view_of new (made.execution.0, y) base ≡ record (current_view w made.execution) { current = current_of y }
  views-stay mid new e exec base version moves entries made leads y there =
      let at = made.execution in
      let state = state_after plan (current_view w at) (map (cited_move w) moves) in
      let placed = placed_always plan w journal history.leads in
      let changed = with_change w (adds_version at state) in
      let first : IsCut w mid = subst (IsCut w) (sym made.after)
      (cut_entry w changed e (cut_change w w (adds_version at state) (cut_itself w placed))) in
      let last = cut_along w plan mid new entries first leads in
      let x = with_version state (length w.entries) at.1 in
      let stands : slice_get mid.executions at.0 ≡ Some x =
      ap (λ (v : World). slice_get v.executions at.0) made.after
      ∙ set_there w.executions at.0 x at.1 (named_there w exec at made.named) in
      let later = versions-stay at.0 x plan mid new entries leads stands in
      let same : y ≡ later.later = same_Some y later.later (sym there ∙ later.there) in
      subst (λ n. view_of new (at.0, y) n ≡ record (current_view w at) { current = current_of y }) (sym made.base_is)
      (view-same plan w placed at new y later.past last
      (ap (λ (z : Execution). z.past) same ∙ later.past_is) (ap (λ (z : Execution). z.name) same ∙ later.name))
