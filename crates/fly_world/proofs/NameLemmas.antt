-- The names of executions, and the attempts that are launched, are of the plan.
use Rattle.std.proofs.Common.{◌≡◌, ◌≢◌, ℕ, ◌+◌, Bool, true, false, ◌&&◌, cond, List, [], ◌∷◌, ◌++◌, map, set, length, find, bytes_eq, All, AllPairs, Contains, Some, is_some, refl, sym, subst, ◌∙◌, leb, arith}
use Rattle.std.specs.List.{list_all, enumerate_from}
use Rattle.std.proofs.lemmas.Bool.{and_parts, leb-true, true≢false}
use Rattle.std.proofs.lemmas.List.{map-append}
use Rattle.std.proofs.lemmas.List.Elements.{All-nil, All-cons, All-push, All-weaker, Contains-append_left, Contains-append_right, Contains-get_or}
use Rattle.std.proofs.lemmas.List.Sums.{AllPass-from_list_all}
use Rattle.std.proofs.lemmas.List.Quantifiers.{all_pairs_push}
use Rattle.std.proofs.lemmas.Option.{none-some}
use Rattle.std.proofs.lemmas.Slice.Eq.{bytes_eq-Decides}
use Rattle.fly_types.specs.declared.text.Text.{Text}
use Rattle.fly_docs.specs.Names.{IsId, is_id_byte}
use Rattle.fly_docs.specs.Templates.{is_id_text}
use Rattle.fly_state.specs.declared.entries.Entry.{Entry}
use Rattle.fly_state.specs.Plans.{RunPlan}
use Rattle.fly_world.specs.World.{World, Execution, Launch, empty_world, is_submitted}
use Rattle.fly_world.specs.Changes.{Change, no_change, moment_becomes, catalog_becomes, lets_go, adds_execution, adds_launch, adds_claim, adds_outcome, adds_version, with_change, with_version}
use Rattle.fly_world.specs.Journals.{IsHistory}
use Rattle.fly_world.specs.Versions.{IsNameOfPlan, HasNamesOfPlan}
use Rattle.fly_world.proofs.StepLemmas.{Permits}
use Rattle.fly_world.proofs.JournalLemmas.{along_changes}
use Rattle.fly_world.proofs.FinalSlots.{named_there}
use Rattle.fly_world.proofs.TellLemmas.{map_set}

pub id-from : (id : Text) → is_id_text id ≡ true → IsId id
id-from id h =
    let last = and_parts (leb 1 (length id) && leb (length id) 63) (list_all is_id_byte id) h in
    let first = and_parts (leb 1 (length id)) (leb (length id) 63) last.0 in
    record {
      some = leb-true 1 (length id) first.0;
      short = leb-true (length id) 63 first.1;
      bytes = AllPass-from_list_all is_id_byte id last.1;
    }

abbrev name_of : Execution → Text
name_of x = x.name

-- a name that no execution has
unnamed : (k : ℕ) (xs : List Execution) (name : Text)
    → is_some (find (λ (at : ℕ × Execution). bytes_eq name at.1.name) (enumerate_from k xs)) ≡ false
    → All (λ n. n ≢ name) (map name_of xs)
unnamed k [] name h = All-nil (λ n. n ≢ name)
unnamed k (x ∷ xs) name h = by (bytes_eq name x.name) refl h (unnamed (k + 1) xs name)
  where
    by : (b : Bool) → bytes_eq name x.name ≡ b
        → is_some (cond b (Some (k, x))
        (find (λ (at : ℕ × Execution). bytes_eq name at.1.name) (enumerate_from (k + 1) xs))) ≡ false
        → (is_some (find (λ (at : ℕ × Execution). bytes_eq name at.1.name) (enumerate_from (k + 1) xs)) ≡ false
        → All (λ n. n ≢ name) (map name_of xs))
        → All (λ n. n ≢ name) (map name_of (x ∷ xs))
    by true same h rest = absurd (true≢false h)
    by false same h rest =
        All-cons (λ n. n ≢ name) x.name (map name_of xs)
        (λ equal. true≢false (sym ((bytes_eq-Decides name x.name).1 (sym equal)) ∙ same)) (rest h)

-- the name that an execution was found by is its own
named-is : (k : ℕ) (xs : List Execution) (name : Text) (at : ℕ × Execution)
    → find (λ (at : ℕ × Execution). bytes_eq name at.1.name) (enumerate_from k xs) ≡ Some at
    → Contains (map name_of xs) name
named-is k [] name at h = absurd (none-some at h)
named-is k (x ∷ xs) name at h = by (bytes_eq name x.name) refl h (named-is (k + 1) xs name at)
  where
    by : (b : Bool) → bytes_eq name x.name ≡ b
        → cond b (Some (k, x)) (find (λ (at : ℕ × Execution). bytes_eq name at.1.name) (enumerate_from (k + 1) xs))
        ≡ Some at
        → (find (λ (at : ℕ × Execution). bytes_eq name at.1.name) (enumerate_from (k + 1) xs) ≡ Some at
        → Contains (map name_of xs) name)
        → Contains (map name_of (x ∷ xs)) name
    by true same h rest =
        subst (Contains (map name_of (x ∷ xs))) (sym ((bytes_eq-Decides name x.name).0 same))
        (Contains-get_or (map name_of (x ∷ xs)) 0 x.name (omega arith))
    by false same h rest = Contains-append_right (x.name ∷ []) (map name_of xs) name (rest h)

module _ (plan : RunPlan) where
  -- what is kept of names
  record Named (executions : List Execution) (launches : List Launch) : Type 0 where
    ids : All IsId (map name_of executions)
    distinct : AllPairs (λ a b. a ≢ b) (map name_of executions)
    launched : All (λ (l : Launch). IsNameOfPlan plan (map name_of executions) l.name) launches

  abbrev NamedWorld : World → Type 0
  NamedWorld w = Named w.executions w.launches

  module _ (w : World) (h : NamedWorld w) where
    more_executions : (x : Execution) → is_submitted w x.name ≡ false → IsId x.name
        → NamedWorld (record w { executions = w.executions ++ x ∷ [] })
    more_executions x free id =
        let names : map name_of (w.executions ++ x ∷ []) ≡ map name_of w.executions ++ x.name
        ∷ [] = map-append name_of w.executions (x ∷ []) in
        record {
          ids = subst (All IsId) (sym names) (All-push IsId (map name_of w.executions) x.name h.ids id);
          distinct = subst (AllPairs (λ a b. a ≢ b)) (sym names)
              (all_pairs_push (λ a b. a ≢ b) (map name_of w.executions) x.name h.distinct
              (unnamed 0 w.executions x.name free));
          launched = All-weaker (λ (l : Launch). IsNameOfPlan plan (map name_of w.executions) l.name)
              (λ (l : Launch). IsNameOfPlan plan (map name_of (w.executions ++ x ∷ [])) l.name)
              (λ l is. (
                is.0,
                is.1,
                is.2,
                subst (λ ns. Contains ns l.name.exec) (sym names)
                    (Contains-append_left (map name_of w.executions) (x.name ∷ []) l.name.exec is.3),
              ))
              w.launches h.launched;
        }

    more_launches : (l : Launch) → IsNameOfPlan plan (map name_of w.executions) l.name
        → NamedWorld (record w { launches = w.launches ++ l ∷ [] })
    more_launches l is = record {
      ids = h.ids;
      distinct = h.distinct;
      launched = All-push (λ (l : Launch). IsNameOfPlan plan
          (map name_of w.executions) l.name) w.launches l h.launched is;
    }

    same_names : (executions : List Execution) → map name_of executions ≡ map name_of w.executions
        → NamedWorld (record w { executions = executions })
    same_names executions same = record {
      ids = subst (All IsId) (sym same) h.ids;
      distinct = subst (AllPairs (λ a b. a ≢ b)) (sym same) h.distinct;
      launched = subst (λ names. All (λ (l : Launch). IsNameOfPlan plan names l.name) w.launches)
          (sym same) h.launched;
    }

    named_change : (c : Change) → Permits plan w c → NamedWorld (with_change w c)
    named_change no_change permits = h
    named_change (moment_becomes moment) permits = h
    named_change (catalog_becomes catalog) permits = h
    named_change (lets_go ends) permits = h
    named_change (adds_execution name inputs state) permits =
        more_executions (record { name = name; inputs = inputs; past = []; state = state }) permits.0
        (id-from name permits.3)
    named_change (adds_launch name inputs) permits =
        let at = permits.1 in
        more_launches (record { name = name; inputs = inputs; place = length w.entries })
        (at.0, at.1, at.2, named-is 0 w.executions name.exec at.3.0 at.3.1)
    named_change (adds_claim name) permits = h
    named_change (adds_outcome name o) permits = h
    named_change (adds_version at state) permits =
        let new = with_version state (length w.entries) at.1 in
        same_names (set w.executions at.0 new)
        (map_set name_of w.executions at.0 at.1 new (named_there w permits.exec at permits.named) refl)

  none_named : NamedWorld empty_world
  none_named = record {
    ids = All-nil IsId;
    distinct = λ i j d lt len. absurd (omega arith);
    launched = All-nil (λ (l : Launch). IsNameOfPlan plan [] l.name);
  }

  pub history-named : (closure : List ℕ) (journal : List Entry) (w : World) → IsHistory plan closure journal w
      → HasNamesOfPlan plan w
  history-named closure journal w history =
      let named = along_changes plan NamedWorld (λ v e h. h)
      (λ v c h permits. named_change v h c permits) empty_world w journal none_named history.leads in
      record { ids = named.ids; distinct = named.distinct; launched = named.launched }
