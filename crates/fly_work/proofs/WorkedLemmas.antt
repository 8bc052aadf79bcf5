-- What calls have done, one part of them behind another.
use Rattle.std.proofs.Common.{◌≡◌, ◌⊎◌, inl, inr, ℕ, ◌+◌, ◌<◌, ◌≤◌, ℤ, List, [], ◌∷◌, ◌++◌, length, map, take, slice_get, All, Some, refl, sym, subst, ap, ◌∙◌, arith}
use Rattle.std.specs.List.{AllZip}
use Rattle.std.proofs.lemmas.List.{append_assoc, append-nil, length-append, map-append, take_all, take-append-le}
use Rattle.std.proofs.lemmas.List.Concat.{flat_map-append}
use Rattle.std.proofs.lemmas.List.Elements.{All-nil, All-append, All-head, All-tail, All-weaker, All-filter, filter-append}
use Rattle.std.proofs.lemmas.Option.{slice_get_within}
use Rattle.std.proofs.Math.Seq.{take-append-add}
use Rattle.fly_ports.specs.Clock.{ClockState}
use Rattle.fly_ports.specs.Spawner.{SpawnerState}
use Rattle.fly_state.specs.declared.entries.Entry.{Entry}
use Rattle.fly_state.specs.Plans.{RunPlan}
use Rattle.fly_world.specs.Journals.{Leads, IsHistory}
use Rattle.fly_world.specs.Kept.{Kept, IsLegal}
use Rattle.fly_world.proofs.FinalSlots.{get_front}
use Rattle.fly_world.proofs.JournalLemmas.{leads-on}
use Rattle.fly_round.specs.declared.told.Told.{Told}
use Rattle.fly_work.specs.Children.{Child, RunAll, CameTo}
use Rattle.fly_work.specs.Stages.{IsWorkClaimed}
use Rattle.fly_work.specs.Turns.{GivesAll, call_entry, ticks_by, ticks_of, is_claim, claims_of, outcomes_by, outcomes_of}
use Rattle.fly_work.specs.Keeping.{KeepsBefore}
use Rattle.fly_work.specs.Playing.{AddsCalls, HasChildren, Outside, HasWorked, IsWhole}
use Rattle.fly_work.proofs.ActingLemmas.{pairs_none, pairs_append}

-- ---- lists

module _ {A B : Type 0} where
  zip-both : (R : A → B → Type 0) (xs vs : List A) (ys ws : List B) → AllZip R xs ys → AllZip R vs ws
      → AllZip R (xs ++ vs) (ys ++ ws)
  zip-both R [] vs [] ws front back = back
  zip-both R [] vs (y ∷ ys) ws front back = absurd front
  zip-both R (x ∷ xs) vs [] ws front back = absurd front
  zip-both R (x ∷ xs) vs (y ∷ ys) ws front back = (front.0, zip-both R xs vs ys ws front.1 back)

  zip-weaker : (P : A → Type 0) (R S : A → B → Type 0) → ((x : A) (y : B) → P x → R x y → S x y)
      → (xs : List A) (ys : List B)
      → All P xs → AllZip R xs ys
      → AllZip S xs ys
  zip-weaker P R S weaker [] [] all zips = tt
  zip-weaker P R S weaker [] (y ∷ ys) all zips = absurd zips
  zip-weaker P R S weaker (x ∷ xs) [] all zips = absurd zips
  zip-weaker P R S weaker (x ∷ xs) (y ∷ ys) all zips =
      (weaker x y (All-head P x xs all) zips.0, zip-weaker P R S weaker xs ys (All-tail P x xs all) zips.1)

cons≢nil : {A : Type 0} (x : A) (xs : List A) → x ∷ xs ≡ [] → ⊥
cons≢nil x xs e = cc

-- ---- entries

pub adds-none : (k : Kept) (worker : ℕ) → AddsCalls k k worker []
adds-none k worker = record {
  plan = refl;
  closure = refl;
  entries = sym (append-nil k.world.entries);
  leads = refl;
  there = All-nil (λ (c : Told). slice_get k.world.entries c.place ≡ Some (call_entry worker c));
  rising = pairs_none (λ (x y : Told). x.place < y.place);
  later = All-nil (λ (c : Told). length k.world.entries ≤ c.place);
  room = omega arith;
}

pub adds-both : {a b c : Kept} {worker : ℕ} {cs ds : List Told} → AddsCalls a b worker cs → AddsCalls b c worker ds
    → AddsCalls a c worker (cs ++ ds)
adds-both {a = a} {b = b} {c = c} {worker = worker} {cs = cs} {ds = ds} first rest =
    let all : map (call_entry worker) cs ++ map (call_entry worker) ds ≡ map (call_entry worker) (cs ++ ds) =
    sym (map-append (call_entry worker) cs ds) in
    let long : length a.world.entries ≤ length b.world.entries =
    omega (arith, ap length first.entries, length-append a.world.entries (map (call_entry worker) cs)) in
    record {
      plan = rest.plan ∙ first.plan;
      closure = rest.closure ∙ first.closure;
      entries = rest.entries ∙ ap (λ es. es ++ map (call_entry worker) ds) first.entries
          ∙ append_assoc a.world.entries (map (call_entry worker) cs) (map (call_entry worker) ds)
          ∙ ap (λ es. a.world.entries ++ es) all;
      leads = subst (λ es. Leads a.plan a.world es c.world) all
          (leads-on a.plan a.world b.world c.world (map (call_entry worker) cs) (map (call_entry worker) ds)
          first.leads
          (subst (λ p. Leads p b.world (map (call_entry worker) ds) c.world) first.plan rest.leads));
      there = All-append (λ (t : Told). slice_get c.world.entries t.place ≡ Some (call_entry worker t)) cs ds
          (All-weaker (λ (t : Told). slice_get b.world.entries t.place ≡ Some (call_entry worker t))
          (λ (t : Told). slice_get c.world.entries t.place ≡ Some (call_entry worker t))
          (λ t h. subst (λ es. slice_get es t.place ≡ Some (call_entry worker t)) (sym rest.entries)
          (get_front b.world.entries (map (call_entry worker) ds) t.place (call_entry worker t) h)) cs first.there)
          rest.there;
      rising = pairs_append (λ (s t : Told). s.place < t.place) cs ds first.rising rest.rising
          (All-weaker (λ (t : Told). slice_get b.world.entries t.place ≡ Some (call_entry worker t))
          (λ (s : Told). All (λ (t : Told). s.place < t.place) ds)
          (λ s h. All-weaker (λ (t : Told). length b.world.entries ≤ t.place) (λ (t : Told). s.place < t.place)
          (λ t later. omega (arith, slice_get_within b.world.entries s.place (call_entry worker s) h)) ds rest.later)
          cs first.there);
      later = All-append (λ (c : Told). length a.world.entries ≤ c.place) cs ds first.later
          (All-weaker (λ (c : Told). length b.world.entries ≤ c.place)
          (λ (c : Told). length a.world.entries ≤ c.place)
          (λ c h. omega arith) ds rest.later);
      room = omega (arith, first.room, rest.room, length-append cs ds);
    }

-- the journal of the store behind them is legal too
pub adds-legal : {a b : Kept} {worker : ℕ} {cs : List Told} → IsLegal a → AddsCalls a b worker cs → IsLegal b
adds-legal {a = a} {b = b} {worker = worker} {cs = cs} legal adds =
    let es = map (call_entry worker) cs in
    let now : IsHistory a.plan a.closure (a.world.entries ++ es) b.world = record {
      later = legal.later ++ es;
      begins = ap (λ xs. xs ++ es) legal.begins;
      leads = leads-on a.plan _ a.world b.world a.world.entries es legal.leads adds.leads;
    } in
    subst (λ p. IsHistory p b.closure b.world.entries b.world) (sym adds.plan)
    (subst (λ k. IsHistory a.plan k b.world.entries b.world) (sym adds.closure)
    (subst (λ xs. IsHistory a.plan a.closure xs b.world) (sym adds.entries) now))

-- ---- the clock and the spawner

gives-all : (a b c : ClockState) (xs ys : List ℤ) → GivesAll a b xs → GivesAll b c ys → GivesAll a c (xs ++ ys)
gives-all a b c [] ys first rest = subst (λ s. GivesAll s c ys) first rest
gives-all a b c (x ∷ xs) ys first rest = (first.0, first.1, gives-all first.0 b c xs ys first.2 rest)

run-all : (a b c : SpawnerState) (ks ls : List Child) → RunAll a b ks → RunAll b c ls → RunAll a c (ks ++ ls)
run-all a b c [] ls first rest = subst (λ s. RunAll s c ls) first rest
run-all a b c (k ∷ ks) ls first rest = (first.0, first.1, run-all first.0 b c ks ls first.2 rest)

-- ---- children

-- a claim's work in a journal that goes on
work-more : (plan : RunPlan) (closure : List ℕ) (journal more : List Entry) (c : Told) (k : Child)
    → c.place < length journal
    → IsWorkClaimed plan closure journal c k.work
    → IsWorkClaimed plan closure (journal ++ more) c k.work
work-more plan closure journal more c k within given = (
  given.0,
  subst (λ es. IsHistory plan closure es given.0) (sym (take-append-le (c.place + 1) journal more (omega arith)))
      given.1,
  given.2,
)

pub claims-append : (cs ds : List Told) → claims_of (cs ++ ds) ≡ claims_of cs ++ claims_of ds
claims-append cs ds = filter-append is_claim cs ds

pub outcomes-append : (cs ds : List Told) → outcomes_of (cs ++ ds) ≡ outcomes_of cs ++ outcomes_of ds
outcomes-append cs ds = flat_map-append (λ (c : Told). outcomes_by c.op) cs ds

-- where all claims of the first part ran their children, which were heard
children-both : (plan : RunPlan) (closure : List ℕ) (journal more : List Entry) (cs ds : List Told)
    (ks ls : List Child)
    → length ks ≡ length (claims_of cs) → length (claims_of cs) ≤ length (outcomes_of cs)
    → All (λ (c : Told). c.place < length journal) cs
    → HasChildren plan closure journal cs ks
    → HasChildren plan closure (journal ++ more) ds ls
    → HasChildren plan closure (journal ++ more) (cs ++ ds) (ks ++ ls)
children-both plan closure journal more cs ds ks ls ran heard within first rest =
    let claimed = length-append (claims_of cs) (claims_of ds) in
    let came = length-append (outcomes_of cs) (outcomes_of ds) in
    let run = length-append ks ls in
    let as_many : length (outcomes_of cs) ≡ length ks = omega (arith, first.some) in
    let front : AllZip (λ (c : Told) (k : Child). IsWorkClaimed plan closure (journal ++ more) c k.work)
    (claims_of cs) ks =
    zip-weaker (λ (c : Told). c.place < length journal)
    (λ (c : Told) (k : Child). IsWorkClaimed plan closure journal c k.work)
    (λ (c : Told) (k : Child). IsWorkClaimed plan closure (journal ++ more) c k.work)
    (work-more plan closure journal more) (claims_of cs) ks
    (All-filter is_claim (λ (c : Told). c.place < length journal) cs within)
    (subst (λ xs. AllZip (λ (c : Told) (k : Child). IsWorkClaimed plan closure journal c k.work) xs ks)
    (take_all (length ks) (claims_of cs) (omega arith)) first.works) in
    let taken : take (length (ks ++ ls)) (claims_of (cs ++ ds)) ≡ claims_of cs ++ take (length ls) (claims_of ds) =
    (λ i. take (run i) (claims-append cs ds i)) ∙ ap (λ n. take (n + length ls) (claims_of cs ++ claims_of ds)) ran
    ∙ take-append-add (claims_of cs) (claims_of ds) (length ls) in
    let given : take (length (outcomes_of (cs ++ ds))) (ks ++ ls) ≡ ks ++ take (length (outcomes_of ds)) ls =
    ap (λ os. take (length os) (ks ++ ls)) (outcomes-append cs ds)
    ∙ ap (λ n. take n (ks ++ ls)) came
    ∙ ap (λ n. take (n + length (outcomes_of ds)) (ks ++ ls)) as_many
    ∙ take-append-add ks ls (length (outcomes_of ds)) in
    let heard_all : AllZip CameTo ks (outcomes_of cs) =
    subst (λ xs. AllZip CameTo xs (outcomes_of cs)) (take_all (length (outcomes_of cs)) ks (omega arith))
    first.outcomes in
    record {
      works = subst (λ xs. AllZip (λ (c : Told) (k : Child). IsWorkClaimed plan closure (journal ++ more) c k.work) xs
          (ks ++ ls))
          (sym taken)
          (zip-both (λ (c : Told) (k : Child). IsWorkClaimed plan closure (journal ++ more) c k.work) (claims_of cs)
          (take (length ls) (claims_of ds)) ks ls front rest.works);
      most = omega (arith, run, claimed, ap length (claims-append cs ds), rest.most);
      last = omega (arith, run, claimed, ap length (claims-append cs ds), rest.last);
      outcomes = subst (λ xs. AllZip CameTo xs (outcomes_of (cs ++ ds))) (sym given)
          (subst (λ os. AllZip CameTo (ks ++ take (length (outcomes_of ds)) ls) os) (sym (outcomes-append cs ds))
          (zip-both CameTo ks (take (length (outcomes_of ds)) ls) (outcomes_of cs) (outcomes_of ds) heard_all
          rest.outcomes));
      some = omega (arith, run, came, ap length (outcomes-append cs ds), rest.some);
    }

children-none : (plan : RunPlan) (closure : List ℕ) (journal : List Entry) → HasChildren plan closure journal [] []
children-none plan closure journal = record {
  works = tt;
  most = omega arith;
  last = omega arith;
  outcomes = tt;
  some = omega arith;
}

-- ---- the keeper

-- The laws of a keeper.
pub record HasKeepLaws {K : Type 0} (kept kept_part : K → List Entry → K → Type 0) : Type 0 where
  pub none : (k : K) → kept k [] k
  pub both : (a b c : K) (es fs : List Entry) → kept a es b → kept b fs c → kept a (es ++ fs) c
  pub first : (a b c : K) (es fs : List Entry) → kept a es b → ((c ≡ b) ⊎ kept_part b fs c) → kept_part a (es ++ fs) c

module _ {K : Type 0} (kept kept_part : K → List Entry → K → Type 0) (laws : HasKeepLaws kept kept_part)
    (worker : ℕ) where
  abbrev entries_of : List Told → List Entry
  entries_of cs = map (call_entry worker) cs

  abbrev KeepsRest : (cs : List Told) (ran : ℕ) (x y : K) → KeepsBefore kept kept_part worker cs ran x y → Type 0
  KeepsRest cs ran x y keeps = kept keeps.between (entries_of keeps.back) y

  keeps-none : (x : K) → (keeps : KeepsBefore kept kept_part worker [] 0 x x) × KeepsRest [] 0 x x keeps
  keeps-none x = (
    record {
      front = [];
      back = [];
      all = refl;
      ends = (refl, λ some. absurd (some refl));
      between = x;
      front_kept = laws.none x;
      back_part = laws.first x x x [] [] (laws.none x) (inl refl);
    },
    laws.none x,
  )

  -- behind calls that were all kept, the rest of them behind their last claim
  keeps-both : (cs ds : List Told) (ran more : ℕ) (x y z : K) → (first : KeepsBefore kept kept_part worker cs ran x y)
      → ran ≡ length (claims_of cs) → kept x (entries_of cs) y → KeepsRest cs ran x y first
      → (rest : KeepsBefore kept kept_part worker ds more y z)
      → (keeps : KeepsBefore kept kept_part worker (cs ++ ds) (ran + more) x z)
      × (KeepsRest ds more y z rest → KeepsRest (cs ++ ds) (ran + more) x z keeps)
  keeps-both cs ds ran more x y z first all_ran all_kept rest_kept rest = by rest.front refl
    where
      by : (front : List Told) → rest.front ≡ front
          → (keeps : KeepsBefore kept kept_part worker (cs ++ ds) (ran + more) x z)
          × (KeepsRest ds more y z rest → KeepsRest (cs ++ ds) (ran + more) x z keeps)
      by [] e =
          let same : ds ≡ rest.back = rest.all ∙ ap (λ xs. xs ++ rest.back) e in
          let none : more ≡ 0 = sym rest.ends.0 ∙ ap (λ xs. length (claims_of xs)) e in
          let still = subst (λ xs. kept y (entries_of xs) rest.between) e rest.front_kept in
          let joined : entries_of first.back ++ entries_of ds ≡ entries_of (first.back ++ ds) =
          sym (map-append (call_entry worker) first.back ds) in (
            record {
              front = first.front;
              back = first.back ++ ds;
              all = ap (λ xs. xs ++ ds) first.all ∙ append_assoc first.front first.back ds;
              ends = (omega (arith, first.ends.0), first.ends.1);
              between = first.between;
              front_kept = first.front_kept;
              back_part = subst (λ es. kept_part first.between es z) joined
                  (laws.first first.between y z (entries_of first.back) (entries_of ds) rest_kept
                  (inr (subst (λ xs. kept_part y (entries_of xs) z) (sym same)
                  (laws.first y rest.between z [] (entries_of rest.back) still (inr rest.back_part)))));
            },
            λ h. subst (λ es. kept first.between es z) joined
                (laws.both first.between y z (entries_of first.back) (entries_of ds) rest_kept
                (subst (λ xs. kept y (entries_of xs) z) (sym same)
                (laws.both y rest.between z [] (entries_of rest.back) still h))),
          )
      by (f ∷ fs) e =
          let last = rest.ends.1 (λ none. cons≢nil f fs (sym e ∙ none)) in (
            record {
              front = cs ++ rest.front;
              back = rest.back;
              all = ap (λ xs. cs ++ xs) rest.all ∙ sym (append_assoc cs rest.front rest.back);
              ends = (
                ap length (claims-append cs rest.front) ∙ length-append (claims_of cs) (claims_of rest.front)
                    ∙ omega (arith, rest.ends.0),
                λ some. (
                  cs ++ last.0,
                  last.1,
                  ap (λ xs. cs ++ xs) last.2 ∙ sym (append_assoc cs last.0 (last.1 ∷ [])),
                  last.3,
                ),
              );
              between = rest.between;
              front_kept = subst (λ es. kept x es rest.between) (sym (map-append (call_entry worker) cs rest.front))
                  (laws.both x y rest.between (entries_of cs) (entries_of rest.front) all_kept rest.front_kept);
              back_part = rest.back_part;
            },
            λ h. h,
          )

  -- ---- all of it

  abbrev Works : List Told → Kept → Kept → Outside K → Outside K → Type 0
  Works cs a b x y = HasWorked kept kept_part worker cs a b x y

  pub worked-none : (k : Kept) (x : Outside K) → (did : Works [] k k x x) × IsWhole did
  worked-none k x =
      let keeps = keeps-none x.keeper in (
        record {
          entries = adds-none k worker;
          ticks = refl;
          children = [];
          runs = refl;
          claimed = children-none k.plan k.closure k.world.entries;
          keeps = keeps.0;
        },
        record { ran = refl; kept_all = laws.none x.keeper; kept_rest = keeps.1 },
      )

  -- behind calls that were whole, and whose children were all heard
  pub worked-both : {a b c : Kept} {x y z : Outside K} (cs ds : List Told) → (first : Works cs a b x y)
      → IsWhole first
      → length (claims_of cs) ≤ length (outcomes_of cs)
      → All (λ (c : Told). c.place < length b.world.entries) cs
      → (rest : Works ds b c y z)
      → (did : Works (cs ++ ds) a c x z) × (IsWhole rest → IsWhole did)
  worked-both {a = a} {b = b} {c = c} {x = x} {y = y} {z = z} cs ds first whole heard within rest =
      let ran = length-append first.children rest.children in
      let ks = first.children ++ rest.children in
      let keeps = subst (λ n. (keeps : KeepsBefore kept kept_part worker (cs ++ ds) n x.keeper z.keeper)
      × (KeepsRest ds (length rest.children) y.keeper z.keeper rest.keeps
      → KeepsRest (cs ++ ds) n x.keeper z.keeper keeps))
      (sym ran)
      (keeps-both cs ds (length first.children) (length rest.children) x.keeper y.keeper z.keeper first.keeps
      whole.ran whole.kept_all
      whole.kept_rest rest.keeps) in
      let then = subst (λ es. HasChildren b.plan b.closure es ds rest.children) rest.entries.entries rest.claimed in
      let owned = subst (λ p. HasChildren p a.closure (b.world.entries ++ entries_of ds) ds rest.children)
      first.entries.plan
      (subst (λ k. HasChildren b.plan k (b.world.entries ++ entries_of ds) ds rest.children) first.entries.closure
      then) in
      let both = children-both a.plan a.closure b.world.entries (entries_of ds) cs ds first.children rest.children
      whole.ran heard
      within first.claimed owned in (
        record {
          entries = adds-both first.entries rest.entries;
          ticks = subst (GivesAll x.clock z.clock) (sym (flat_map-append (λ (c : Told). ticks_by c.op) cs ds))
              (gives-all x.clock y.clock z.clock (ticks_of cs) (ticks_of ds) first.ticks rest.ticks);
          children = ks;
          runs = run-all x.spawner y.spawner z.spawner first.children rest.children first.runs rest.runs;
          claimed = subst (λ es. HasChildren a.plan a.closure es (cs ++ ds) ks) (sym rest.entries.entries) both;
          keeps = keeps.0;
        },
        λ also. record {
          ran = omega (
            arith,
            ran,
            whole.ran,
            also.ran,
            ap length (claims-append cs ds),
            length-append (claims_of cs) (claims_of ds),
          );
          kept_all = subst (λ es. kept x.keeper es z.keeper) (sym (map-append (call_entry worker) cs ds))
              (laws.both x.keeper y.keeper z.keeper (entries_of cs) (entries_of ds) whole.kept_all also.kept_all);
          kept_rest = keeps.1 also.kept_rest;
        },
      )
