-- What a view of a current version knows of the attempts of a node.
use Rattle.std.proofs.Common.{◌≡◌, ℕ, Bool, true, ◌==◌, List, [], ◌∷◌, filter, bytes_eq, Contains, Option, Some, None, option_and_then, refl, sym, ◌∙◌, ap, subst}
use Rattle.std.proofs.lemmas.Bool.{and_from, and_parts, eq-eqb, eqb-true}
use Rattle.std.proofs.lemmas.Slice.Eq.{bytes_eq-Decides}
use Rattle.fly_types.specs.declared.text.Text.{Text}
use Rattle.fly_graph.proofs.Members.{Contains-filter, Contains-filter_from}
use Rattle.fly_rules.proofs.GroundLemmas.{Contains-map}
use Rattle.fly_docs.specs.declared.attempt_name.AttemptName.{AttemptName}
use Rattle.fly_docs.specs.Plans.{PlanNode}
use Rattle.fly_policy.specs.declared.outcome.Outcome.{Outcome}
use Rattle.fly_state.specs.declared.view.View.{View}
use Rattle.fly_state.specs.declared.view.Known.{Known}
use Rattle.fly_state.specs.Moves.{same_item, is_attempt, outcome_in}
use Rattle.fly_state.specs.Plans.{same_path}
use Rattle.fly_state.proofs.AskedInputs.{found-in, found-one}
use Rattle.fly_state.proofs.FinalLemmas.{option_and_then-there}
use Rattle.fly_state.proofs.Lists.{of_map}
use Rattle.fly_state.proofs.NameLemmas.{same_name as alike}
use Rattle.fly_round.specs.Questions.{IsNameOf, known_attempt}
use Rattle.fly_round.proofs.PathLemmas.{same-path, path-same}
use Rattle.fly_world.specs.World.{World, Launch, Claim, Settlement, world_before, outcome_of, is_launched, known_of, launches_of}
use Rattle.fly_world.proofs.LaunchLemmas.{name_of_launch}
use Rattle.fly_work.proofs.AttemptSteps.{name-contained, name-found}

-- the name is that of this attempt of the node itself
abbrev pub IsOwn : Text → PlanNode → ℕ → AttemptName → Type 0
IsOwn exec p a n = IsNameOf exec p.path None a n

-- ---- no end

uncut : {X : Type 0} (xs : List X) → filter (λ x. true) xs ≡ xs
uncut [] = refl
uncut (x ∷ xs) = ap (λ ys. x ∷ ys) (uncut xs)

-- before no end stands all
pub before-none : (w : World) → world_before w None ≡ w
before-none w =
    let cs = filter (λ (c : Claim). true) w.claims in
    let os = filter (λ (s : Settlement). true) w.outcomes in
    ap (λ (ls : List Launch). record w { launches = ls; claims = cs; outcomes = os }) (uncut w.launches)
    ∙ ap (λ (xs : List Claim). record w { claims = xs; outcomes = os }) (uncut w.claims)
    ∙ ap (λ (xs : List Settlement). record w { outcomes = xs }) (uncut w.outcomes)

-- ---- known attempts

module _ (v : View) (p : PlanNode) (a : ℕ) where
  -- the test of an attempt says that the name is its
  attempt-named : (n : AttemptName) → is_attempt v p None a n ≡ true → IsOwn v.name p a n
  attempt-named n h =
      let last = and_parts _ (a == n.attempt) h in
      let third = and_parts _ (same_item None n.item) last.0 in
      let first = and_parts (bytes_eq v.name n.exec) (same_path p.path n.path) third.0 in
      record {
        exec_is = sym ((bytes_eq-Decides v.name n.exec).0 first.0);
        path_is = sym (same-path p.path n.path first.1);
        item_is = by n.item third.1;
        attempt_is = sym (eqb-true a n.attempt last.1);
      }
    where
      by : (item : Option ℕ) → same_item None item ≡ true → item ≡ None
      by None e = refl
      by (Some k) e = cc

  attempt-passes : (n : AttemptName) → IsOwn v.name p a n → is_attempt v p None a n ≡ true
  attempt-passes n own =
      and_from _ _
      (and_from _ _
      (and_from _ _ ((bytes_eq-Decides v.name n.exec).1 (sym own.exec_is)) (path-same p.path n.path (sym own.path_is)))
      (subst (λ i. same_item None i ≡ true) (sym own.item_is) refl))
      (eq-eqb a n.attempt (sym own.attempt_is))

  pub own-same : (n m : AttemptName) → IsOwn v.name p a n → IsOwn v.name p a m → n ≡ m
  own-same n m one other =
      alike n m (one.exec_is ∙ sym other.exec_is) (one.path_is ∙ sym other.path_is) (one.item_is ∙ sym other.item_is)
      (one.attempt_is ∙ sym other.attempt_is)

  module _ (w : World) (known : v.launches ≡ launches_of w v.name) where
    abbrev test : Known → Bool
    test k = is_attempt v p None a k.name

    abbrev of_exec : Launch → Bool
    of_exec l = bytes_eq v.name l.name.exec

    -- A launch of the attempt.
    record IsFound (k : Known) : Type 0 where
      own : IsOwn v.name p a k.name
      launched : is_launched w k.name ≡ true
      outcome : k.outcome ≡ outcome_of w k.name

    found-launch : (k : Known) → known_attempt v p None a ≡ Some k → IsFound k
    found-launch k is =
        let found = found-in test v.launches k is in
        let l = of_map (known_of w) (filter of_exec w.launches) k (subst (λ ks. Contains ks k) known found.0) in
        let there = Contains-filter of_exec w.launches l.0 l.1 in
        let launched : is_launched w l.0.name ≡ true =
        name-found name_of_launch l.0.name w.launches (Contains-map name_of_launch w.launches l.0 there.0) in
        record {
          own = attempt-named k.name found.1;
          launched = subst (λ (x : Known). is_launched w x.name ≡ true) l.2 launched;
          outcome = subst (λ (x : Known). x.outcome ≡ outcome_of w x.name) l.2 refl;
        }

    -- An attempt with an end.
    pub known-launched : (k : Known) → known_attempt v p None a ≡ Some k
        → (n : AttemptName) × IsOwn v.name p a n × (is_launched w n ≡ true)
    known-launched k is = let found = found-launch k is in (k.name, found.own, found.launched)

    pub outcome-has : (o : Outcome) → outcome_in v p None a ≡ Some o
        → (n : AttemptName) × IsOwn v.name p a n × (outcome_of w n ≡ Some o)
    outcome-has o is =
        let k = option_and_then-there (λ (x : Known). x.outcome) (known_attempt v p None a) o is in
        let found = found-launch k.0 k.1 in
        (k.0.name, found.own, sym found.outcome ∙ k.2)

    -- the end of a launched attempt is known
    pub outcome-known : (n : AttemptName) → IsOwn v.name p a n → is_launched w n ≡ true
        → outcome_in v p None a ≡ outcome_of w n
    outcome-known n own launched =
        let at = of_map name_of_launch w.launches n (name-contained name_of_launch n w.launches launched) in
        let l = at.0 in
        let exec : of_exec l ≡ true =
        subst (λ (x : AttemptName). bytes_eq v.name x.exec ≡ true) (sym at.2)
        ((bytes_eq-Decides v.name n.exec).1 (sym own.exec_is)) in
        let there : Contains v.launches (known_of w l) =
        subst (λ ks. Contains ks (known_of w l)) (sym known)
        (Contains-map (known_of w) (filter of_exec w.launches) l
        (Contains-filter_from of_exec w.launches l at.1 exec)) in
        let passes : test (known_of w l) ≡ true =
        subst (λ (x : AttemptName). is_attempt v p None a x ≡ true) (sym at.2) (attempt-passes n own) in
        let k = found-one test v.launches (known_of w l) there passes in
        let found = found-launch k.0 k.1 in
        ap (option_and_then (λ (x : Known). x.outcome)) k.1
        ∙ found.outcome ∙ ap (outcome_of w) (own-same k.0.name n found.own own)
