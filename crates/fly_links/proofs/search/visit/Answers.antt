use Rattle.std.proofs.Common.{◌≡◌, ◌<◌, ◌+◌, ◌∷◌, [], ◌++◌, true, List, ℕ, Bool, length, get_or, take, set, sym, ap, ◌∙◌, subst, arith}
use Rattle.std.proofs.lemmas.List.{take_more}
use Rattle.fly_links.specs.Search.{Visits}
use Rattle.fly_links.proofs.SearchLemmas.{visit_seen, visit_new}
use Rattle.fly_links.proofs.search.visit.Goals as goal
use Rattle.fly_links.proofs.search.visit.Goals.{then-not-seen-target+in_ok-push, else-not-seen-target}

moved : (ts ts' : List ℕ) (s : List Bool) (p : List ℕ) (t t' : List Bool) (q q' : List ℕ) → ts ≡ ts' → t ≡ t' → q ≡ q' → Visits ts s p t q → Visits ts' s p t' q'
moved ts ts' s p t t' q q' e f g h = subst (λ a. Visits a s p t' q') e (subst (λ b. Visits ts s p b q') f (subst (λ d. Visits ts s p t d) g h))

pub loop-target-preserved : goal.loop-target-preserved
loop-target-preserved c =
    let ts = c.args.targets.now in
    let i = c.loop-target.target-index in
    let x = get_or ts i 0 in
    let s = c.args.seen.now in
    let p = c.args.pending.now.items in
    let before = c.loop-target.invariant in
    let more : take (i + 1) ts ≡ take i ts ++ x ∷ [] = take_more ts i 0 c.loop-target-test.true in
    let below : x < length c.loop-target.seen = omega (arith, c.requires i 0 c.loop-target-test.true, before.len) in
    elim c.if-not-seen-target.branch [
      | then-not-seen-target+in_ok-push w ↦
          let new = visit_new (take i ts) s p c.loop-target.seen c.loop-target.pending.items before x below w.if-not-seen-target.true in
          moved (take i ts ++ x ∷ []) _ s p (set c.loop-target.seen x true) _ (c.loop-target.pending.items ++ x ∷ []) _ (sym more) (sym w.seen-is)
          (sym (ap (λ v. v.items) w.pending-is ∙ w.in_ok-push.ensures.items)) new
      | else-not-seen-target w ↦
          let same = visit_seen (take i ts) s p c.loop-target.seen c.loop-target.pending.items before x w.if-not-seen-target.false in
          moved (take i ts ++ x ∷ []) _ s p c.loop-target.seen _ c.loop-target.pending.items _ (sym more) (sym w.seen-is)
          (sym (ap (λ v. v.items) w.pending-is)) same
    ]
