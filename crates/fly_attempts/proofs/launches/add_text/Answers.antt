use Rattle.std.proofs.Common.{◌≡◌, false, cond, Some, sym, ◌∙◌, ap, is_some, nat_cmp}
use Rattle.std.specs.Ordering.{is_eq}
use Rattle.std.specs.Cmp.Lexicographic.{slice_cmp}
use Rattle.std.specs.BTreeMap.{get}
use Rattle.fly_attempts.proofs.LaunchLemmas.{listed_alike, none_listed}
use Rattle.fly_attempts.proofs.launches.add_text.Goals as goal

pub returns-clause-same : goal.returns-clause-same
returns-clause-same c = λ t.
    let lists = c.args.lists.now in
    let text = c.args.text.now in
    let absent : is_some (get (slice_cmp nat_cmp) lists text) ≡ false =
    sym c.contains_key.ensures ∙ c.if-contains_key.false in
    listed_alike lists c.insert.new.self text c.new.result
    (λ q. c.in_ok-insert.ensures.updates.0 q
    ∙ ap (λ k. cond (is_eq (slice_cmp nat_cmp k q)) (Some c.new.result) (get (slice_cmp nat_cmp) lists q))
    c.in_ok-copy.ensures)
    (c.new.ensures.items ∙ none_listed lists text absent) t
