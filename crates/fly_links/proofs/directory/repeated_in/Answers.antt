use Rattle.std.proofs.Common.{◌≡◌, ◌+◌, ◌<◌, ◌∷◌, ◌++◌, [], cond, not, true, false, map, length, get_or, position, sym, ap, ◌∙◌, arith}
use Rattle.std.proofs.lemmas.List.{append-nil, length-map, get_or-map}
use Rattle.fly_docs.specs.declared.names.Identifier.{Identifier}
use Rattle.fly_docs.specs.Lookups.{is_same}
use Rattle.fly_links.specs.Tables.{Key, Loan, key_id}
use Rattle.fly_links.proofs.RepeatLemmas.{repeated_next, repeated_before}
use Rattle.fly_links.proofs.directory.repeated_in.Goals as goal
use Rattle.fly_links.proofs.directory.repeated_in.Goals.{then-not-is_at+in_ok-push, else-not-is_at}

pub loop-place-preserved : goal.loop-place-preserved
loop-place-preserved c =
    let keys = c.args.keys.now in
    let ids = map key_id keys in
    let i = c.loop-place.place in
    let none : Loan = record { ref_ptr = (0, 0); now = [] } in
    let key : Key = get_or keys i (none, none, none, none) in
    let d : Identifier = key_id key in
    let below : i < length keys = c.loop-place-test.true in
    let within : i < length ids = omega (arith, below, length-map keys key_id) in
    let id_is : get_or ids i d ≡ d = get_or-map key_id keys i (none, none, none, none) d below in
    let next : repeated_before ids (i + 1) ≡ repeated_before ids i ++ cond (not c.is_at.result) (i ∷ []) [] =
    repeated_next ids i d c.found.result c.is_at.result within
    (c.found.ensures ∙ c.requires key ∙ ap (λ (id : Identifier). position (λ j. is_same j id) ids) (sym id_is)) c.is_at.ensures in
    elim c.if-not-is_at.branch [
      | then-not-is_at+in_ok-push w ↦
          let no : not c.is_at.result ≡ true = grind arith in
          ap (λ v. v.items) w.repeated-is ∙ w.in_ok-push.ensures.items ∙ ap (λ xs. xs ++ i ∷ []) c.loop-place.invariant
          ∙ sym (next ∙ ap (λ b. repeated_before ids i ++ cond b (i ∷ []) []) no)
      | else-not-is_at w ↦
          let yes : not c.is_at.result ≡ false = grind arith in
          ap (λ v. v.items) w.repeated-is ∙ c.loop-place.invariant ∙ sym (append-nil (repeated_before ids i))
          ∙ sym (next ∙ ap (λ b. repeated_before ids i ++ cond b (i ∷ []) []) yes)
    ]
