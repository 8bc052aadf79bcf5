use Rattle.std.proofs.Common.{◌+◌, ◌&&◌, [], drop, sym, ◌∙◌, ap, arith}
use Rattle.std.proofs.lemmas.List.{drop_all}
use Rattle.fly_world.specs.Spots.{are_given}
use Rattle.fly_world.proofs.FoundSpots.{given_from}
use Rattle.fly_world.proofs.TestLemmas.{uneven}
use Rattle.fly_world.proofs.spots.are_given.Goals as goal

pub returns-then-variables-entries : goal.returns-then-variables-entries
returns-then-variables-entries c = sym (uneven _ _ c.if-variables-entries.true)

pub returns-then-not-is_given : goal.returns-then-not-is_given
returns-then-not-is_given c =
    let xs = c.args.variables.now in
    let entries = c.args.entries.now in
    let i = c.loop-place.place in
    ap (λ b. b && are_given (drop (i + 1) xs) (drop (i + 1) entries)) (sym c.if-not-is_given.true ∙ c.is_given.ensures)
    ∙ sym (given_from xs entries i c.index-variables-place.result c.index-entries-place.result c.loop-place-test.true
    (omega arith) c.index-variables-place.is c.index-entries-place.is)
    ∙ c.loop-place.invariant.rest

pub loop-place-preserved : goal.loop-place-preserved
loop-place-preserved c =
    let xs = c.args.variables.now in
    let entries = c.args.entries.now in
    let i = c.loop-place.place in
    record {
      len = c.loop-place.invariant.len;
      rest = ap (λ b. b && are_given (drop (i + 1) xs) (drop (i + 1) entries))
          (sym c.if-not-is_given.false ∙ c.is_given.ensures)
          ∙ sym (given_from xs entries i c.index-variables-place.result c.index-entries-place.result
          c.loop-place-test.true (omega arith) c.index-variables-place.is c.index-entries-place.is)
          ∙ c.loop-place.invariant.rest;
    }

pub returns : goal.returns
returns c =
    let xs = c.args.variables.now in
    let entries = c.args.entries.now in
    let i = c.loop-place.place in
    sym (ap (λ ys. are_given ys (drop i entries)) (drop_all i xs c.loop-place-test.false)
    ∙ ap (are_given []) (drop_all i entries (omega arith)))
    ∙ c.loop-place.invariant.rest
