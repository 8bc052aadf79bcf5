use Rattle.std.proofs.Common.{◌≡◌, ◌+◌, ◌++◌, [], ◌∷◌, List, sym, ◌∙◌, ap, append_assoc, append-nil, take}
use Rattle.std.specs.BTreeMap.{get}
use Rattle.std.specs.Ordering.{nat_cmp}
use Rattle.std.specs.Cmp.Lexicographic.{slice_cmp}
use Rattle.std.proofs.lemmas.List.{take_all}
use Rattle.fly_docs.specs.declared.binding.Binding.{Binding}
use Rattle.fly_types.specs.declared.text.Text.{Text}
use Rattle.fly_docs.specs.Bindings.{sources_of}
use Rattle.fly_state.specs.Looks.{places_among, promised_ids}
use Rattle.fly_state.proofs.LookLemmas.{among-append, sources-more, ids-more}
use Rattle.fly_state.proofs.looks.looks_of.Goals as goal

pub loop-binding-preserved : goal.loop-binding-preserved
loop-binding-preserved c =
    let place = get (slice_cmp nat_cmp) c.args.numbers.now in
    let i = c.loop-binding.binding-index in
    let xs = c.as_slice-binding-items.result.now in
    let x = c.binding-item.result in
    c.in_ok-push_promised.ensures
    ∙ ap (λ r. r ++ places_among place (promised_ids x.bound)) c.loop-binding.invariant
    ∙ ap (λ (ys : List Binding). places_among place (sources_of (take i ys)) ++ places_among place (promised_ids x.bound)) (sym c.as_slice-binding-items.ensures)
    ∙ sym (sources-more place xs i x c.loop-binding-test.true c.binding-item.is)
    ∙ ap (λ (ys : List Binding). places_among place (sources_of (take (i + 1) ys))) c.as_slice-binding-items.ensures

pub loop-id-init : goal.loop-id-init
loop-id-init c =
    let place = get (slice_cmp nat_cmp) c.args.numbers.now in
    let i = c.loop-binding.binding-index in
    let xs = c.as_slice-binding-items.result.now in
    c.loop-binding.invariant
    ∙ ap (λ (ys : List Binding). places_among place (sources_of (take i ys))) (sym c.as_slice-binding-items.ensures)
    ∙ ap (λ (ys : List Binding). places_among place (sources_of ys)) (take_all i xs c.loop-binding-test.false ∙ c.as_slice-binding-items.ensures)
    ∙ sym (append-nil (places_among place (sources_of c.args.node.now.inputs)))

pub loop-id-preserved : goal.loop-id-preserved
loop-id-preserved c =
    let place = get (slice_cmp nat_cmp) c.args.numbers.now in
    let i = c.loop-id.id-index in
    let ids = c.as_slice-id-items.result.now in
    let id = c.id-item.result in
    let before = places_among place (sources_of c.args.node.now.inputs) in
    c.in_ok-push_named.ensures
    ∙ ap (λ r. r ++ places_among place (id ∷ [])) c.loop-id.invariant
    ∙ append_assoc before (places_among place (take i c.args.node.now.upstream)) (places_among place (id ∷ []))
    ∙ ap (λ (ys : List Text). before ++ (places_among place (take i ys) ++ places_among place (id ∷ []))) (sym c.as_slice-id-items.ensures)
    ∙ ap (λ r. before ++ r) (sym (ids-more place ids i id c.loop-id-test.true c.id-item.is))
    ∙ ap (λ (ys : List Text). before ++ places_among place (take (i + 1) ys)) c.as_slice-id-items.ensures

pub returns : goal.returns
returns c =
    let place = get (slice_cmp nat_cmp) c.args.numbers.now in
    let i = c.loop-id.id-index in
    let ids = c.as_slice-id-items.result.now in
    let before = places_among place (sources_of c.args.node.now.inputs) in
    c.loop-id.invariant
    ∙ ap (λ (ys : List Text). before ++ places_among place (take i ys)) (sym c.as_slice-id-items.ensures)
    ∙ ap (λ (ys : List Text). before ++ places_among place ys) (take_all i ids c.loop-id-test.false ∙ c.as_slice-id-items.ensures)
    ∙ sym (among-append place (sources_of c.args.node.now.inputs) c.args.node.now.upstream)
