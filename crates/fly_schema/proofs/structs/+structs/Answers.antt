use Rattle.std.proofs.Common.{rules, option_map, map, sym, ap, ◌∙◌, arith}
use Rattle.serde_json.specs.View.{view}
use Rattle.serde_json.specs.declared.value.Value.{Value, the_lemmas}
use Rattle.fly_schema.specs.Found.{found_of}
use Rattle.fly_schema.specs.Places.{first_numbered}
use Rattle.fly_schema.specs.Structs.{struct_fault}
use Rattle.fly_schema.proofs.Firsts.{items_found, items_end, rest_found, rest_end}
use Rattle.fly_schema.proofs.Viewed.{Entry, struct_items, struct_members}
use Rattle.fly_schema.proofs.structs.+structs.Goals as goal

pub items_fault-returns-in-Some : goal.items_fault-returns-in-Some
items_fault-returns-in-Some t c =
    let f = λ (v : Value). struct_fault (view v) c.args.levels in
    let found = ap (option_map found_of) (sym c.in-Some.is) ∙ c.in_ok-found.ensures in
    c.in_ok-inside.ensures
    ∙ items_found f _ _ _ _ c.loop-place.invariant c.loop-place-test.true c.item-item.is found
    ∙ ap (λ vs. first_numbered 0 (map f vs)) c.deref-item-items.ensures.value
    ∙ sym (struct_items c.args.items.now.items c.args.levels 0)

pub items_fault-returns : goal.items_fault-returns
items_fault-returns t c =
    let f = λ (v : Value). struct_fault (view v) c.args.levels in
    items_end f _ _ c.loop-place.invariant (omega arith)
    ∙ ap (λ vs. first_numbered 0 (map f vs)) c.deref-item-items.ensures.value
    ∙ sym (struct_items c.args.items.now.items c.args.levels 0)

pub members_fault-returns-in-Some-2 : goal.members_fault-returns-in-Some-2
members_fault-returns-in-Some-2 t c =
    let f = λ (e : Entry). struct_fault (view e.1) c.args.levels in
    let found = ap (option_map found_of) (sym c.in-Some-2.is) ∙ c.in_ok-found.ensures in
    c.in_ok-inside.ensures
    ∙ rest_found f _ _ _ _ _ _ c.loop-member.invariant.0 c.in-Some.ensures.steps found
    ∙ sym (struct_members c.args.members.now.entries c.args.levels 0)

pub members_fault-returns : goal.members_fault-returns
members_fault-returns t c =
    let f = λ (e : Entry). struct_fault (view e.1) c.args.levels in
    rest_end f _ _ _ c.loop-member.invariant.0 c.in-None.ensures.steps.0
    ∙ sym (struct_members c.args.members.now.entries c.args.levels 0)

pub struct_fault-returns-in-Number : goal.struct_fault-returns-in-Number
unfolding struct_fault
struct_fault-returns-in-Number t c = search (rules, the_lemmas)

pub struct_fault-returns-then-levels-lt-MAX_LEVELS :
    goal.struct_fault-returns-then-levels-lt-MAX_LEVELS
unfolding struct_fault
struct_fault-returns-then-levels-lt-MAX_LEVELS t c = search (rules, the_lemmas)

pub struct_fault-returns-else-levels-lt-MAX_LEVELS :
    goal.struct_fault-returns-else-levels-lt-MAX_LEVELS
unfolding struct_fault
struct_fault-returns-else-levels-lt-MAX_LEVELS t c = search (rules, the_lemmas)

pub struct_fault-returns-then-levels-lt-MAX_LEVELS-2 :
    goal.struct_fault-returns-then-levels-lt-MAX_LEVELS-2
unfolding struct_fault
struct_fault-returns-then-levels-lt-MAX_LEVELS-2 t c = search (rules, the_lemmas)

pub struct_fault-returns-else-levels-lt-MAX_LEVELS-2 :
    goal.struct_fault-returns-else-levels-lt-MAX_LEVELS-2
unfolding struct_fault
struct_fault-returns-else-levels-lt-MAX_LEVELS-2 t c = search (rules, the_lemmas)

pub struct_fault-returns-in_default : goal.struct_fault-returns-in_default
unfolding struct_fault
struct_fault-returns-in_default t c = search (rules, the_lemmas)
