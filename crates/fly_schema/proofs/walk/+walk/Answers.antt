use Rattle.std.proofs.Common.{rules, ◌≡◌, ◌≤◌, IfOk, option_map, None, ℕ, List, [], Bool, false, if◌then◌else◌, sym, ap, subst, ◌∙◌, arith}
use Rattle.serde_json.specs.Data.{object, depth, items_depth}
use Rattle.serde_json.specs.View.{view, items_view, members_view}
use Rattle.serde_json.specs.declared.value.Value.{Value, the_lemmas}
use Rattle.serde_json.proofs.Views.{view-Array, view-Object}
use Rattle.fly_schema.specs.Faults.{fault_of, items_fault, entries_fault, member_fault, part_fault, entry_fault, array_fault, object_fault}
use Rattle.fly_schema.specs.Places.{field, inside, fault_here}
use Rattle.fly_schema.specs.Views.{table_of, form_of, shape_of, texts_of, part_of, name_of, field_of}
use Rattle.fly_schema.specs.Found.{found_of}
use Rattle.fly_schema.specs.declared.table.Part.{Part}
use Rattle.fly_schema.specs.declared.fault.DocKind.TheVariants.{Missing}
use Rattle.fly_schema.proofs.Firsts.{items_found, items_end, rest_found, rest_end, first_found, first_end}
use Rattle.fly_schema.proofs.Viewed.{entry_of, items_as_list, entries_as_list}
use Rattle.fly_schema.proofs.FieldFaults.{value_depth, read_there, field_missing, item_depth, entry_depth, one_of_by, two_by, row_by, row_left_out, inner_fault, own_found, own_passed}
use Rattle.fly_schema.proofs.walk.+walk.Goals as goal

pub entries_fault-entry_fault-requires : goal.entries_fault-entry_fault-requires
entries_fault-entry_fault-requires t c =
    let h = entry_depth _ _ _ _ c.in-Some.ensures.steps c.loop-key.invariant.2 in
    omega (arith, h.0, c.decreases)

pub items_fault-value_fault-requires : goal.items_fault-value_fault-requires
items_fault-value_fault-requires t c =
    let h = item_depth c.args.items.now c.loop-place.place c.index-items-place.result c.loop-place-test.true in
    let g = subst (λ v. depth (view v) ≤ items_depth (items_view c.args.items.now)) (sym c.index-items-place.is) h in
    omega (arith, g, c.decreases)

pub items_fault-returns-in-Some : goal.items_fault-returns-in-Some
items_fault-returns-in-Some t c =
    let f = λ (v : Value). fault_of (table_of c.args.rows.now) (view v) (form_of c.args.form.now) c.args.level in
    let found = ap (option_map found_of) (sym c.in-Some.is) ∙ c.in_ok-found.ensures in
    c.in_ok-inside.ensures
    ∙ items_found f _ _ _ _ c.loop-place.invariant c.loop-place-test.true c.index-items-place.is found
    ∙ sym (items_as_list (table_of c.args.rows.now) (form_of c.args.form.now) c.args.level c.args.items.now 0)

pub items_fault-returns : goal.items_fault-returns
items_fault-returns t c =
    let f = λ (v : Value). fault_of (table_of c.args.rows.now) (view v) (form_of c.args.form.now) c.args.level in
    items_end f _ _ c.loop-place.invariant (omega arith)
    ∙ sym (items_as_list (table_of c.args.rows.now) (form_of c.args.form.now) c.args.level c.args.items.now 0)

pub entries_fault-returns : goal.entries_fault-returns
entries_fault-returns t c =
    let f = entry_of (table_of c.args.rows.now) (texts_of c.args.keys.now) (form_of c.args.form.now) c.args.level in
    rest_end f _ c.loop-key.place c.loop-key.key-iterator c.loop-key.invariant.0 c.in-None.ensures.steps.0
    ∙ sym (entries_as_list (table_of c.args.rows.now) (texts_of c.args.keys.now)
    (form_of c.args.form.now) c.args.level c.args.members.now.entries 0)

pub entries_fault-returns-in-Some-2 : goal.entries_fault-returns-in-Some-2
entries_fault-returns-in-Some-2 t c =
    let f = entry_of (table_of c.args.rows.now) (texts_of c.args.keys.now) (form_of c.args.form.now) c.args.level in
    let at_key = λ (key : List ℕ).
    entry_fault (fault_of (table_of c.args.rows.now) (view c.in-Some.value.now)) (texts_of c.args.keys.now) key
    (form_of c.args.form.now)
    c.args.level in
    let found = ap (option_map found_of) (sym c.in-Some-2.is) ∙ c.in_ok-found.ensures
    ∙ ap at_key c.as_str.ensures.value in
    c.in_ok-inside.ensures
    ∙ rest_found f _ _ _ _ _ _ c.loop-key.invariant.0 c.in-Some.ensures.steps found
    ∙ sym (entries_as_list (table_of c.args.rows.now) (texts_of c.args.keys.now)
    (form_of c.args.form.now) c.args.level c.args.members.now.entries 0)

pub one_of_fault-value_fault-requires : goal.one_of_fault-value_fault-requires
one_of_fault-value_fault-requires t c =
    let h = value_depth (name_of c.in-One.field.now.name) (members_view c.args.members.now.entries)
    (view c.in-One.value.now) c.in-One.ensures.1 in
    omega (arith, h, c.decreases)

pub one_of_fault-returns-then-required : goal.one_of_fault-returns-then-required
one_of_fault-returns-then-required t c =
    let d = object (members_view c.args.members.now.entries) in
    let found = member_fault (table_of c.args.rows.now) (members_view c.args.members.now.entries) in
    c.new.ensures ∙ sym (one_of_by d found c.args.level c.args.required c.args.fields.now [] c.in-No.ensures
    ∙ ap (λ (b : Bool). if b then fault_here Missing else None) c.if-required.true)

pub one_of_fault-returns-else-required : goal.one_of_fault-returns-else-required
one_of_fault-returns-else-required t c =
    let d = object (members_view c.args.members.now.entries) in
    let found = member_fault (table_of c.args.rows.now) (members_view c.args.members.now.entries) in
    sym (one_of_by d found c.args.level c.args.required c.args.fields.now [] c.in-No.ensures
    ∙ ap (λ (b : Bool). if b then fault_here Missing else None) c.if-required.false)

pub one_of_fault-returns-in_ok-value_fault-in-One : goal.one_of_fault-returns-in_ok-value_fault-in-One
one_of_fault-returns-in_ok-value_fault-in-One t c =
    let ms = members_view c.args.members.now.entries in
    let rows = table_of c.args.rows.now in
    let f = field_of c.in-One.field.now in
    let by = one_of_by (object ms)
    (member_fault rows ms) c.args.level c.args.required c.args.fields.now _ c.in-One.ensures.0 in
    let read = read_there rows ms c.args.level f (view c.in-One.value.now) c.in-One.ensures.1 in
    subst (λ r. IfOk c.inside.result (λ o. option_map found_of o ≡ r))
    (ap (inside (field f.name.camel)) c.in_ok-value_fault-in-One.ensures ∙ sym (by ∙ read)) c.inside.ensures

pub one_of_fault-returns-in-More : goal.one_of_fault-returns-in-More
one_of_fault-returns-in-More t c =
    let ms = members_view c.args.members.now.entries in
    let rows = table_of c.args.rows.now in
    let more = c.in-More.ensures in
    subst (λ r. IfOk c.two_fault.result (λ o. option_map found_of o ≡ r))
    (two_by (object ms)
    (member_fault rows ms) c.args.level c.args.required c.args.fields.now more.0 more.1 more.2 more.3)
    c.two_fault.ensures

pub row_fault-returns-in-Some : goal.row_fault-returns-in-Some
row_fault-returns-in-Some t c =
    let ms = members_view c.args.members.now.entries in
    let rows = table_of c.args.rows.now in
    sym (row_left_out (object ms) (member_fault rows ms) c.args.level c.args.row.now _
    (sym (ap (option_map found_of) (sym c.in-Some.is) ∙ c.in_ok-found.ensures)))

pub row_fault-returns-in-Some-2 : goal.row_fault-returns-in-Some-2
row_fault-returns-in-Some-2 t c =
    let ms = members_view c.args.members.now.entries in
    let found = member_fault (table_of c.args.rows.now) ms in
    let f = λ (p : Part). part_fault (object ms) found c.args.level (part_of p) in
    let here = ap (option_map found_of) (sym c.in-Some-2.is) ∙ c.in_ok-found-2.ensures in
    sym (row_by (object ms) found c.args.level c.args.row.now None _
    (sym (ap (option_map found_of) (sym c.in_default.is) ∙ c.in_ok-found.ensures))
    (c.loop-part.invariant ∙ first_found f _ _ _ _ c.loop-part-test.true (sym here)))

pub row_fault-returns : goal.row_fault-returns
row_fault-returns t c =
    let ms = members_view c.args.members.now.entries in
    let found = member_fault (table_of c.args.rows.now) ms in
    let f = λ (p : Part). part_fault (object ms) found c.args.level (part_of p) in
    sym (row_by (object ms) found c.args.level c.args.row.now None None
    (sym (ap (option_map found_of) (sym c.in_default.is) ∙ c.in_ok-found.ensures))
    (c.loop-part.invariant ∙ first_end f _ _ c.loop-part-test.false))

pub single_fault-value_fault-requires : goal.single_fault-value_fault-requires
single_fault-value_fault-requires t c =
    let h = value_depth (name_of c.args.field.now.name) (members_view c.args.members.now.entries)
    (view c.in-Some.value.now) c.in-Some.ensures in
    omega (arith, h, c.decreases)

pub single_fault-returns-in_ok-value_fault-in-Some : goal.single_fault-returns-in_ok-value_fault-in-Some
single_fault-returns-in_ok-value_fault-in-Some t c =
    let ms = members_view c.args.members.now.entries in
    let rows = table_of c.args.rows.now in
    let f = field_of c.args.field.now in
    let there = field_missing rows ms c.args.level f false (sym c.if-is_missing.false ∙ c.is_missing.ensures) in
    let read = read_there rows ms c.args.level f (view c.in-Some.value.now) c.in-Some.ensures in
    subst (λ r. IfOk c.inside.result (λ o. option_map found_of o ≡ r))
    (ap (inside (field f.name.camel)) c.in_ok-value_fault-in-Some.ensures ∙ sym (there ∙ read)) c.inside.ensures

pub value_fault-returns-in-Some : goal.value_fault-returns-in-Some
value_fault-returns-in-Some t c =
    own_found (table_of c.args.rows.now) (view c.args.value.now) (form_of c.args.form.now) c.args.level _
    (ap (option_map found_of) (sym c.in-Some.is) ∙ c.in_ok-found.ensures)

pub value_fault-returns-in-List : goal.value_fault-returns-in-List
value_fault-returns-in-List t c =
    let rows = table_of c.args.rows.now in
    let form = form_of c.args.form.now in
    let own = own_passed rows (view c.args.value.now) form c.args.level
    (ap (option_map found_of) (sym c.in_default.is) ∙ c.in_ok-found.ensures) in
    let vs = c.in-Array.items.items in
    let items = items_fault rows (items_view vs) in
    subst (λ r. IfOk c.items_fault.result (λ o. option_map found_of o ≡ r))
    (ap (λ xs. items_fault rows (items_view xs) (form_of c.element_of.result) c.args.level 0) c.as_slice.ensures.value
    ∙ ap (λ e. items e c.args.level 0) c.element_of.ensures
    ∙ ap (array_fault items form c.args.level) (sym (ap shape_of c.in-List.is))
    ∙ ap (λ d. inner_fault rows d form c.args.level) (sym (ap view c.in-Array.is ∙ view-Array c.in-Array.items))
    ∙ own) c.items_fault.ensures

pub value_fault-returns-in-One : goal.value_fault-returns-in-One
value_fault-returns-in-One t c =
    let rows = table_of c.args.rows.now in
    let form = form_of c.args.form.now in
    let own = own_passed rows (view c.args.value.now) form c.args.level
    (ap (option_map found_of) (sym c.in_default.is) ∙ c.in_ok-found.ensures) in
    let ms = members_view c.in-Object.members.entries in
    subst (λ r. IfOk c.content_fault.result (λ o. option_map found_of o ≡ r))
    (ap (object_fault rows (object ms) (entries_fault rows ms) (member_fault rows ms) form c.args.level)
    (sym (ap shape_of c.in-One.is))
    ∙ ap (λ d. inner_fault rows d form c.args.level) (sym (ap view c.in-Object.is ∙ view-Object c.in-Object.members))
    ∙ own) c.content_fault.ensures

pub value_fault-returns-in-Map : goal.value_fault-returns-in-Map
value_fault-returns-in-Map t c =
    let rows = table_of c.args.rows.now in
    let form = form_of c.args.form.now in
    let own = own_passed rows (view c.args.value.now) form c.args.level
    (ap (option_map found_of) (sym c.in_default.is) ∙ c.in_ok-found.ensures) in
    let ms = members_view c.in-Object.members.entries in
    subst (λ r. IfOk c.entries_fault.result (λ o. option_map found_of o ≡ r))
    (ap (λ e. entries_fault rows ms (texts_of c.in-Map.keys) e c.args.level 0) c.element_of-in-Map.ensures
    ∙ ap (object_fault rows (object ms) (entries_fault rows ms) (member_fault rows ms) form c.args.level)
    (sym (ap shape_of c.in-Map.is))
    ∙ ap (λ d. inner_fault rows d form c.args.level) (sym (ap view c.in-Object.is ∙ view-Object c.in-Object.members))
    ∙ own) c.entries_fault.ensures

pub value_fault-returns-in_default-value : goal.value_fault-returns-in_default-value
value_fault-returns-in_default-value t c =
    let rows = table_of c.args.rows.now in
    let form = form_of c.args.form.now in
    let own = own_passed rows (view c.args.value.now) form c.args.level
    (ap (option_map found_of) (sym c.in_default.is) ∙ c.in_ok-found.ensures) in
    let plain : None ≡ inner_fault rows (view c.args.value.now) form c.args.level = search (rules, the_lemmas) in
    plain ∙ own
