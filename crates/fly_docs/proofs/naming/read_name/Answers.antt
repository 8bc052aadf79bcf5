use Rattle.fly_docs.proofs.NameTexts.{IsCutInto, no_attempt, no_item, no_exec, no_path, cut_text, one_name}
use Rattle.fly_docs.proofs.naming.read_name.Goals as goal

pub returns-in_default-clause-not_a_name : goal.returns-in_default-clause-not_a_name
returns-in_default-clause-not_a_name c = λ e n is. no_attempt c.args.t.now (rw c.as_str.ensures at c.in_default.ensures) n is

pub returns-in_default-cut_item-clause-not_a_name : goal.returns-in_default-cut_item-clause-not_a_name
returns-in_default-cut_item-clause-not_a_name c = λ e n is.
    let first = rw c.as_str.ensures at c.in-Some.ensures in
    no_item c.args.t.now c.in-Some.rest.now c.in-Some.attempt first.0 first.1 first.2 c.in_default-cut_item.ensures n is

pub returns-in_default-cut_exec-clause-not_a_name : goal.returns-in_default-cut_exec-clause-not_a_name
returns-in_default-cut_exec-clause-not_a_name c = λ e n is.
    let first = rw c.as_str.ensures at c.in-Some.ensures in
    let second = c.in-Some-cut_item.ensures in
    let cuts : IsCutInto c.args.t.now c.in-Some-cut_item.ids.now c.in-Some-cut_item.item c.in-Some.attempt =
    record { rest = c.in-Some.rest.now; at = first.0; hash = second.0; attempt = first.1; number = second.1; whole = first.2; front = second.2 } in
    no_exec c.args.t.now c.in-Some-cut_item.ids.now c.in-Some-cut_item.item c.in-Some.attempt cuts c.in_default-cut_exec.ensures n is

pub returns-in_default-path-clause-not_a_name : goal.returns-in_default-path-clause-not_a_name
returns-in_default-path-clause-not_a_name c = λ e n is.
    let first = rw c.as_str.ensures at c.in-Some.ensures in
    let second = c.in-Some-cut_item.ensures in
    let third = c.in-Some-cut_exec.ensures in
    let cuts : IsCutInto c.args.t.now c.in-Some-cut_item.ids.now c.in-Some-cut_item.item c.in-Some.attempt =
    record { rest = c.in-Some.rest.now; at = first.0; hash = second.0; attempt = first.1; number = second.1; whole = first.2; front = second.2 } in
    let none = rw c.in_default-path.is at c.in-Ok.ensures in
    no_path c.args.t.now c.in-Some-cut_item.ids.now c.in-Some-cut_exec.exec.now c.in-Some-cut_exec.path.now c.in-Some-cut_item.item c.in-Some.attempt cuts third.0 third.1 none n is

pub returns-clause-only : goal.returns-clause-only
returns-clause-only c = λ n is.
    let first = rw c.as_str.ensures at c.in-Some.ensures in
    let second = c.in-Some-cut_item.ensures in
    let third = c.in-Some-cut_exec.ensures in
    let cuts : IsCutInto c.args.t.now c.in-Some-cut_item.ids.now c.in-Some-cut_item.item c.in-Some.attempt =
    record { rest = c.in-Some.rest.now; at = first.0; hash = second.0; attempt = first.1; number = second.1; whole = first.2; front = second.2 } in
    let found = rw c.in-Some-path.is at c.in-Ok.ensures in
    let parts = cut_text c.args.t.now c.in-Some-cut_item.ids.now c.in-Some-cut_exec.exec.now c.in-Some-cut_exec.path.now c.in-Some-cut_item.item c.in-Some.attempt cuts third.1 in
    let whole = rw (← c.in-Ok-from_str.ensures.value, found.0) at parts in
    one_name c.args.t.now _ n (record { item = second.1; attempt = first.1; text = whole }) is
