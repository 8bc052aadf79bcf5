use Rattle.fly_catalog.proofs.NameLemmas.{is_numbering, keeps_numbers}
use Rattle.fly_catalog.proofs.names.Names.add_new.Goals as goal

pub returns-clause-numbering : goal.returns-clause-numbering
returns-clause-numbering c =
    let changes = rw (c.in_ok-copy.ensures, c.len-number.ensures.len) at c.in_ok-insert.ensures.updates in
    let was = rw c.in_ok-copy.ensures at c.in_ok-insert.ensures.old in
    is_numbering _ _ _ c.requires.numbering c.requires.absent changes _ was c.in_ok-insert.ensures.len

pub returns-clause-kept : goal.returns-clause-kept
returns-clause-kept c =
    let changes = rw (c.in_ok-copy.ensures, c.len-number.ensures.len) at c.in_ok-insert.ensures.updates in
    let was = rw c.in_ok-copy.ensures at c.in_ok-insert.ensures.old in
    keeps_numbers _ _ _ c.requires.numbering c.requires.absent changes _ was c.in_ok-insert.ensures.len
