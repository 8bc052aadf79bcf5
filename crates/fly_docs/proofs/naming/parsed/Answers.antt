use Rattle.fly_docs.proofs.NameTexts.{number_is_read}
use Rattle.fly_docs.proofs.naming.parsed.Goals as goal

pub returns-in-Ok : goal.returns-in-Ok
returns-in-Ok c =
    let h = number_is_read c.args.text.now c.parse.result c.requires.plus c.requires.zero c.parse.ensures.value.0 in
    rw c.in-Ok.is at h

pub returns-in-Err : goal.returns-in-Err
returns-in-Err c =
    let h = number_is_read c.args.text.now c.parse.result c.requires.plus c.requires.zero c.parse.ensures.value.0 in
    rw c.in-Err.is at h
