use Rattle.fly_docs.proofs.NameTexts.{attempt_unread, no_cut}
use Rattle.std.specs.Fmt.{decimal}
use Rattle.fly_docs.proofs.naming.cut_attempt.Goals as goal

pub returns-in-None-read_number : goal.returns-in-None-read_number
returns-in-None-read_number c = attempt_unread c.args.text.now c.in-Some.rest.now c.in-Some.attempt.now c.in-Some.ensures c.in-None-read_number.ensures

pub returns-in-None : goal.returns-in-None
returns-in-None c = λ rest n lacks small e. no_cut 64 c.args.text.now rest (decimal n) c.in-None.ensures e
