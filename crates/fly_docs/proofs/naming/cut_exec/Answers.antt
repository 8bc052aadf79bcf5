use Rattle.std.proofs.Common.{sym, subst, refl, ◌∙◌}
use Rattle.std.proofs.lemmas.Bool.{false≢true}
use Rattle.fly_docs.specs.Names.{IsId}
use Rattle.fly_docs.proofs.NameTexts.{one_cut, no_cut, id_lacks}
use Rattle.fly_docs.proofs.naming.cut_exec.Goals as goal

pub returns-else-is_id : goal.returns-else-is_id
returns-else-is_id c = λ exec path id e.
    let apart = one_cut 47 c.args.text.now c.in-Some.exec.now c.in-Some.path.now exec path c.in-Some.ensures (id_lacks 47 exec refl id) e in
    false≢true (sym c.if-is_id.false ∙ c.is_id.ensures.1 (subst IsId (sym apart.0) id))

pub returns-in-None : goal.returns-in-None
returns-in-None c = λ exec path id e. no_cut 47 c.args.text.now exec path c.in-None.ensures e
