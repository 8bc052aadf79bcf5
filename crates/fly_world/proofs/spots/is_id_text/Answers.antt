use Rattle.std.proofs.Common.{sym}
use Rattle.std.proofs.lemmas.Bool.Decides.{same_from_decides}
use Rattle.fly_docs.specs.Templates.{is_id_text}
use Rattle.fly_world.proofs.TestLemmas.{is_id-Decides}
use Rattle.fly_world.proofs.spots.is_id_text.Goals as goal

pub returns : goal.returns
returns c =
    let id = c.args.text.now in
    sym (same_from_decides (is_id_text id) c.is_id.result (is_id-Decides id) (rw c.as_str.ensures at c.is_id.ensures))
