use Rattle.fly_docs.proofs.NameTexts.{cut_at}
use Rattle.fly_docs.proofs.naming.cut.Goals as goal

pub returns : goal.returns
returns c = cut_at c.args.at c.args.text.now _ c.split_once.ensures.cases c.requires
