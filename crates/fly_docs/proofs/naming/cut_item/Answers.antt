use Rattle.fly_docs.proofs.NameTexts.{item_unread}
use Rattle.fly_docs.proofs.naming.cut_item.Goals as goal

pub returns-in-None-read_number : goal.returns-in-None-read_number
returns-in-None-read_number c = item_unread c.args.text.now c.in-Some.ids.now c.in-Some.item.now c.in-Some.ensures c.in-None-read_number.ensures
