use Rattle.std.proofs.Common.{rules}
use Rattle.fly_idl.specs.Rows.{message_table}
use Rattle.fly_idl.proofs.rows.message_table.Goals as goal

pub returns : goal.returns
unfolding message_table
returns c = search rules
