use Rattle.std.proofs.Common.{sym, Some, None}
use Rattle.fly_compile.proofs.OutputLemmas.{items_sorted, items-found, source_in-some, source_in-none}
use Rattle.fly_compile.proofs.outputs.find_items.Goals as goal

pub find_variable-requires : goal.find_variable-requires
find_variable-requires c = items_sorted c.args.may_lack _ c.requires

pub returns-in-Some : goal.returns-in-Some
returns-in-Some c =
    sym (source_in-some c.args.name.now _ _ (items-found c.args.may_lack c.args.variables.now c.args.name.now (Some c.in-Some.variable.now) (sym c.in-Some.ensures)))

pub returns-in-None : goal.returns-in-None
returns-in-None c =
    sym (source_in-none c.args.name.now _ (items-found c.args.may_lack c.args.variables.now c.args.name.now None (sym c.in-None.ensures)))
