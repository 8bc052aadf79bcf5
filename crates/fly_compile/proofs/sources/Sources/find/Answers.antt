use Rattle.std.proofs.Common.{sym, ◌∙◌, ap}
use Rattle.fly_docs.specs.Bindings.{source_node}
use Rattle.fly_compile.specs.Scopes.{Scope, source_there}
use Rattle.fly_compile.proofs.SourceLemmas.{node-source, nowhere-source}
use Rattle.fly_compile.proofs.sources.Sources.find.Goals as goal

pub returns-in-Some : goal.returns-in-Some
returns-in-Some c =
    node-source _ _ c.self.inside.outputs.items c.args.node.now c.args.var.now c.in-Some.place c.index.result.now _ c.self.invariant
    (sym c.is_start.ensures ∙ c.if-is_start.false) (sym c.in-Some.ensures) c.index.ensures c.find.ensures
    ∙ ap (λ (s : Scope). source_there s (source_node c.args.node.now, c.args.var.now)) c.self.view_is

pub returns-in-None : goal.returns-in-None
returns-in-None c =
    nowhere-source c.self.inside.directory.now c.self.inside.layout c.args.node.now c.args.var.now
    (sym c.is_start.ensures ∙ c.if-is_start.false) (sym c.in-None.ensures)
    ∙ ap (λ (s : Scope). source_there s (source_node c.args.node.now, c.args.var.now)) c.self.view_is
