use Rattle.std.proofs.Common.{◌^◌, ◌<◌, sym, subst, arith}
use Rattle.fly_docs.specs.declared.node.Node.{Node}
use Rattle.fly_docs.specs.Acyclic.{IsAcyclic}
use Rattle.fly_docs.specs.Names.{IsId}
use Rattle.fly_generator.specs.Generated.{node_numbered}
use Rattle.fly_generator.proofs.Acyclic.{acyclic}
use Rattle.fly_generator.proofs.Firsts.{each}
use Rattle.fly_generator.proofs.Forms.{in_form, readable}
use Rattle.fly_generator.proofs.NodeIds.{ids_are}
use Rattle.fly_generator.proofs.Reached.{only_workflow}
use Rattle.fly_generator.proofs.TypedLaw.{typed}
use Rattle.fly_generator.proofs.laws.samples_are_typed.Goals as goal

pub returns : goal.returns
returns c count some few =
    let small : count < 2 ^ 64 = omega arith in
    record {
      form = in_form count (omega arith);
      readable = readable count;
      typed = typed count some few;
      acyclic = λ w reached. subst IsAcyclic (sym (only_workflow count w reached)) (acyclic count small);
      ids = each node_numbered count (λ (n : Node). IsId n.id) (λ i within. ids_are i (omega arith));
    }
