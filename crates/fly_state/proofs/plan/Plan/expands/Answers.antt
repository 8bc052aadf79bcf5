use Rattle.std.proofs.Common.{rules, refl, ◌<◌, All, length, ap, ◌∙◌, subst, arith}
use Rattle.std.proofs.lemmas.Bool.{false≢true}
use Rattle.std.proofs.lemmas.List.{take_all}
use Rattle.std.proofs.lemmas.List.Elements.{All-more, All-weaker, All-get_or}
use Rattle.fly_docs.specs.declared.node.Node.{Node}
use Rattle.fly_docs.specs.declared.node.Target.{out-Target}
use Rattle.fly_docs.specs.Names.{IsId}
use Rattle.fly_docs.specs.Readable.{IsTaskTarget}
use Rattle.fly_state.proofs.PlanLemmas.{nodes_of-plain}
use Rattle.fly_state.proofs.plan.Plan.expands.Goals as goal

pub returns-then-nodes-gt-MOST_NODES : goal.returns-then-nodes-gt-MOST_NODES
returns-then-nodes-gt-MOST_NODES c = (
  λ no. absurd (false≢true no),
  λ plannable. absurd (omega (
    arith,
    plannable.few,
    c.if-nodes-gt-MOST_NODES.true,
    ap length (nodes_of-plain c.args.c.now.primary plannable.plain),
    ap length c.as_slice-nodes.ensures,
  )),
)

abbrev IsPlain : Node → Type 0
IsPlain n = IsTaskTarget (out-Target n.target) × IsId n.id

pub loop-node-preserved : goal.loop-node-preserved
loop-node-preserved c =
    let nodes = c.as_slice-nodes.result.now in
    let within : c.loop-node.node-index < length nodes = omega arith in
    let plain : IsPlain c.node-item.result = search rules in
    All-more IsPlain nodes c.loop-node.node-index c.node-item.result within c.loop-node.invariant
    (subst IsPlain c.node-item.is plain)

pub returns : goal.returns
returns c =
    let w = c.args.c.now.primary in
    let all : All IsPlain w.nodes =
    subst (All IsPlain)
    (take_all c.loop-node.node-index c.as_slice-nodes.result.now (omega arith) ∙ c.as_slice-nodes.ensures)
    c.loop-node.invariant in
    let tasks = All-weaker IsPlain (λ (n : Node). IsTaskTarget (out-Target n.target)) (λ n p. p.0) w.nodes all in (
      λ yes. record {
        plain = tasks;
        ids = All-weaker IsPlain (λ (n : Node). IsId n.id) (λ n p. p.1) w.nodes all;
        few = omega (arith, c.if-nodes-gt-MOST_NODES.false, ap length (nodes_of-plain w tasks), ap length c.as_slice-nodes.ensures);
      },
      λ plannable. refl,
    )
