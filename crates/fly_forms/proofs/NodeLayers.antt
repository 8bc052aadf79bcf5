-- Nodes, their targets and cases are in form exactly where their layers are, and each part.
use Rattle.std.proofs.Common.{◌≡◌, ◌↔◌, List, Option, Some, None, refl, sym, ◌∙◌, ap, subst}
use Rattle.std.specs.Prelude.{⊤, IfSome}
use Rattle.std.specs.List.{All}
use Rattle.fly_types.specs.declared.text.Text.{Text}
use Rattle.fly_docs.specs.declared.node.Node.{Node, roll-Node, out-Node}
use Rattle.fly_docs.specs.declared.node.Case.{Case, roll-Case, out-Case}
use Rattle.fly_docs.specs.declared.node.Target.{Target, roll-Target, out-Target}
use Rattle.fly_docs.specs.declared.node.Target.TheVariants as targets
use Rattle.fly_docs.specs.declared.node.Target.TheOpen.{Target-F, Case-F, Node-F}
use Rattle.fly_docs.specs.declared.node.Target.TheViews.{rolls-Branch, roll-out-Target, roll-out-Case, roll-out-Node}
use Rattle.fly_docs.specs.declared.node.Target.TheFolds.{map-Target}
use Rattle.fly_docs.specs.declared.node.Target.TheFolds.{every_here-Target, every_held-Target, every_made-Target}
use Rattle.fly_docs.specs.declared.node.Target.TheFolds.{every_here-Case, every_held-Case, every_made-Case}
use Rattle.fly_docs.specs.declared.node.Target.TheFolds.{every_here-Node, every_held-Node, every_made-Node}
use Rattle.fly_docs.specs.Form.{IsTargetLayerInForm, IsCaseLayerInForm, IsNodeLayerInForm, IsNodeInForm}
use Rattle.fly_forms.specs.Nodes.{IsTargetInForm, IsCaseInForm}
use Rattle.fly_forms.proofs.Lists.{all-map, beside}

abbrev WithTarget : Type 0
WithTarget = (t : Target) × IsTargetInForm t

abbrev WithCase : Type 0
WithCase = (c : Case) × IsCaseInForm c

abbrev WithNode : Type 0
WithNode = (n : Node) × IsNodeInForm n

-- ---- targets

-- the cases of a branch and the node beside them
abbrev pub HasPartsInForm : Target-F Target Case Node → Type 0
HasPartsInForm (Target-F.Branch cases otherwise error) = All IsCaseInForm cases × IfSome otherwise IsNodeInForm
HasPartsInForm _ = ⊤

abbrev pub IsWholeTargetInForm : Target-F Target Case Node → Type 0
IsWholeTargetInForm z = IsTargetLayerInForm z × HasPartsInForm z

abbrev front_of_target : Target-F WithTarget WithCase WithNode → Target-F Target Case Node
front_of_target = map-Target WithTarget WithCase WithNode Target Case Node (λ t. t.0) (λ c. c.0) (λ n. n.0)

target_parts : (y : Target-F WithTarget WithCase WithNode) → HasPartsInForm (front_of_target y)
target_parts (Target-F.Task id) = tt
target_parts (Target-F.Workflow id) = tt
target_parts (Target-F.Branch cases None error) = (all-map IsCaseInForm (λ (c : WithCase). c.0) cases (λ c. c.1), tt)
target_parts (Target-F.Branch cases (Some n) error) = (
  all-map IsCaseInForm (λ (c : WithCase). c.0) cases (λ c. c.1),
  n.1,
)
target_parts (Target-F.Array task min_successes) = tt

target_layer : (t : Target) → IsTargetInForm t → IsWholeTargetInForm (out-Target t)
target_layer t h =
    let held = every_held-Target IsTargetLayerInForm IsCaseLayerInForm IsNodeLayerInForm t h in (
      every_here-Target IsTargetLayerInForm IsCaseLayerInForm IsNodeLayerInForm t h,
      subst HasPartsInForm held.1 (target_parts held.0),
    )

rolled_target : (z : Target-F Target Case Node) → IsWholeTargetInForm z → IsTargetInForm (roll-Target z)
rolled_target (Target-F.Task id) h =
    every_made-Target IsTargetLayerInForm IsCaseLayerInForm IsNodeLayerInForm (Target-F.Task id) (Target-F.Task id)
    refl tt
rolled_target (Target-F.Workflow id) h =
    every_made-Target IsTargetLayerInForm IsCaseLayerInForm IsNodeLayerInForm (Target-F.Workflow id)
    (Target-F.Workflow id) refl tt
rolled_target (Target-F.Branch cases None error) h =
    let ys = beside IsCaseInForm (λ (c : WithCase). c.0) (λ c p. (c, p)) (λ c p. refl) cases h.1.0 in
    every_made-Target IsTargetLayerInForm IsCaseLayerInForm IsNodeLayerInForm (Target-F.Branch cases None error)
    (Target-F.Branch ys.0 None error) (λ i. Target-F.Branch (ys.1 i) None error) h.0
rolled_target (Target-F.Branch cases (Some n) error) h =
    let ys = beside IsCaseInForm (λ (c : WithCase). c.0) (λ c p. (c, p)) (λ c p. refl) cases h.1.0 in
    every_made-Target IsTargetLayerInForm IsCaseLayerInForm IsNodeLayerInForm (Target-F.Branch cases (Some n) error)
    (Target-F.Branch ys.0 (Some (n, h.1.1)) error) (λ i. Target-F.Branch (ys.1 i) (Some n) error) h.0
rolled_target (Target-F.Array task min_successes) h =
    every_made-Target IsTargetLayerInForm IsCaseLayerInForm IsNodeLayerInForm (Target-F.Array task min_successes)
    (Target-F.Array task min_successes) refl tt

-- what an answer says of the layer it says of the target
pub answers_target : {R : Type 0} (t : Target) (z : Target-F Target Case Node) → out-Target t ≡ z
    → (R ↔ IsWholeTargetInForm z) → (R ↔ IsTargetInForm t)
answers_target {R} t z is h = (
  λ r. subst IsTargetInForm (ap roll-Target (sym is) ∙ roll-out-Target t) (rolled_target z (h.0 r)),
  λ form. h.1 (subst IsWholeTargetInForm is (target_layer t form)),
)

no_branch : (t : Target) (z : Target-F Target Case Node) → out-Target t ≡ z
    → ((cases : List Case) (otherwise : Option Node) (error : Option Text)
    → z ≡ Target-F.Branch cases otherwise error → ⊥) → IsTargetInForm t
no_branch t (Target-F.Branch cases otherwise error) is other = absurd (other cases otherwise error refl)
no_branch t (Target-F.Task id) is other =
    (answers_target {R = ⊤} t (Target-F.Task id) is (λ _. (tt, tt), λ _. tt)).0 tt
no_branch t (Target-F.Workflow id) is other =
    (answers_target {R = ⊤} t (Target-F.Workflow id) is (λ _. (tt, tt), λ _. tt)).0 tt
no_branch t (Target-F.Array task least) is other =
    (answers_target {R = ⊤} t (Target-F.Array task least) is (λ _. (tt, tt), λ _. tt)).0 tt

-- what is no branch is in form
pub others_in_form : (t : Target) → ((cases : List Case) (otherwise : Option Node) (error : Option Text)
    → t ≡ targets.Branch cases otherwise error → ⊥) → IsTargetInForm t
others_in_form t other =
    no_branch t (out-Target t) refl
    (λ cases otherwise error is. other cases otherwise error
    (sym (roll-out-Target t) ∙ ap roll-Target is ∙ rolls-Branch cases otherwise error))

-- ---- cases

abbrev IsWholeCaseInForm : Case-F Target Case Node → Type 0
IsWholeCaseInForm z = IsCaseLayerInForm z × IsNodeInForm z.then

case_layer : (c : Case) → IsCaseInForm c → IsWholeCaseInForm (out-Case c)
case_layer c h =
    let held = every_held-Case IsTargetLayerInForm IsCaseLayerInForm IsNodeLayerInForm c h in (
      every_here-Case IsTargetLayerInForm IsCaseLayerInForm IsNodeLayerInForm c h,
      subst (λ (z : Case-F Target Case Node). IsNodeInForm z.then) held.1 held.0.then.1,
    )

rolled_case : (z : Case-F Target Case Node) → IsWholeCaseInForm z → IsCaseInForm (roll-Case z)
rolled_case z h =
    every_made-Case IsTargetLayerInForm IsCaseLayerInForm IsNodeLayerInForm z
    (record { condition = z.condition; then = (z.then, h.1) }) refl h.0

pub answers_case : {R : Type 0} (c : Case) → (R ↔ IsWholeCaseInForm (out-Case c)) → (R ↔ IsCaseInForm c)
answers_case {R} c h = (
  λ r. subst IsCaseInForm (roll-out-Case c) (rolled_case (out-Case c) (h.0 r)),
  λ form. h.1 (case_layer c form),
)

-- ---- nodes

abbrev IsWholeNodeInForm : Node-F Target Case Node → Type 0
IsWholeNodeInForm z = IsNodeLayerInForm z × IsTargetInForm z.target

node_layer : (n : Node) → IsNodeInForm n → IsWholeNodeInForm (out-Node n)
node_layer n h =
    let held = every_held-Node IsTargetLayerInForm IsCaseLayerInForm IsNodeLayerInForm n h in (
      every_here-Node IsTargetLayerInForm IsCaseLayerInForm IsNodeLayerInForm n h,
      subst (λ (z : Node-F Target Case Node). IsTargetInForm z.target) held.1 held.0.target.1,
    )

rolled_node : (z : Node-F Target Case Node) → IsWholeNodeInForm z → IsNodeInForm (roll-Node z)
rolled_node z h =
    every_made-Node IsTargetLayerInForm IsCaseLayerInForm IsNodeLayerInForm z
    (record {
      id = z.id;
      timeout_ms = z.timeout_ms;
      retries = z.retries;
      inputs = z.inputs;
      upstream = z.upstream;
      target = (z.target, h.1);
    }) refl h.0

pub answers_node : {R : Type 0} (n : Node) → (R ↔ IsWholeNodeInForm (out-Node n)) → (R ↔ IsNodeInForm n)
answers_node {R} n h = (
  λ r. subst IsNodeInForm (roll-out-Node n) (rolled_node (out-Node n) (h.0 r)),
  λ form. h.1 (node_layer n form),
)
