-- What promises are of, by the outputs of a workflow's nodes.
use Rattle.std.proofs.Common.{◌≡◌, ℕ, ◌<◌, ◌≤◌, false, List, [], ◌∷◌, length, get_or, map, take, Some, None, refl, sym, ◌∙◌, ap, arith}
use Rattle.std.specs.Prelude.{if◌then◌else◌}
use Rattle.std.specs.Option.{option_map}
use Rattle.std.specs.List.{slice_get}
use Rattle.std.specs.Str.{bytes_eq}
use Rattle.std.specs.Borrow.{Bor}
use Rattle.std.proofs.lemmas.Bool.{true≢false}
use Rattle.std.proofs.lemmas.List.{length-map, take_all}
use Rattle.std.proofs.lemmas.List.Quantifiers.{position-Some}
use Rattle.std.proofs.lemmas.Option.{slice_get-get_or, slice_get-map}
use Rattle.fly_types.specs.declared.text.Text.{Text}
use Rattle.fly_docs.specs.declared.node.Node.{Node}
use Rattle.fly_docs.specs.declared.workflow.Workflow.{Workflow}
use Rattle.fly_docs.specs.declared.workflow.Bundle.{Bundle}
use Rattle.fly_docs.specs.Names.{start_node}
use Rattle.fly_docs.specs.Bindings.{source_node}
use Rattle.fly_docs.specs.NodeInterfaces.{Found, Source, no_node, outputs_of, source_in, source_by, source_of}
use Rattle.fly_docs.specs.Plans.{nodes_of, node_ids, node_named, place_named}
use Rattle.fly_links.proofs.LayoutLemmas.{named_at, named_nowhere}
use Rattle.fly_compile.specs.declared.outputs.Outputs.{Outputs}
use Rattle.fly_compile.specs.Outputs.{outputs_value, source_found, AreOutputsOf}

source_by-found : (b : Bundle) (var : Text) (n : Node) (f : Found) → outputs_of b n ≡ f → source_by b var (Some n) ≡ source_found var f
source_by-found b var n None e = rw e refl
source_by-found b var n (Some vs) e = rw e refl

-- the node at the place of an output
value-there : (b : Bundle) (nodes : List Node) (place : ℕ) (v : Found) → Some v ≡ option_map (outputs_of b) (slice_get nodes place)
    → (n : Node) × (slice_get nodes place ≡ Some n) × (outputs_of b n ≡ v)
value-there b nodes place v e =
    elim (slice_get nodes place) as (λ o. Some v ≡ option_map (outputs_of b) o → (n : Node) × (o ≡ Some n) × (outputs_of b n ≡ v)) [
      | None ↦ λ h. cc
      | Some n ↦ λ h. (n, refl, cc)
    ] e

other-node : (node : Text) → bytes_eq (source_node node) start_node ≡ false → source_node node ≡ node
other-node [] e = absurd (true≢false e)
other-node (x ∷ xs) e = refl

pub node-source : (b : Bundle) (w : Workflow) (list : List Outputs) (node var : Text) (place : ℕ) (o : Outputs) (r : Source) → AreOutputsOf b w list
    → bytes_eq (source_node node) start_node ≡ false → place_named w node ≡ Some place → o ≡ get_or list place o → r ≡ source_found var (outputs_value o)
    → r ≡ source_of b w (source_node node, var)
node-source b w list node var place o r are other there is found =
    let bound : place < length (node_ids w) = (position-Some (bytes_eq node) (node_ids w) place [] there).0 in
    let long : length list ≡ length (nodes_of w) =
    sym (length-map list outputs_value) ∙ ap length are.values ∙ length-map (nodes_of w) (outputs_of b) in
    let within : place < length list = omega (arith, length-map (nodes_of w) (λ (n : Node). n.id)) in
    let here : slice_get list place ≡ Some o = slice_get-get_or list place o within ∙ ap Some (sym is) in
    let value : Some (outputs_value o) ≡ option_map (outputs_of b) (slice_get (nodes_of w) place) =
    sym (slice_get-map outputs_value list place ∙ ap (option_map outputs_value) here) ∙ ap (λ xs. slice_get xs place) are.values
    ∙ slice_get-map (outputs_of b) (nodes_of w) place in
    let n = value-there b (nodes_of w) place (outputs_value o) value in
    found ∙ sym ((λ i. if other i then source_in var w.interface.inputs else source_by b var (node_named w (other-node node other i)))
    ∙ ap (source_by b var) (named_at w node place there ∙ n.1)
    ∙ source_by-found b var n.0 (outputs_value o) n.2)

pub nowhere-source : (b : Bundle) (w : Workflow) (node var : Text) → bytes_eq (source_node node) start_node ≡ false → place_named w node ≡ None
    → no_node ≡ source_of b w (source_node node, var)
nowhere-source b w node var other there =
    sym ((λ i. if other i then source_in var w.interface.inputs else source_by b var (node_named w (other-node node other i)))
    ∙ ap (source_by b var) (named_nowhere w node there))

-- ---- the outputs of all nodes

map-through : {X Y Z : Type 0} (f : Y → Z) (g : X → Y) (xs : List X) → map (λ x. f (g x)) xs ≡ map f (map g xs)
map-through f g [] = refl
map-through f g (x ∷ xs) = ap (λ ys. f (g x) ∷ ys) (map-through f g xs)

pub all-outputs : (b : Bundle) (w : Workflow) (list : List Outputs) (nodes : List (Bor Node)) (i : ℕ) → length nodes ≤ i
    → map outputs_value list ≡ map (λ n. outputs_of b n.now) (take i nodes) → map (λ n. n.now) nodes ≡ nodes_of w
    → map outputs_value list ≡ map (outputs_of b) (nodes_of w)
all-outputs b w list nodes i le is same =
    is ∙ ap (map (λ (n : Bor Node). outputs_of b n.now)) (take_all i nodes le) ∙ map-through (outputs_of b) (λ (n : Bor Node). n.now) nodes ∙ ap (map (outputs_of b)) same
