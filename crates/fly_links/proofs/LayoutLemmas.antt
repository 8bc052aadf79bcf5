-- The nodes of a workflow by their ids.
use Rattle.std.proofs.Common.{◌≡◌, ℕ, ◌<◌, List, map, length, get_or, Some, None, Result, Ok, Err, is_eq, position, bytes_eq, sym, ◌∙◌, ap, arith}
use Rattle.std.specs.Borrow.{Bor}
use Rattle.std.specs.List.{slice_get}
use Rattle.std.specs.Result.{OnOk}
use Rattle.std.proofs.lemmas.List.{get_or-map, length-map}
use Rattle.std.proofs.lemmas.Map.Text.{is_eq-slice_cmp}
use Rattle.fly_types.specs.declared.text.Text.{Text}
use Rattle.fly_docs.specs.declared.node.Node.{Node}
use Rattle.fly_docs.specs.declared.workflow.Workflow.{Workflow}
use Rattle.fly_docs.specs.Plans.{nodes_of, node_named, place_named}
use Rattle.fly_links.specs.Tables.{Loan, loan_cmp}
use Rattle.fly_links.proofs.PlaceLemmas.{position_alike, position_map, find_at_place, find_nowhere}
use Rattle.fly_links.proofs.RepeatLemmas.{bytes_eq_back}

by_node : (w : Workflow) (id : Text) → place_named w id ≡ position (λ (n : Node). bytes_eq n.id id) (nodes_of w)
by_node w id =
    position_map (bytes_eq id) (λ (n : Node). n.id) (nodes_of w)
    ∙ position_alike (λ (n : Node). bytes_eq id n.id) (λ (n : Node). bytes_eq n.id id) (nodes_of w) (λ n. bytes_eq_back id n.id)

-- the node of an id stands at the place of the id
pub named_at : (w : Workflow) (id : Text) (i : ℕ) → place_named w id ≡ Some i → node_named w id ≡ slice_get (nodes_of w) i
named_at w id i e = find_at_place (λ (n : Node). bytes_eq n.id id) (nodes_of w) i (sym (by_node w id) ∙ e)

pub named_nowhere : (w : Workflow) (id : Text) → place_named w id ≡ None → node_named w id ≡ None
named_nowhere w id e = find_nowhere (λ (n : Node). bytes_eq n.id id) (nodes_of w) (sym (by_node w id) ∙ e)

-- a loan of a node has its id
pub id_of_loan : (xs : List (Bor Node)) (i : ℕ) (x : Bor Node) (d : Text) → i < length xs → x ≡ get_or xs i x
    → get_or (map (λ (n : Node). n.id) (map (λ n. n.now) xs)) i d ≡ x.now.id
id_of_loan xs i x d below here =
    get_or-map (λ (n : Node). n.id) (map (λ n. n.now) xs) i x.now d (omega (arith, below, length-map xs (λ (n : Bor Node). n.now)))
    ∙ ap (λ (n : Node). n.id) (get_or-map (λ (n : Bor Node). n.now) xs i x x.now below ∙ ap (λ (n : Bor Node). n.now) (sym here))

-- first places of loans are those of their texts
pub places_of_texts : (keys : List Loan) (key : Loan) → position (λ k. is_eq (loan_cmp key k)) keys ≡ position (bytes_eq key.now) (map (λ k. k.now) keys)
places_of_texts keys key =
    position_alike (λ k. is_eq (loan_cmp key k)) (λ (k : Loan). bytes_eq key.now k.now) keys (λ k. is_eq-slice_cmp key.now k.now)
    ∙ sym (position_map (bytes_eq key.now) (λ (k : Loan). k.now) keys)

pub on_ok : {T E : Type 0} (r : Result T E) {P Q : Type 0} → (P → Q) → OnOk r P → OnOk r Q
on_ok (Ok x) f p = f p
on_ok (Err e) f p = p
