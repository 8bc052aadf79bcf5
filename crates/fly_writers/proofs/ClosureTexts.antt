-- The text of a closure, a field at a time.
use Rattle.std.proofs.Common.{◌≡◌, ◌⊎◌, inl, inr, ℕ, ◌==◌, ◌||◌, Bool, true, false, List, [], ◌∷◌, ◌++◌, length, codes, Option, Some, None, is_some, refl, sym, ap, subst, ◌∙◌, append_assoc, append-nil, arith}
use Rattle.std.proofs.lemmas.Bool.Decides.{nat_tests}
use Rattle.std.proofs.lemmas.Bool.{false≢true}
use Rattle.serde_json.specs.View.{items_of}
use Rattle.serde_json.specs.Data.{Data, string, array, no_members, Members, member}
use Rattle.serde_json.specs.Written.{comma_if, compact_text, items_text, members_text}
use Rattle.fly_docs.specs.declared.workflow.Workflow.{Workflow}
use Rattle.fly_docs.specs.declared.closure.Connections.{Connections}
use Rattle.fly_writers.specs.Json.{Fields, with_fields, message, optional_list}
use Rattle.fly_writers.specs.Closures.{compiled_workflow_json, compiled_workflows, name_text, field_text, PutsField}

regroup : (p q c m : List ℕ) → (((p ++ q) ++ 58 ∷ []) ++ c) ++ m ≡ p ++ (q ++ 58 ∷ (c ++ m))
regroup p q c m = simp append_assoc

-- a field before the rest of an object
field_before : (later : Bool) (name : List ℕ) (d : Data) (ms : Members)
    → field_text later name (Some d) ++ members_text true ms ≡ members_text later (member name d ms)
field_before later name d ms =
    regroup (comma_if later) (compact_text (string name)) (compact_text d) (members_text true ms)

abbrev fields : Option Data → Option Data → Option Data → Fields
fields a b c = (codes "primary", a) ∷ (codes "subWorkflows", b) ∷ (codes "tasks", c) ∷ []

abbrev rest_of : Bool → Option Data → Option Data → Option Data → List ℕ
rest_of later a b c =
    field_text later (codes "primary") a ++ (field_text (later || is_some a) (codes "subWorkflows") b
    ++ (field_text ((later || is_some a) || is_some b) (codes "tasks") c ++ 125 ∷ []))

last : (later : Bool) (c : Option Data) → field_text later (codes "tasks") c ++ 125 ∷ []
    ≡ members_text later (with_fields no_members ((codes "tasks", c) ∷ []))
last true None = refl
last false None = refl
last later (Some c) = field_before later (codes "tasks") c no_members

last_two : (later : Bool) (b c : Option Data)
    → field_text later (codes "subWorkflows") b ++ (field_text (later || is_some b) (codes "tasks") c ++ 125 ∷ [])
    ≡ members_text later (with_fields no_members ((codes "subWorkflows", b) ∷ (codes "tasks", c) ∷ []))
last_two true None c = last true c
last_two false None c = last false c
last_two true (Some b) None = field_before true (codes "subWorkflows") b no_members
last_two false (Some b) None = field_before false (codes "subWorkflows") b no_members
last_two true (Some b) (Some c) =
    ap (λ r. field_text true (codes "subWorkflows") (Some b) ++ r) (last true (Some c))
    ∙ field_before true (codes "subWorkflows") b (member (codes "tasks") c no_members)
last_two false (Some b) (Some c) =
    ap (λ r. field_text false (codes "subWorkflows") (Some b) ++ r) (last true (Some c))
    ∙ field_before false (codes "subWorkflows") b (member (codes "tasks") c no_members)

all_three : (a b c : Option Data) → rest_of false a b c ≡ members_text false (with_fields no_members (fields a b c))
all_three None b c = last_two false b c
all_three (Some a) None None = field_before false (codes "primary") a no_members
all_three (Some a) (Some b) None =
    ap (λ r. field_text false (codes "primary") (Some a) ++ r) (last_two true (Some b) None)
    ∙ field_before false (codes "primary") a (member (codes "subWorkflows") b no_members)
all_three (Some a) None (Some c) =
    ap (λ r. field_text false (codes "primary") (Some a) ++ r) (last_two true None (Some c))
    ∙ field_before false (codes "primary") a (member (codes "tasks") c no_members)
all_three (Some a) (Some b) (Some c) =
    ap (λ r. field_text false (codes "primary") (Some a) ++ r) (last_two true (Some b) (Some c))
    ∙ field_before false (codes "primary") a
    (member (codes "subWorkflows") b (member (codes "tasks") c no_members))

-- the text of an object of the three fields, as it is put together
pub closure-text : (a b c : Option Data) (one two three four : List ℕ) (first second : Bool)
    → one ≡ (123 ∷ []) ++ field_text false (codes "primary") a → first ≡ (false || is_some a)
    → two ≡ one ++ field_text first (codes "subWorkflows") b → second ≡ (first || is_some b)
    → three ≡ two ++ field_text second (codes "tasks") c → four ≡ three ++ 125 ∷ []
    → four ≡ compact_text (message ((codes "primary", a) ∷ (codes "subWorkflows", b) ∷ (codes "tasks", c) ∷ []))
closure-text a b c one two three four first second p f q s r e =
    e ∙ ap (λ x. x ++ 125 ∷ []) (r ∙ ap (λ x. x ++ field_text second (codes "tasks") c)
    (q ∙ ap (λ x. x ++ field_text first (codes "subWorkflows") b) p))
    ∙ ap (λ x. ((((123 ∷ []) ++ field_text false (codes "primary") a) ++ field_text first (codes "subWorkflows") b)
    ++ field_text x (codes "tasks") c) ++ 125 ∷ []) s
    ∙ ap (λ x. ((((123 ∷ []) ++ field_text false (codes "primary") a) ++ field_text x (codes "subWorkflows") b)
    ++ field_text (x || is_some b) (codes "tasks") c) ++ 125 ∷ []) f
    ∙ together (field_text false (codes "primary") a) (field_text (is_some a) (codes "subWorkflows") b)
    (field_text (is_some a || is_some b) (codes "tasks") c)
    ∙ ap (λ x. 123 ∷ x) (all_three a b c)
  where
    together : (x y z : List ℕ) → ((((123 ∷ []) ++ x) ++ y) ++ z) ++ 125 ∷ [] ≡ 123 ∷ (x ++ (y ++ (z ++ 125 ∷ [])))
    together x y z = simp append_assoc

-- the same fields have the same text
pub closure-same : (a b c x y z : Option Data) → a ≡ x → b ≡ y → c ≡ z
    → compact_text (message ((codes "primary", a) ∷ (codes "subWorkflows", b) ∷ (codes "tasks", c) ∷ []))
    ≡ compact_text (message ((codes "primary", x) ∷ (codes "subWorkflows", y) ∷ (codes "tasks", z) ∷ []))
closure-same a b c x y z p q r =
    ap (λ o. compact_text (message (fields o b c))) p ∙ ap (λ o. compact_text (message (fields x o c))) q
    ∙ ap (λ o. compact_text (message (fields x y o))) r

-- ---- the field of the other workflows

no_workflows : (ws : List Workflow) (ks : List Connections) → ((length ws == 0) ≡ true) ⊎ ((length ks == 0) ≡ true)
    → compiled_workflows ws ks ≡ []
no_workflows [] ks h = refl
no_workflows (w ∷ ws) [] h = refl
no_workflows (w ∷ ws) (k ∷ ks) (inl e) =
    let none : length (w ∷ ws) ≡ 0 = grind (arith, nat_tests, e) in absurd (omega (arith, none))
no_workflows (w ∷ ws) (k ∷ ks) (inr e) =
    let none : length (k ∷ ks) ≡ 0 = grind (arith, nat_tests, e) in absurd (omega (arith, none))

some_workflows : (ws : List Workflow) (ks : List Connections) → (length ws == 0) ≡ false → (length ks == 0) ≡ false
    → (d : Data) × (ds : List Data) × (compiled_workflows ws ks ≡ d ∷ ds)
some_workflows [] ks e f = absurd (false≢true (sym e))
some_workflows (w ∷ ws) [] e f = absurd (false≢true (sym f))
some_workflows (w ∷ ws) (k ∷ ks) e f = (compiled_workflow_json w k, compiled_workflows ws ks, refl)

or_false : (b : Bool) → b ≡ (b || false)
or_false true = refl
or_false false = refl

or_true : (b : Bool) → true ≡ (b || true)
or_true true = refl
or_true false = refl

pub none-put : (old : List ℕ) (later : Bool) (name : List ℕ) (ws : List Workflow) (ks : List Connections)
    → ((length ws == 0) ≡ true) ⊎ ((length ks == 0) ≡ true)
    → PutsField old old later later name (optional_list (compiled_workflows ws ks))
none-put old later name ws ks h =
    subst (λ ds. PutsField old old later later name (optional_list ds)) (sym (no_workflows ws ks h))
    (record { text = sym (append-nil old); stands = or_false later })

pub some-put : (old one two new : List ℕ) (later : Bool) (name : List ℕ) (ws : List Workflow) (ks : List Connections)
    → (length ws == 0) ≡ false → (length ks == 0) ≡ false → one ≡ old ++ name_text later name
    → two ≡ one ++ 91 ∷ [] → new ≡ two ++ items_text false (items_of (compiled_workflows ws ks))
    → PutsField old new later true name (optional_list (compiled_workflows ws ks))
some-put old one two new later name ws ks e f p q r =
    let some = some_workflows ws ks e f in
    let put : PutsField old new later true name (Some (array (items_of (some.0 ∷ some.1)))) = record {
      text = r ∙ ap (λ x. x ++ items_text false (items_of (compiled_workflows ws ks)))
          (q ∙ ap (λ x. x ++ 91 ∷ []) p)
          ∙ bracket old (name_text later name) (items_text false (items_of (compiled_workflows ws ks)))
          ∙ ap (λ ds. old ++ (name_text later name ++ 91 ∷ items_text false (items_of ds))) some.2;
      stands = or_true later;
    } in
    subst (λ ds. PutsField old new later true name (optional_list ds)) (sym some.2) put
  where
    bracket : (o n t : List ℕ) → ((o ++ n) ++ 91 ∷ []) ++ t ≡ o ++ (n ++ 91 ∷ t)
    bracket o n t = simp append_assoc
