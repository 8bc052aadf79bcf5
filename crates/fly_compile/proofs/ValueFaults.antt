-- The faults of a binding, by what was found of its promises.
use Rattle.std.proofs.Common.{◌≡◌, Bool, true, false, cond, ◌||◌, List, [], ◌∷◌, ◌++◌, map, filter, codes, Option, Some, refl, sym, ◌∙◌, ap}
use Rattle.std.specs.List.{list_any}
use Rattle.fly_types.specs.declared.text.Text.{Text}
use Rattle.fly_docs.specs.declared.binding.Binding.{Binding}
use Rattle.fly_docs.specs.declared.binding.Bound.{Bound}
use Rattle.fly_docs.specs.Bindings.{promises_of}
use Rattle.fly_docs.specs.NodeInterfaces.{Source, Wanted}
use Rattle.fly_faults.specs.declared.fault.Code.TheVariants as code
use Rattle.fly_compile.specs.declared.promises.Promise.{Promise}
use Rattle.fly_faults.specs.BindingFaults.{Site, is_no_node, is_no_variable, has_source, fits_wanted, misfit, node_faults, variable_faults, value_faults}
use Rattle.fly_faults.specs.Places.{variable_place, fault_with}
use Rattle.fly_compile.specs.Promises.{known, with_sources}
use Rattle.fly_faults.proofs.Loops.{through, any-through}

-- a test of the promises that were found
pub has-test : (is_such : Source → Bool) (site : Site) (x : Bound) (ps : List Promise) (r : Bool) → map known ps ≡ with_sources site.source (promises_of x)
    → r ≡ list_any (λ promise. is_such (known promise).1) ps → has_source is_such site x ≡ r
has-test is_such site x ps r e test =
    sym (test ∙ any-through known (λ promise. (promise, site.source promise)) (λ k. is_such k.1) ps (promises_of x) e)

-- what is wrong with a value, by the three tests
pub value-by : (site : Site) (x : Binding) (o : Option Wanted) (w : Wanted) (f n v : Bool) → o ≡ Some w → fits_wanted site x.bound w ≡ f
    → has_source is_no_node site x.bound ≡ n → has_source is_no_variable site x.bound ≡ v
    → value_faults site x o ≡ cond ((f || n) || v) [] (misfit site x w ∷ [])
value-by site x o w f n v there fits lacks_node lacks_variable =
    ap (value_faults site x) there ∙ (λ i. cond ((fits i || lacks_node i) || lacks_variable i) [] (misfit site x w ∷ []))

pub lacks-node : (site : Site) (x : Binding) (o : Option Wanted) (w : Wanted) (n : Bool) → o ≡ Some w → has_source is_no_node site x.bound ≡ n → n ≡ true
    → value_faults site x o ≡ []
lacks-node site x o w n there lacks holds =
    value-by site x o w _ true _ there refl (lacks ∙ holds) refl ∙ any (fits_wanted site x.bound w) (has_source is_no_variable site x.bound)
  where
    any : (f v : Bool) → cond ((f || true) || v) [] (misfit site x w ∷ []) ≡ []
    any true v = refl
    any false v = refl

pub lacks-variable : (site : Site) (x : Binding) (o : Option Wanted) (w : Wanted) (v : Bool) → o ≡ Some w → has_source is_no_variable site x.bound ≡ v → v ≡ true
    → value_faults site x o ≡ []
lacks-variable site x o w v there lacks holds =
    value-by site x o w _ _ true there refl refl (lacks ∙ holds) ∙ any (fits_wanted site x.bound w) (has_source is_no_node site x.bound)
  where
    any : (f n : Bool) → cond ((f || n) || true) [] (misfit site x w ∷ []) ≡ []
    any true n = refl
    any false true = refl
    any false false = refl

-- ---- promises

pub node-faults-by : (site : Site) (x : Binding) (ps qs : List Promise) (place : Text) → map known ps ≡ with_sources site.source (promises_of x.bound) → qs ≡ ps
    → place ≡ variable_place site.place x.var
    → map (λ promise. fault_with code.NodeNotFound place (known promise).0.0) (filter (λ promise. is_no_node (known promise).1) qs) ≡ node_faults site x
node-faults-by site x ps qs place e same there =
    (λ i. map (λ promise. fault_with code.NodeNotFound (there i) (known promise).0.0) (filter (λ promise. is_no_node (known promise).1) (same i)))
    ∙ through known (λ promise. (promise, site.source promise)) (λ k. is_no_node k.1) (λ k. fault_with code.NodeNotFound (variable_place site.place x.var) k.0.0)
    ps (promises_of x.bound) e

pub variable-faults-by : (site : Site) (x : Binding) (ps qs : List Promise) (place : Text) → map known ps ≡ with_sources site.source (promises_of x.bound) → qs ≡ ps
    → place ≡ variable_place site.place x.var
    → map (λ promise. fault_with code.VariableNotFound place ((known promise).0.0 ++ codes "." ++ (known promise).0.1)) (filter (λ promise. is_no_variable (known promise).1) qs)
    ≡ variable_faults site x
variable-faults-by site x ps qs place e same there =
    (λ i. map (λ promise. fault_with code.VariableNotFound (there i) ((known promise).0.0 ++ codes "." ++ (known promise).0.1)) (filter (λ promise. is_no_variable (known promise).1) (same i)))
    ∙ through known (λ promise. (promise, site.source promise)) (λ k. is_no_variable k.1)
    (λ k. fault_with code.VariableNotFound (variable_place site.place x.var) (k.0.0 ++ codes "." ++ k.0.1)) ps (promises_of x.bound) e
