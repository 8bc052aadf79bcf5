-- What comes of values, part by part.
use Rattle.std.proofs.Common.{◌≡◌, ◌≢◌, ℕ, suc, ◌+◌, ◌<◌, true, false, List, length, get_or, take, drop, filter}
use Rattle.std.proofs.Common.{Option, Some, None, Ok, Err, is_some, refl, sym, ◌∙◌, ap, subst}
use Rattle.std.proofs.lemmas.Bool.{false≢true}
use Rattle.fly_types.specs.declared.text.Text.{Text}
use Rattle.fly_types.specs.declared.kinds.LiteralType.{LiteralType, out-LiteralType}
use Rattle.fly_types.specs.declared.kinds.LiteralType.TheOpen.{LiteralType-F}
use Rattle.fly_types.specs.declared.literals.Literal.{Literal}
use Rattle.fly_types.specs.declared.literals.Literal.TheVariants as literal
use Rattle.fly_cast.specs.Castable.{sole_element}
use Rattle.fly_cast.specs.Conversion.{result_map, each_result, entry_result}
use Rattle.fly_cast.proofs.Lists.{each_result-push, each_result-fails, split_at, more}
use Rattle.fly_docs.specs.declared.binding.Bound.{Bound, out-Bound}
use Rattle.fly_docs.specs.declared.binding.Bound.TheOpen.{Bound-F}
use Rattle.fly_docs.specs.Layer.{BoundLayer}
use Rattle.fly_docs.specs.Bindings.{Promised}
use Rattle.fly_docs.specs.Fitting.{bound_fits}
use Rattle.fly_docs.specs.NodeInterfaces.{Source}
use Rattle.fly_docs.specs.SlotInputs as docs
use Rattle.fly_docs.specs.SlotInputs.{Known, Taken, InputFault, or_unknown}
use Rattle.fly_docs.specs.SlotInputs.{variant_value, bound_form_value, bound_value}
use Rattle.fly_state.specs.declared.checks.Taking.{Taking}
use Rattle.fly_state.specs.declared.checks.Taking.TheVariants as taking
use Rattle.fly_state.specs.Checks.{IsTakingOf}
use Rattle.fly_state.proofs.BindingValues.{bound_value-at}

pub taking-same : {X : Type 0} (v w : Taken X) (r : Taking) → v ≡ w → IsTakingOf w r → IsTakingOf v r
taking-same v w r e h = subst (λ x. IsTakingOf x r) (sym e) h

pub taking-map : {X Y : Type 0} (g : X → Y) (wanted : Taken X) (r : Taking) → IsTakingOf wanted r
    → IsTakingOf (result_map g wanted) r
taking-map g (Ok x) taking.There h = tt
taking-map g (Ok x) taking.Outside h = h
taking-map g (Ok x) taking.Unknown h = h
taking-map g (Err e) r h = h

-- ---- lists

there-ok : {X : Type 0} (r : Taken X) → IsTakingOf r taking.There → (x : X) × (r ≡ Ok x)
there-ok (Ok x) h = (x, refl)
there-ok (Err (docs.enum_outside text)) h = absurd h
there-ok (Err (docs.unequal_lengths a b)) h = absurd h
there-ok (Err (docs.too_many_items n)) h = absurd h
there-ok (Err docs.unknown) h = absurd h

-- what is not there is a fault
not-there : {X : Type 0} (w : Taken X) (r : Taking) → r ≢ taking.There → IsTakingOf w r
    → (e : InputFault) × (w ≡ Err e) × IsTakingOf {X = X} (Err e) r
not-there w taking.There apart h = absurd (apart refl)
not-there (Ok x) taking.Outside apart h = absurd h
not-there (Ok x) taking.Unknown apart h = absurd h
not-there (Err e) taking.Outside apart h = (e, refl, h)
not-there (Err e) taking.Unknown apart h = (e, refl, h)

-- a fault is one of values of any kind
fault-alike : (X Y : Type 0) (e : InputFault) (r : Taking) → IsTakingOf {X = X} (Err e) r
    → IsTakingOf {X = Y} (Err e) r
fault-alike X Y (docs.enum_outside text) taking.There h = h
fault-alike X Y (docs.enum_outside text) taking.Outside h = h
fault-alike X Y (docs.enum_outside text) taking.Unknown h = h
fault-alike X Y (docs.unequal_lengths a b) r h = absurd h
fault-alike X Y (docs.too_many_items n) r h = absurd h
fault-alike X Y docs.unknown taking.There h = h
fault-alike X Y docs.unknown taking.Outside h = h
fault-alike X Y docs.unknown taking.Unknown h = h

-- what stops at an element stops the list
pub stops-taking : {X Y : Type 0} (f : X → Taken Y) (all : List X) (i : ℕ) (x : X) (r : Taking)
    → i < length all → x ≡ get_or all i x → IsTakingOf (each_result f (take i all)) taking.There
    → r ≢ taking.There → IsTakingOf (f x) r → IsTakingOf (each_result f all) r
stops-taking {X} {Y} f all i x r lt is before apart here =
    let done = there-ok (each_result f (take i all)) before in
    let stop = not-there (f x) r apart here in
    let fails = each_result-fails f (take i all) done.0 x (drop (suc i) all) stop.0 done.1 stop.1 in
    taking-same _ (Err stop.0) r (ap (each_result f) (split_at all i x lt is) ∙ fails)
    (fault-alike Y (List Y) stop.0 r stop.2)

-- one element more
pub more-there : {X Y : Type 0} (f : X → Taken Y) (all : List X) (i : ℕ) (x : X)
    → i < length all → x ≡ get_or all i x → IsTakingOf (each_result f (take i all)) taking.There
    → IsTakingOf (f x) taking.There → IsTakingOf (each_result f (take (i + 1) all)) taking.There
more-there f all i x lt is before here =
    let done = there-ok (each_result f (take i all)) before in
    let one = there-ok (f x) here in
    let push = each_result-push f (take i all) done.0 x one.0 done.1 one.1 in
    subst (λ w. IsTakingOf w taking.There) (sym (ap (each_result f) (more all i x lt is) ∙ push)) tt

-- ---- what is bound, by its form

pub scalar-there : (o : Option Literal) → is_some o ≡ true → IsTakingOf (or_unknown o) taking.There
scalar-there (Some l) e = tt
scalar-there None e = absurd (false≢true e)

pub scalar-unknown : (o : Option Literal) → is_some o ≡ false → IsTakingOf (or_unknown o) taking.Unknown
scalar-unknown None e = tt
scalar-unknown (Some l) e = absurd (false≢true (sym e))

module _ (source : Promised → Source) (known : Known) (x : Bound) (t : LiteralType) (r : Taking) where
  pub taking-collection : (es es' : List Bound) (y y' : LiteralType)
      → out-Bound x ≡ Bound-F.Collection es → out-LiteralType t ≡ LiteralType-F.Collection y → es' ≡ es → y' ≡ y
      → IsTakingOf (each_result (λ e. bound_value source known e y') es') r
      → IsTakingOf (bound_value source known x t) r
  taking-collection es es' y y' bound kind same_elements same_kind h =
      taking-same _ (result_map literal.Collection (each_result (λ e. bound_value source known e y') es')) r
      (bound_value-at source known x t (Bound-F.Collection es) (LiteralType-F.Collection y) bound kind
      ∙ (λ i. result_map literal.Collection
      (each_result (λ e. bound_value source known e (sym same_kind i)) (sym same_elements i))))
      (taking-map literal.Collection _ r h)

  pub taking-entries : (es es' : List (Text × Bound)) (y y' : LiteralType)
      → out-Bound x ≡ Bound-F.Map es → out-LiteralType t ≡ LiteralType-F.Map y → es' ≡ es → y' ≡ y
      → IsTakingOf (each_result (entry_result (λ e. bound_value source known e y')) es') r
      → IsTakingOf (bound_value source known x t) r
  taking-entries es es' y y' bound kind same_entries same_kind h =
      taking-same _ (result_map literal.Map (each_result (entry_result (λ e. bound_value source known e y')) es')) r
      (bound_value-at source known x t (Bound-F.Map es) (LiteralType-F.Map y) bound kind
      ∙ (λ i. result_map literal.Map
      (each_result (entry_result (λ e. bound_value source known e (sym same_kind i))) (sym same_entries i))))
      (taking-map literal.Map _ r h)

  -- a list or a map as a value of a union
  pub taking-variants : (p : BoundLayer) (ts ts' : List LiteralType)
      → out-Bound x ≡ p → out-LiteralType t ≡ LiteralType-F.Union ts → ts' ≡ ts
      → bound_form_value source known (bound_value source known) x t p (LiteralType-F.Union ts)
      ≡ variant_value (bound_value source known x) (sole_element (filter (bound_fits source x) ts))
      → IsTakingOf (variant_value (bound_value source known x) (sole_element (filter (bound_fits source x) ts'))) r
      → IsTakingOf (bound_value source known x t) r
  taking-variants p ts ts' bound kind same form h =
      let value = bound_value source known x in
      let one : List LiteralType → Option LiteralType = λ us. sole_element (filter (bound_fits source x) us) in
      taking-same _ (variant_value value (one ts')) r
      (bound_value-at source known x t p (LiteralType-F.Union ts) bound kind ∙ form
      ∙ ap (λ us. variant_value value (one us)) (sym same)) h
