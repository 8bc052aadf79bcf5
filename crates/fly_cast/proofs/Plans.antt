-- The steps that the rules for two types give convert as the rules say.
use Rattle.std.proofs.Common.{◌≡◌, ◌+◌, ◌*◌, ◌≤◌, true, false, List, [], ◌∷◌, map, filter, Result, Ok, Err, Option, Some, None, Bor, IfOk, refl, sym, ◌∙◌, ap, subst, arith}
use Rattle.std.proofs.lemmas.List.Elements.{recursion_from_All, All-from_recursion}
use Rattle.fly_types.specs.declared.text.Text.{Text}
use Rattle.fly_types.specs.declared.kinds.Simple.{Simple}
use Rattle.fly_types.specs.declared.kinds.Simple.TheVariants as simple
use Rattle.fly_types.specs.declared.kinds.LiteralType.{LiteralType, out-LiteralType, roll-LiteralType}
use Rattle.fly_types.specs.declared.kinds.LiteralType.TheOpen.{LiteralType-F}
use Rattle.fly_types.specs.declared.kinds.LiteralType.TheVariants as type
use Rattle.fly_types.specs.declared.kinds.LiteralType.TheViews as type_view
use Rattle.fly_types.specs.declared.literals.Literal.{Literal, out-Literal, roll-Literal}
use Rattle.fly_types.specs.declared.literals.Literal.TheOpen.{Literal-F}
use Rattle.fly_types.specs.declared.literals.Literal.TheVariants as literal
use Rattle.fly_types.specs.declared.literals.Literal.TheViews as view
use Rattle.fly_types.specs.Layer.{TypeLayer, LiteralLayer}
use Rattle.fly_types.specs.Membership.{IsMember, IsCollectionOf, IsMapOf, IsUnionWhere, IsVariant, simple_type}
use Rattle.fly_types.specs.Levels.{type_levels, largest}
use Rattle.fly_cast.specs.declared.plan.Step.{Step}
use Rattle.fly_cast.specs.declared.plan.Step.TheVariants as step
use Rattle.fly_cast.specs.Castable.{sole_element, is_castable}
use Rattle.fly_cast.specs.Conversion.{Conversion, result_map, each_result, conversion_into, conversion_of_value, conversion_of_elements, conversion_of_entries, conversion_of_text, conversion_by_form, conversion_of}
use Rattle.fly_cast.specs.Plan.{conversion_by, IsCheck, Suits, depth_of, IsPlan, steps_around}
use Rattle.fly_cast.proofs.Levels.{type_levels-positive, sole_element-levels}
use Rattle.fly_cast.proofs.Lists.{each-map}
use Rattle.fly_cast.proofs.Members.{never}
use Rattle.fly_cast.proofs.Converts.{conversion_of-same, conversion_of-differ, levels-at, member-as, elements-same, entries-same}

-- ---- what stays

out-same : (l m : Literal) → out-Literal l ≡ out-Literal m → l ≡ m
out-same l m e = sym (view.roll-out-Literal l) ∙ ap roll-Literal e ∙ view.roll-out-Literal m

all_stay : {X : Type 0} (xs : List X) → each_result {E = Text} (λ x. Ok x) xs ≡ Ok xs
all_stay [] = refl
all_stay (x ∷ xs) = ap (result_map (λ ys. x ∷ ys)) (all_stay xs)

elements-stay : (l : Literal) (m : LiteralLayer) → out-Literal l ≡ m → conversion_of_elements (λ x. Ok x) l m ≡ Ok l
elements-stay l (Literal-F.Collection xs) e =
    ap (result_map literal.Collection) (all_stay xs)
    ∙ ap Ok (sym (out-same l (literal.Collection xs) (e ∙ sym (view.outs-Collection xs))))
elements-stay l _ e = refl

entries-stay : (l : Literal) (m : LiteralLayer) → out-Literal l ≡ m → conversion_of_entries (λ x. Ok x) l m ≡ Ok l
entries-stay l (Literal-F.Map xs) e =
    ap (result_map literal.Map) (all_stay xs) ∙ ap Ok (sym (out-same l (literal.Map xs) (e ∙ sym (view.outs-Map xs))))
entries-stay l _ e = refl

collection-map : (P Q : Literal → Type 0) (m : LiteralLayer) → ((l : Literal) → P l → Q l) → IsCollectionOf P m
    → IsCollectionOf Q m
collection-map P Q (Literal-F.Collection xs) f h =
    All-from_recursion Q xs (each-map P Q f xs (recursion_from_All P xs h))
collection-map P Q _ f h = absurd h

entries-map : (P Q : Literal → Type 0) (m : LiteralLayer) → ((l : Literal) → P l → Q l) → IsMapOf P m → IsMapOf Q m
entries-map P Q (Literal-F.Map xs) f h =
    All-from_recursion (λ e. Q e.1) xs
    (each-map (λ e. P e.1) (λ e. Q e.1) (λ e. f e.1) xs (recursion_from_All (λ e. P e.1) xs h))
entries-map P Q _ f h = absurd h

-- ---- two types that are equal, and two that differ

pub plan-same : (a b : LiteralType) → a ≡ b → IsPlan [] a b
plan-same a b e = record {
  tests = tt;
  suits = λ l h. tt;
  value = λ l h. sym (conversion_of-same l a b true h (λ _. e, λ _. refl) refl);
  depth = omega arith;
}

-- what the rules for two types that differ make of a literal
abbrev Rule : Literal → LiteralType → LiteralType → TypeLayer → TypeLayer → Conversion
Rule l a b p q = conversion_by_form conversion_of l a b p q

by_rule : (l : Literal) (a b : LiteralType) (p q : TypeLayer) → (a ≡ b → ⊥) → out-LiteralType a ≡ p
    → out-LiteralType b ≡ q → IsMember a l
    → Rule l a b p q ≡ conversion_of l a b
by_rule l a b p q differ ea eb h =
    sym (conversion_of-differ l a b false h (never differ) refl ∙ (λ i. Rule l a b (ea i) (eb i)))

-- the layers between which no rule changes a literal
abbrev pub Stays : TypeLayer → TypeLayer → Type 0
Stays (LiteralType-F.Union ts) q = ⊥
Stays p (LiteralType-F.Union ts) = ⊥
Stays (LiteralType-F.Collection x) (LiteralType-F.Collection y) = ⊥
Stays (LiteralType-F.Map x) (LiteralType-F.Map y) = ⊥
Stays (LiteralType-F.Simple simple.Text) (LiteralType-F.Enum values) = ⊥
Stays p q = Unit {0}

simple-stays : (l : Literal) (a b : LiteralType) (s : Simple) (q : TypeLayer) → Stays (LiteralType-F.Simple s) q
    → Rule l a b (LiteralType-F.Simple s) q ≡ Ok l
simple-stays l a b simple.Text (LiteralType-F.Enum values) h = absurd h
simple-stays l a b s (LiteralType-F.Union ts) h = absurd h
simple-stays l a b s q h = refl

form-stays : (l : Literal) (a b : LiteralType) (p q : TypeLayer) → Stays p q → Rule l a b p q ≡ Ok l
form-stays l a b (LiteralType-F.Union ts) q h = absurd h
form-stays l a b p (LiteralType-F.Union ts) h = absurd h
form-stays l a b (LiteralType-F.Collection x) (LiteralType-F.Collection y) h = absurd h
form-stays l a b (LiteralType-F.Map x) (LiteralType-F.Map y) h = absurd h
form-stays l a b (LiteralType-F.Simple s) q h = simple-stays l a b s q h
form-stays l a b p q h = refl

pub plan-stays : (a b : LiteralType) → (a ≡ b → ⊥) → Stays (out-LiteralType a) (out-LiteralType b) → IsPlan [] a b
plan-stays a b differ h = record {
  tests = tt;
  suits = λ l m. tt;
  value = λ l m. sym (form-stays l a b (out-LiteralType a) (out-LiteralType b) h)
      ∙ by_rule l a b (out-LiteralType a) (out-LiteralType b) differ refl refl m;
  depth = omega arith;
}

-- ---- from a union, and into one

pub plan-from_union : (a b : LiteralType) (ts : List LiteralType) (vs : Bor (List LiteralType))
    (to : Bor LiteralType) → (a ≡ b → ⊥)
    → out-LiteralType a ≡ LiteralType-F.Union ts → vs.now ≡ ts → to.now ≡ b → IsPlan (step.FromUnion vs to ∷ []) a b
plan-from_union a b ts vs to differ ea ev et = record {
  tests = tt;
  suits = λ l h. subst (λ ts. IsUnionWhere (λ variant value. IsVariant ts variant value) (out-Literal l)) (sym ev)
      (member-as a l (LiteralType-F.Union ts) ea h);
  value = λ l h. (λ i. conversion_of_value (λ value variant. conversion_of value variant (et i)) l (out-Literal l))
      ∙ by_rule l a b (LiteralType-F.Union ts) (out-LiteralType b) differ ea refl h;
  depth = omega (
    arith,
    levels-at a (LiteralType-F.Union ts) ea,
    ap
        (λ ts. largest (map type_levels ts)) ev,
    ap type_levels et,
  );
}

abbrev pub IsNoUnion : TypeLayer → Type 0
IsNoUnion (LiteralType-F.Union ts) = ⊥
IsNoUnion _ = Unit {0}

form-into : (l : Literal) (a b : LiteralType) (p : TypeLayer) (ts : List LiteralType) → IsNoUnion p
    → Rule l a b p (LiteralType-F.Union ts)
    ≡ conversion_into (conversion_of l a) l (sole_element (filter (is_castable a) ts))
form-into l a b (LiteralType-F.Union ss) ts h = absurd h
form-into l a b _ ts h = refl

into : (l : Literal) (a b : LiteralType) (ts : List LiteralType) (o : Option LiteralType) → (a ≡ b → ⊥)
    → IsNoUnion (out-LiteralType a)
    → out-LiteralType b ≡ LiteralType-F.Union ts → sole_element (filter (is_castable a) ts) ≡ o → IsMember a l
    → conversion_into (conversion_of l a) l o ≡ conversion_of l a b
into l a b ts o differ plain eb which h =
    sym (form-into l a b (out-LiteralType a) ts plain ∙ ap (conversion_into (conversion_of l a) l) which)
    ∙ by_rule l a b (out-LiteralType a) (LiteralType-F.Union ts) differ refl eb h

pub plan-into_union : (a b variant : LiteralType) (ts : List LiteralType) (v : Bor LiteralType) (s : List Step)
    → (a ≡ b → ⊥)
    → IsNoUnion (out-LiteralType a) → out-LiteralType b ≡ LiteralType-F.Union ts
    → sole_element (filter (is_castable a) ts) ≡ Some variant
    → v.now ≡ variant → IsPlan s a variant → IsPlan (step.IntoUnion v ∷ s) a b
plan-into_union a b variant ts v s differ plain eb which ev plan = record {
  tests = tt;
  suits = plan.suits;
  value = λ l h. (λ i. result_map (λ value. literal.Union value (ev i)) (plan.value l h i))
      ∙ into l a b ts (Some variant) differ plain eb which h;
  depth = omega (
    arith,
    plan.depth,
    levels-at b (LiteralType-F.Union ts) eb,
    sole_element-levels
        (is_castable a) ts variant which,
  );
}

pub plan-into_none : (a b : LiteralType) (ts : List LiteralType) → (a ≡ b → ⊥) → IsNoUnion (out-LiteralType a)
    → out-LiteralType b ≡ LiteralType-F.Union ts → sole_element (filter (is_castable a) ts) ≡ None → IsPlan [] a b
plan-into_none a b ts differ plain eb which = record {
  tests = tt;
  suits = λ l h. tt;
  value = λ l h. into l a b ts None differ plain eb which h;
  depth = omega arith;
}

-- ---- a text into an enum

no-text : (values : List Text) (l : Literal) (s : Simple) (m : LiteralLayer) → simple_type m ≡ Some s
    → (s ≡ simple.Text → ⊥)
    → conversion_of_text values l m ≡ Ok l
no-text values l s (Literal-F.Text text) e n = let same : s ≡ simple.Text = cc in absurd (n same)
no-text values l s _ e n = refl

-- a simple type other than that of texts has no texts to test
simple-rule : (l : Literal) (a b : LiteralType) (s : Simple) (values : List Text) → simple_type (out-Literal l) ≡ Some s
    → conversion_of_text values l (out-Literal l) ≡ Rule l a b (LiteralType-F.Simple s) (LiteralType-F.Enum values)
simple-rule l a b simple.Text values e = refl
simple-rule l a b s values e = no-text values l s (out-Literal l) e (λ is. cc)

pub plan-texts : (a b : LiteralType) (s : Simple) (values : List Text) (vs : Bor (List Text)) → (a ≡ b → ⊥)
    → out-LiteralType a ≡ LiteralType-F.Simple s
    → out-LiteralType b ≡ LiteralType-F.Enum values → vs.now ≡ values → IsPlan (step.Texts vs ∷ []) a b
plan-texts a b s values vs differ ea eb ev = record {
  tests = tt;
  suits = λ l h. tt;
  value = λ l h. ap (λ xs. conversion_of_text xs l (out-Literal l)) ev
      ∙ simple-rule l a b s values (member-as a l (LiteralType-F.Simple s) ea h)
      ∙ by_rule l a b (LiteralType-F.Simple s) (LiteralType-F.Enum values) differ ea eb h;
  depth = omega (arith, type_levels-positive a);
}

-- ---- collections

record Collections (a b x y : LiteralType) (s : List Step) : Type 0 where
  differ : a ≡ b → ⊥
  from : out-LiteralType a ≡ LiteralType-F.Collection x
  to : out-LiteralType b ≡ LiteralType-F.Collection y
  plan : IsPlan s x y

elements-value : (a b x y : LiteralType) (s : List Step) → Collections a b x y s → (l : Literal) → IsMember a l
    → conversion_of_elements (conversion_by s) l (out-Literal l) ≡ conversion_of l a b
elements-value a b x y s c l h =
    elements-same (conversion_by s) (λ e. conversion_of e x y) l (IsMember x) (out-Literal l)
    (member-as a l (LiteralType-F.Collection x) c.from h) c.plan.value
    ∙ by_rule l a b (LiteralType-F.Collection x) (LiteralType-F.Collection y) c.differ c.from c.to h

elements-depth : (a b x y : LiteralType) (s : List Step) → Collections a b x y s
    → 4 + depth_of s ≤ 4 * (type_levels a + type_levels b)
elements-depth a b x y s c =
    omega (
      arith,
      c.plan.depth,
      levels-at a (LiteralType-F.Collection x) c.from,
      levels-at b
          (LiteralType-F.Collection y) c.to,
    )

elements-tested : (a b x y : LiteralType) (s : List Step) → IsCheck s → Collections a b x y s
    → IsPlan (step.TextsOfElements ∷ s) a b
elements-tested a b x y s check c = record {
  tests = check;
  suits = λ l h. check;
  value = elements-value a b x y s c;
  depth = elements-depth a b x y s c;
}

elements-rebuilt : (a b x y : LiteralType) (s : List Step) → Collections a b x y s → IsPlan (step.Elements ∷ s) a b
elements-rebuilt a b x y s c = record {
  tests = tt;
  suits = λ l h. collection-map (IsMember x) (Suits s) (out-Literal l) c.plan.suits
      (member-as a l (LiteralType-F.Collection x) c.from h);
  value = elements-value a b x y s c;
  depth = elements-depth a b x y s c;
}

elements-kept : (a b x y : LiteralType) → Collections a b x y [] → IsPlan [] a b
elements-kept a b x y c = record {
  tests = tt;
  suits = λ l h. tt;
  value = λ l h. sym (elements-stay l (out-Literal l) refl) ∙ elements-value a b x y [] c l h;
  depth = omega arith;
}

elements-around : (a b x y : LiteralType) (s : List Step) → Collections a b x y s
    → IsPlan (steps_around step.TextsOfElements step.Elements s) a b
elements-around a b x y [] c = elements-kept a b x y c
elements-around a b x y (step.Texts values ∷ s) c = elements-tested a b x y (step.Texts values ∷ s) tt c
elements-around a b x y (step.TextsOfElements ∷ s) c = elements-tested a b x y (step.TextsOfElements ∷ s) c.plan.tests c
elements-around a b x y (step.TextsOfValues ∷ s) c = elements-tested a b x y (step.TextsOfValues ∷ s) c.plan.tests c
elements-around a b x y (step.Elements ∷ s) c = elements-rebuilt a b x y (step.Elements ∷ s) c
elements-around a b x y (step.Values ∷ s) c = elements-rebuilt a b x y (step.Values ∷ s) c
elements-around a b x y (step.IntoUnion variant ∷ s) c = elements-rebuilt a b x y (step.IntoUnion variant ∷ s) c
elements-around a b x y (step.FromUnion variants to ∷ s) c = elements-rebuilt a b x y (step.FromUnion variants to ∷ s) c

pub plan-collection : (a b x y : LiteralType) (s t : List Step) → (a ≡ b → ⊥) → out-LiteralType a
    ≡ LiteralType-F.Collection x
    → out-LiteralType b ≡ LiteralType-F.Collection y → IsPlan s x y → t
    ≡ steps_around step.TextsOfElements step.Elements s → IsPlan t a b
plan-collection a b x y s t differ ea eb plan e =
    subst (λ t. IsPlan t a b) (sym e)
    (elements-around a b x y s (record { differ = differ; from = ea; to = eb; plan = plan }))

-- ---- maps

record Maps (a b x y : LiteralType) (s : List Step) : Type 0 where
  differ : a ≡ b → ⊥
  from : out-LiteralType a ≡ LiteralType-F.Map x
  to : out-LiteralType b ≡ LiteralType-F.Map y
  plan : IsPlan s x y

values-value : (a b x y : LiteralType) (s : List Step) → Maps a b x y s → (l : Literal) → IsMember a l
    → conversion_of_entries (conversion_by s) l (out-Literal l) ≡ conversion_of l a b
values-value a b x y s c l h =
    entries-same (conversion_by s) (λ e. conversion_of e x y) l (IsMember x) (out-Literal l)
    (member-as a l (LiteralType-F.Map x) c.from h) c.plan.value
    ∙ by_rule l a b (LiteralType-F.Map x) (LiteralType-F.Map y) c.differ c.from c.to h

values-depth : (a b x y : LiteralType) (s : List Step) → Maps a b x y s
    → 4 + depth_of s ≤ 4 * (type_levels a + type_levels b)
values-depth a b x y s c =
    omega (arith, c.plan.depth, levels-at a (LiteralType-F.Map x) c.from, levels-at b (LiteralType-F.Map y) c.to)

values-tested : (a b x y : LiteralType) (s : List Step) → IsCheck s → Maps a b x y s
    → IsPlan (step.TextsOfValues ∷ s) a b
values-tested a b x y s check c = record {
  tests = check;
  suits = λ l h. check;
  value = values-value a b x y s c;
  depth = values-depth a b x y s c;
}

values-rebuilt : (a b x y : LiteralType) (s : List Step) → Maps a b x y s → IsPlan (step.Values ∷ s) a b
values-rebuilt a b x y s c = record {
  tests = tt;
  suits = λ l h. entries-map (IsMember x) (Suits s) (out-Literal l) c.plan.suits
      (member-as a l (LiteralType-F.Map x) c.from h);
  value = values-value a b x y s c;
  depth = values-depth a b x y s c;
}

values-kept : (a b x y : LiteralType) → Maps a b x y [] → IsPlan [] a b
values-kept a b x y c = record {
  tests = tt;
  suits = λ l h. tt;
  value = λ l h. sym (entries-stay l (out-Literal l) refl) ∙ values-value a b x y [] c l h;
  depth = omega arith;
}

values-around : (a b x y : LiteralType) (s : List Step) → Maps a b x y s
    → IsPlan (steps_around step.TextsOfValues step.Values s) a b
values-around a b x y [] c = values-kept a b x y c
values-around a b x y (step.Texts values ∷ s) c = values-tested a b x y (step.Texts values ∷ s) tt c
values-around a b x y (step.TextsOfElements ∷ s) c = values-tested a b x y (step.TextsOfElements ∷ s) c.plan.tests c
values-around a b x y (step.TextsOfValues ∷ s) c = values-tested a b x y (step.TextsOfValues ∷ s) c.plan.tests c
values-around a b x y (step.Elements ∷ s) c = values-rebuilt a b x y (step.Elements ∷ s) c
values-around a b x y (step.Values ∷ s) c = values-rebuilt a b x y (step.Values ∷ s) c
values-around a b x y (step.IntoUnion variant ∷ s) c = values-rebuilt a b x y (step.IntoUnion variant ∷ s) c
values-around a b x y (step.FromUnion variants to ∷ s) c = values-rebuilt a b x y (step.FromUnion variants to ∷ s) c

pub plan-map : (a b x y : LiteralType) (s t : List Step) → (a ≡ b → ⊥) → out-LiteralType a ≡ LiteralType-F.Map x
    → out-LiteralType b ≡ LiteralType-F.Map y → IsPlan s x y → t ≡ steps_around step.TextsOfValues step.Values s
    → IsPlan t a b
plan-map a b x y s t differ ea eb plan e =
    subst (λ t. IsPlan t a b) (sym e)
    (values-around a b x y s (record { differ = differ; from = ea; to = eb; plan = plan }))

-- ---- the layers of types that a `match` has not taken

layer-of : (t : LiteralType) (p : TypeLayer) → out-LiteralType t ≡ p → t ≡ roll-LiteralType p
layer-of t p e = sym (type_view.roll-out-LiteralType t) ∙ ap roll-LiteralType e

no-union : (t : LiteralType) (p : TypeLayer) → out-LiteralType t ≡ p
    → ((ts : List LiteralType) → t ≡ type.Union ts → ⊥) → IsNoUnion p
no-union t (LiteralType-F.Union ts) e n = n ts (layer-of t (LiteralType-F.Union ts) e ∙ type_view.rolls-Union ts)
no-union t _ e n = tt

pub plain-layer : (t : LiteralType) → ((ts : List LiteralType) → t ≡ type.Union ts → ⊥) → IsNoUnion (out-LiteralType t)
plain-layer t n = no-union t (out-LiteralType t) refl n

collection-stays : (x b : LiteralType) (q : TypeLayer) → out-LiteralType b ≡ q → IsNoUnion q
    → ((y : LiteralType) → b ≡ type.Collection y → ⊥)
    → Stays (LiteralType-F.Collection x) q
collection-stays x b (LiteralType-F.Union ts) e plain n = plain
collection-stays x b (LiteralType-F.Collection y) e plain n =
    n y (layer-of b (LiteralType-F.Collection y) e ∙ type_view.rolls-Collection y)
collection-stays x b _ e plain n = tt

pub plan-collection_alone : (a b x : LiteralType) → (a ≡ b → ⊥) → out-LiteralType a ≡ LiteralType-F.Collection x
    → ((ts : List LiteralType) → b ≡ type.Union ts → ⊥) → ((y : LiteralType) → b ≡ type.Collection y → ⊥)
    → IsPlan [] a b
plan-collection_alone a b x differ ea nu n =
    plan-stays a b differ
    (subst (λ p. Stays p (out-LiteralType b)) (sym ea)
    (collection-stays x b (out-LiteralType b) refl (plain-layer b nu) n))

map-stays : (x b : LiteralType) (q : TypeLayer) → out-LiteralType b ≡ q → IsNoUnion q
    → ((y : LiteralType) → b ≡ type.Map y → ⊥)
    → Stays (LiteralType-F.Map x) q
map-stays x b (LiteralType-F.Union ts) e plain n = plain
map-stays x b (LiteralType-F.Map y) e plain n = n y (layer-of b (LiteralType-F.Map y) e ∙ type_view.rolls-Map y)
map-stays x b _ e plain n = tt

pub plan-map_alone : (a b x : LiteralType) → (a ≡ b → ⊥) → out-LiteralType a ≡ LiteralType-F.Map x
    → ((ts : List LiteralType) → b ≡ type.Union ts → ⊥) → ((y : LiteralType) → b ≡ type.Map y → ⊥) → IsPlan [] a b
plan-map_alone a b x differ ea nu n =
    plan-stays a b differ
    (subst (λ p. Stays p (out-LiteralType b)) (sym ea) (map-stays x b (out-LiteralType b) refl (plain-layer b nu) n))

simple-alone : (s : Simple) (b : LiteralType) (q : TypeLayer) → out-LiteralType b ≡ q → IsNoUnion q
    → ((values : List Text) → b ≡ type.Enum values → ⊥)
    → Stays (LiteralType-F.Simple s) q
simple-alone s b (LiteralType-F.Union ts) e plain n = plain
simple-alone s b (LiteralType-F.Enum values) e plain n =
    absurd (n values (layer-of b (LiteralType-F.Enum values) e ∙ type_view.rolls-Enum values))
simple-alone simple.Text b q e plain n = tt
simple-alone s b q e plain n = tt

pub plan-simple_alone : (a b : LiteralType) (s : Simple) → (a ≡ b → ⊥) → out-LiteralType a ≡ LiteralType-F.Simple s
    → ((ts : List LiteralType) → b ≡ type.Union ts → ⊥) → ((values : List Text) → b ≡ type.Enum values → ⊥)
    → IsPlan [] a b
plan-simple_alone a b s differ ea nu n =
    plan-stays a b differ
    (subst (λ p. Stays p (out-LiteralType b)) (sym ea)
    (simple-alone s b (out-LiteralType b) refl (plain-layer b nu) n))

other-stays : (a : LiteralType) (p q : TypeLayer) → out-LiteralType a ≡ p → IsNoUnion p → IsNoUnion q
    → ((x : LiteralType) → a ≡ type.Collection x → ⊥)
    → ((x : LiteralType) → a ≡ type.Map x → ⊥) → ((s : Simple) → a ≡ type.Simple s → ⊥) → Stays p q
other-stays a (LiteralType-F.Union ts) q e plain there n m s = plain
other-stays a (LiteralType-F.Collection x) q e plain there n m s =
    absurd (n x (layer-of a (LiteralType-F.Collection x) e ∙ type_view.rolls-Collection x))
other-stays a (LiteralType-F.Map x) q e plain there n m s =
    absurd (m x (layer-of a (LiteralType-F.Map x) e ∙ type_view.rolls-Map x))
other-stays a (LiteralType-F.Simple x) q e plain there n m s =
    absurd (s x (layer-of a (LiteralType-F.Simple x) e ∙ type_view.rolls-Simple x))
other-stays a p (LiteralType-F.Union ts) e plain there n m s = there
other-stays a p q e plain there n m s = tt

pub plan-other_alone : (a b : LiteralType) → (a ≡ b → ⊥) → ((ts : List LiteralType) → a ≡ type.Union ts → ⊥)
    → ((ts : List LiteralType) → b ≡ type.Union ts → ⊥) → ((x : LiteralType) → a ≡ type.Collection x → ⊥)
    → ((x : LiteralType) → a ≡ type.Map x → ⊥) → ((s : Simple) → a ≡ type.Simple s → ⊥) → IsPlan [] a b
plan-other_alone a b differ na nb n m s =
    plan-stays a b differ
    (other-stays a (out-LiteralType a) (out-LiteralType b) refl (plain-layer a na) (plain-layer b nb) n m s)

-- ---- plans of the same steps

pub plan-at : (s t : List Step) (a b : LiteralType) → t ≡ s → IsPlan s a b → IsPlan t a b
plan-at s t a b e plan = subst (λ r. IsPlan r a b) (sym e) plan

pub ok-map : {X E : Type 0} (P Q : X → Type 0) (r : Result X E) → ((x : X) → P x → Q x) → IfOk r P → IfOk r Q
ok-map P Q (Ok x) f h = f x h
ok-map P Q (Err e) f h = tt
