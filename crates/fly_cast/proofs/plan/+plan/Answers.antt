use Rattle.std.proofs.Common.{◌≡◌, sym, ◌∙◌, ap, arith, refl}
use Rattle.fly_types.specs.declared.kinds.LiteralType.{out-LiteralType}
use Rattle.fly_types.specs.declared.kinds.LiteralType.TheOpen.{LiteralType-F}
use Rattle.fly_types.specs.declared.kinds.LiteralType.TheViews as type
use Rattle.fly_cast.specs.Castable.{is_castable}
use Rattle.fly_cast.proofs.Converts.{levels-at}
use Rattle.fly_cast.proofs.Levels.{sole_element-levels}
use Rattle.fly_cast.proofs.Plans.{plan-same, plan-from_union, plan-into_union, plan-into_none, plan-texts, plan-collection, plan-map, plain-layer, plan-collection_alone, plan-map_alone, plan-simple_alone, plan-other_alone, plan-at, ok-map}
use Rattle.fly_cast.proofs.plan.+plan.Goals as goal

pub steps_between-returns-then-is_same : goal.steps_between-returns-then-is_same
steps_between-returns-then-is_same t c =
    plan-at _ _ _ _ c.new.ensures.items (plan-same _ _ (c.is_same.ensures.0 c.if-is_same.true))

pub steps_by_form-returns-in-Union : goal.steps_by_form-returns-in-Union
steps_by_form-returns-in-Union t c =
    plan-at _ _ _ _ c.in_ok-vec.ensures.items
    (plan-from_union c.args.a.now c.args.b.now c.in-Union.variants c.as_slice.result c.args.b c.requires
    (ap out-LiteralType c.in-Union.is ∙ type.outs-Union _) c.as_slice.ensures refl)

pub steps_by_form-returns-in_default-only_taker : goal.steps_by_form-returns-in_default-only_taker
steps_by_form-returns-in_default-only_taker t c =
    plan-at _ _ _ _ c.new.ensures.items
    (plan-into_none _ _ c.as_slice-in-Union-b.result.now c.requires (plain-layer _ c.in_default.not-Union)
    (ap out-LiteralType c.in-Union-b.is ∙ type.outs-Union _
    ∙ ap LiteralType-F.Union (sym c.as_slice-in-Union-b.ensures))
    (sym c.in_default-only_taker.ensures))

pub steps_by_form-steps_between-requires : goal.steps_by_form-steps_between-requires
steps_by_form-steps_between-requires t c =
    let eb : out-LiteralType c.args.b.now ≡ LiteralType-F.Union c.as_slice-in-Union-b.result.now =
    ap out-LiteralType c.in-Union-b.is ∙ type.outs-Union _
    ∙ ap LiteralType-F.Union (sym c.as_slice-in-Union-b.ensures) in (
      omega (
        arith,
        levels-at _ _ eb,
        sole_element-levels (is_castable c.args.a.now) c.as_slice-in-Union-b.result.now c.in-Some.variant.now
            (sym c.in-Some.ensures),
      ),
      tt,
    )

pub steps_by_form-returns-in-Union-b : goal.steps_by_form-returns-in-Union-b
steps_by_form-returns-in-Union-b t c =
    plan-at _ _ _ _ c.in_ok-insert.ensures.items
    (plan-into_union _ _ c.in-Some.variant.now c.as_slice-in-Union-b.result.now c.in-Some.variant
    c.in_ok-steps.steps.items c.requires
    (plain-layer _ c.in_default.not-Union)
    (ap out-LiteralType c.in-Union-b.is ∙ type.outs-Union _
    ∙ ap LiteralType-F.Union (sym c.as_slice-in-Union-b.ensures))
    (sym c.in-Some.ensures) refl c.in_ok-steps.ensures)

pub steps_by_form-returns-in_ok-steps-in-Collection-b : goal.steps_by_form-returns-in_ok-steps-in-Collection-b
steps_by_form-returns-in_ok-steps-in-Collection-b t c =
    ok-map _ _ c.steps_around.result
    (λ steps e. plan-collection _ _ c.get.result.now c.get-in-Collection-b.result.now
    c.in_ok-steps-in-Collection-b.steps.items steps.items c.requires
    (ap out-LiteralType c.in-Collection.is ∙ type.outs-Collection _ ∙ ap LiteralType-F.Collection (sym c.get.ensures))
    (ap out-LiteralType c.in-Collection-b.is ∙ type.outs-Collection _
    ∙ ap LiteralType-F.Collection (sym c.get-in-Collection-b.ensures))
    c.in_ok-steps-in-Collection-b.ensures e)
    c.steps_around.ensures

pub steps_by_form-returns-in_default-b-2 : goal.steps_by_form-returns-in_default-b-2
steps_by_form-returns-in_default-b-2 t c =
    plan-at _ _ _ _ c.new-in_default-b-2.ensures.items
    (plan-collection_alone _ _ c.in-Collection.from c.requires
    (ap out-LiteralType c.in-Collection.is ∙ type.outs-Collection _)
    c.in_default-b.not-Union c.in_default-b-2.not-Collection)

pub steps_by_form-returns-in_ok-steps-in-Map-b : goal.steps_by_form-returns-in_ok-steps-in-Map-b
steps_by_form-returns-in_ok-steps-in-Map-b t c =
    ok-map _ _ c.steps_around-in-Map-b.result
    (λ steps e. plan-map _ _ c.get-in-Map-b.result.now c.get-in-Map-b-2.result.now c.in_ok-steps-in-Map-b.steps.items
    steps.items c.requires
    (ap out-LiteralType c.in-Map.is ∙ type.outs-Map _ ∙ ap LiteralType-F.Map (sym c.get-in-Map-b.ensures))
    (ap out-LiteralType c.in-Map-b.is ∙ type.outs-Map _ ∙ ap LiteralType-F.Map (sym c.get-in-Map-b-2.ensures))
    c.in_ok-steps-in-Map-b.ensures e)
    c.steps_around-in-Map-b.ensures

pub steps_by_form-returns-in_default-b-3 : goal.steps_by_form-returns-in_default-b-3
steps_by_form-returns-in_default-b-3 t c =
    plan-at _ _ _ _ c.new-in_default-b-3.ensures.items
    (plan-map_alone _ _ c.in-Map.from c.requires
    (ap out-LiteralType c.in-Map.is ∙ type.outs-Map _) c.in_default-b.not-Union c.in_default-b-3.not-Map)

pub steps_by_form-returns-in_ok-vec-in-Enum : goal.steps_by_form-returns-in_ok-vec-in-Enum
steps_by_form-returns-in_ok-vec-in-Enum t c =
    plan-at _ _ _ _ c.in_ok-vec-in-Enum.ensures.items
    (plan-texts _ _ _ c.in-Enum.values c.as_slice-in-Enum.result c.requires
    (ap out-LiteralType c.in-Simple.is ∙ type.outs-Simple _)
    (ap out-LiteralType c.in-Enum.is ∙ type.outs-Enum _) c.as_slice-in-Enum.ensures)

pub steps_by_form-returns-in_default-b-4 : goal.steps_by_form-returns-in_default-b-4
steps_by_form-returns-in_default-b-4 t c =
    plan-at _ _ _ _ c.new-in_default-b-4.ensures.items
    (plan-simple_alone _ _ _ c.requires
    (ap out-LiteralType c.in-Simple.is ∙ type.outs-Simple _) c.in_default-b.not-Union c.in_default-b-4.not-Enum)

pub steps_by_form-returns-in_default-a : goal.steps_by_form-returns-in_default-a
steps_by_form-returns-in_default-a t c =
    plan-at _ _ _ _ c.new-in_default-a.ensures.items
    (plan-other_alone _ _ c.requires c.in_default.not-Union c.in_default-b.not-Union c.in_default-a.not-Collection
    c.in_default-a.not-Map
    c.in_default-a.not-Simple)
