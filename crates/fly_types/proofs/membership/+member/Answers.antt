use mathlib.Core.Bool.{true≢false}
use Rattle.std.proofs.Common.{refl, sym, ap, ◌∙◌, ◌≡◌}
use Rattle.fly_types.specs.declared.kinds.LiteralType.{out-LiteralType}
use Rattle.fly_types.specs.Membership.{IsMember}
use Rattle.fly_types.specs.declared.kinds.LiteralType.TheOpen.{LiteralType-F}
use Rattle.fly_types.specs.declared.kinds.LiteralType.TheViews.{outs-Simple, outs-Collection, outs-Map, outs-Blob, outs-Enum, outs-Union}
use Rattle.fly_types.proofs.Member.{answers_member}
use Rattle.fly_types.proofs.Lists.{all_more, all_done, some_at, none_more}
use Rattle.fly_types.proofs.membership.+member.Goals as goal
use Rattle.fly_types.proofs.membership.+member.Goals.{is_variant-else-is_same-via-then-is_same+else-is_member, is_variant-else-is_same-via-else-is_same}

pub is_member-returns-in-Collection : goal.is_member-returns-in-Collection
is_member-returns-in-Collection t c =
    answers_member _ (LiteralType-F.Collection c.in-Collection.element) _ _ (ap out-LiteralType c.in-Collection.is ∙ outs-Collection _)
    (rw c.get.ensures at c.is_collection_of.ensures)

pub is_member-returns-in-Map : goal.is_member-returns-in-Map
is_member-returns-in-Map t c =
    answers_member _ (LiteralType-F.Map c.in-Map.value) _ _ (ap out-LiteralType c.in-Map.is ∙ outs-Map _)
    (rw c.get-in-Map.ensures at c.is_map_of.ensures)

pub is_member-returns-in-Enum : goal.is_member-returns-in-Enum
is_member-returns-in-Enum t c =
    answers_member _ (LiteralType-F.Enum c.in-Enum.values) _ _ (ap out-LiteralType c.in-Enum.is ∙ outs-Enum _) c.is_text_among.ensures

pub is_member-returns-in-Blob : goal.is_member-returns-in-Blob
is_member-returns-in-Blob t c =
    answers_member _ (LiteralType-F.Blob c.in-Blob.form) _ _ (ap out-LiteralType c.in-Blob.is ∙ outs-Blob _) c.is_blob_of.ensures

pub is_member-returns-in-Union : goal.is_member-returns-in-Union
is_member-returns-in-Union t c =
    answers_member _ (LiteralType-F.Union c.in-Union.variants) _ _ (ap out-LiteralType c.in-Union.is ∙ outs-Union _)
    (rw c.as_slice.ensures at c.is_union_of.ensures)

pub is_member-returns-in-Simple : goal.is_member-returns-in-Simple
is_member-returns-in-Simple t c =
    answers_member _ (LiteralType-F.Simple c.in-Simple.simple) _ _ (ap out-LiteralType c.in-Simple.is ∙ outs-Simple _) c.is_scalar_of.ensures

pub are_members-returns : goal.are_members-returns
are_members-returns t c = (λ _. all_done (IsMember c.args.kind.now) _ _ c.loop-literal-test.false c.loop-literal.invariant, λ _. refl)

pub are_members-loop-literal-preserved : goal.are_members-loop-literal-preserved
are_members-loop-literal-preserved t c =
    all_more (IsMember c.args.kind.now) _ _ c.literal-item.result c.loop-literal-test.true c.literal-item.is c.loop-literal.invariant (c.is_member.ensures.0 c.if-not-is_member.false)

pub are_values_members-returns : goal.are_values_members-returns
are_values_members-returns t c = (λ _. all_done (λ entry. IsMember c.args.kind.now entry.1) _ _ c.loop-value-test.false c.loop-value.invariant, λ _. refl)

pub are_values_members-loop-value-preserved : goal.are_values_members-loop-value-preserved
are_values_members-loop-value-preserved t c =
    all_more (λ entry. IsMember c.args.kind.now entry.1) _ _ c.loop-value-item.result c.loop-value-test.true c.loop-value-item.is c.loop-value.invariant
    (c.is_member.ensures.0 c.if-not-is_member.false)

pub is_variant-returns-then-is_member : goal.is_variant-returns-then-is_member
is_variant-returns-then-is_member t c = (
  λ _. some_at (λ k. (c.args.variant.now ≡ k) × IsMember k c.args.value.now) _ _ c.kind-item.result c.loop-kind-test.true c.kind-item.is
      (c.is_same.ensures.0 c.if-is_same.true, c.is_member.ensures.0 c.if-is_member.true),
  λ _. refl,
)

pub is_variant-loop-kind-preserved : goal.is_variant-loop-kind-preserved
is_variant-loop-kind-preserved t c =
    none_more (λ k. (c.args.variant.now ≡ k) × IsMember k c.args.value.now) _ _ c.kind-item.result c.loop-kind-test.true c.kind-item.is c.loop-kind.invariant
    (λ p. elim c.else-is_same.branch [
      | is_variant-else-is_same-via-then-is_same+else-is_member w ↦ absurd (true≢false (sym (w.is_member.ensures.1 p.1) ∙ w.if-is_member.false))
      | is_variant-else-is_same-via-else-is_same w ↦ absurd (true≢false (sym (c.is_same.ensures.1 p.0) ∙ w.if-is_same.false))
    ])
