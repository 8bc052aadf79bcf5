-- What is bound in the generated workflow is a whole number, and fits.
use Rattle.std.proofs.Common.{◌≡◌, ℕ, zero, suc, ◌/◌, ◌^◌, ◌<◌, IsTrue, true, List, is_some, Some, codes, ℤ, refl, ◌∙◌, ap, arith}
use Rattle.fly_types.specs.declared.kinds.Simple.TheVariants as simple
use Rattle.fly_types.specs.declared.kinds.LiteralType.{LiteralType, out-LiteralType}
use Rattle.fly_types.specs.declared.kinds.LiteralType.TheOpen.{LiteralType-F}
use Rattle.fly_types.specs.declared.kinds.LiteralType.TheVariants as type
use Rattle.fly_types.specs.declared.kinds.LiteralType.TheViews as type_view
use Rattle.fly_types.specs.declared.literals.Literal.{out-Literal}
use Rattle.fly_types.specs.declared.literals.Literal.TheVariants as literal
use Rattle.fly_types.specs.declared.literals.Literal.TheViews as literal_view
use Rattle.fly_types.specs.Levels.{type_levels}
use Rattle.fly_types.specs.Membership.{IsMember, simple_type}
use Rattle.fly_types.proofs.Member.{answers_member}
use Rattle.fly_cast.proofs.Casts.{is_castable-itself}
use Rattle.fly_cast.proofs.Fits.{fitting_of-itself}
use Rattle.fly_cast.proofs.Levels.{layer_levels, type_levels-out}
use Rattle.fly_docs.specs.declared.binding.Bound.{Bound, out-Bound}
use Rattle.fly_docs.specs.declared.binding.Bound.TheVariants as bound
use Rattle.fly_docs.specs.declared.binding.Bound.TheOpen.{Bound-F}
use Rattle.fly_docs.specs.declared.binding.Bound.TheViews as bound_view
use Rattle.fly_docs.specs.Layer.{BoundLayer}
use Rattle.fly_docs.specs.Bindings.{Promised, source_node}
use Rattle.fly_docs.specs.Fitting.{source_fits, bound_form_fits, bound_fits_within, bound_fits}
use Rattle.fly_docs.specs.Names.{start_node}
use Rattle.fly_docs.specs.NodeInterfaces.{Source, Found, of_type, of_anything, source_in, source_by, source_of}
use Rattle.fly_docs.proofs.NodeLemmas.{outputs_of-task}
use Rattle.fly_generator.specs.Generated.{add_id, node_id, sum_at, above, node_numbered, generated_workflow, generated}
use Rattle.fly_generator.proofs.Nodes.{runs_task, named}

abbrev whole_type : LiteralType
whole_type = type.Simple simple.Integer

one_level : type_levels whole_type ≡ 1
one_level = type_levels-out whole_type ∙ ap layer_levels (type_view.outs-Simple simple.Integer)

module _ (source : Promised → Source) where
  -- the rules at the type of whole numbers
  by_form : (x : Bound) (layer : BoundLayer) → out-Bound x ≡ layer
      → bound_fits source x whole_type
      ≡ bound_form_fits source (bound_fits_within source 0) x whole_type layer (out-LiteralType whole_type)
  unfolding bound_fits bound_fits_within
  by_form x layer is =
      ap (λ n. bound_fits_within source n x whole_type) one_level
      ∙ ap (λ l. bound_form_fits source (bound_fits_within source 0) x whole_type l (out-LiteralType whole_type)) is

  promise_fits : (node var : List ℕ) → source (source_node node, var) ≡ of_type whole_type
      → IsTrue (bound_fits source (bound.Promise node var) whole_type)
  promise_fits node var is =
      by_form (bound.Promise node var) (Bound-F.Promise node var) (bound_view.outs-Promise node var)
      ∙ ap (source_fits whole_type) is
      ∙ is_castable-itself whole_type

  pub number_fits : (n : ℤ) → IsTrue (bound_fits source (bound.Scalar (literal.Integer n)) whole_type)
  number_fits n =
      let l = literal.Integer n in
      let kind : simple_type (out-Literal l) ≡ Some simple.Integer = ap simple_type (literal_view.outs-Integer n) in
      let member : IsMember whole_type l =
      (answers_member whole_type (LiteralType-F.Simple simple.Integer) l true (type_view.outs-Simple simple.Integer)
      (λ e. kind, λ e. refl)).0 refl in
      by_form (bound.Scalar l) (Bound-F.Scalar l) (bound_view.outs-Scalar l)
      ∙ ap is_some (fitting_of-itself l whole_type member)

module _ (count : ℕ) (few : count < 2 ^ 64) where
  abbrev source : Promised → Source
  source = source_of (generated count) (generated_workflow count)

  abbrev source_found : Found → Source
  source_found (Some outputs) = source_in (codes "z") outputs
  source_found _ = of_anything

  start_gives : source (start_node, codes "a") ≡ of_type whole_type
  start_gives = refl

  node_gives : (i : ℕ) → i < count → source (node_id i, codes "z") ≡ of_type whole_type
  node_gives i small =
      ap (source_by (generated count) (codes "z")) (named count few i small)
      ∙ ap source_found (outputs_of-task (generated count) (node_numbered i) add_id (runs_task i))

  pub sum_fits : (i : ℕ) → i < count → IsTrue (bound_fits source (sum_at i) whole_type)
  sum_fits i small = promise_fits source (node_id i) (codes "z") (node_gives i small)

  pub above_fits : (i : ℕ) → i < count → IsTrue (bound_fits source (above i) whole_type)
  above_fits zero small = promise_fits source start_node (codes "a") start_gives
  above_fits (suc i) small = sum_fits (i / 2) (omega arith)
