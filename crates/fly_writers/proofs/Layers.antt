-- The JSON of each kind of value, by the JSON of its parts.
use Rattle.std.proofs.Common.{◌≡◌, ℕ, ℤ, Bool, List, [], ◌∷◌, map, Option, codes, refl, sym, ◌∙◌, ap}
use Rattle.serde_json.specs.Data.{Data}
use Rattle.fly_types.specs.declared.text.Text.{Text}
use Rattle.fly_types.specs.declared.bytes.Bytes.{Bytes}
use Rattle.fly_types.specs.declared.kinds.Simple.{Simple}
use Rattle.fly_types.specs.declared.kinds.BlobType.{BlobType}
use Rattle.fly_types.specs.declared.kinds.LiteralType.{LiteralType}
use Rattle.fly_types.specs.declared.kinds.LiteralType.TheOpen.{LiteralType-F}
use Rattle.fly_types.specs.declared.kinds.LiteralType.TheViews as tv
use Rattle.fly_types.specs.declared.kinds.LiteralType.TheVariants as t
use Rattle.fly_types.specs.declared.kinds.LiteralType.TheFolds.{fold_out-LiteralType, map-LiteralType}
use Rattle.fly_types.specs.declared.literals.Literal.{Literal, out-Literal, roll-Literal}
use Rattle.fly_types.specs.declared.literals.Literal.TheOpen.{Literal-F}
use Rattle.fly_types.specs.declared.literals.Literal.TheViews as lv
use Rattle.fly_types.specs.declared.literals.Literal.TheVariants as l
use Rattle.fly_types.specs.declared.literals.Literal.TheFolds.{fold_out-Literal, map-Literal}
use Rattle.fly_types.specs.declared.literals.Tree.{Tree}
use Rattle.fly_types.specs.declared.literals.Tree.TheOpen.{Tree-F}
use Rattle.fly_types.specs.declared.literals.Tree.TheViews as rv
use Rattle.fly_types.specs.declared.literals.Tree.TheVariants as r
use Rattle.fly_types.specs.declared.literals.Tree.TheFolds.{fold_out-Tree, map-Tree}
use Rattle.fly_docs.specs.declared.binding.Bound.{Bound}
use Rattle.fly_docs.specs.declared.binding.Bound.TheOpen.{Bound-F}
use Rattle.fly_docs.specs.declared.binding.Bound.TheViews as bv
use Rattle.fly_docs.specs.declared.binding.Bound.TheVariants as b
use Rattle.fly_docs.specs.declared.binding.Bound.TheFolds.{fold_out-Bound, map-Bound}
use Rattle.fly_exprs.specs.declared.expr.Comparison.{Comparison}
use Rattle.fly_exprs.specs.declared.expr.Conjunction.{Conjunction}
use Rattle.fly_exprs.specs.declared.expr.Operand.{Operand}
use Rattle.fly_exprs.specs.declared.expr.Expr.{Expr}
use Rattle.fly_exprs.specs.declared.expr.Expr.TheOpen.{Expr-F}
use Rattle.fly_exprs.specs.declared.expr.Expr.TheViews as ev
use Rattle.fly_exprs.specs.declared.expr.Expr.TheVariants as e
use Rattle.fly_exprs.specs.declared.expr.Expr.TheFolds.{fold_out-Expr, map-Expr}
use Rattle.fly_writers.specs.Json.{message, message_of}
use Rattle.fly_writers.specs.Types.{type_json_by, type_json}
use Rattle.fly_writers.specs.Literals.{tree_json_by, tree_json, literal_json_by, literal_json, scalar_fields, scalar_json, primitive_fields, primitive_json}
use Rattle.fly_writers.specs.Bindings.{bound_json_by, bound_json}
use Rattle.fly_writers.specs.Conditions.{expr_json_by, expr_json}

pub type_json-Simple : (s : Simple) → type_json (t.Simple s) ≡ type_json_by (map-LiteralType LiteralType Data type_json (LiteralType-F.Simple s))
unfolding type_json
type_json-Simple s = fold_out-LiteralType Data type_json_by (t.Simple s) ∙ ap (λ z. type_json_by (map-LiteralType LiteralType Data type_json z)) (tv.outs-Simple s)

pub type_json-Collection : (element : LiteralType) → type_json (t.Collection element) ≡ type_json_by (map-LiteralType LiteralType Data type_json (LiteralType-F.Collection element))
unfolding type_json
type_json-Collection element = fold_out-LiteralType Data type_json_by (t.Collection element) ∙ ap (λ z. type_json_by (map-LiteralType LiteralType Data type_json z)) (tv.outs-Collection element)

pub type_json-Map : (value : LiteralType) → type_json (t.Map value) ≡ type_json_by (map-LiteralType LiteralType Data type_json (LiteralType-F.Map value))
unfolding type_json
type_json-Map value = fold_out-LiteralType Data type_json_by (t.Map value) ∙ ap (λ z. type_json_by (map-LiteralType LiteralType Data type_json z)) (tv.outs-Map value)

pub type_json-Blob : (form : BlobType) → type_json (t.Blob form) ≡ type_json_by (map-LiteralType LiteralType Data type_json (LiteralType-F.Blob form))
unfolding type_json
type_json-Blob form = fold_out-LiteralType Data type_json_by (t.Blob form) ∙ ap (λ z. type_json_by (map-LiteralType LiteralType Data type_json z)) (tv.outs-Blob form)

pub type_json-Enum : (values : List Text) → type_json (t.Enum values) ≡ type_json_by (map-LiteralType LiteralType Data type_json (LiteralType-F.Enum values))
unfolding type_json
type_json-Enum values = fold_out-LiteralType Data type_json_by (t.Enum values) ∙ ap (λ z. type_json_by (map-LiteralType LiteralType Data type_json z)) (tv.outs-Enum values)

pub type_json-Union : (variants : List LiteralType) → type_json (t.Union variants) ≡ type_json_by (map-LiteralType LiteralType Data type_json (LiteralType-F.Union variants))
unfolding type_json
type_json-Union variants = fold_out-LiteralType Data type_json_by (t.Union variants) ∙ ap (λ z. type_json_by (map-LiteralType LiteralType Data type_json z)) (tv.outs-Union variants)

pub ruleset type_variants = (type_json-Simple, type_json-Collection, type_json-Map, type_json-Blob, type_json-Enum, type_json-Union)

pub tree_json-Null : tree_json r.Null ≡ tree_json_by (map-Tree Tree Data tree_json Tree-F.Null)
unfolding tree_json
tree_json-Null = fold_out-Tree Data tree_json_by r.Null ∙ ap (λ z. tree_json_by (map-Tree Tree Data tree_json z)) rv.outs-Null

pub tree_json-Bool : (value : Bool) → tree_json (r.Bool value) ≡ tree_json_by (map-Tree Tree Data tree_json (Tree-F.Bool value))
unfolding tree_json
tree_json-Bool value = fold_out-Tree Data tree_json_by (r.Bool value) ∙ ap (λ z. tree_json_by (map-Tree Tree Data tree_json z)) (rv.outs-Bool value)

pub tree_json-Whole : (value : ℤ) → tree_json (r.Whole value) ≡ tree_json_by (map-Tree Tree Data tree_json (Tree-F.Whole value))
unfolding tree_json
tree_json-Whole value = fold_out-Tree Data tree_json_by (r.Whole value) ∙ ap (λ z. tree_json_by (map-Tree Tree Data tree_json z)) (rv.outs-Whole value)

pub tree_json-Text : (text : Text) → tree_json (r.Text text) ≡ tree_json_by (map-Tree Tree Data tree_json (Tree-F.Text text))
unfolding tree_json
tree_json-Text text = fold_out-Tree Data tree_json_by (r.Text text) ∙ ap (λ z. tree_json_by (map-Tree Tree Data tree_json z)) (rv.outs-Text text)

pub tree_json-List : (trees : List Tree) → tree_json (r.List trees) ≡ tree_json_by (map-Tree Tree Data tree_json (Tree-F.List trees))
unfolding tree_json
tree_json-List trees = fold_out-Tree Data tree_json_by (r.List trees) ∙ ap (λ z. tree_json_by (map-Tree Tree Data tree_json z)) (rv.outs-List trees)

pub tree_json-Object : (members : List (Text × Tree)) → tree_json (r.Object members) ≡ tree_json_by (map-Tree Tree Data tree_json (Tree-F.Object members))
unfolding tree_json
tree_json-Object members = fold_out-Tree Data tree_json_by (r.Object members) ∙ ap (λ z. tree_json_by (map-Tree Tree Data tree_json z)) (rv.outs-Object members)

pub ruleset tree_variants = (tree_json-Null, tree_json-Bool, tree_json-Whole, tree_json-Text, tree_json-List, tree_json-Object)

pub literal_json-None : literal_json l.None ≡ literal_json_by (map-Literal Literal Data literal_json Literal-F.None)
unfolding literal_json
literal_json-None = fold_out-Literal Data literal_json_by l.None ∙ ap (λ z. literal_json_by (map-Literal Literal Data literal_json z)) lv.outs-None

pub literal_json-Integer : (value : ℤ) → literal_json (l.Integer value) ≡ literal_json_by (map-Literal Literal Data literal_json (Literal-F.Integer value))
unfolding literal_json
literal_json-Integer value = fold_out-Literal Data literal_json_by (l.Integer value) ∙ ap (λ z. literal_json_by (map-Literal Literal Data literal_json z)) (lv.outs-Integer value)

pub literal_json-Text : (text : Text) → literal_json (l.Text text) ≡ literal_json_by (map-Literal Literal Data literal_json (Literal-F.Text text))
unfolding literal_json
literal_json-Text text = fold_out-Literal Data literal_json_by (l.Text text) ∙ ap (λ z. literal_json_by (map-Literal Literal Data literal_json z)) (lv.outs-Text text)

pub literal_json-Boolean : (value : Bool) → literal_json (l.Boolean value) ≡ literal_json_by (map-Literal Literal Data literal_json (Literal-F.Boolean value))
unfolding literal_json
literal_json-Boolean value = fold_out-Literal Data literal_json_by (l.Boolean value) ∙ ap (λ z. literal_json_by (map-Literal Literal Data literal_json z)) (lv.outs-Boolean value)

pub literal_json-Datetime : (seconds : ℤ) (nanos : ℕ) → literal_json (l.Datetime seconds nanos) ≡ literal_json_by (map-Literal Literal Data literal_json (Literal-F.Datetime seconds nanos))
unfolding literal_json
literal_json-Datetime seconds nanos = fold_out-Literal Data literal_json_by (l.Datetime seconds nanos) ∙ ap (λ z. literal_json_by (map-Literal Literal Data literal_json z)) (lv.outs-Datetime seconds nanos)

pub literal_json-Duration : (seconds : ℤ) (nanos : ℤ) → literal_json (l.Duration seconds nanos) ≡ literal_json_by (map-Literal Literal Data literal_json (Literal-F.Duration seconds nanos))
unfolding literal_json
literal_json-Duration seconds nanos = fold_out-Literal Data literal_json_by (l.Duration seconds nanos) ∙ ap (λ z. literal_json_by (map-Literal Literal Data literal_json z)) (lv.outs-Duration seconds nanos)

pub literal_json-Blob : (uri : Text) (form : BlobType) → literal_json (l.Blob uri form) ≡ literal_json_by (map-Literal Literal Data literal_json (Literal-F.Blob uri form))
unfolding literal_json
literal_json-Blob uri form = fold_out-Literal Data literal_json_by (l.Blob uri form) ∙ ap (λ z. literal_json_by (map-Literal Literal Data literal_json z)) (lv.outs-Blob uri form)

pub literal_json-Binary : (value : Bytes) (tag : Text) → literal_json (l.Binary value tag) ≡ literal_json_by (map-Literal Literal Data literal_json (Literal-F.Binary value tag))
unfolding literal_json
literal_json-Binary value tag = fold_out-Literal Data literal_json_by (l.Binary value tag) ∙ ap (λ z. literal_json_by (map-Literal Literal Data literal_json z)) (lv.outs-Binary value tag)

pub literal_json-Error : (node : Text) (text : Text) → literal_json (l.Error node text) ≡ literal_json_by (map-Literal Literal Data literal_json (Literal-F.Error node text))
unfolding literal_json
literal_json-Error node text = fold_out-Literal Data literal_json_by (l.Error node text) ∙ ap (λ z. literal_json_by (map-Literal Literal Data literal_json z)) (lv.outs-Error node text)

pub literal_json-Generic : (tree : Tree) → literal_json (l.Generic tree) ≡ literal_json_by (map-Literal Literal Data literal_json (Literal-F.Generic tree))
unfolding literal_json
literal_json-Generic tree = fold_out-Literal Data literal_json_by (l.Generic tree) ∙ ap (λ z. literal_json_by (map-Literal Literal Data literal_json z)) (lv.outs-Generic tree)

pub literal_json-Union : (value : Literal) (variant : LiteralType) → literal_json (l.Union value variant) ≡ literal_json_by (map-Literal Literal Data literal_json (Literal-F.Union value variant))
unfolding literal_json
literal_json-Union value variant = fold_out-Literal Data literal_json_by (l.Union value variant) ∙ ap (λ z. literal_json_by (map-Literal Literal Data literal_json z)) (lv.outs-Union value variant)

pub literal_json-Collection : (elements : List Literal) → literal_json (l.Collection elements) ≡ literal_json_by (map-Literal Literal Data literal_json (Literal-F.Collection elements))
unfolding literal_json
literal_json-Collection elements = fold_out-Literal Data literal_json_by (l.Collection elements) ∙ ap (λ z. literal_json_by (map-Literal Literal Data literal_json z)) (lv.outs-Collection elements)

pub literal_json-Map : (entries : List (Text × Literal)) → literal_json (l.Map entries) ≡ literal_json_by (map-Literal Literal Data literal_json (Literal-F.Map entries))
unfolding literal_json
literal_json-Map entries = fold_out-Literal Data literal_json_by (l.Map entries) ∙ ap (λ z. literal_json_by (map-Literal Literal Data literal_json z)) (lv.outs-Map entries)

pub ruleset literal_variants = (literal_json-None, literal_json-Integer, literal_json-Text, literal_json-Boolean, literal_json-Datetime, literal_json-Duration, literal_json-Blob, literal_json-Binary, literal_json-Error, literal_json-Generic, literal_json-Union, literal_json-Collection, literal_json-Map)

pub bound_json-Scalar : (literal : Literal) → bound_json (b.Scalar literal) ≡ bound_json_by (map-Bound Bound Data bound_json (Bound-F.Scalar literal))
unfolding bound_json
bound_json-Scalar literal = fold_out-Bound Data bound_json_by (b.Scalar literal) ∙ ap (λ z. bound_json_by (map-Bound Bound Data bound_json z)) (bv.outs-Scalar literal)

pub bound_json-Collection : (elements : List Bound) → bound_json (b.Collection elements) ≡ bound_json_by (map-Bound Bound Data bound_json (Bound-F.Collection elements))
unfolding bound_json
bound_json-Collection elements = fold_out-Bound Data bound_json_by (b.Collection elements) ∙ ap (λ z. bound_json_by (map-Bound Bound Data bound_json z)) (bv.outs-Collection elements)

pub bound_json-Map : (entries : List (Text × Bound)) → bound_json (b.Map entries) ≡ bound_json_by (map-Bound Bound Data bound_json (Bound-F.Map entries))
unfolding bound_json
bound_json-Map entries = fold_out-Bound Data bound_json_by (b.Map entries) ∙ ap (λ z. bound_json_by (map-Bound Bound Data bound_json z)) (bv.outs-Map entries)

pub bound_json-Promise : (node : Text) (var : Text) → bound_json (b.Promise node var) ≡ bound_json_by (map-Bound Bound Data bound_json (Bound-F.Promise node var))
unfolding bound_json
bound_json-Promise node var = fold_out-Bound Data bound_json_by (b.Promise node var) ∙ ap (λ z. bound_json_by (map-Bound Bound Data bound_json z)) (bv.outs-Promise node var)

pub ruleset bound_variants = (bound_json-Scalar, bound_json-Collection, bound_json-Map, bound_json-Promise)

pub expr_json-Compare : (comparison : Comparison) (left : Operand) (right : Operand) → expr_json (e.Compare comparison left right) ≡ expr_json_by (map-Expr Expr Data expr_json (Expr-F.Compare comparison left right))
unfolding expr_json
expr_json-Compare comparison left right = fold_out-Expr Data expr_json_by (e.Compare comparison left right) ∙ ap (λ z. expr_json_by (map-Expr Expr Data expr_json z)) (ev.outs-Compare comparison left right)

pub expr_json-Join : (conjunction : Conjunction) (left : Expr) (right : Expr) → expr_json (e.Join conjunction left right) ≡ expr_json_by (map-Expr Expr Data expr_json (Expr-F.Join conjunction left right))
unfolding expr_json
expr_json-Join conjunction left right = fold_out-Expr Data expr_json_by (e.Join conjunction left right) ∙ ap (λ z. expr_json_by (map-Expr Expr Data expr_json z)) (ev.outs-Join conjunction left right)

pub ruleset expr_variants = (expr_json-Compare, expr_json-Join)

pub scalar_json-None : scalar_json l.None ≡ message (scalar_fields (map-Literal Literal Data literal_json Literal-F.None))
unfolding scalar_json
scalar_json-None = ap (λ z. message (scalar_fields (map-Literal Literal Data literal_json z))) lv.outs-None

pub scalar_json-Integer : (value : ℤ) → scalar_json (l.Integer value) ≡ message (scalar_fields (map-Literal Literal Data literal_json (Literal-F.Integer value)))
unfolding scalar_json
scalar_json-Integer value = ap (λ z. message (scalar_fields (map-Literal Literal Data literal_json z))) (lv.outs-Integer value)

pub scalar_json-Text : (text : Text) → scalar_json (l.Text text) ≡ message (scalar_fields (map-Literal Literal Data literal_json (Literal-F.Text text)))
unfolding scalar_json
scalar_json-Text text = ap (λ z. message (scalar_fields (map-Literal Literal Data literal_json z))) (lv.outs-Text text)

pub scalar_json-Boolean : (value : Bool) → scalar_json (l.Boolean value) ≡ message (scalar_fields (map-Literal Literal Data literal_json (Literal-F.Boolean value)))
unfolding scalar_json
scalar_json-Boolean value = ap (λ z. message (scalar_fields (map-Literal Literal Data literal_json z))) (lv.outs-Boolean value)

pub scalar_json-Datetime : (seconds : ℤ) (nanos : ℕ) → scalar_json (l.Datetime seconds nanos) ≡ message (scalar_fields (map-Literal Literal Data literal_json (Literal-F.Datetime seconds nanos)))
unfolding scalar_json
scalar_json-Datetime seconds nanos = ap (λ z. message (scalar_fields (map-Literal Literal Data literal_json z))) (lv.outs-Datetime seconds nanos)

pub scalar_json-Duration : (seconds : ℤ) (nanos : ℤ) → scalar_json (l.Duration seconds nanos) ≡ message (scalar_fields (map-Literal Literal Data literal_json (Literal-F.Duration seconds nanos)))
unfolding scalar_json
scalar_json-Duration seconds nanos = ap (λ z. message (scalar_fields (map-Literal Literal Data literal_json z))) (lv.outs-Duration seconds nanos)

pub scalar_json-Blob : (uri : Text) (form : BlobType) → scalar_json (l.Blob uri form) ≡ message (scalar_fields (map-Literal Literal Data literal_json (Literal-F.Blob uri form)))
unfolding scalar_json
scalar_json-Blob uri form = ap (λ z. message (scalar_fields (map-Literal Literal Data literal_json z))) (lv.outs-Blob uri form)

pub scalar_json-Binary : (value : Bytes) (tag : Text) → scalar_json (l.Binary value tag) ≡ message (scalar_fields (map-Literal Literal Data literal_json (Literal-F.Binary value tag)))
unfolding scalar_json
scalar_json-Binary value tag = ap (λ z. message (scalar_fields (map-Literal Literal Data literal_json z))) (lv.outs-Binary value tag)

pub scalar_json-Error : (node : Text) (text : Text) → scalar_json (l.Error node text) ≡ message (scalar_fields (map-Literal Literal Data literal_json (Literal-F.Error node text)))
unfolding scalar_json
scalar_json-Error node text = ap (λ z. message (scalar_fields (map-Literal Literal Data literal_json z))) (lv.outs-Error node text)

pub scalar_json-Generic : (tree : Tree) → scalar_json (l.Generic tree) ≡ message (scalar_fields (map-Literal Literal Data literal_json (Literal-F.Generic tree)))
unfolding scalar_json
scalar_json-Generic tree = ap (λ z. message (scalar_fields (map-Literal Literal Data literal_json z))) (lv.outs-Generic tree)

pub scalar_json-Union : (value : Literal) (variant : LiteralType) → scalar_json (l.Union value variant) ≡ message (scalar_fields (map-Literal Literal Data literal_json (Literal-F.Union value variant)))
unfolding scalar_json
scalar_json-Union value variant = ap (λ z. message (scalar_fields (map-Literal Literal Data literal_json z))) (lv.outs-Union value variant)

pub scalar_json-Collection : (elements : List Literal) → scalar_json (l.Collection elements) ≡ message (scalar_fields (map-Literal Literal Data literal_json (Literal-F.Collection elements)))
unfolding scalar_json
scalar_json-Collection elements = ap (λ z. message (scalar_fields (map-Literal Literal Data literal_json z))) (lv.outs-Collection elements)

pub scalar_json-Map : (entries : List (Text × Literal)) → scalar_json (l.Map entries) ≡ message (scalar_fields (map-Literal Literal Data literal_json (Literal-F.Map entries)))
unfolding scalar_json
scalar_json-Map entries = ap (λ z. message (scalar_fields (map-Literal Literal Data literal_json z))) (lv.outs-Map entries)

pub ruleset scalar_variants = (scalar_json-None, scalar_json-Integer, scalar_json-Text, scalar_json-Boolean, scalar_json-Datetime, scalar_json-Duration, scalar_json-Blob, scalar_json-Binary, scalar_json-Error, scalar_json-Generic, scalar_json-Union, scalar_json-Collection, scalar_json-Map)

pub primitive_json-None : primitive_json l.None ≡ message (primitive_fields (map-Literal Literal Data literal_json Literal-F.None))
unfolding primitive_json
primitive_json-None = ap (λ z. message (primitive_fields (map-Literal Literal Data literal_json z))) lv.outs-None

pub primitive_json-Integer : (value : ℤ) → primitive_json (l.Integer value) ≡ message (primitive_fields (map-Literal Literal Data literal_json (Literal-F.Integer value)))
unfolding primitive_json
primitive_json-Integer value = ap (λ z. message (primitive_fields (map-Literal Literal Data literal_json z))) (lv.outs-Integer value)

pub primitive_json-Text : (text : Text) → primitive_json (l.Text text) ≡ message (primitive_fields (map-Literal Literal Data literal_json (Literal-F.Text text)))
unfolding primitive_json
primitive_json-Text text = ap (λ z. message (primitive_fields (map-Literal Literal Data literal_json z))) (lv.outs-Text text)

pub primitive_json-Boolean : (value : Bool) → primitive_json (l.Boolean value) ≡ message (primitive_fields (map-Literal Literal Data literal_json (Literal-F.Boolean value)))
unfolding primitive_json
primitive_json-Boolean value = ap (λ z. message (primitive_fields (map-Literal Literal Data literal_json z))) (lv.outs-Boolean value)

pub primitive_json-Datetime : (seconds : ℤ) (nanos : ℕ) → primitive_json (l.Datetime seconds nanos) ≡ message (primitive_fields (map-Literal Literal Data literal_json (Literal-F.Datetime seconds nanos)))
unfolding primitive_json
primitive_json-Datetime seconds nanos = ap (λ z. message (primitive_fields (map-Literal Literal Data literal_json z))) (lv.outs-Datetime seconds nanos)

pub primitive_json-Duration : (seconds : ℤ) (nanos : ℤ) → primitive_json (l.Duration seconds nanos) ≡ message (primitive_fields (map-Literal Literal Data literal_json (Literal-F.Duration seconds nanos)))
unfolding primitive_json
primitive_json-Duration seconds nanos = ap (λ z. message (primitive_fields (map-Literal Literal Data literal_json z))) (lv.outs-Duration seconds nanos)

pub primitive_json-Blob : (uri : Text) (form : BlobType) → primitive_json (l.Blob uri form) ≡ message (primitive_fields (map-Literal Literal Data literal_json (Literal-F.Blob uri form)))
unfolding primitive_json
primitive_json-Blob uri form = ap (λ z. message (primitive_fields (map-Literal Literal Data literal_json z))) (lv.outs-Blob uri form)

pub primitive_json-Binary : (value : Bytes) (tag : Text) → primitive_json (l.Binary value tag) ≡ message (primitive_fields (map-Literal Literal Data literal_json (Literal-F.Binary value tag)))
unfolding primitive_json
primitive_json-Binary value tag = ap (λ z. message (primitive_fields (map-Literal Literal Data literal_json z))) (lv.outs-Binary value tag)

pub primitive_json-Error : (node : Text) (text : Text) → primitive_json (l.Error node text) ≡ message (primitive_fields (map-Literal Literal Data literal_json (Literal-F.Error node text)))
unfolding primitive_json
primitive_json-Error node text = ap (λ z. message (primitive_fields (map-Literal Literal Data literal_json z))) (lv.outs-Error node text)

pub primitive_json-Generic : (tree : Tree) → primitive_json (l.Generic tree) ≡ message (primitive_fields (map-Literal Literal Data literal_json (Literal-F.Generic tree)))
unfolding primitive_json
primitive_json-Generic tree = ap (λ z. message (primitive_fields (map-Literal Literal Data literal_json z))) (lv.outs-Generic tree)

pub primitive_json-Union : (value : Literal) (variant : LiteralType) → primitive_json (l.Union value variant) ≡ message (primitive_fields (map-Literal Literal Data literal_json (Literal-F.Union value variant)))
unfolding primitive_json
primitive_json-Union value variant = ap (λ z. message (primitive_fields (map-Literal Literal Data literal_json z))) (lv.outs-Union value variant)

pub primitive_json-Collection : (elements : List Literal) → primitive_json (l.Collection elements) ≡ message (primitive_fields (map-Literal Literal Data literal_json (Literal-F.Collection elements)))
unfolding primitive_json
primitive_json-Collection elements = ap (λ z. message (primitive_fields (map-Literal Literal Data literal_json z))) (lv.outs-Collection elements)

pub primitive_json-Map : (entries : List (Text × Literal)) → primitive_json (l.Map entries) ≡ message (primitive_fields (map-Literal Literal Data literal_json (Literal-F.Map entries)))
unfolding primitive_json
primitive_json-Map entries = ap (λ z. message (primitive_fields (map-Literal Literal Data literal_json z))) (lv.outs-Map entries)

pub ruleset primitive_variants = (primitive_json-None, primitive_json-Integer, primitive_json-Text, primitive_json-Boolean, primitive_json-Datetime, primitive_json-Duration, primitive_json-Blob, primitive_json-Binary, primitive_json-Error, primitive_json-Generic, primitive_json-Union, primitive_json-Collection, primitive_json-Map)

-- ---- a literal that is no collection and no map

scalar_case : (z : Literal-F Literal) (k : Literal) → out-Literal k ≡ z → ((xs : List Literal) → k ≡ l.Collection xs → ⊥) → ((es : List (Text × Literal)) → k ≡ l.Map es → ⊥)
    → literal_json_by (map-Literal Literal Data literal_json z) ≡ message_of (codes "scalar") (message (scalar_fields (map-Literal Literal Data literal_json z)))
scalar_case Literal-F.None k e no_list no_map = refl
scalar_case (Literal-F.Integer value) k e no_list no_map = refl
scalar_case (Literal-F.Text text) k e no_list no_map = refl
scalar_case (Literal-F.Boolean value) k e no_list no_map = refl
scalar_case (Literal-F.Datetime seconds nanos) k e no_list no_map = refl
scalar_case (Literal-F.Duration seconds nanos) k e no_list no_map = refl
scalar_case (Literal-F.Blob uri form) k e no_list no_map = refl
scalar_case (Literal-F.Binary value tag) k e no_list no_map = refl
scalar_case (Literal-F.Error node text) k e no_list no_map = refl
scalar_case (Literal-F.Generic tree) k e no_list no_map = refl
scalar_case (Literal-F.Union value variant) k e no_list no_map = refl
scalar_case (Literal-F.Collection elements) k e no_list no_map = absurd (no_list elements (sym (lv.roll-out-Literal k) ∙ ap roll-Literal e ∙ lv.rolls-Collection elements))
scalar_case (Literal-F.Map entries) k e no_list no_map = absurd (no_map entries (sym (lv.roll-out-Literal k) ∙ ap roll-Literal e ∙ lv.rolls-Map entries))

pub literal_json-scalar : (k : Literal) → ((xs : List Literal) → k ≡ l.Collection xs → ⊥) → ((es : List (Text × Literal)) → k ≡ l.Map es → ⊥) → literal_json k ≡ message_of (codes "scalar") (scalar_json k)
unfolding literal_json scalar_json
literal_json-scalar k no_list no_map = fold_out-Literal Data literal_json_by k ∙ scalar_case (out-Literal k) k refl no_list no_map
