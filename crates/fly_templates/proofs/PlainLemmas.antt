-- The plain text of each kind of literal.
use Rattle.std.proofs.Common.{◌≡◌, ℕ, ℤ, Bool, None, unwrap_or, refl, sym, ap, ◌∙◌}
use Rattle.fly_types.specs.declared.text.Text.{Text}
use Rattle.fly_types.specs.declared.literals.Literal.{Literal, out-Literal, roll-Literal}
use Rattle.fly_types.specs.declared.literals.Literal.TheOpen.{Literal-F}
use Rattle.fly_types.specs.declared.literals.Literal.TheViews as views
use Rattle.fly_types.specs.declared.literals.Literal.TheVariants as literal
use Rattle.fly_scalars.specs.Whole.{integer_text}
use Rattle.fly_writers.specs.Literals.{literal_text}
use Rattle.fly_templates.specs.Plain.{truth_text, plain_datetime, plain_duration, plain_text_by, plain_text}

pub plain_text-Integer : (value : ℤ) → plain_text (literal.Integer value) ≡ integer_text value
unfolding plain_text
plain_text-Integer value =
    ap (λ layer. unwrap_or (plain_text_by layer) (literal_text (literal.Integer value))) (views.outs-Integer value)

pub plain_text-Text : (text : Text) → plain_text (literal.Text text) ≡ text
unfolding plain_text
plain_text-Text text =
    ap (λ layer. unwrap_or (plain_text_by layer) (literal_text (literal.Text text))) (views.outs-Text text)

pub plain_text-Boolean : (value : Bool) → plain_text (literal.Boolean value) ≡ truth_text value
unfolding plain_text
plain_text-Boolean value =
    ap (λ layer. unwrap_or (plain_text_by layer) (literal_text (literal.Boolean value))) (views.outs-Boolean value)

pub plain_text-Datetime : (seconds : ℤ) (nanos : ℕ) → plain_text (literal.Datetime seconds nanos)
    ≡ unwrap_or (plain_datetime seconds nanos) (literal_text (literal.Datetime seconds nanos))
unfolding plain_text
plain_text-Datetime seconds nanos =
    ap (λ layer. unwrap_or (plain_text_by layer) (literal_text (literal.Datetime seconds nanos)))
    (views.outs-Datetime seconds nanos)

pub plain_text-Duration : (seconds nanos : ℤ) → plain_text (literal.Duration seconds nanos)
    ≡ unwrap_or (plain_duration seconds nanos) (literal_text (literal.Duration seconds nanos))
unfolding plain_text
plain_text-Duration seconds nanos =
    ap (λ layer. unwrap_or (plain_text_by layer) (literal_text (literal.Duration seconds nanos)))
    (views.outs-Duration seconds nanos)

pub ruleset plain_variants = (
  plain_text-Integer,
  plain_text-Text,
  plain_text-Boolean,
  plain_text-Datetime,
  plain_text-Duration,
)

-- ---- the other kinds

-- none of the kinds that have a plain text
pub record HasNone (l : Literal) : Type 0 where
  pub no_integer : (value : ℤ) → l ≡ literal.Integer value → ⊥
  pub no_text : (text : Text) → l ≡ literal.Text text → ⊥
  pub no_truth : (value : Bool) → l ≡ literal.Boolean value → ⊥
  pub no_moment : (seconds : ℤ) (nanos : ℕ) → l ≡ literal.Datetime seconds nanos → ⊥
  pub no_span : (seconds nanos : ℤ) → l ≡ literal.Duration seconds nanos → ⊥

by_layer : (l : Literal) (layer : Literal-F Literal) → l ≡ roll-Literal layer → HasNone l → plain_text_by layer ≡ None
by_layer l (Literal-F.Integer value) e has = absurd (has.no_integer value (e ∙ views.rolls-Integer value))
by_layer l (Literal-F.Text text) e has = absurd (has.no_text text (e ∙ views.rolls-Text text))
by_layer l (Literal-F.Boolean value) e has = absurd (has.no_truth value (e ∙ views.rolls-Boolean value))
by_layer l (Literal-F.Datetime seconds nanos) e has =
    absurd (has.no_moment seconds nanos (e ∙ views.rolls-Datetime seconds nanos))
by_layer l (Literal-F.Duration seconds nanos) e has =
    absurd (has.no_span seconds nanos (e ∙ views.rolls-Duration seconds nanos))
by_layer l _ e has = refl

pub plain_text-other : (l : Literal) → HasNone l → plain_text l ≡ literal_text l
unfolding plain_text
plain_text-other l has =
    ap (λ plain. unwrap_or plain (literal_text l)) (by_layer l (out-Literal l) (sym (views.roll-out-Literal l)) has)
