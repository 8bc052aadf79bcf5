-- What a child answers to the bytes that it is handed.
use Rattle.std.proofs.Common.{◌≡◌, ◌≢◌, ℕ, ◌+◌, ◌%◌, pos, List, Result, Ok, Err, Option, Some, None, IfOk, sym, ◌∙◌, ap, subst, arith}
use Rattle.std.proofs.lemmas.Option.{same_Some}
use Rattle.serde_json.specs.Data.{Data}
use Rattle.fly_types.specs.declared.literals.LiteralMap.{LiteralMap}
use Rattle.fly_types.specs.declared.memory.NoMemory.{NoMemory}
use Rattle.fly_ports.specs.declared.spawner.Ended.{Ended}
use Rattle.fly_schema.specs.declared.fault.DocFault.{DocFault}
use Rattle.fly_schema.specs.declared.fault.DocKind.{DocKind}
use Rattle.fly_schema.specs.declared.fault.DocKind.TheVariants as kinds
use Rattle.fly_schema.specs.Reports.{first_report}
use Rattle.fly_writers.specs.Literals.{literal_map_text}
use Rattle.fly_idl.specs.Reading.{IsJson, ReadsLiteralMap, IsFirstFault, too_large, not_json, broken, no_memory}
use Rattle.fly_idl.specs.Rows.{message_table, literal_map_form}
use Rattle.fly_generator.specs.Adder.{summands, sum_limit, output, sum_of, end_with, end_without, IsEndOf, IsAnswer}

abbrev pair : ℕ → ℕ → Option (ℕ × ℕ)
pair x y = Some (x, y)

-- the two that were found are the only ones, and their sum was written
pub ends-with : (m : LiteralMap) (x y : ℕ) (out : List ℕ)
    → ((u v : ℕ) → m ≡ summands u v → pair x y ≡ pair u v) → m ≡ summands x y
    → out ≡ literal_map_text (output ((x + y) % sum_limit))
    → IsEndOf m (record { status = Some (pos 0); out = out })
ends-with m x y out only is written = record {
  sum = λ u v same.
      let both : (x, y) ≡ (u, v) = same_Some _ _ (only u v same) in
      ap (λ text. record { status = Some (pos 0); out = text }) written
      ∙ ap (λ p. end_with (sum_of p.0 p.1)) both;
  other = λ none. absurd (none x y is);
}

-- bytes are the text of one JSON value
one_json : (bytes : List ℕ) (a b : Data) → IsJson bytes a → IsJson bytes b → a ≡ b
one_json bytes a b x y = let both : Some a ≡ Some b = sym x.value ∙ y.value in cc

-- what has a fault is no document of literals
not_both : (bytes : List ℕ) (f : DocFault) (m : LiteralMap) → IsFirstFault literal_map_form bytes f
    → f.kind ≢ kinds.NoMemory → ReadsLiteralMap bytes m → ⊥
not_both bytes f m (too_large many is) known (d, faultless, same) =
    let few = faultless.within in absurd (omega (arith, many, few))
not_both bytes f m (not_json few none is) known (d, faultless, same) = none d faultless.json
not_both bytes f m (broken few e json is) known (d, faultless, same) =
    let report = ap (first_report message_table literal_map_form) (one_json bytes e d json faultless.json) in
    let both : Some (f.kind, f.place) ≡ None = sym is ∙ report ∙ faultless.faultless in absurd (cc both)
not_both bytes f m (no_memory is) known reads = known (ap (λ (r : DocKind × List ℕ). r.0) is)

pub answers-read : (bytes : List ℕ) (m : LiteralMap) (r : Result Ended NoMemory) → ReadsLiteralMap bytes m
    → ((value : LiteralMap) → ReadsLiteralMap bytes value → m ≡ value) → IfOk r (IsEndOf m) → IfOk r (IsAnswer bytes)
answers-read bytes m (Ok ended) reads only ends = record {
  sum = λ x y handed. ends.sum x y (only (summands x y) handed);
  other = λ none. ends.other (λ x y is. none x y (subst (ReadsLiteralMap bytes) is reads));
}
answers-read bytes m (Err e) reads only ends = tt

pub answers-unread : (bytes : List ℕ) (f : DocFault) (r : Result Ended NoMemory) → IsFirstFault literal_map_form bytes f
    → IfOk r (λ ended. (ended ≡ end_without) × (f.kind ≢ kinds.NoMemory)) → IfOk r (IsAnswer bytes)
answers-unread bytes f (Ok ended) first ends = record {
  sum = λ x y reads. absurd (not_both bytes f (summands x y) first ends.1 reads);
  other = λ none. ends.0;
}
answers-unread bytes f (Err e) first ends = tt
