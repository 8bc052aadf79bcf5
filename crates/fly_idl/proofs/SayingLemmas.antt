-- The bytes say one thing.
use Rattle.std.proofs.Common.{◌≡◌, ℕ, Bool, true, false, List, [], Some, None, Result, Ok, Err, IfOk, refl, sym, ap, ◌∙◌, inl, inr, arith}
use Rattle.serde_json.specs.Read.{read}
use Rattle.serde_json.proofs.OnLiterals.{serde_json_on_literals}
use Rattle.fly_types.specs.declared.literals.LiteralMap.{LiteralMap}
use Rattle.fly_types.specs.declared.memory.NoMemory.{NoMemory}
use Rattle.fly_types.specs.declared.said.Said.{Said}
use Rattle.fly_types.specs.declared.said.Said.TheVariants.{Outputs}
use Rattle.fly_idl.specs.Rows.{literal_map_form, error_document_form}
use Rattle.fly_values.specs.Literals.{literal_map_value}
use Rattle.fly_values.specs.Documents.{error_document_value}
use Rattle.fly_idl.specs.Reading.{ReadsLiteralMap}
use Rattle.fly_idl.specs.Saying.{MeansOutputs, IsWanted, Says, too_large, neither, wanted}
use Rattle.fly_idl.proofs.ReadingLemmas.{one_document}

nothing_read : read [] ≡ None
unfolding serde_json_on_literals
nothing_read = refl

empty_unread : (bytes : List ℕ) (m : LiteralMap) → bytes ≡ [] → ReadsLiteralMap bytes m → ⊥
empty_unread bytes m e r =
    let some : Some r.0 ≡ None = sym r.1.json.value ∙ ap read e ∙ nothing_read in cc

one_meaning : (bytes : List ℕ) (m n : LiteralMap) → MeansOutputs bytes m → MeansOutputs bytes n → m ≡ n
one_meaning bytes m n (inl p) (inl q) = p.1 ∙ sym q.1
one_meaning bytes m n (inl p) (inr r) = absurd (empty_unread bytes n p.0 r)
one_meaning bytes m n (inr r) (inl q) = absurd (empty_unread bytes m q.0 r)
one_meaning bytes m n (inr r) (inr s) = one_document literal_map_form literal_map_value bytes m n r s

one_wanted : (zero : Bool) (bytes : List ℕ) (r s : Said) → IsWanted zero bytes r → IsWanted zero bytes s → r ≡ s
one_wanted true bytes r s p q = p.1 ∙ ap Outputs (one_meaning bytes p.0 q.0 p.2 q.2) ∙ sym q.1
one_wanted false bytes r s p q = one_document error_document_form error_document_value bytes r s p q

one_saying : (zero : Bool) (bytes : List ℕ) (r s : Said) → Says zero bytes r → Says zero bytes s → r ≡ s
one_saying zero bytes r s (too_large h e) (too_large i f) = e ∙ sym f
one_saying zero bytes r s (too_large h e) (neither w n f) = absurd (omega arith)
one_saying zero bytes r s (too_large h e) (wanted w q) = absurd (omega arith)
one_saying zero bytes r s (neither w n e) (too_large i f) = absurd (omega arith)
one_saying zero bytes r s (neither w n e) (neither v m f) = e ∙ sym f
one_saying zero bytes r s (neither w n e) (wanted v q) = absurd (n s q)
one_saying zero bytes r s (wanted w p) (too_large i f) = absurd (omega arith)
one_saying zero bytes r s (wanted w p) (neither v m f) = absurd (m r p)
one_saying zero bytes r s (wanted w p) (wanted v q) = one_wanted zero bytes r s p q

pub says-only : (zero : Bool) (bytes : List ℕ) (result : Result Said NoMemory) → IfOk result (Says zero bytes)
    → (s : Said) → Says zero bytes s → IfOk result (λ r. r ≡ s)
says-only zero bytes (Ok r) h s q = one_saying zero bytes r s h q
says-only zero bytes (Err e) h s q = tt
