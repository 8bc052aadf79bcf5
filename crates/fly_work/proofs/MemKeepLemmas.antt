-- Copies of entries, one more at a time.
use Rattle.std.proofs.Common.{◌≡◌, ◌+◌, ℕ, List, [], ◌∷◌, ◌++◌, drop, slice_get, Some, sym, ◌∙◌, ap, suc, add-one, append_assoc}
use Rattle.std.proofs.Math.Seq.{drop-cons}
use Rattle.std.proofs.lemmas.Option.{slice_get_within, get_or_from_slice_get}
use Rattle.fly_state.specs.declared.entries.Entry.{Entry}

drop-entry : (es : List Entry) (place : ℕ) (e : Entry) → slice_get es place ≡ Some e
    → drop place es ≡ e ∷ drop (place + 1) es
drop-entry es place e there =
    rw (add-one place)
    (drop-cons es place e (slice_get_within es place e there)
    ∙ ap (λ (x : Entry). x ∷ drop (suc place) es) (get_or_from_slice_get es place e e there))

pub copies-more : (copies es all : List Entry) (place : ℕ) (e : Entry) → slice_get es place ≡ Some e
    → copies ++ drop place es ≡ all
    → (copies ++ e ∷ []) ++ drop (place + 1) es ≡ all
copies-more copies es all place e there so_far =
    append_assoc copies (e ∷ []) (drop (place + 1) es)
    ∙ ap (λ (l : List Entry). copies ++ l) (sym (drop-entry es place e there)) ∙ so_far
