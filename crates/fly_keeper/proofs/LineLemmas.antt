-- The lines of entries, one more at a time; and that each entry of a legal journal has one.
use Rattle.std.proofs.Common.{◌≡◌, ◌+◌, ℕ, List, ◌∷◌, ◌++◌, drop, slice_get, All, Some, sym, ◌∙◌, ap, subst, suc, add-one, append_assoc}
use Rattle.std.proofs.Math.Seq.{drop-cons}
use Rattle.std.proofs.lemmas.List.Elements.{All-get_or}
use Rattle.std.proofs.lemmas.Option.{slice_get_within, get_or_from_slice_get}
use Rattle.fly_state.specs.declared.entries.Entry.{Entry}
use Rattle.fly_state.specs.Plans.{RunPlan}
use Rattle.fly_journal.specs.Lines.{line_text, HasLine}
use Rattle.fly_keeper.specs.JournalText.{journal_text}

drop-entry : (es : List Entry) (place : ℕ) (e : Entry) → slice_get es place ≡ Some e
    → drop place es ≡ e ∷ drop (place + 1) es
drop-entry es place e there =
    rw (add-one place)
    (drop-cons es place e (slice_get_within es place e there)
    ∙ ap (λ (x : Entry). x ∷ drop (suc place) es) (get_or_from_slice_get es place e e there))

pub lines-more : (plan : RunPlan) (text all : List ℕ) (es : List Entry) (place : ℕ) (e : Entry)
    → slice_get es place ≡ Some e
    → text ++ journal_text plan (drop place es) ≡ all
    → (text ++ line_text plan e) ++ journal_text plan (drop (place + 1) es) ≡ all
lines-more plan text all es place e there so_far =
    append_assoc text (line_text plan e) (journal_text plan (drop (place + 1) es))
    ∙ ap (λ (l : List Entry). text ++ journal_text plan l) (sym (drop-entry es place e there)) ∙ so_far

pub line-there : (plan : RunPlan) (es : List Entry) (place : ℕ) (e : Entry) → All (HasLine plan) es
    → slice_get es place ≡ Some e → HasLine plan e
line-there plan es place e lines there =
    subst (λ (x : Entry). HasLine plan x) (get_or_from_slice_get es place e e there)
    (All-get_or (HasLine plan) es place e (slice_get_within es place e there) lines)
