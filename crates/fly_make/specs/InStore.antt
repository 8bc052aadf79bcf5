-- The laws of a keeper that keeps nothing: a source file names no file of `proofs`, so their proofs stand here.
use Rattle.std.specs.Prelude.{◌≡◌, ◌⊎◌, List}
use Rattle.std.proofs.Common.{◌∙◌, inl, inr}
use Rattle.fly_state.specs.declared.entries.Entry.{Entry}
use Rattle.fly_make.specs.declared.in_store.InStore.{InStore}

pub same_both : (a b c : InStore) (es fs : List Entry) → b ≡ a → c ≡ b → c ≡ a
same_both a b c es fs first then = then ∙ first

pub same_first : (a b c : InStore) (es fs : List Entry) → b ≡ a → ((c ≡ b) ⊎ (c ≡ b)) → c ≡ a
same_first a b c es fs first (inl then) = then ∙ first
same_first a b c es fs first (inr then) = then ∙ first
