pub mod FieldLemmas
pub mod TypeLemmas
pub mod TreeLemmas
pub mod LiteralLemmas
pub mod BindingLemmas
