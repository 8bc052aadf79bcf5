pub mod LaunchLemmas
pub mod ListLemmas
pub mod NameLemmas
pub mod NamedLemmas
pub mod TableLemmas
