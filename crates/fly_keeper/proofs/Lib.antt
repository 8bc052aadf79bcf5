mod LineLemmas
pub mod GainsLemmas
