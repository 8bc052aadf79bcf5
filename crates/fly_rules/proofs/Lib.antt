pub mod RuleLemmas
pub mod GroundLemmas
