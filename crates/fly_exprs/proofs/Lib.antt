pub mod Faultless
pub mod FaultLemmas
pub mod LawLemmas
pub mod MomentLemmas
pub mod SizeLemmas
