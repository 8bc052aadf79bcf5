pub mod Same
pub mod SameLaws
pub mod Faults
pub mod TruthValue
pub mod Laws
