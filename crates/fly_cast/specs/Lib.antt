pub mod Castable
pub mod Conversion
pub mod Fitting
pub mod Plan
pub mod Target
pub mod Laws
