pub mod Keeps
pub mod Options
pub mod Dividing
pub mod Sums
pub mod PlayLemmas
pub mod WorkersLemmas
