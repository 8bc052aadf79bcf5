mod ClearLiterals
mod ClearTrees
mod ClearTypes
mod Dates
mod Faultless
mod LiteralLaws
pub mod Messages
pub mod Plain
pub mod ReadLiterals
mod ReadTrees
mod ReadTypes
pub mod Texts
