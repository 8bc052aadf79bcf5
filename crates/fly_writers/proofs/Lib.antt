pub mod Layers
pub mod NodeLayers
pub mod Floats
pub mod MessageLemmas
pub mod ScalarTexts
mod ClosureTexts
