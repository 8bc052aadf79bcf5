pub mod NameTexts
mod Order
pub mod NodeLemmas
pub mod ReachingLemmas
pub mod TemplateRows
