pub mod TemplateParts
pub mod PlainLemmas
pub mod WordLemmas
mod Order
pub mod WordRows
