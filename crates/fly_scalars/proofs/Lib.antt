pub mod DigitLemmas
pub mod WholeLemmas
pub mod DatetimeLemmas
pub mod DurationLemmas
