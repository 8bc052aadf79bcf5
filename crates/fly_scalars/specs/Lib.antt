pub mod Digits
pub mod Whole
pub mod Datetime
pub mod Duration
pub mod Binary
