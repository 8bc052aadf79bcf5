pub mod Faultless
pub mod FieldFaults
pub mod Firsts
pub mod Gathered
pub mod Spellings
pub mod Texts
pub mod Viewed
