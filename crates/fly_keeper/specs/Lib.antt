pub mod JournalText
pub mod Gains
pub mod Kept
pub mod KeptLaws
