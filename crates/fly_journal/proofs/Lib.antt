pub mod PathTexts
pub mod ObjectTexts
pub mod LineTexts
pub mod Examples
pub mod ReplyLemmas
pub mod LegalLines
