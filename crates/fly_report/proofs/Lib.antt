pub mod Places
mod SlotLemmas
mod LaunchLemmas
mod PathTexts
mod SectionLemmas
