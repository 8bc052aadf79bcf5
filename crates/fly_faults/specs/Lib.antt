pub mod TypeText
pub mod OutputTypes
pub mod Places
pub mod BindingFaults
pub mod NodeFaults
pub mod FaultList
pub mod TemplateFaults
pub mod Laws
