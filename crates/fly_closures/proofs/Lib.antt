pub mod Lists
pub mod NodeInduction
pub mod Alike
pub mod Templates
pub mod TemplateWalks
pub mod ClosureLaw
