pub mod Parts
pub mod Names
pub mod Givens
pub mod LineLemmas
pub mod Openable
pub mod NameTables
pub mod PlanInputs
pub mod Opened
