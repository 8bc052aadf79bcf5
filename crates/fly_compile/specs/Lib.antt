pub mod Scopes
pub mod Outputs
pub mod Promises
pub mod Sites
pub mod BoundNames
pub mod Branches
pub mod Arrays
pub mod Compiler
