pub mod Fields
pub mod Scalars
pub mod Types
pub mod Trees
pub mod Literals
pub mod Bindings
pub mod Documents
