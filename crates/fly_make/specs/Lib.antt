pub mod InStore
pub mod Making
