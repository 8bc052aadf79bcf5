pub mod Outcome
pub mod Same
pub mod Laws
pub mod Retries
pub mod Timeouts
pub mod Items
