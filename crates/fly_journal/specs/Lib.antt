pub mod Words
pub mod Moves
pub mod Outcomes
pub mod Replies
pub mod Ops
pub mod Lines
pub mod Texts
pub mod Laws
