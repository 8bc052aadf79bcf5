pub mod Questions
pub mod Attempts
pub mod Moves
pub mod Answers
pub mod Steps
pub mod Rounds
pub mod Finding
