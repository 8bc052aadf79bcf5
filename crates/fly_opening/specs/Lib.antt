pub mod Submissions
pub mod Lines
pub mod Hashes
pub mod Opening
