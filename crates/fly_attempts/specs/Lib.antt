pub mod Attempts
pub mod Launches
pub mod Parts
pub mod Tables
