pub mod Phases
pub mod Lines
pub mod Launches
pub mod LaunchCounts
pub mod Report
