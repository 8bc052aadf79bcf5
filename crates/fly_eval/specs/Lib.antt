pub mod Results
pub mod Attempts
pub mod Evaluation
pub mod Laws
pub mod Records
pub mod Tables
pub mod Judging
