pub mod Verdicts
pub mod EvaluationReport
pub mod Grouped
