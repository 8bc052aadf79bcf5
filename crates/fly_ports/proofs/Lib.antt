mod ListClockLemmas
mod MemFilesLemmas
mod OsSpawnerLemmas
pub mod Parts
