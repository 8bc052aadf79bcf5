mod Bounded
mod Bounds
pub mod Clear
mod Form
mod Ids
mod Kept
pub mod Ordered
mod Readable
mod ReadingLemmas
mod SayingLemmas
mod SoundBundle
mod SoundLiterals
mod SoundMaps
mod SoundScalars
mod SoundTrees
mod SoundTypes
pub mod TableRows
