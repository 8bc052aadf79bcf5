pub mod Annals
pub mod View
pub mod Rule
pub mod Plays
pub mod Pass
pub mod Workers
