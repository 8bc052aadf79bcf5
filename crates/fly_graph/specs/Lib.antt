pub mod Walks
pub mod Orders
pub mod Faults
pub mod Adjacency
pub mod Components
