pub mod Cached
pub mod Catalog
pub mod Index
pub mod Names
pub mod Parts
pub mod Requests
pub mod Reservations
pub mod Table
