pub mod Assigned
pub mod Casts
pub mod Pairs
