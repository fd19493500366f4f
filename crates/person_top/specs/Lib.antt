pub mod Batch
pub mod Ends
pub mod Help
pub mod Person
