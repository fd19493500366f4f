pub mod Conflict
pub mod Rows
pub mod Sound
