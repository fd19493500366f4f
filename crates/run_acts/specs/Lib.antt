pub mod Loads
pub mod Parts
pub mod Calls
pub mod Updates
pub mod Scripts
