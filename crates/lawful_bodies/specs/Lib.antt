pub mod Full
pub mod Parts
pub mod Statements
