pub mod Comparing
pub mod Parts
pub mod Named
