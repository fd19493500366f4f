pub mod Barren
pub mod BarrenFormats
pub mod Counting
pub mod MoreRows
pub mod Steps
