pub mod Opened
pub mod Placing
