pub mod Sparing
pub mod Steps
