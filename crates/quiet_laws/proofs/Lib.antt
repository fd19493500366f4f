mod Suiting
mod ActsSuit
pub mod Events
pub mod Kept
