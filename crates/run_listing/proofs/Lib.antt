pub mod Cursor
mod Lists
pub mod Once
pub mod Reached
pub mod Straight
mod Seeking
mod Walked
