pub mod Answers
pub mod Seen
pub mod Parts
pub mod Writes
