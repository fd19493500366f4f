pub mod Seen
pub mod Answers
