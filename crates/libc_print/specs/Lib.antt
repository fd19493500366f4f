pub mod Answers
pub mod Calls
pub mod Runs
pub mod Seen
pub mod Stored
pub mod Strings
