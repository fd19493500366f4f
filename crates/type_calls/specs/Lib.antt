pub mod Calls
pub mod Choices
