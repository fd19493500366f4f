pub mod Called
pub mod Calls
