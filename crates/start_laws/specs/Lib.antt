pub mod Starts
pub mod Bytes
