pub mod Agreement
pub mod Store
pub mod Bytes
pub mod Script
pub mod Acts
pub mod Streams
