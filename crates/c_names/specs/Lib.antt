pub mod Names
pub mod Orders
pub mod Parts
pub mod Texts
pub mod Ways
pub mod Words
