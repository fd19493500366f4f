pub mod Tree
pub mod Order
pub mod Decide
pub mod Height
pub mod Sites
pub mod Lawful
pub mod Least
