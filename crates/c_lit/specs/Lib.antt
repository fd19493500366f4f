pub mod Characters
pub mod Digits
pub mod Integers
pub mod Literals
