pub mod Bytes
pub mod Integers
pub mod Marks
pub mod Pieces
pub mod Runs
pub mod TokenText
pub mod Tokens
pub mod Words
