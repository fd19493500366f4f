pub mod Along
pub mod Cursor
pub mod Straight
