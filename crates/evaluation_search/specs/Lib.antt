pub mod First
pub mod Segments
