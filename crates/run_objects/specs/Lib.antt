pub mod Opened
pub mod Extents
