pub mod Library
pub mod Linkage
