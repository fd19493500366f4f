pub mod Input
pub mod Names
pub mod Nest
