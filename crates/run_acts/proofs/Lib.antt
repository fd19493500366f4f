pub mod Acts
pub mod Moves
pub mod Updates
pub mod Stores
pub mod Parts
pub mod CallLemmas
