pub mod Views
pub mod Fills
pub mod Kept
pub mod Contents
pub mod Placed
pub mod Stores
