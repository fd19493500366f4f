pub mod Allocating
pub mod Carrying
pub mod Freeing
pub mod Making
pub mod Resizing
