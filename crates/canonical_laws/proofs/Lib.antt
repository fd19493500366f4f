mod Held
mod Idle
mod Sizes
mod Shapes
mod Bases
mod Opened
mod Asked
pub mod Steps
mod Listed
mod Along
mod Control
mod Begins
