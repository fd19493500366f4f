pub mod Along
pub mod Bare
pub mod Frames
pub mod Fresh
pub mod Looked
pub mod Records
pub mod Shown
