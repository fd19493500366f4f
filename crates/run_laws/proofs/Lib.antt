mod Asked
mod Sites
mod Near
pub mod Frames
pub mod Given
mod Initial
mod Calling
mod LibraryCalling
mod Beginning
mod Staying
