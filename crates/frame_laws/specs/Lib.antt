pub mod Scopes
pub mod Todos
pub mod Frames
pub mod Laws
pub mod Facts
pub mod Named
pub mod Reached
