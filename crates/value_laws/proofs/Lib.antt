mod Scripts
mod Acts
mod Work
pub mod Nodes
pub mod Frames
pub mod Picks
pub mod Orders
pub mod Stores
pub mod Arguments
mod ParameterStores
mod ArgumentSizes
mod Samples
pub mod Layouts
