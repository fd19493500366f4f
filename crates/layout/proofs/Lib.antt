pub mod Added
pub mod FirstNamed
pub mod Opened
pub mod Placing
pub mod Scalars
pub mod Slots
pub mod Within
pub mod WithinNames
