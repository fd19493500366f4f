pub mod Ends
pub mod Record
pub mod Sets
pub mod Stops
pub mod Texts
pub mod Trails
pub mod Turns
