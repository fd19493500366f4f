pub mod Causes
pub mod Clause
pub mod Frames
pub mod Held
pub mod Memory
pub mod NameOrders
pub mod Names
pub mod Sink
