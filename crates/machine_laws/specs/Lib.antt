pub mod Orders
pub mod Cuts
pub mod EveryOrder
pub mod QuietOrders
pub mod Limits
pub mod Small
pub mod ToldConflicts
