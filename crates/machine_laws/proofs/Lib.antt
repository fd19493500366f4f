mod Remaining
mod NextPick
pub mod AllOrders
pub mod Nested
pub mod Depth
pub mod Within
mod SmallLaws
mod SmallRuns
pub mod Told
pub mod Swaps
