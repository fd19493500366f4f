pub mod Starting
pub mod Standing
pub mod Outcomes
pub mod Sums
pub mod Viewed
