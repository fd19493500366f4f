pub mod Loads
pub mod Acts
pub mod Quiet
pub mod Summaries
pub mod Items
pub mod Examples
