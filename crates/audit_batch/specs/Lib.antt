pub mod Batch
pub mod Moment
pub mod Runs
