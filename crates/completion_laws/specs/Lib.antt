pub mod Completed
pub mod Listing
