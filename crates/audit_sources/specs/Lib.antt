pub mod Fetching
pub mod Role
