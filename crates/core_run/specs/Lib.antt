pub mod Calls
pub mod Canonical
pub mod Ends
pub mod Record
pub mod Steps
pub mod Told
pub mod ToldPicks
pub mod Whole
