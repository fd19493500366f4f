pub mod Examined
pub mod Apart
pub mod Followed
pub mod Shown
pub mod Telling
pub mod Recorded
pub mod Complete
pub mod Parts
