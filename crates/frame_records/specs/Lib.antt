pub mod Answers
pub mod Asked
pub mod Audit
pub mod Ends
pub mod Frames
pub mod Kept
pub mod Picks
pub mod Told
