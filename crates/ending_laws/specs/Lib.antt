pub mod Ends
pub mod First
pub mod Frames
pub mod Main
pub mod Told
pub mod Untouched
