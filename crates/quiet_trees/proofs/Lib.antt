mod Steps
mod Flags
pub mod Apart
