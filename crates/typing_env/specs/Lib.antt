pub mod Env
pub mod Names
pub mod Seen
pub mod Tasks
