pub mod Places
pub mod Startup
