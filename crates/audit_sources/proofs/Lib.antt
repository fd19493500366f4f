pub mod Later
pub mod Told
