pub mod Links
pub mod Scopes
