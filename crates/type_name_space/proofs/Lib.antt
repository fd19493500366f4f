pub mod Links
pub mod Zeros
pub mod Scopes
