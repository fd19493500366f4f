pub mod Held
pub mod Idle
pub mod Asked
pub mod Listed
pub mod Along
pub mod Completes
pub mod Begins
pub mod Comes
