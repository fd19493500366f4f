pub mod Small
pub mod Constants
pub mod Held
pub mod Limits
pub mod Unresulted
pub mod Sources
pub mod Trees
