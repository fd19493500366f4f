pub mod Bodies
pub mod Switches
pub mod Jumping
