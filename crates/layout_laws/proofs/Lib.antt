pub mod Limited
pub mod Rounded
