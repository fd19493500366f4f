pub mod Forms
pub mod Plain
pub mod Seen
pub mod Standing
