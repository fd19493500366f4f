pub mod Answer
pub mod Cause
pub mod Finding
pub mod Front
pub mod Report
pub mod Setting
pub mod Value
