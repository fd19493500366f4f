pub mod Expressions
pub mod Formed
pub mod Roots
pub mod Terms
