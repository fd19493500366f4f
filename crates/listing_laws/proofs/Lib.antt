pub mod Agreeing
pub mod Chosen
pub mod Going
