pub mod Faithful
pub mod Term
