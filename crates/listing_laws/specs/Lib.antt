pub mod Along
pub mod Due
