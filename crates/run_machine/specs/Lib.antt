pub mod Strayed
pub mod Written
