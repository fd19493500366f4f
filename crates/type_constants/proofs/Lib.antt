pub mod Worths
