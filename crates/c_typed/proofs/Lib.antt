pub mod Classes
mod Least
