pub mod Enumerators
pub mod Labels
pub mod Texts
