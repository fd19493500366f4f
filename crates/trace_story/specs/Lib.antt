pub mod Named
pub mod Same
pub mod Stories
pub mod Texts
pub mod Told
