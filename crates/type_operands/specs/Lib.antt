pub mod Conversions
pub mod Layouts
pub mod Qualifiers
pub mod Terms
