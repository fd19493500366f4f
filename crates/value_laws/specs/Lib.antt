pub mod Sizes
pub mod Wholes
pub mod Parameters
pub mod Samples
pub mod Layouts
