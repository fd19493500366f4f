pub mod Preorder
pub mod Extents
pub mod Fixed
pub mod Private
