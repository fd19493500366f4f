pub mod Preordered
pub mod Shows
pub mod Taking
