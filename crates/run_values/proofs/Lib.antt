pub mod Fills
pub mod Keeping
pub mod Placed
pub mod Results
