pub mod Apps
pub mod Rows
pub mod Words
