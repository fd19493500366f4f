pub mod Disks
pub mod Looks
