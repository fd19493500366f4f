pub mod Apart
pub mod Follow
pub mod Forms
pub mod Pass
pub mod Sized
