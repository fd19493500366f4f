pub mod Bodies
pub mod Firsts
mod Rounds
pub mod Laws
pub mod Seen
mod Entered
mod Updates
pub mod Rooms
pub mod Held
pub mod Top
mod Steps
pub mod Settles
mod Arguments
