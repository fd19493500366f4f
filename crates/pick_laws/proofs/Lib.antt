mod Under
pub mod Events
mod Starts
mod Started
mod Controls
mod Own
mod Steps
mod Body
mod Laws
mod LibraryGoing
pub mod Untouched
mod Comes
pub mod Next
mod Library
