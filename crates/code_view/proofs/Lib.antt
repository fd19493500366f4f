mod Viewed
mod Full
mod Own
pub mod Listed
mod Sited
mod Whole
mod Formed
mod Starting
mod Each
mod Known
mod Terms
mod Events
mod Labels
mod Parts
mod Named
mod Rooms
mod Blocks
