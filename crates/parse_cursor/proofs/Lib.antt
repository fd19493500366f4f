mod Cursors
mod Known
mod Runs
mod Spellings
pub mod Turns
