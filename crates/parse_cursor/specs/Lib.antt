pub mod Cursors
pub mod Declarations
pub mod Places
pub mod Reads
pub mod Runs
pub mod Spelling
