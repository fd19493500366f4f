pub mod Going
pub mod Picks
pub mod Next
