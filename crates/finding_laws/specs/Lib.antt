pub mod AtEnd
pub mod Conflicts
pub mod FirstPairs
pub mod Footprints
pub mod Forgotten
pub mod ItemOrder
pub mod LeastPairs
