pub mod Marked
pub mod Spots
pub mod Relations
pub mod Kinds
pub mod Walks
pub mod Closed
