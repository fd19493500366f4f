pub mod Accesses
pub mod Ambiguities
pub mod Calls
pub mod Objects
pub mod Pieces
