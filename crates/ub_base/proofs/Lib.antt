pub mod Clauses
pub mod Puts
pub mod FrameLemmas
pub mod NameLemmas
pub mod Paths
pub mod Tests
